use Rattle.std.proofs.Common.{◌≡◌, ◌<◌, List, ℕ, sym, subst}
use Rattle.std.specs.Prelude.{IfOk}
use Rattle.btt_arena.specs.declared.layout.Layout.{Layout}
use Rattle.btt_arena.specs.Arena.{IsFit, content}
use Rattle.btt_arena.specs.Sectors.{GivesHeld}
use Rattle.btt_arena.proofs.Layouts.{fits_of}
use Rattle.btt_arena.proofs.Reading.{gives_held}
use Rattle.btt_arena.proofs.opening.Arena.read_sector.Goals as goal

pub returns-clause-content : goal.returns-clause-content
returns-clause-content g c told fit =
    let bytes = g.M.MediaState.bytes c.args.media.now in
    let b = c.self.inside.layout in
    let is : b ≡ c.args.self.now = c.self.view_is in
    let block = c.args.block in
    let into = c.read_sector.new.into in
    subst (λ (a : Layout). IfOk c.read_sector.result (λ read. GivesHeld a.sector (content a bytes block) read into)) is
    (gives_held b (fits_of b c.self.invariant) bytes (subst (λ (a : Layout). IsFit a bytes) (sym is) fit) block (subst (λ (a : Layout). block < a.sectors) (sym is) c.requires.block)
    c.read_sector.result into (c.read_sector.ensures.answer told) (c.read_sector.ensures.bytes told))
