use Rattle.std.proofs.Common.{◌≡◌, ℕ, ◌+◌, ◌*◌, ◌<◌, ◌≤◌, List, sym, ap, subst, ◌∙◌, arith}
use Rattle.std.proofs.lemmas.Bool.{lt-ltb}
use Rattle.byte_ranges.specs.Ranges.{number_at}
use Rattle.btt_arena.specs.Arena.{IsFit}
use Rattle.btt_arena.specs.Records.{CrashRecord}
use Rattle.btt_arena.specs.Sectors.{IsOldOrNew}
use Rattle.btt_arena.specs.Tables.{block_named, map_in}
use Rattle.btt_arena.proofs.Frames.{goes_on, reading, reads_on}
use Rattle.btt_arena.proofs.Layouts.{Fits, fits_of}
use Rattle.btt_arena.proofs.Moments.{joined, weakened}
use Rattle.btt_arena.proofs.Moving.{not_moved}
use Rattle.btt_arena.proofs.Reading.{named_below}
use Rattle.btt_arena.proofs.writing.write_sector.Goals as goal

pub returns-in_err-entry-clause-any_moment : goal.returns-in_err-entry-clause-any_moment
returns-in_err-entry-clause-any_moment g c told fit =
    let m = g.M.MediaState in
    let a = c.args.layout.now in
    let before = m.bytes c.args.media.now in
    let put = c.args.bytes.now in
    let sector = c.args.sector in
    let P = λ (r : CrashRecord). IsOldOrNew a before sector put r.bytes in
    reading P (λ r same. not_moved a before r.bytes sector put fit same) c.in_err-entry.ensures.reads_only

pub returns-then-old-layout-clause-any_moment : goal.returns-then-old-layout-clause-any_moment
returns-then-old-layout-clause-any_moment g c told fit =
    let m = g.M.MediaState in
    let a = c.args.layout.now in
    let before = m.bytes c.args.media.now in
    let put = c.args.bytes.now in
    let sector = c.args.sector in
    let P = λ (r : CrashRecord). IsOldOrNew a before sector put r.bytes in
    reading P (λ r same. not_moved a before r.bytes sector put fit same) c.in_ok-entry.ensures.reads_only

pub returns-then-old-layout-clause-written : goal.returns-then-old-layout-clause-written
returns-then-old-layout-clause-written g c told fit =
    let m = g.M.MediaState in
    let a = c.args.layout.now in
    let before = m.bytes c.args.media.now in
    let put = c.args.bytes.now in
    let sector = c.args.sector in
    let fits : Fits a = fits_of a c.requires.layout in
    let word : c.in_ok-entry.entry ≡ map_in a before sector = c.in_ok-entry.ensures.word told ∙ ap (λ (k : ℕ). number_at 4 before (a.map_at + 4 * k)) c.from.ensures in
    let old_is : c.block_named-old.result ≡ block_named (map_in a before sector) sector = c.block_named-old.ensures ∙ ap (λ (w : ℕ). block_named w sector) word in
    absurd (omega (arith, old_is, c.if-old-layout.true, named_below a fits before fit sector c.requires.sector))

pub returns-in_err-turn-clause-any_moment : goal.returns-in_err-turn-clause-any_moment
returns-in_err-turn-clause-any_moment g c told fit =
    let m = g.M.MediaState in
    let a = c.args.layout.now in
    let before = m.bytes c.args.media.now in
    let put = c.args.bytes.now in
    let sector = c.args.sector in
    let P = λ (r : CrashRecord). IsOldOrNew a before sector put r.bytes in
    reading P (λ r same. not_moved a before r.bytes sector put fit same) (reads_on c.in_ok-entry.ensures.reads_only c.in_err-turn.ensures.reads_only)

pub returns-in_err-write_by-clause-any_moment : goal.returns-in_err-write_by-clause-any_moment
returns-in_err-write_by-clause-any_moment g c told fit =
    let m = g.M.MediaState in
    let a = c.args.layout.now in
    let before = m.bytes c.args.media.now in
    let put = c.args.bytes.now in
    let sector = c.args.sector in
    let P = λ (r : CrashRecord). IsOldOrNew a before sector put r.bytes in
    let reads = reads_on c.in_ok-entry.ensures.reads_only c.in_ok-turn.ensures.reads_only in
    let mid = m.bytes c.read_turn.new.media in
    let fit1 : IsFit a mid = subst (λ (b : List ℕ). IsFit a b) (sym reads.bytes) fit in
    let told1 = reads.goes_on.tells ∙ told in
    let moves = λ (r : List ℕ) (has : IsOldOrNew a mid sector put r). subst (λ (b : List ℕ). IsOldOrNew a b sector put r) reads.bytes has in
    joined (reading P (λ r same. not_moved a before r.bytes sector put fit same) reads)
    (weakened (λ (r : CrashRecord). IsOldOrNew a mid sector put r.bytes) P (λ r has. moves r.bytes has) (c.write_by.ensures.any_moment told1 fit1))

pub returns-clause-any_moment : goal.returns-clause-any_moment
returns-clause-any_moment g c told fit =
    let m = g.M.MediaState in
    let a = c.args.layout.now in
    let before = m.bytes c.args.media.now in
    let put = c.args.bytes.now in
    let sector = c.args.sector in
    let P = λ (r : CrashRecord). IsOldOrNew a before sector put r.bytes in
    let reads = reads_on c.in_ok-entry.ensures.reads_only c.in_ok-turn.ensures.reads_only in
    let mid = m.bytes c.read_turn.new.media in
    let fit1 : IsFit a mid = subst (λ (b : List ℕ). IsFit a b) (sym reads.bytes) fit in
    let told1 = reads.goes_on.tells ∙ told in
    let moves = λ (r : List ℕ) (has : IsOldOrNew a mid sector put r). subst (λ (b : List ℕ). IsOldOrNew a b sector put r) reads.bytes has in
    joined (reading P (λ r same. not_moved a before r.bytes sector put fit same) reads)
    (weakened (λ (r : CrashRecord). IsOldOrNew a mid sector put r.bytes) P (λ r has. moves r.bytes has) (c.write_by.ensures.any_moment told1 fit1))

pub returns-clause-so_far : goal.returns-clause-so_far
returns-clause-so_far g c told fit =
    let m = g.M.MediaState in
    let a = c.args.layout.now in
    let before = m.bytes c.args.media.now in
    let put = c.args.bytes.now in
    let sector = c.args.sector in
    let P = λ (r : CrashRecord). IsOldOrNew a before sector put r.bytes in
    let reads = reads_on c.in_ok-entry.ensures.reads_only c.in_ok-turn.ensures.reads_only in
    let mid = m.bytes c.read_turn.new.media in
    let fit1 : IsFit a mid = subst (λ (b : List ℕ). IsFit a b) (sym reads.bytes) fit in
    let told1 = reads.goes_on.tells ∙ told in
    let moves = λ (r : List ℕ) (has : IsOldOrNew a mid sector put r). subst (λ (b : List ℕ). IsOldOrNew a b sector put r) reads.bytes has in
    moves (m.bytes c.write_by.new.media) (c.write_by.ensures.so_far told1 fit1)

pub returns-clause-answer : goal.returns-clause-answer
returns-clause-answer g c told =
    let m = g.M.MediaState in
    let a = c.args.layout.now in
    let before = m.bytes c.args.media.now in
    let put = c.args.bytes.now in
    let sector = c.args.sector in
    let fits : Fits a = fits_of a c.requires.layout in
    let word : c.in_ok-entry.entry ≡ map_in a before sector = c.in_ok-entry.ensures.word told ∙ ap (λ (k : ℕ). number_at 4 before (a.map_at + 4 * k)) c.from.ensures in
    let old_is : c.block_named-old.result ≡ block_named (map_in a before sector) sector = c.block_named-old.ensures ∙ ap (λ (w : ℕ). block_named w sector) word in
    sym (lt-ltb (block_named (map_in a before sector) sector) a.blocks (omega (arith, old_is, c.if-old-layout.false)))

pub returns-clause-goes_on : goal.returns-clause-goes_on
returns-clause-goes_on g c = goes_on (goes_on c.in_ok-entry.ensures.reads_only.goes_on c.in_ok-turn.ensures.reads_only.goes_on) c.write_by.ensures.goes_on
