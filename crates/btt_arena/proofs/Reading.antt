-- A sector of a fit arena is read by what it holds.
use Rattle.std.proofs.Common.{◌≡◌, ℕ, ◌+◌, ◌<◌, Bool, true, false, List, Result, Ok, Err, refl, sym, ap, subst, ◌∙◌, arith}
use Rattle.std.specs.Prelude.{if◌then◌else◌, ◌==◌, ◌&&◌, not, nat_lt, IsTrue, IfOk}
use Rattle.std.proofs.lemmas.Bool.{eqb-true, lt-ltb, ne_eqb, true≢false}
use Rattle.btt_arena.specs.declared.layout.Layout.{Layout}
use Rattle.btt_arena.specs.Arena.{Held, IsFit, bad, block_bytes, content, held_by, holds, zeros}
use Rattle.btt_arena.specs.Sectors.{GivesHeld, bytes_of, is_bad, is_readable, is_zeros}
use Rattle.btt_arena.specs.Tables.{Map, block_named, completed, free_block, map_in, mark_of, newer_half}
use Rattle.btt_arena.proofs.Folding.{all_closed_same, at_sector}
use Rattle.btt_arena.proofs.Layouts.{Fits}

-- no lane is left to complete
pub completed_fit : (a : Layout) (bytes : List ℕ) → IsFit a bytes → completed a bytes ≡ map_in a bytes
completed_fit a bytes fit = all_closed_same (newer_half a bytes) 256 (map_in a bytes) fit.closed

-- the entry of a sector names a block that is there
pub named_below : (a : Layout) (fits : Fits a) (bytes : List ℕ) → IsFit a bytes → (sector : ℕ) → sector < a.sectors → block_named (map_in a bytes sector) sector < a.blocks
named_below a fits bytes fit sector below =
    subst (λ (k : ℕ). k < a.blocks)
    (at_sector a (completed a bytes) (free_block a bytes) sector below ∙ ap (λ (m : Map). block_named (m sector) sector) (completed_fit a bytes fit))
    (fit.sound.once.below sector (omega (arith, fits.count, below)))

gives : (size : ℕ) (is_two is_one is_there : Bool) (block : List ℕ) (read : Bool) (into : List ℕ) → (is_two ≡ true → is_one ≡ false) → is_there ≡ true → read ≡ (not is_one && is_there)
    → (IsTrue read → into ≡ bytes_of size (if is_two then zeros else if is_one then bad else holds block))
    → GivesHeld size (if is_two then zeros else if is_one then bad else holds block) read into
gives size true true is_there block read into apart there is bytes = absurd (true≢false (apart refl))
gives size true false is_there block read into apart there is bytes = (is ∙ there, bytes (is ∙ there))
gives size false true is_there block read into apart there is bytes = is
gives size false false is_there block read into apart there is bytes = (is ∙ there, bytes (is ∙ there))

two_not_one : (mark : ℕ) → (mark == 2) ≡ true → (mark == 1) ≡ false
two_not_one mark two =
    let e : mark ≡ 2 = eqb-true mark 2 two in
    ne_eqb mark 1 (λ one. omega (arith, e, one))

pub read_fit : (a : Layout) (fits : Fits a) (bytes : List ℕ) → IsFit a bytes → (sector : ℕ) → sector < a.sectors → (read : Bool) (into : List ℕ) → read ≡ is_readable a (map_in a bytes sector) sector
    → (IsTrue read → into ≡ bytes_of a.sector (held_by a bytes (map_in a bytes sector) sector)) → GivesHeld a.sector (content a bytes sector) read into
read_fit a fits bytes fit sector below read into is given =
    let word = map_in a bytes sector in
    let same : content a bytes sector ≡ held_by a bytes word sector = ap (λ (m : Map). held_by a bytes (m sector) sector) (completed_fit a bytes fit) in
    let there : nat_lt (block_named word sector) a.blocks ≡ true = lt-ltb (block_named word sector) a.blocks (named_below a fits bytes fit sector below) in
    subst (λ (held : Held). GivesHeld a.sector held read into) (sym same)
    (gives a.sector (is_zeros word) (is_bad word) (nat_lt (block_named word sector) a.blocks) (block_bytes a bytes (block_named word sector)) read into (two_not_one (mark_of word)) there is given)

module _ {E : Type 0} (a : Layout) (fits : Fits a) (bytes : List ℕ) (fit : IsFit a bytes) (sector : ℕ) (below : sector < a.sectors) where
  pub gives_held : (result : Result Bool E) (into : List ℕ) → IfOk result (λ read. read ≡ is_readable a (map_in a bytes sector) sector)
      → IfOk result (λ read. IsTrue read → into ≡ bytes_of a.sector (held_by a bytes (map_in a bytes sector) sector)) → IfOk result (λ read. GivesHeld a.sector (content a bytes sector) read into)
  gives_held (Ok read) into is given = read_fit a fits bytes fit sector below read into is given
  gives_held (Err fault) into is given = tt
