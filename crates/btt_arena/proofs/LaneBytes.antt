-- The lanes of an arena, by their bytes.
use Rattle.std.proofs.Common.{◌≡◌, inl, inr, ℕ, ◌+◌, ◌*◌, ◌<◌, ◌≤◌, true, List, Option, Some, None, sym, ap, ◌∙◌, arith}
use Rattle.std.proofs.lemmas.Bool.{cases_lt}
use Rattle.byte_ranges.specs.Ranges.{range, number_at}
use Rattle.btt_arena.specs.declared.layout.Layout.{Layout}
use Rattle.btt_arena.specs.Opening.{AreRight, IsFirstWrong, half_of, is_lane_right, newer_of_log}
use Rattle.btt_arena.specs.declared.halves.Half.{Half}
use Rattle.btt_arena.specs.Tables.{half_at, half_in, newer_half, newer_of}
use Rattle.btt_arena.proofs.Fresh.{word_of_range}

half_same : (bytes : List ℕ) (log_at at from : ℕ) → from ≡ log_at + at → at + 16 ≤ 16384 → half_of (range bytes log_at 16384) at ≡ half_of bytes from
half_same bytes log_at at from is fits =
    let lba : number_at 4 (range bytes log_at 16384) at ≡ number_at 4 bytes from = sym (word_of_range bytes log_at 16384 at (omega arith)) ∙ ap (number_at 4 bytes) (sym is) in
    let old : number_at 4 (range bytes log_at 16384) (at + 4) ≡ number_at 4 bytes (from + 4) = sym (word_of_range bytes log_at 16384 (at + 4) (omega arith)) ∙ ap (number_at 4 bytes) (omega arith) in
    let new : number_at 4 (range bytes log_at 16384) (at + 8) ≡ number_at 4 bytes (from + 8) = sym (word_of_range bytes log_at 16384 (at + 8) (omega arith)) ∙ ap (number_at 4 bytes) (omega arith) in
    let seq : number_at 4 (range bytes log_at 16384) (at + 12) ≡ number_at 4 bytes (from + 12) = sym (word_of_range bytes log_at 16384 (at + 12) (omega arith)) ∙ ap (number_at 4 bytes) (omega arith) in
    λ i. record { lba = lba i; old = old i; new = new i; seq = seq i }

pub newer_same : (a : Layout) (bytes : List ℕ) (lane : ℕ) → lane < 256 → newer_of_log (range bytes a.log_at 16384) lane ≡ newer_half a bytes lane
newer_same a bytes lane below =
    let first : half_of (range bytes a.log_at 16384) (64 * lane) ≡ half_in a bytes lane 0 = half_same bytes a.log_at (64 * lane) (half_at a lane 0) (omega arith) (omega arith) in
    let second : half_of (range bytes a.log_at 16384) (64 * lane + 16) ≡ half_in a bytes lane 1 = half_same bytes a.log_at (64 * lane + 16) (half_at a lane 1) (omega arith) (omega arith) in
    λ i. newer_of (first i) (second i)

-- the first wrong lane by the lanes' bytes is that of the arena
pub first_wrong_is : (a : Layout) (bytes : List ℕ) (found : Option ℕ) → IsFirstWrong a (newer_of_log (range bytes a.log_at 16384)) found → IsFirstWrong a (newer_half a bytes) found
first_wrong_is a bytes None right = λ lane below. ap (is_lane_right a) (sym (newer_same a bytes lane below)) ∙ right lane below
first_wrong_is a bytes (Some lane) first = (
  first.0,
  (
    ap (is_lane_right a) (sym (newer_same a bytes lane first.0)) ∙ first.1.0,
    λ earlier below. ap (is_lane_right a) (sym (newer_same a bytes earlier (omega (arith, below, first.0)))) ∙ first.1.1 earlier below,
  ),
)

-- one more lane is right
pub more_right : (a : Layout) (newer : ℕ → Option Half) (lane next : ℕ) → next ≡ lane + 1 → AreRight a newer lane → is_lane_right a (newer lane) ≡ true → AreRight a newer next
more_right a newer lane next is before this = λ l below. elim (cases_lt l lane) [
  | inl earlier ↦ before l earlier
  | inr last ↦
      let same : l ≡ lane = omega (arith, below, last) in
      ap (λ (k : ℕ). is_lane_right a (newer k)) same ∙ this
]
