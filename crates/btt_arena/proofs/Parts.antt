-- One write more within a part of a media.
use Rattle.std.proofs.Common.{◌≡◌, ℕ, ◌+◌, ◌-◌, ◌≤◌, List, ◌++◌, length, take, drop, Result, sym, ap, ◌∙◌, arith}
use Rattle.std.proofs.Math.Seq.{take-add}
use Rattle.std.proofs.lemmas.List.{drop-drop, length-replicate, replicate-append-replicate}
use Rattle.std.specs.Prelude.{replicate}
use Rattle.byte_ranges.specs.Ranges.{range, patched}
use Rattle.byte_ranges.proofs.Patched.{range-patched_before, range-patched_in}
use Rattle.rig_trait.specs.declared.rig.Failed.{Failed}
use Rattle.btt_arena.specs.Formatting.{AreZero, ChangesOnly}
use Rattle.btt_arena.specs.Records.{CrashRecord, LeftByWrite, Writes}
use Rattle.btt_arena.proofs.Changes.{changes_on, left_changes, wider, write_changes}

module _ {T : Type 0} {start old new : List ℕ} {at : ℕ} {put : List ℕ} {result : Result T Failed} (from n : ℕ)
    (changes : ChangesOnly from n start old) (writes : Writes old new at put result)
    (inside : at + length put ≤ length old) (begins : from ≤ at) (ends : at + length put ≤ from + n) where
  pub still_only : ChangesOnly from n start new
  still_only = changes_on from n start old new changes (wider at (length put) from n old new begins ends (write_changes old put at inside new result writes))

  pub left_only : (c : CrashRecord) → LeftByWrite old new at put result c → ChangesOnly from n start c.bytes
  left_only c left = changes_on from n start old c.bytes changes (wider at (length put) from n old c.bytes begins ends (left_changes old put at inside new result c writes left))

-- zeros behind zeros
pub more_zeros : (old new : List ℕ) (from at len : ℕ) → from ≤ at → at + len ≤ length old → AreZero from (at - from) old → new ≡ patched old at (replicate len 0) → AreZero from (at + len - from) new
more_zeros old new from at len begins inside zero is =
    let all : at + len - from ≡ (at - from) + len = omega arith in
    let there : from + (at - from) ≡ at = omega arith in
    let put : List ℕ = replicate len 0 in
    let long : length put ≡ len = length-replicate len 0 in
    let fits : at + length put ≤ length old = omega arith in
    let first : range (patched old at put) from (at - from) ≡ replicate (at - from) 0 = range-patched_before old put at fits from (at - from) (omega arith) ∙ zero in
    let second : range (patched old at put) at len ≡ replicate len 0 = ap (range (patched old at put) at) (sym long) ∙ range-patched_in old put at fits in
    ap (λ (b : List ℕ). range b from (at + len - from)) is
    ∙ ap (range (patched old at put) from) all
    ∙ take-add (at - from) len (drop from (patched old at put))
    ∙ ap (λ (xs : List ℕ). range (patched old at put) from (at - from) ++ take len xs) (drop-drop (at - from) from (patched old at put) ∙ ap (λ (k : ℕ). drop k (patched old at put)) there)
    ∙ (λ i. first i ++ second i)
    ∙ replicate-append-replicate (at - from) len 0 ∙ ap (λ (k : ℕ). replicate k 0) (sym all)
