-- What changes in a block and in a half, and what stands behind it.
use Rattle.std.proofs.Common.{◌≡◌, ◌⊎◌, inl, inr, ⊎_elim, ℕ, ◌+◌, ◌*◌, ◌%◌, ◌≤◌, ◌<◌, List, length, Option, Some, Result, refl, sym, ap, ◌∙◌, arith}
use Rattle.byte_ranges.specs.Ranges.{range, patched}
use Rattle.byte_ranges.proofs.Patched.{range-patched_in}
use Rattle.rig_trait.specs.declared.rig.Failed.{Failed}
use Rattle.btt_arena.specs.declared.layout.Layout.{Layout}
use Rattle.btt_arena.specs.Formatting.{ChangesOnly}
use Rattle.btt_arena.specs.Records.{CrashRecord, LeftByWrite, Writes}
use Rattle.btt_arena.specs.Sectors.{AreApart, IsBeside, IsNoted}
use Rattle.btt_arena.proofs.Changes.{left_changes, patched_changes, stands, write_changes}

pub beside_same : (block size half : ℕ) (before bytes : List ℕ) → bytes ≡ before → IsBeside block size half before bytes
beside_same block size half before bytes same = record { same_length = ap length same; others = λ at n one two. ap (λ (b : List ℕ). range b at n) same }

pub beside_first : (block size half : ℕ) (before bytes : List ℕ) → ChangesOnly block size before bytes → IsBeside block size half before bytes
beside_first block size half before bytes changes = record { same_length = changes.same_length; others = λ at n one two. changes.others at n one }

pub beside_second : (block size half : ℕ) (before mid bytes : List ℕ) → ChangesOnly block size before mid → ChangesOnly half 12 mid bytes → IsBeside block size half before bytes
beside_second block size half before mid bytes first second = record {
  same_length = second.same_length ∙ first.same_length;
  others = λ at n one two. second.others at n two ∙ first.others at n one;
}

-- both writes answered Ok
pub noted_of : (a : Layout) (block half : ℕ) (before mid bytes put note : List ℕ) → length put ≡ a.sector → length note ≡ 12 → block + a.sector ≤ half → half + 12 ≤ length before
    → mid ≡ patched before block put → bytes ≡ patched mid half note → IsNoted a block half before put note bytes
noted_of a block half before mid bytes put note put_long note_long apart inside first second =
    let put_inside : block + length put ≤ length before = omega (arith, put_long, apart, inside) in
    let one : ChangesOnly block (length put) before mid = patched_changes before put block put_inside mid put refl first in
    let note_inside : half + length note ≤ length mid = omega (arith, one.same_length, note_long, inside) in
    let two : ChangesOnly half (length note) mid bytes = patched_changes mid note half note_inside bytes note refl second in
    record {
      beside = record {
        same_length = two.same_length ∙ one.same_length;
        others = λ at n off_block off_half.
            two.others at n (⊎_elim (λ less. inl less) (λ more. inr (omega (arith, more, note_long))) off_half)
            ∙ one.others at n (⊎_elim (λ less. inl less) (λ more. inr (omega (arith, more, put_long))) off_block);
      };
      stands = two.others block a.sector (inl apart) ∙ ap (λ (b : List ℕ). range b block a.sector) first
          ∙ ap (range (patched before block put) block) (sym put_long) ∙ range-patched_in before put block put_inside;
      noted = ap (λ (b : List ℕ). range b half 12) second ∙ ap (range (patched mid half note) half) (sym note_long) ∙ range-patched_in mid note half note_inside;
    }
