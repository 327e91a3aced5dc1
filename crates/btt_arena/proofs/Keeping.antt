-- Time goes on over a write of a media in memory.
use Rattle.std.proofs.Common.{◌≡◌, inl, inr, ℕ, ◌+◌, ◌*◌, ◌≤◌, Bool, true, false, List, length, Option, Some, None, Ok, Err, refl, sym, ◌∙◌}
use Rattle.std.specs.Prelude.{is_some, IsTrue, if◌then◌else◌}
use Rattle.rig_trait.specs.declared.rig.Failed.{Failed}
use Rattle.rig_trait.proofs.WrittenAreas.{patched_same}
use Rattle.byte_ranges.specs.Ranges.{range, patched}
use Rattle.btt_arena.specs.Kept.{KeptWrite, Keeping, bytes_kept, has_space, with_write, write_over}
use Rattle.btt_arena.specs.Records.{LeftByWrite, Writes}
use Rattle.btt_arena.proofs.Bytes.{length-range, patched_back}
use Rattle.btt_arena.proofs.Undoing.{GoesOver, goes_over}
use Rattle.btt_arena.proofs.Words.{all_old, all_new}

module _ (keeping : Option Keeping) (bytes : List ℕ) (call at : ℕ) (put : List ℕ) (inside : at + length put ≤ length bytes) where
  pub write_goes_over : has_space (2 * length put) keeping ≡ true
      → GoesOver keeping (with_write (write_over bytes call at put) keeping) bytes (patched bytes at put) (LeftByWrite {T = Unit {0}} bytes (patched bytes at put) at put (Ok tt))
  write_goes_over fits =
      goes_over keeping (write_over bytes call at put) bytes (patched bytes at put) (LeftByWrite {T = Unit {0}} bytes (patched bytes at put) at put (Ok tt))
      (patched_back bytes put at inside)
      (λ c torn. inl torn) (inr (record { bytes_are = refl; torn_is = refl }, tt))
      (λ full. let no : true ≡ false = sym fits ∙ full in absurd (cc))

  pub failed_write_goes_over : (failed : Failed)
      → GoesOver keeping (with_write (write_over bytes call at put) keeping) bytes bytes (LeftByWrite {T = Unit {0}} bytes bytes at put (Err failed))
  failed_write_goes_over failed =
      goes_over keeping (write_over bytes call at put) bytes bytes (LeftByWrite {T = Unit {0}} bytes bytes at put (Err failed))
      (patched_same bytes at (length put) inside)
      (λ c torn. inl torn) (inr (record { bytes_are = refl; torn_is = refl }, refl))
      (λ full. refl)

module _ (bytes : List ℕ) (at : ℕ) (put : List ℕ) (inside : at + length put ≤ length bytes) where
  -- a write that left all bytes
  pub writes_nothing : Writes {T = Unit {0}} bytes bytes at put (Err (record {}))
  writes_nothing = record {
    mixed = range bytes at (length put);
    by_words = all_old (range bytes at (length put)) put (length-range bytes at (length put) inside);
    bytes_are = sym (patched_same bytes at (length put) inside);
    ok = inl refl;
  }

  -- a write that put all its bytes
  pub writes_all : Writes {T = Unit {0}} bytes (patched bytes at put) at put (Ok tt)
  writes_all = record {
    mixed = put;
    by_words = all_new (range bytes at (length put)) put;
    bytes_are = refl;
    ok = inr refl;
  }

still_if : (b : Bool) (k new : Keeping) → IsTrue (is_some (if b then Some new else Some k))
still_if true k new = refl
still_if false k new = refl

-- writes go on to be kept
pub still_keeps : (write : KeptWrite) (keeping : Option Keeping) → IsTrue (is_some keeping) → IsTrue (is_some (with_write write keeping))
still_keeps write None told = told
still_keeps write (Some k) told = still_if (has_space (bytes_kept write) (Some k)) k _
