-- What changes within a range alone.
use Rattle.std.proofs.Common.{◌≡◌, inl, inr, ⊎_elim, ℕ, ◌+◌, ◌≤◌, List, length, Option, Some, Result, Ok, Err, refl, ap, ◌∙◌, arith}
use Rattle.std.specs.Prelude.{OnOk}
use Rattle.byte_ranges.specs.Ranges.{range, patched}
use Rattle.byte_ranges.proofs.Patched.{length-patched, range-patched_before, range-patched_after}
use Rattle.rig_trait.specs.declared.rig.Failed.{Failed}
use Rattle.btt_arena.specs.Formatting.{ChangesOnly}
use Rattle.btt_arena.specs.Records.{CrashRecord, IsTorn, IsWhole, LeftByWrite, Writes, torn_write}

pub same_bytes : (from n : ℕ) (before bytes : List ℕ) → bytes ≡ before → ChangesOnly from n before bytes
same_bytes from n before bytes same = record { same_length = ap length same; others = λ at k apart. ap (λ (b : List ℕ). range b at k) same }

-- one change behind another
pub changes_on : (from n : ℕ) (before mid bytes : List ℕ) → ChangesOnly from n before mid → ChangesOnly from n mid bytes → ChangesOnly from n before bytes
changes_on from n before mid bytes first second = record {
  same_length = second.same_length ∙ first.same_length;
  others = λ at k apart. second.others at k apart ∙ first.others at k apart;
}

-- a change within a wider range
pub wider : (from n wide m : ℕ) (before bytes : List ℕ) → wide ≤ from → from + n ≤ wide + m → ChangesOnly from n before bytes → ChangesOnly wide m before bytes
wider from n wide m before bytes begins ends changes = record {
  same_length = changes.same_length;
  others = λ at k apart. changes.others at k (⊎_elim (λ before_it. inl (omega arith)) (λ behind_it. inr (omega arith)) apart);
}

module _ (before put : List ℕ) (at : ℕ) (inside : at + length put ≤ length before) where
  pub patched_changes : (bytes mixed : List ℕ) → length mixed ≡ length put → bytes ≡ patched before at mixed → ChangesOnly at (length put) before bytes
  patched_changes bytes mixed same is =
      let fits : at + length mixed ≤ length before = omega arith in
      record {
        same_length = ap length is ∙ length-patched before mixed at fits;
        others = λ from k apart. ap (λ (b : List ℕ). range b from k) is
            ∙ ⊎_elim (λ first. range-patched_before before mixed at fits from k first) (λ behind. range-patched_after before mixed at fits from k (omega arith)) apart;
      }

  pub write_changes : {T : Type 0} → (bytes : List ℕ) (result : Result T Failed) → Writes before bytes at put result → ChangesOnly at (length put) before bytes
  write_changes bytes result writes = patched_changes bytes writes.mixed writes.by_words.same_length writes.bytes_are

  pub torn_changes : (c : CrashRecord) → IsTorn before at put c → ChangesOnly at (length put) before c.bytes
  torn_changes c torn = patched_changes c.bytes torn.mixed torn.by_words.same_length torn.bytes_are

  pub left_changes : {T : Type 0} → (bytes : List ℕ) (result : Result T Failed) (c : CrashRecord) → Writes before bytes at put result → LeftByWrite before bytes at put result c
      → ChangesOnly at (length put) before c.bytes
  left_changes bytes result c writes left = ⊎_elim (torn_changes c)
      (λ (whole : IsWhole bytes c × _). changes_on at (length put) before bytes c.bytes (write_changes bytes result writes) (same_bytes at (length put) bytes c.bytes whole.0.bytes_are)) left

  -- a write that answered Ok put its bytes
  pub stands : {T : Type 0} → (bytes : List ℕ) (value : T) → Writes before bytes at put (Ok value) → bytes ≡ patched before at put
  stands bytes value writes = writes.bytes_are ∙ ap (patched before at) (elim writes.ok [ inl err ↦ cc | inr same ↦ same ])

  pub put_at_ok : {T : Type 0} → (bytes : List ℕ) (result : Result T Failed) → Writes before bytes at put result → OnOk result (bytes ≡ patched before at put)
  put_at_ok bytes (Ok value) writes = stands bytes value writes
  put_at_ok bytes (Err failed) writes = tt

-- the bytes behind a write, as a stop within it leaves them
abbrev pub behind : List ℕ → ℕ → List ℕ → List ℕ → CrashRecord
behind old at put new = record { bytes = new; torn = Some (torn_write old at put) }

pub left_behind : {T : Type 0} → (old new put : List ℕ) (at : ℕ) (result : Result T Failed) → Writes old new at put result → LeftByWrite old new at put result (behind old at put new)
left_behind old new put at result writes = inl (record { mixed = writes.mixed; by_words = writes.by_words; bytes_are = writes.bytes_are; torn_is = refl })
