-- Time goes on over a write and over a `say` of a rig in memory.
use Rattle.std.proofs.Common.{◌≡◌, inl, inr, ℕ, ◌*◌, Bool, true, false, List, ◌++◌, length, take, Option, Some, None, Ok, Err, if◌then◌else◌, refl, sym, ap, ◌∙◌}
use Rattle.std.proofs.lemmas.List.{take_at, append-nil}
use Rattle.std.proofs.Math.Seq.{take-length}
use Rattle.std.specs.Prelude.{is_some, IsTrue}
use Rattle.rig_trait.specs.declared.rig.Failed.{Failed}
use Rattle.rig_trait.specs.Areas.{Areas, IsWithin, written}
use Rattle.rig_trait.specs.Kept.{KeptCall, Keeping, bytes_kept, has_space, kept_say, with_call, write_into}
use Rattle.rig_trait.specs.Records.{CrashRecord, IsSaying, LeftByWrite}
use Rattle.rig_trait.specs.Undone.{whole}
use Rattle.rig_trait.proofs.Undoing.{GoesOver, goes_over, goes_over_none}
use Rattle.rig_trait.proofs.WrittenAreas.{written_back, written_same}

module _ (keeping : Option Keeping) (areas : Areas) (said : List ℕ) (call dimm at : ℕ) (put : List ℕ) (within : IsWithin areas dimm at (length put)) where
  pub write_goes_over : has_space (2 * length put) keeping ≡ true
      → GoesOver keeping (with_call (write_into areas call dimm at put) keeping) (whole areas said) (whole (written areas dimm at put) said)
      (LeftByWrite {T = Unit {0}} areas (written areas dimm at put) said dimm at put (Ok tt))
  write_goes_over fits =
      goes_over keeping (write_into areas call dimm at put) (whole areas said) (whole (written areas dimm at put) said)
      (LeftByWrite {T = Unit {0}} areas (written areas dimm at put) said dimm at put (Ok tt))
      (ap (λ (a : Areas). whole a said) (written_back areas dimm at put within))
      (λ c torn. inl torn) (inr (record { areas_are = refl; said_is = refl; torn_is = refl }, tt))
      (λ full. let no : true ≡ false = sym fits ∙ full in absurd (cc))

  pub failed_write_goes_over : (failed : Failed)
      → GoesOver keeping (with_call (write_into areas call dimm at put) keeping) (whole areas said) (whole areas said)
      (LeftByWrite {T = Unit {0}} areas areas said dimm at put (Err failed))
  failed_write_goes_over failed =
      goes_over keeping (write_into areas call dimm at put) (whole areas said) (whole areas said)
      (LeftByWrite {T = Unit {0}} areas areas said dimm at put (Err failed))
      (ap (λ (a : Areas). whole a said) (written_same areas dimm at (length put) within))
      (λ c torn. inl torn) (inr (record { areas_are = refl; said_is = refl; torn_is = refl }, refl))
      (λ full. refl)

-- what a `say` leaves, of a rig that stands so
abbrev pub Saying : Option Keeping → Areas → List ℕ → List ℕ → CrashRecord → Type 0
Saying keeping areas said text = IsSaying (λ c. IsTrue (is_some keeping) × (c ≡ whole areas said)) said text

saying : (areas : Areas) (said text : List ℕ) (k : Keeping) (c : CrashRecord) → (count : ℕ) × (c ≡ whole areas (said ++ take count text)) → Saying (Some k) areas said text c
saying areas said text k c within = record {
  from = whole areas said;
  was = (refl, refl);
  count = within.0;
  areas_are = ap (λ (r : CrashRecord). r.areas) within.1;
  said_is = ap (λ (r : CrashRecord). r.said) within.1;
  torn_is = ap (λ (r : CrashRecord). r.torn) within.1;
}

pub say_goes_over : (keeping : Option Keeping) (areas : Areas) (said : List ℕ) (call : ℕ) (text : List ℕ) → has_space (length text) keeping ≡ true
    → GoesOver keeping (with_call (kept_say call (length said) text) keeping) (whole areas said) (whole areas (said ++ text)) (Saying keeping areas said text)
say_goes_over None areas said call text fits = goes_over_none (whole areas said) (whole areas (said ++ text)) (Saying None areas said text)
say_goes_over (Some k) areas said call text fits =
    goes_over (Some k) (kept_say call (length said) text) (whole areas said) (whole areas (said ++ text)) (Saying (Some k) areas said text)
    (ap (whole areas) (take_at said text (length said) refl))
    (λ c within. saying areas said text k c within)
    (saying areas said text k (whole areas (said ++ text)) (length text, ap (λ (t : List ℕ). whole areas (said ++ t)) (sym (take-length text))))
    (λ full. let no : true ≡ false = sym fits ∙ full in absurd (cc))

pub failed_say_goes_over : (keeping : Option Keeping) (areas : Areas) (said : List ℕ) (call : ℕ) (text : List ℕ)
    → GoesOver keeping (with_call (kept_say call (length said) text) keeping) (whole areas said) (whole areas said) (Saying keeping areas said text)
failed_say_goes_over None areas said call text = goes_over_none (whole areas said) (whole areas said) (Saying None areas said text)
failed_say_goes_over (Some k) areas said call text =
    goes_over (Some k) (kept_say call (length said) text) (whole areas said) (whole areas said) (Saying (Some k) areas said text)
    (ap (whole areas) (take-length said))
    (λ c within. saying areas said text k c within)
    (saying areas said text k (whole areas said) (0, ap (whole areas) (sym (append-nil said))))
    (λ full. refl)

still_if : (b : Bool) (k new : Keeping) → IsTrue (is_some (if b then Some new else Some k))
still_if true k new = refl
still_if false k new = refl

-- calls go on to be kept
pub still_keeps : (call : KeptCall) (keeping : Option Keeping) → IsTrue (is_some keeping) → IsTrue (is_some (with_call call keeping))
still_keeps call None told = told
still_keeps call (Some k) told = still_if (has_space (bytes_kept call) (Some k)) k _
