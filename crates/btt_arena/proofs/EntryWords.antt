-- A word that is written over bytes, and the map with another entry.
use Rattle.std.proofs.Common.{◌≡◌, ◌⊎◌, inl, inr, ⊎_elim, ℕ, ◌+◌, ◌-◌, ◌*◌, ◌^◌, ◌<◌, ◌≤◌, List, length, drop, Option, Result, refl, sym, ap, ◌∙◌, arith}
use Rattle.std.proofs.lemmas.Bool.{cases_eq, eq-eqb, ne_eqb}
use Rattle.std.proofs.lemmas.List.{take_all}
use Rattle.byteorder.specs.Endian.{little_bytes}
use Rattle.byte_ranges.specs.Ranges.{range, number_at, patched}
use Rattle.byte_ranges.proofs.Numbers.{number_at-patched}
use Rattle.rig_trait.specs.declared.rig.Failed.{Failed}
use Rattle.rig_trait.proofs.WrittenAreas.{patched_same}
use Rattle.btt_arena.specs.declared.halves.Half.{Half}
use Rattle.btt_arena.specs.declared.layout.Layout.{Layout}
use Rattle.btt_arena.specs.Formatting.{ChangesOnly}
use Rattle.btt_arena.specs.Records.{CrashRecord, IsByWords, LeftByWrite, Writes}
use Rattle.btt_arena.specs.Tables.{half_at, half_in, map_in, newer_half, newer_of, with_entry}
use Rattle.btt_arena.specs.Words.{IsEither, with_word}
use Rattle.btt_arena.proofs.Bytes.{length-range}
use Rattle.btt_arena.proofs.Changes.{patched_changes}
use Rattle.btt_arena.proofs.Fresh.{word_of_range}

-- four bytes of words old or new are the old ones or the new ones
one_word : (old new mixed : List ℕ) → length old ≡ 4 → length new ≡ 4 → IsByWords old new mixed → (mixed ≡ old) ⊎ (mixed ≡ new)
one_word old new mixed old_long new_long by =
    let all = λ (xs : List ℕ) (long : length xs ≡ 4). take_all 4 xs (omega (arith, long)) in
    let mixed_all = all mixed (by.same_length ∙ new_long) in
    ⊎_elim (λ is. inl (sym mixed_all ∙ is ∙ all old old_long)) (λ is. inr (sym mixed_all ∙ is ∙ all new new_long)) (by.each 0)

module _ (old put : List ℕ) (at : ℕ) (word : length put ≡ 4) (inside : at + 4 ≤ length old) where
  mixed_word : (bytes mixed : List ℕ) → IsByWords (range old at (length put)) put mixed → bytes ≡ patched old at mixed → IsEither old (patched old at put) bytes
  mixed_word bytes mixed by is =
      let fits : at + length put ≤ length old = omega (arith, word, inside) in
      let long : length (range old at (length put)) ≡ 4 = length-range old at (length put) fits ∙ word in
      ⊎_elim (λ same. inl (is ∙ ap (patched old at) same ∙ patched_same old at (length put) fits)) (λ same. inr (is ∙ ap (patched old at) same))
      (one_word (range old at (length put)) put mixed long word by)

  -- a write of a word puts it or leaves all
  pub word_written : {T : Type 0} → (new : List ℕ) (result : Result T Failed) → Writes old new at put result → IsEither old (patched old at put) new
  word_written new result writes = mixed_word new writes.mixed writes.by_words writes.bytes_are

  pub word_left : {T : Type 0} → (new : List ℕ) (result : Result T Failed) (c : CrashRecord) → Writes old new at put result → LeftByWrite old new at put result c → IsEither old (patched old at put) c.bytes
  word_left new result c writes (inl torn) = mixed_word c.bytes torn.mixed torn.by_words torn.bytes_are
  word_left new result c writes (inr whole) =
      let new_is = word_written new result writes in
      ⊎_elim (λ is. inl (whole.0.bytes_are ∙ is)) (λ is. inr (whole.0.bytes_are ∙ is)) new_is

-- the words outside of what changes
pub word_kept : (from n : ℕ) (before bytes : List ℕ) (at : ℕ) → ChangesOnly from n before bytes → (at + 4 ≤ from) ⊎ (from + n ≤ at) → number_at 4 bytes at ≡ number_at 4 before at
word_kept from n before bytes at changes apart =
    let e : at ≡ at + 0 = omega arith in
    ap (number_at 4 bytes) e ∙ word_of_range bytes at 4 0 (omega arith)
    ∙ ap (λ (xs : List ℕ). number_at 4 xs 0) (changes.others at 4 apart)
    ∙ sym (ap (number_at 4 before) e ∙ word_of_range before at 4 0 (omega arith))

pub length-little : (word : ℕ) → length (little_bytes 4 word) ≡ 4
length-little word = refl

-- one word written changes that word alone
pub word_changes : (bytes : List ℕ) (at word : ℕ) → at + 4 ≤ length bytes → ChangesOnly at 4 bytes (with_word bytes at word)
word_changes bytes at word inside = patched_changes bytes (little_bytes 4 word) at inside (with_word bytes at word) (little_bytes 4 word) refl refl

-- a word written over the entry of a sector
pub entry_put : (a : Layout) (bytes : List ℕ) (sector word : ℕ) → a.map_at + 4 * sector + 4 ≤ length bytes → word < 2 ^ 32
    → map_in a (with_word bytes (a.map_at + 4 * sector) word) ≡ with_entry (map_in a bytes) sector word
entry_put a bytes sector word inside small =
    let each : (s : ℕ) → map_in a (with_word bytes (a.map_at + 4 * sector) word) s ≡ with_entry (map_in a bytes) sector word s =
    λ s. elim (cases_eq s sector) [
      | inl same ↦
          rw (eq-eqb s sector same) (ap (λ (k : ℕ). number_at 4 (with_word bytes (a.map_at + 4 * sector) word) (a.map_at + 4 * k)) same
          ∙ number_at-patched 4 word (a.map_at + 4 * sector) bytes small (omega (arith, inside)))
      | inr other ↦
          rw (ne_eqb s sector other)
          (word_kept (a.map_at + 4 * sector) 4 bytes (with_word bytes (a.map_at + 4 * sector) word) (a.map_at + 4 * s) (word_changes bytes (a.map_at + 4 * sector) word inside) (apart s other))
    ] in
    λ i s. each s i
  where
    apart : (s : ℕ) → (s ≡ sector → ⊥) → (a.map_at + 4 * s + 4 ≤ a.map_at + 4 * sector) ⊎ (a.map_at + 4 * sector + 4 ≤ a.map_at + 4 * s)
    apart s other = grind arith

-- the lanes stand behind the map
pub newer_kept : (a : Layout) (before bytes : List ℕ) → a.map_at ≤ a.log_at → ChangesOnly a.map_at (a.log_at - a.map_at) before bytes → newer_half a bytes ≡ newer_half a before
newer_kept a before bytes le changes =
    let word : (k : ℕ) → a.log_at ≤ k → number_at 4 bytes k ≡ number_at 4 before k = λ k behind. word_kept a.map_at (a.log_at - a.map_at) before bytes k changes (inr (omega (arith, le, behind))) in
    let half : (lane which : ℕ) → half_in a bytes lane which ≡ half_in a before lane which =
    λ lane which.
    let lba = word (half_at a lane which) (omega arith) in
    let old = word (half_at a lane which + 4) (omega arith) in
    let new = word (half_at a lane which + 8) (omega arith) in
    let seq = word (half_at a lane which + 12) (omega arith) in
    λ i. record { lba = lba i; old = old i; new = new i; seq = seq i } in
    λ i lane. newer_of (half lane 0 i) (half lane 1 i)
