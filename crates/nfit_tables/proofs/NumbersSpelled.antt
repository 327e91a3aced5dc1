-- The number that is read from bytes is spelled by these bytes.
use Rattle.std.proofs.Common.{◌≡◌, ℕ, zero, suc, ◌+◌, ◌*◌, ◌/◌, ◌%◌, ◌^◌, ◌<◌, ◌≤◌, List, [], ◌∷◌, ◌++◌, length, get_or, take, drop, refl, sym, ap, subst, ◌∙◌, append_assoc, arith, inl, inr}
use Rattle.std.specs.Int.{byte_at, bytes_low_first}
use Rattle.std.proofs.Math.Nat.{div-div-eq-div-mul, div-one, pow-succ'}
use Rattle.std.proofs.lemmas.Bool.{cases_lt}
use Rattle.std.proofs.lemmas.List.{take-append-drop, drop-drop, get_or-drop, get_or_past, length-drop}
use Rattle.byteorder.specs.Endian.{little_bytes, little_number}
use Rattle.byteorder.specs.Numbers.{little_from-cons, little_from-lt}
use Rattle.byte_ranges.specs.Ranges.{number_at, range}
use Rattle.nfit_tables.specs.Proper.{AreBytes}

-- bytes, also past the end, where 0 is read
abbrev pub IsBytes : List ℕ → Type 0
IsBytes bytes = (i : ℕ) → get_or bytes i 0 < 256

pub IsBytes-from : (bytes : List ℕ) → AreBytes bytes → IsBytes bytes
IsBytes-from bytes fits i =
    elim (cases_lt i (length bytes)) [
      | inl lt ↦ fits i 0 lt
      | inr le ↦ rw (get_or_past bytes i 0 le) (omega arith)
    ]

pub IsBytes-drop : (n : ℕ) (bytes : List ℕ) → IsBytes bytes → IsBytes (drop n bytes)
IsBytes-drop n bytes fits i = rw get_or-drop (fits (n + i))

byte_at-pow : (k n : ℕ) → byte_at k n ≡ n / 256 ^ k % 256
byte_at-pow zero n = ap (λ (m : ℕ). m % 256) (sym (div-one n))
byte_at-pow (suc k) n = refl

-- a byte below moves the other bytes on by one place
byte_at-above : (k byte n : ℕ) → byte < 256 → byte_at (suc k) (byte + 256 * n) ≡ byte_at k n
byte_at-above k byte n lt =
    let shift : (byte + 256 * n) / 256 ^ suc k ≡ n / 256 ^ k =
    ap (λ (p : ℕ). (byte + 256 * n) / p) (pow-succ' 256 k) ∙ sym (div-div-eq-div-mul (byte + 256 * n) 256 (256 ^ k)) ∙ ap (λ (m : ℕ). m / 256 ^ k) (omega arith) in
    ap (λ (m : ℕ). m % 256) shift ∙ sym (byte_at-pow k n)

bytes_low_first-above : (i k byte n : ℕ) → byte < 256 → bytes_low_first (suc i) k (byte + 256 * n) ≡ bytes_low_first i k n
bytes_low_first-above i zero byte n lt = refl
bytes_low_first-above i (suc k) byte n lt = rw (byte_at-above i byte n lt, bytes_low_first-above (suc i) k byte n lt) refl

-- the number in the first k bytes, spelled again
pub little_bytes-little_number : (k : ℕ) (bytes : List ℕ) → IsBytes bytes → k ≤ length bytes → little_bytes k (little_number k bytes) ≡ take k bytes
little_bytes-little_number zero bytes fits long = refl
little_bytes-little_number (suc k) [] fits long = absurd (omega arith)
little_bytes-little_number (suc k) (byte ∷ bytes) fits long =
    let lt : byte < 256 = fits 0 in
    let first : (byte + 256 * little_number k bytes) % 256 ≡ byte = omega arith in
    let others = bytes_low_first-above 0 k byte (little_number k bytes) lt in
    let ih = little_bytes-little_number k bytes (λ i. fits (suc i)) (omega arith) in
    rw (little_from-cons 0 k byte bytes, first, others, ih) refl

-- The bytes from one offset up to another are a text.
pub record Spells (bytes : List ℕ) (at end : ℕ) (text : List ℕ) : Type 0 where
  pub parts : drop at bytes ≡ text ++ drop end bytes

-- one text, and the next one from where it ends
infixl 10 ◌followed_by◌
pub ◌followed_by◌ : {bytes : List ℕ} {at mid end : ℕ} {a b : List ℕ} → Spells bytes at mid a → Spells bytes mid end b → Spells bytes at end (a ++ b)
◌followed_by◌ {bytes} {at} {mid} {end} {a} {b} p q = record { parts = p.parts ∙ ap (λ (t : List ℕ). a ++ t) q.parts ∙ sym (append_assoc a b (drop end bytes)) }

module _ (bytes : List ℕ) where
  pub range_spelled : (at n : ℕ) → Spells bytes at (at + n) (range bytes at n)
  range_spelled at n = record { parts = sym (take-append-drop n (drop at bytes)) ∙ ap (λ (t : List ℕ). take n (drop at bytes) ++ t) (drop-drop n at bytes) }

module _ (bytes : List ℕ) (fits : IsBytes bytes) where
  pub number_spelled : (k at : ℕ) → at + k ≤ length bytes → Spells bytes at (at + k) (little_bytes k (number_at k bytes at))
  number_spelled k at within =
      let long : k ≤ length (drop at bytes) = omega (arith, length-drop at bytes) in
      let front = little_bytes-little_number k (drop at bytes) (IsBytes-drop at bytes fits) long in
      subst (λ (t : List ℕ). Spells bytes at (at + k) t) (sym front) (range_spelled bytes at k)

  pub number_below : (k at : ℕ) → number_at k bytes at < 256 ^ k
  number_below k at = little_from-lt 0 k (drop at bytes) (IsBytes-drop at bytes fits)
