-- The words of bytes with zeros in a hole.
use Rattle.std.proofs.Common.{◌≡◌, ◌≢◌, ℕ, ◌+◌, ◌-◌, ◌*◌, ◌%◌, ◌≤◌, ◌<◌, List, length, get_or, drop, sym, ◌∙◌, ◌⊎◌, inl, inr, arith}
use Rattle.std.specs.Prelude.{replicate}
use Rattle.std.proofs.lemmas.List.{get_or-drop, get_or-replicate}
use Rattle.std.proofs.lemmas.Bool.{cases_lt}
use Rattle.byte_ranges.specs.Ranges.{patched}
use Rattle.byte_ranges.proofs.Patched.{get_or-patched_before, get_or-patched_in, get_or-patched_after}
use Rattle.fletcher64.specs.Sums.{word}

abbrev pub word_but : List ℕ → ℕ → ℕ → ℕ
word_but bytes hole = word (patched bytes hole (replicate 8 0))

module _ (xs : List ℕ) (i : ℕ) where
  -- a word of the same four bytes
  word_same : (ys : List ℕ) → ((k : ℕ) → k < 4 → get_or xs (4 * i + k) 0 ≡ get_or ys (4 * i + k) 0) → word xs i ≡ word ys i
  word_same ys same = words_same _ _ _ _ _ _ _ _ (byte 0 (omega arith)) (byte 1 (omega arith)) (byte 2 (omega arith)) (byte 3 (omega arith))
    where
      byte : (k : ℕ) → k < 4 → get_or (drop (4 * i) xs) k 0 ≡ get_or (drop (4 * i) ys) k 0
      byte k lt = get_or-drop (4 * i) xs k 0 ∙ same k lt ∙ sym (get_or-drop (4 * i) ys k 0)

      words_same : (a b c d e f g h : ℕ) → a ≡ e → b ≡ f → c ≡ g → d ≡ h → a + 256 * (b + 256 * (c + 256 * (d + 0))) ≡ e + 256 * (f + 256 * (g + 256 * (h + 0)))
      words_same a b c d e f g h p q r s = omega arith

  -- a word of four zero bytes
  word_zero : ((k : ℕ) → k < 4 → get_or xs (4 * i + k) 0 ≡ 0) → word xs i ≡ 0
  word_zero zeros = words_zero _ _ _ _ (byte 0 (omega arith)) (byte 1 (omega arith)) (byte 2 (omega arith)) (byte 3 (omega arith))
    where
      byte : (k : ℕ) → k < 4 → get_or (drop (4 * i) xs) k 0 ≡ 0
      byte k lt = get_or-drop (4 * i) xs k 0 ∙ zeros k lt

      words_zero : (a b c d : ℕ) → a ≡ 0 → b ≡ 0 → c ≡ 0 → d ≡ 0 → a + 256 * (b + 256 * (c + 256 * (d + 0))) ≡ 0
      words_zero a b c d p q r s = omega arith

module _ (bytes : List ℕ) (hole i : ℕ) (at_word : hole % 4 ≡ 0) (within : hole + 8 ≤ length bytes) where
  -- the two words of the hole are zero
  pub word_but-in : (4 * i ≡ hole) ⊎ (4 * i ≡ hole + 4) → word_but bytes hole i ≡ 0
  word_but-in in_hole = word_zero _ i (λ k lt.
      get_or-patched_in bytes (replicate 8 0) hole within (4 * i + k) 0 (from_hole in_hole k) (to_end in_hole k lt) ∙ get_or-replicate 8 (4 * i + k - hole) 0 0 (inside in_hole k lt))
    where
      from_hole : (4 * i ≡ hole) ⊎ (4 * i ≡ hole + 4) → (k : ℕ) → hole ≤ 4 * i + k
      from_hole (inl e) k = omega arith
      from_hole (inr e) k = omega arith

      to_end : (4 * i ≡ hole) ⊎ (4 * i ≡ hole + 4) → (k : ℕ) → k < 4 → 4 * i + k < hole + 8
      to_end (inl e) k lt = omega arith
      to_end (inr e) k lt = omega arith

      inside : (4 * i ≡ hole) ⊎ (4 * i ≡ hole + 4) → (k : ℕ) → k < 4 → 4 * i + k - hole < 8
      inside (inl e) k lt = omega arith
      inside (inr e) k lt = omega arith

  -- the others are as they were
  pub word_but-out : 4 * i ≢ hole → 4 * i ≢ hole + 4 → word_but bytes hole i ≡ word bytes i
  word_but-out not_first not_second = word_same _ i bytes (λ k lt. elim (cases_lt (4 * i) hole) [
    | inl before ↦ get_or-patched_before bytes (replicate 8 0) hole within (4 * i + k) 0 (omega arith)
    | inr from ↦ get_or-patched_after bytes (replicate 8 0) hole within (4 * i + k) 0 (omega arith)
  ])
