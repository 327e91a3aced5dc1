-- Numbers below 2^64, and those of them that are handles.
use Rattle.std.proofs.Common.{◌≡◌, ℕ, ◌^◌, ◌≤◌, ◌<◌, Bool, true, false, Option, Some, None, ltb, refl, sym, arith}
use Rattle.std.proofs.lemmas.Bool.{cond-true, cond-false, lt-ltb, le-ltb, ltb-false}
use Rattle.cmd_words.specs.Numbers.{below}

pub none_below : (found : Option ℕ) → None ≡ below (2 ^ 64) found → None ≡ below (2 ^ 32) found
none_below None is = refl
none_below (Some n) is = by (ltb n (2 ^ 64)) refl
  where
    by : (b : Bool) → ltb n (2 ^ 64) ≡ b → None ≡ below (2 ^ 32) (Some n)
    by true e = absurd (let some : below (2 ^ 64) (Some n) ≡ Some n = cond-true _ _ _ e in cc)
    by false e = let over : 2 ^ 64 ≤ n = ltb-false n (2 ^ 64) e in sym (cond-false _ _ _ (le-ltb n (2 ^ 32) (omega (arith, over))))

number_is : (found : Option ℕ) (number : ℕ) → Some number ≡ below (2 ^ 64) found → found ≡ Some number
number_is None number is = absurd cc
number_is (Some n) number is = by (ltb n (2 ^ 64)) refl
  where
    by : (b : Bool) → ltb n (2 ^ 64) ≡ b → Some n ≡ Some number
    by true e = let some : below (2 ^ 64) (Some n) ≡ Some n = cond-true _ _ _ e in cc
    by false e = absurd (let none : below (2 ^ 64) (Some n) ≡ None = cond-false _ _ _ e in cc)

pub not_below : (found : Option ℕ) (number : ℕ) → Some number ≡ below (2 ^ 64) found → 2 ^ 32 ≤ number → None ≡ below (2 ^ 32) found
not_below found number is over = rw (number_is found number is) (sym (cond-false _ _ _ (le-ltb number (2 ^ 32) over)))

pub is_below : (found : Option ℕ) (number : ℕ) → Some number ≡ below (2 ^ 64) found → number < 2 ^ 32 → Some number ≡ below (2 ^ 32) found
is_below found number is under = rw (number_is found number is) (sym (cond-true _ _ _ (lt-ltb number (2 ^ 32) under)))
