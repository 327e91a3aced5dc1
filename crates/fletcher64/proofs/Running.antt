-- The running sums are the closed ones, for words that any function gives.
use Rattle.std.proofs.Common.{◌≡◌, ℕ, zero, suc, ◌+◌, ◌-◌, ◌*◌, ◌%◌, ◌^◌, ◌≤◌, refl, subst, arith}
use Rattle.fletcher64.specs.Sums.{sum_below, checksum_of_words}

-- the sum of the first k words, word i taken n - i times
abbrev pub weighed : (ℕ → ℕ) → ℕ → ℕ → ℕ
weighed w n k = sum_below (λ i. (n - i) * w i) k

-- what the sums are after the first n words
pub record AreSums (w : ℕ → ℕ) (n low high : ℕ) : Type 0 where
  pub low_is : low ≡ sum_below w n % 2 ^ 32
  pub high_is : high ≡ weighed w n n % 2 ^ 32

once_more : (n k x : ℕ) → k ≤ n → (suc n - k) * x ≡ (n - k) * x + x
once_more n k x le = let e : suc n - k ≡ suc (n - k) = omega arith in rw e (grind arith)

-- with one word more, each word before it is taken once more
weighed-suc : (w : ℕ → ℕ) (n k : ℕ) → k ≤ n → weighed w (suc n) k ≡ weighed w n k + sum_below w k
weighed-suc w n zero le = omega arith
weighed-suc w n (suc k) le = omega (arith, weighed-suc w n k (omega arith), once_more n k (w k) (omega arith))

pub AreSums-zero : (w : ℕ → ℕ) → AreSums w 0 0 0
AreSums-zero w = record { low_is = refl; high_is = refl }

-- one word more
pub AreSums-suc : (w : ℕ → ℕ) (i x low high low' high' : ℕ) → AreSums w i low high → x ≡ w i → low' ≡ (low + x) % 2 ^ 32 → high' ≡ (high + low') % 2 ^ 32 → AreSums w (i + 1) low' high'
AreSums-suc w i x low high low' high' sums word_is low_is high_is =
    let so_far = weighed-suc w i i (omega arith) in
    let one : suc i - i ≡ 1 = omega arith in
    let last : (suc i - i) * w i ≡ w i = rw one (omega arith) in
    let e : suc i ≡ i + 1 = omega arith in
    let next : AreSums w (suc i) low' high' = record {
      low_is = low_step (sum_below w i) (w i) x low low' sums.low_is word_is low_is;
      high_is = high_step (weighed w i i) (sum_below w i) (w i) x low low' high high' (weighed w (suc i) i) ((suc i - i) * w i) sums.low_is sums.high_is word_is low_is high_is so_far last;
    } in
    subst (λ (n : ℕ). AreSums w n low' high') e next
  where
    low_step : (sum word x low low' : ℕ) → low ≡ sum % 2 ^ 32 → x ≡ word → low' ≡ (low + x) % 2 ^ 32 → low' ≡ (sum + word) % 2 ^ 32
    low_step sum word x low low' a b c = omega arith

    high_step : (weight sum word x low low' high high' front last : ℕ) → low ≡ sum % 2 ^ 32 → high ≡ weight % 2 ^ 32 → x ≡ word → low' ≡ (low + x) % 2 ^ 32 → high' ≡ (high + low') % 2 ^ 32
        → front ≡ weight + sum → last ≡ word → high' ≡ (front + last) % 2 ^ 32
    high_step weight sum word x low low' high high' front last a b c d e f g = omega arith

-- after all words the sums make the checksum
pub AreSums-all : (w : ℕ → ℕ) (n i low high : ℕ) → AreSums w i low high → i ≡ n → high * 2 ^ 32 + low ≡ checksum_of_words w n
unfolding checksum_of_words
AreSums-all w n i low high sums all =
    let done = subst (λ (k : ℕ). AreSums w k low high) all sums in
    rw (done.high_is, done.low_is) refl
