-- Places of bytes in lines and periods, as numbers.
use Rattle.std.proofs.Common.{◌≡◌, ℕ, ◌+◌, ◌-◌, ◌*◌, ◌/◌, ◌%◌, ◌<◌, ◌≤◌, sym, ap, ◌∙◌, arith}
use Rattle.std.proofs.lemmas.Nat.{div-add-mod', div-mul-add, div_below, mod-mul-add, mul-add-lt, same_from_place}

-- a byte is one of a line of a period
pub byte_split : (m s d : ℕ) → d ≡ (d / s / m * m + d / s % m) * s + d % s
byte_split m s d = rw (div-add-mod' (d / s) m) (sym (div-add-mod' d s))

-- byte r of line j of period k
pub line_at : (m s k j r : ℕ) → r < s → ((k * m + j) * s + r) / s ≡ k * m + j
line_at m s k j r within = div-mul-add (k * m + j) s r within

pub byte_in_line : (m s k j r : ℕ) → r < s → ((k * m + j) * s + r) % s ≡ r
byte_in_line m s k j r within = mod-mul-add (k * m + j) s r within

pub skip_at : (m s k j r : ℕ) → j < m → r < s → ((k * m + j) * s + r) / s / m ≡ k
skip_at m s k j r below within = ap (λ (x : ℕ). x / m) (line_at m s k j r within) ∙ div-mul-add k m j below

pub line_in_period : (m s k j r : ℕ) → j < m → r < s → ((k * m + j) * s + r) / s % m ≡ j
line_in_period m s k j r below within = ap (λ (x : ℕ). x % m) (line_at m s k j r within) ∙ mod-mul-add k m j below

-- line x behind an offset of q lines, in period k of w parts with m lines each
pub spread : (offset q x k w m s r : ℕ) → offset ≡ q * s → offset + x * s + k * (w * m * s) + r ≡ (k * (w * m) + (q + x)) * s + r
spread offset q x k w m s r is = omega (arith, is)

-- bytes of lines of periods below q
pub all_within : (k l r q t s : ℕ) → k < q → l < t → r < s → (k * t + l) * s + r < q * (t * s)
all_within k l r q t s below line within =
    let first = mul-add-lt k t l q below line in
    let second = mul-add-lt (k * t + l) s r (t * q) first within in
    omega (arith, second)

-- the period of a byte
pub period_below : (d q m s : ℕ) → 0 < m → 0 < s → d < q * (m * s) → d / s / m < q
period_below d q m s some bytes below =
    let line : d / s < q * m = div_below d s (q * m) bytes (omega (arith, below)) in
    div_below (d / s) m q some line

-- places that are one have one period, line and byte
pub same_place : (k l r k' l' r' t s : ℕ) → l < t → l' < t → r < s → r' < s → (k * t + l) * s + r ≡ (k' * t + l') * s + r' → (k ≡ k') × (l ≡ l') × (r ≡ r')
same_place k l r k' l' r' t s below below' within within' same =
    let bytes = same_from_place (k * t + l) r (k' * t + l') r' s within within' same in
    let lines = same_from_place k l k' l' t below below' bytes.0 in
    (lines.0, lines.1, bytes.1)

-- bytes of the periods from e on over f periods
pub from_period : (k l r e t s : ℕ) → l < t → r < s → e ≤ k → e * (t * s) ≤ (k * t + l) * s + r
from_period k l r e t s line within le =
    let more : (g : ℕ) → k ≡ e + g → e * (t * s) ≤ (k * t + l) * s + r = λ g is. omega (arith, ap (λ (x : ℕ). x * (t * s)) is) in
    more (k - e) (omega (arith, le))
