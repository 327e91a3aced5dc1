-- The periods that a range meets.
use Rattle.std.proofs.Common.{◌≡◌, ℕ, ◌+◌, ◌-◌, ◌*◌, ◌/◌, ◌<◌, ◌≤◌, List, [], ◌∷◌, length, get_or, refl, sym, ap, subst, arith, inl, inr}
use Rattle.std.specs.Prelude.{All}
use Rattle.std.proofs.Math.Nat.{mul-le-mul_right}
use Rattle.std.proofs.lemmas.Bool.{cases_lt}
use Rattle.std.proofs.lemmas.List.Elements.{All-cons, All-nil}
use Rattle.std.proofs.lemmas.Nat.{div-add-mod', div_below, mod_below, mul-lt}
use Rattle.spa_translate.specs.declared.strand.Strand.{Strand}
use Rattle.view_types.specs.declared.extents.Extent.{Extent}
use Rattle.view_types.specs.Intervals.{Ascend, end_of}
use Rattle.spa_translate.specs.Woven.{Woven}
use Rattle.spa_translate.specs.Pairs.{period_of}
use Rattle.spa_translate.specs.Laid.{IsLaid}
use Rattle.spa_translate.proofs.Lines.{start}
use Rattle.spa_translate.proofs.OneToOne.{IsAt, laid_at, line_below, whole, whole_range}

pub period_is : (m s size : ℕ) (woven : Woven) → IsLaid m s size woven → (p : ℕ) (a : Strand) → IsAt woven p a → period_of a ≡ m * s
period_is m s size woven laid p a at = let is = laid_at m s size woven laid p a at in rw (is.lines_are, is.line_size_is) refl

-- a line lies in the first period
pub line_fits : (m s size : ℕ) (woven : Woven) → IsLaid m s size woven → (p : ℕ) (a : Strand) → IsAt woven p a → (j x : ℕ) → j < m → x ≡ get_or a.lines j 0 → a.offset + x * s + s ≤ length woven.strands * m * s
line_fits m s size woven laid p a at j x line is =
    let n : ℕ = length woven.strands in
    let part = laid_at m s size woven laid p a at in
    let below = line_below m s size woven laid p j a at line in
    let first : start a j ≡ a.offset / s + x = rw (part.line_size_is, is) refl in
    let aligned : a.offset ≡ a.offset / s * s = (let e = div-add-mod' a.offset s in omega (arith, e, part.aligned)) in
    let more : (a.offset / s + x + 1) * s ≤ n * m * s = mul-le-mul_right s (omega (arith, below, first)) in
    omega (arith, more, aligned)

some_period : (m s size : ℕ) (woven : Woven) → IsLaid m s size woven → 0 < length woven.strands * m * s
some_period m s size woven laid =
    let lines : 0 < length woven.strands * m = (let h = mul-lt 0 0 (length woven.strands) m laid.some laid.some_lines in omega (arith, h)) in
    let h = mul-lt 0 0 (length woven.strands * m) s lines laid.some_bytes in
    omega (arith, h)

no_more : (q k p : ℕ) → 0 < p → k * p ≤ q * p → k ≤ q
no_more q k p some le =
    elim (cases_lt q k) [
      | inl lt ↦ absurd (let h : (q + 1) * p ≤ k * p = mul-le-mul_right p (omega (arith, lt)) in omega (arith, h, le, some))
      | inr ge ↦ ge
    ]

-- periods of the range are periods of each part
pub part_fits : (m s size : ℕ) (woven : Woven) → IsLaid m s size woven → (k : ℕ) → k * (length woven.strands * m * s) ≤ woven.len → k * (m * s) ≤ size
part_fits m s size woven laid k le =
    let q : ℕ = size / (m * s) in
    let range = whole_range m s size woven laid in
    let fewer : k ≤ q = no_more q k (length woven.strands * m * s) (some_period m s size woven laid) (omega (arith, range, le)) in
    let more : k * (m * s) ≤ q * (m * s) = mul-le-mul_right (m * s) fewer in
    let is = whole m s size woven laid in
    omega (arith, more, is)

pub record IsSpan (woven : Woven) (period spa len first last : ℕ) : Type 0 where
  pub low : woven.spa + first * period ≤ spa
  pub next : spa ≤ woven.spa + (first + 1) * period
  pub high : woven.spa + last * period ≤ spa + len
  pub end : spa + len ≤ woven.spa + (last + 1) * period
  pub first_fits : (first + 1) * period ≤ woven.len
  pub last_fits : (last + 1) * period ≤ woven.len

next_fits : (x p q : ℕ) → 0 < p → x < q * p → (x / p + 1) * p ≤ q * p
next_fits x p q some below =
    let g = div_below x p q some below in
    let h : x / p + 1 ≤ q = omega (arith, g) in
    mul-le-mul_right p h

below_next : (x p : ℕ) → 0 < p → x < (x / p + 1) * p
below_next x p some = let e = div-add-mod' x p in let f = mod_below x p some in omega (arith, e, f)

from_period_of : (x p : ℕ) → x / p * p ≤ x
from_period_of x p = let e = div-add-mod' x p in omega (arith, e)

pub span_of : (m s size : ℕ) (woven : Woven) → IsLaid m s size woven → (spa len first last : ℕ) → 0 < len → woven.spa ≤ spa → spa + len ≤ woven.spa + woven.len → first ≡ (spa - woven.spa) / (length woven.strands * m * s)
    → last ≡ (spa - woven.spa + (len - 1)) / (length woven.strands * m * s) → IsSpan woven (length woven.strands * m * s) spa len first last
span_of m s size woven laid spa len first last some from end is_first is_last =
    let p : ℕ = length woven.strands * m * s in
    let q : ℕ = size / (m * s) in
    let x : ℕ = spa - woven.spa in
    let y : ℕ = spa - woven.spa + (len - 1) in
    let range = whole_range m s size woven laid in
    let positive = some_period m s size woven laid in
    let below : x < q * p = omega (arith, range, some, from, end) in
    let below' : y < q * p = omega (arith, range, some, from, end) in
    let a = from_period_of x p in
    let b = below_next x p positive in
    let c = from_period_of y p in
    let d = below_next y p positive in
    let e = next_fits x p q positive below in
    let f = next_fits y p q positive below' in
    subst (λ (l : ℕ). IsSpan woven p spa len first l) (sym is_last)
    (subst (λ (k : ℕ). IsSpan woven p spa len k (y / p)) (sym is_first)
    (record {
      low = omega (arith, a, from);
      next = omega (arith, b, from);
      high = omega (arith, c, from, some);
      end = omega (arith, d, from, some);
      first_fits = omega (arith, e, range);
      last_fits = omega (arith, f, range);
    }))

-- the ends of ascending extents
pub ends_fit : (es : List Extent) (a whole : ℕ) → Ascend a whole es → All (λ (e : Extent). end_of e ≤ whole) es
ends_fit [] a whole is = All-nil (λ (e : Extent). end_of e ≤ whole)
ends_fit (e ∷ es) a whole is = All-cons (λ (e : Extent). end_of e ≤ whole) e es is.2 (ends_fit es (end_of e + 1) whole is.3)

pub periods_between : (k l p : ℕ) → k ≤ l → l * p - k * p ≡ (l - k) * p
periods_between k l p le =
    let g : l ≡ k + (l - k) = omega (arith, le) in
    let e : l * p ≡ (k + (l - k)) * p = ap (λ (x : ℕ). x * p) g in
    omega (arith, e)

-- where a line of a period ends, in the part and in the range
pub record LineEnds (woven : Woven) (m s size period k j x : ℕ) (a : Strand) : Type 0 where
  pub byte : (k * m + j) * s + s ≤ size
  pub line : woven.spa + (a.offset + x * s + k * period) + s ≤ woven.spa + woven.len

pub line_ends : (m s size : ℕ) (woven : Woven) → IsLaid m s size woven → (p : ℕ) (a : Strand) → IsAt woven p a → (k j x : ℕ) → j < m → x ≡ get_or a.lines j 0 → (k + 1) * (length woven.strands * m * s) ≤ woven.len
    → LineEnds woven m s size (length woven.strands * m * s) k j x a
line_ends m s size woven laid p a at k j x line is le =
    let part = part_fits m s size woven laid (k + 1) le in
    let upper : (j + 1) * s ≤ m * s = mul-le-mul_right s (omega (arith, line)) in
    let here = line_fits m s size woven laid p a at j x line is in
    record { byte = omega (arith, part, upper); line = omega (arith, here, le) }
