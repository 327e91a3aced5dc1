-- The bytes of a part that lie in a range, period by period and line by line.
use Rattle.std.proofs.Common.{◌≡◌, ℕ, ◌+◌, ◌-◌, ◌*◌, ◌/◌, ◌%◌, ◌<◌, ◌≤◌, Bool, true, false, List, [], length, get_or, max, min, refl, sym, ap, ◌∙◌, arith, inl, inr}
use Rattle.std.specs.Prelude.{◌||◌, ◌⊎◌}
use Rattle.std.proofs.lemmas.Bool.{cases_lt, le-ltb, lt-ltb}
use Rattle.std.proofs.lemmas.Nat.{div-add-mod'}
use Rattle.std.proofs.Math.Nat.{mul-mod_left}
use Rattle.spa_translate.specs.declared.strand.Strand.{Strand}
use Rattle.view_types.specs.declared.extents.Extent.{Extent}
use Rattle.view_types.specs.Intervals.{is_within}
use Rattle.spa_translate.specs.Woven.{Woven, address_of, offset_of}
use Rattle.spa_translate.specs.Laid.{IsLaid}
use Rattle.spa_translate.specs.Runs.{AreUpTo, IsPutAt, is_reached}
use Rattle.spa_translate.proofs.Lines.{start}
use Rattle.spa_translate.proofs.Offsets.{byte_at}
use Rattle.spa_translate.proofs.OneToOne.{IsAt, laid_at}
use Rattle.spa_translate.proofs.Intervals.{edge}
use Rattle.spa_translate.proofs.Putting.{before, behind, inside, longer, or_none}

-- no bytes
pub none_up_to : (woven : Woven) (spa len : ℕ) (a : Strand) → AreUpTo woven spa len a 0 []
none_up_to woven spa len a = record { ascend = tt; free_in = λ o. sym (rw (le-ltb o 0 (omega arith)) refl) }

reached_at : (woven : Woven) (spa len : ℕ) (a : Strand) (end o : ℕ) → o < end → is_reached woven spa len a end o ≡ is_within spa len (address_of woven a o)
reached_at woven spa len a end o lt = rw (lt-ltb o end lt) refl

reached_past : (woven : Woven) (spa len : ℕ) (a : Strand) (end o : ℕ) → end ≤ o → is_reached woven spa len a end o ≡ false
reached_past woven spa len a end o le = rw (le-ltb o end le) refl

-- bytes that do not lie in the range
pub skip_to : (woven : Woven) (spa len : ℕ) (a : Strand) (f g : ℕ) (es : List Extent) → AreUpTo woven spa len a f es → f ≤ g → ((o : ℕ) → f ≤ o → o < g → is_within spa len (address_of woven a o) ≡ false)
    → AreUpTo woven spa len a g es
skip_to woven spa len a f g es are le out = record { ascend = longer es 0 f g le are.ascend; free_in = λ o. are.free_in o ∙ same o (cases_lt o f) }
  where
    same : (o : ℕ) → (o < f) ⊎ (f ≤ o) → is_reached woven spa len a f o ≡ is_reached woven spa len a g o
    same o (inl lt) = reached_at woven spa len a f o lt ∙ sym (reached_at woven spa len a g o (omega (arith, lt, le)))
    same o (inr ge) = elim (cases_lt o g) [
      | inl lt ↦ reached_past woven spa len a f o ge ∙ sym (reached_at woven spa len a g o lt ∙ out o ge lt)
      | inr past ↦ reached_past woven spa len a f o ge ∙ sym (reached_past woven spa len a g o past)
    ]

-- bytes of which those of one range lie in it
pub put_to : (woven : Woven) (spa len : ℕ) (a : Strand) (f g at more : ℕ) (old new : List Extent) → AreUpTo woven spa len a f old → IsPutAt old at more new → f ≤ at → at + more ≤ g
    → ((o : ℕ) → f ≤ o → o < g → is_within spa len (address_of woven a o) ≡ is_within at more o) → AreUpTo woven spa len a g new
put_to woven spa len a f g at more old new are put from end alike = record {
  ascend = longer new 0 (at + more) g end (put.ascend f are.ascend from);
  free_in = λ o. put.free_in o ∙ ap (λ (b : Bool). b || is_within at more o) (are.free_in o) ∙ same o (cases_lt o f);
}
  where
    same : (o : ℕ) → (o < f) ⊎ (f ≤ o) → (is_reached woven spa len a f o || is_within at more o) ≡ is_reached woven spa len a g o
    same o (inl lt) =
        ap (λ (b : Bool). is_reached woven spa len a f o || b) (before at more o (omega (arith, lt, from)))
        ∙ or_none (is_reached woven spa len a f o) ∙ reached_at woven spa len a f o lt ∙ sym (reached_at woven spa len a g o (omega (arith, lt, from, end)))
    same o (inr ge) = ap (λ (b : Bool). b || is_within at more o) (reached_past woven spa len a f o ge) ∙ rest (cases_lt o g)
      where
        rest : (o < g) ⊎ (g ≤ o) → is_within at more o ≡ is_reached woven spa len a g o
        rest (inl lt) = sym (reached_at woven spa len a g o lt ∙ alike o ge lt)
        rest (inr past) = behind at more o (omega (arith, past, end)) ∙ sym (reached_past woven spa len a g o past)

-- the part of a line that lies in the range
cut_alike : (spa len d width address o : ℕ) → d ≤ o → o < d + width
    → is_within spa len (address + (o - d)) ≡ is_within (d + (max address spa - address)) (min (address + width) (spa + len) - max address spa) o
cut_alike spa len d width address o from below = by (cases_lt (address + (o - d)) spa) (cases_lt (address + (o - d)) (spa + len))
  where
    lo : ℕ
    lo = d + (max address spa - address)

    many : ℕ
    many = min (address + width) (spa + len) - max address spa

    by : (address + (o - d) < spa) ⊎ (spa ≤ address + (o - d)) → (address + (o - d) < spa + len) ⊎ (spa + len ≤ address + (o - d)) → is_within spa len (address + (o - d)) ≡ is_within (d + (max address spa - address)) (min (address + width) (spa + len) - max address spa) o
    by (inl lt) _ = before spa len (address + (o - d)) lt ∙ sym (before (d + (max address spa - address)) (min (address + width) (spa + len) - max address spa) o (omega (arith, lt, from, below)))
    by (inr ge) (inl lt) = inside spa len (address + (o - d)) ge lt ∙ sym (inside (d + (max address spa - address)) (min (address + width) (spa + len) - max address spa) o (omega (arith, ge, from)) (omega (arith, ge, lt, from, below)))
    by (inr ge) (inr past) = behind spa len (address + (o - d)) past ∙ sym (behind (d + (max address spa - address)) (min (address + width) (spa + len) - max address spa) o (omega (arith, ge, past, from, below)))

pub cut_to : (woven : Woven) (spa len : ℕ) (a : Strand) (f width address : ℕ) (old new : List Extent) → AreUpTo woven spa len a f old
    → ((r : ℕ) → r < width → address_of woven a (f + r) ≡ address + r)
    → IsPutAt old (f + (max address spa - address)) (min (address + width) (spa + len) - max address spa) new
    → f + (max address spa - address) + (min (address + width) (spa + len) - max address spa) ≤ f + width
    → AreUpTo woven spa len a (f + width) new
cut_to woven spa len a f width address old new are line put end =
    put_to woven spa len a f (f + width) (f + (max address spa - address)) (min (address + width) (spa + len) - max address spa) old new are put (omega arith) end
    (λ o from below.
    let at : f + (o - f) ≡ o = omega (arith, from) in
    let here : address_of woven a o ≡ address + (o - f) = ap (address_of woven a) (sym at) ∙ line (o - f) (omega (arith, from, below)) in
    ap (is_within spa len) here ∙ cut_alike spa len f width address o from below)

-- a line of which nothing lies in the range
pub cut_none : (woven : Woven) (spa len : ℕ) (a : Strand) (f width address : ℕ) (es : List Extent) → AreUpTo woven spa len a f es
    → ((r : ℕ) → r < width → address_of woven a (f + r) ≡ address + r) → min (address + width) (spa + len) ≤ max address spa → AreUpTo woven spa len a (f + width) es
cut_none woven spa len a f width address es are line none =
    skip_to woven spa len a f (f + width) es are (omega arith)
    (λ o from below.
    let at : f + (o - f) ≡ o = omega (arith, from) in
    let here : address_of woven a o ≡ address + (o - f) = ap (address_of woven a) (sym at) ∙ line (o - f) (omega (arith, from, below)) in
    ap (is_within spa len) here ∙ out (o - f) (omega (arith, from, below)) (cases_lt (address + (o - f)) spa))
  where
    out : (r : ℕ) → r < width → (address + r < spa) ⊎ (spa ≤ address + r) → is_within spa len (address + r) ≡ false
    out r within (inl lt) = before spa len (address + r) lt
    out r within (inr ge) = behind spa len (address + r) (omega (arith, ge, within, none))

-- line j of period k
pub line_lies : (m s size : ℕ) (woven : Woven) → IsLaid m s size woven → (p : ℕ) (a : Strand) → IsAt woven p a → (k j x : ℕ) → j < m → x ≡ get_or a.lines j 0 → (r : ℕ) → r < s
    → address_of woven a ((k * m + j) * s + r) ≡ woven.spa + k * (length woven.strands * m * s) + a.offset + x * s + r
line_lies m s size woven laid p a at k j x line is r within =
    let n : ℕ = length woven.strands in
    let part = laid_at m s size woven laid p a at in
    let byte = byte_at n m s size a part k j r line within in
    let whole : a.offset ≡ a.offset / s * s = (let e = div-add-mod' a.offset s in omega (arith, e, part.aligned)) in
    let first : start a j ≡ a.offset / s + x = rw (part.line_size_is, is) refl in
    let sum : offset_of n a ((k * m + j) * s + r) ≡ (k * (n * m) + (a.offset / s + x)) * s + r = byte ∙ ap (λ (l : ℕ). (k * (n * m) + l) * s + r) first in
    omega (arith, sum, whole)

-- before the first period of a range, behind the last, and between
module_multiple : (k p : ℕ) → k * p % p ≡ 0
module_multiple k p = mul-mod_left k p

pub before_first : (m s size : ℕ) (woven : Woven) → IsLaid m s size woven → (p : ℕ) (a : Strand) → IsAt woven p a → (spa len k o : ℕ) → woven.spa + k * (length woven.strands * m * s) ≤ spa → o < k * (m * s)
    → is_within spa len (address_of woven a o) ≡ false
before_first m s size woven laid p a at spa len k o le lt =
    let n : ℕ = length woven.strands in
    let off : offset_of n a o < n * (k * (m * s)) = (edge m s size woven laid p a at (k * (m * s)) o (module_multiple k (m * s))).before lt in
    before spa len (address_of woven a o) (omega (arith, off, le))

pub behind_last : (m s size : ℕ) (woven : Woven) → IsLaid m s size woven → (p : ℕ) (a : Strand) → IsAt woven p a → (spa len k o : ℕ) → spa + len ≤ woven.spa + k * (length woven.strands * m * s) → k * (m * s) ≤ o
    → is_within spa len (address_of woven a o) ≡ false
behind_last m s size woven laid p a at spa len k o past le =
    let n : ℕ = length woven.strands in
    let off : n * (k * (m * s)) ≤ offset_of n a o = (edge m s size woven laid p a at (k * (m * s)) o (module_multiple k (m * s))).from le in
    behind spa len (address_of woven a o) (omega (arith, off, past))

pub between : (m s size : ℕ) (woven : Woven) → IsLaid m s size woven → (p : ℕ) (a : Strand) → IsAt woven p a → (spa len k l o : ℕ) → spa ≤ woven.spa + k * (length woven.strands * m * s) → woven.spa + l * (length woven.strands * m * s) ≤ spa + len
    → k * (m * s) ≤ o → o < l * (m * s) → is_within spa len (address_of woven a o) ≡ true
between m s size woven laid p a at spa len k l o from end le lt =
    let n : ℕ = length woven.strands in
    let low : n * (k * (m * s)) ≤ offset_of n a o = (edge m s size woven laid p a at (k * (m * s)) o (module_multiple k (m * s))).from le in
    let high : offset_of n a o < n * (l * (m * s)) = (edge m s size woven laid p a at (l * (m * s)) o (module_multiple l (m * s))).before lt in
    inside spa len (address_of woven a o) (omega (arith, low, from)) (omega (arith, high, end))

-- the whole periods between
pub put_between : (m s size : ℕ) (woven : Woven) → IsLaid m s size woven → (p : ℕ) (a : Strand) → IsAt woven p a → (spa len k l : ℕ) (old new : List Extent) → spa ≤ woven.spa + k * (length woven.strands * m * s) → woven.spa + l * (length woven.strands * m * s) ≤ spa + len → k ≤ l
    → AreUpTo woven spa len a (k * (m * s)) old → (more : ℕ) → more ≡ (l - k) * (m * s) → IsPutAt old (k * (m * s)) more new → AreUpTo woven spa len a (l * (m * s)) new
put_between m s size woven laid p a at spa len k l old new from end order are more is put =
    let sum : k * (m * s) + more ≡ l * (m * s) = (let g : l ≡ k + (l - k) = omega (arith, order) in let e : l * (m * s) ≡ (k + (l - k)) * (m * s) = ap (λ (x : ℕ). x * (m * s)) g in omega (arith, e, is)) in
    put_to woven spa len a (k * (m * s)) (l * (m * s)) (k * (m * s)) more old new are put (omega arith) (omega (arith, sum))
    (λ o le lt. between m s size woven laid p a at spa len k l o from end le lt ∙ sym (inside (k * (m * s)) more o le (omega (arith, sum, lt))))

pub first_periods : (m s size : ℕ) (woven : Woven) → IsLaid m s size woven → (p : ℕ) (a : Strand) → IsAt woven p a → (spa len k : ℕ) → woven.spa + k * (length woven.strands * m * s) ≤ spa → AreUpTo woven spa len a (k * (m * s)) []
first_periods m s size woven laid p a at spa len k le =
    skip_to woven spa len a 0 (k * (m * s)) [] (none_up_to woven spa len a) (omega arith) (λ o from lt. before_first m s size woven laid p a at spa len k o le lt)

pub last_periods : (m s size : ℕ) (woven : Woven) → IsLaid m s size woven → (p : ℕ) (a : Strand) → IsAt woven p a → (spa len k : ℕ) (es : List Extent) → spa + len ≤ woven.spa + k * (length woven.strands * m * s) → k * (m * s) ≤ size
    → AreUpTo woven spa len a (k * (m * s)) es → AreUpTo woven spa len a size es
last_periods m s size woven laid p a at spa len k es past le are =
    skip_to woven spa len a (k * (m * s)) size es are le (λ o from lt. behind_last m s size woven laid p a at spa len k o past from)
