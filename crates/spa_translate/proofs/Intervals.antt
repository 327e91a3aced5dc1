-- Whole periods of a region are whole periods of each part.
use Rattle.std.proofs.Common.{◌≡◌, ℕ, ◌+◌, ◌*◌, ◌/◌, ◌%◌, ◌<◌, ◌≤◌, length, refl, sym, ap, subst, ◌∙◌, arith, inl, inr}
use Rattle.std.specs.Prelude.{nat_le, nat_lt}
use Rattle.std.proofs.Math.Nat.{add-mod, mul-le-mul_left, zero-mod}
use Rattle.std.proofs.lemmas.Bool.{and_parts, cases_lt, leb-true, le-leb, le-ltb, lt-leb, lt-ltb, ltb-true}
use Rattle.std.proofs.lemmas.Nat.{div-add-mod', mod_below}
use Rattle.spa_translate.specs.declared.strand.Strand.{Strand}
use Rattle.view_types.specs.Intervals.{is_within}
use Rattle.spa_translate.specs.Woven.{Woven, address_of, offset_of}
use Rattle.spa_translate.specs.Pairs.{HasIntervals, IsPair, KeepsApart, period_of}
use Rattle.spa_translate.specs.Laid.{IsLaid}
use Rattle.spa_translate.proofs.Numbers.{all_within, byte_split, from_period}
use Rattle.spa_translate.proofs.Lines.{start}
use Rattle.spa_translate.proofs.Offsets.{offset_at}
use Rattle.spa_translate.proofs.OneToOne.{IsAt, at_from, laid_at, line_below, one_to_one, same_position, same_strand}

-- two ranges have two numbers alike, where their edges stand alike to them
pub within_same : (o n d a len off spa : ℕ) → (o ≤ d → a ≤ off) → (d < o → off < a) → (d < o + n → off < a + len) → (o + n ≤ d → a + len ≤ off)
    → is_within (spa + a) len (spa + off) ≡ is_within o n d
within_same o n d a len off spa from before below behind =
    let start : nat_le (spa + a) (spa + off) ≡ nat_le o d = (elim (cases_lt d o) [
      | inl lt ↦ lt-leb (spa + a) (spa + off) (omega (arith, before lt)) ∙ sym (lt-leb o d lt)
      | inr le ↦ le-leb (spa + a) (spa + off) (omega (arith, from le)) ∙ sym (le-leb o d le)
    ]) in
    let end : nat_lt (spa + off) (spa + a + len) ≡ nat_lt d (o + n) = (elim (cases_lt d (o + n)) [
      | inl lt ↦ lt-ltb (spa + off) (spa + a + len) (omega (arith, below lt)) ∙ sym (lt-ltb d (o + n) lt)
      | inr le ↦ le-ltb (spa + off) (spa + a + len) (omega (arith, behind le)) ∙ sym (le-ltb d (o + n) le)
    ]) in
    rw (start, end) refl

-- The byte of period k and the byte before an edge of g periods: they stand alike in a part of m lines a period and in a
-- region of t lines.
edge_from : (k j l r g m t s : ℕ) → j < m → l < t → r < s → g * (m * s) ≤ (k * m + j) * s + r → g * (t * s) ≤ (k * t + l) * s + r
edge_from k j l r g m t s line line' within le =
    elim (cases_lt k g) [
      | inl lt ↦ absurd (let h = all_within k j r g m s lt line within in omega (arith, h, le))
      | inr ge ↦ from_period k l r g t s line' within ge
    ]

edge_before : (k j l r g m t s : ℕ) → j < m → l < t → r < s → (k * m + j) * s + r < g * (m * s) → (k * t + l) * s + r < g * (t * s)
edge_before k j l r g m t s line line' within lt =
    elim (cases_lt k g) [
      | inl below ↦ all_within k l r g t s below line' within
      | inr ge ↦ absurd (let h = from_period k j r g m s line within ge in omega (arith, h, lt))
    ]

-- byte d of a part, at its offset: for a number of whole periods
pub record IsEdge (ways o d off : ℕ) : Type 0 where
  pub from : o ≤ d → ways * o ≤ off
  pub before : d < o → off < ways * o

pub edge : (m s size : ℕ) (woven : Woven) → IsLaid m s size woven → (p : ℕ) (a : Strand) (at : IsAt woven p a) (o d : ℕ) → o % (m * s) ≡ 0 → IsEdge (length woven.strands) o d (offset_of (length woven.strands) a d)
edge m s size woven laid p a at o d multiple =
    let n : ℕ = length woven.strands in
    let g : ℕ = o / (m * s) in
    let k : ℕ = d / s / m in
    let j : ℕ = d / s % m in
    let r : ℕ = d % s in
    let l : ℕ = start a j in
    let line : j < m = mod_below (d / s) m laid.some_lines in
    let within : r < s = mod_below d s laid.some_bytes in
    let line' : l < n * m = line_below m s size woven laid p j a at line in
    let o_is : o ≡ g * (m * s) = (let e = div-add-mod' o (m * s) in omega (arith, e, multiple)) in
    let region : n * o ≡ g * (n * m * s) = (let e : n * o ≡ n * (g * (m * s)) = ap (λ (x : ℕ). n * x) o_is in let t : n * (g * (m * s)) ≡ g * (n * m * s) = omega arith in e ∙ t) in
    let d_is : d ≡ (k * m + j) * s + r = byte_split m s d in
    let off_is : offset_of n a d ≡ (k * (n * m) + l) * s + r = offset_at n m s size a (laid_at m s size woven laid p a at) laid.some_lines laid.some_bytes d in
    record {
      from = λ le. let h = edge_from k j l r g m (n * m) s line line' within (omega (arith, o_is, d_is, le)) in omega (arith, h, off_is, region);
      before = λ lt. let h = edge_before k j l r g m (n * m) s line line' within (omega (arith, o_is, d_is, lt)) in omega (arith, h, off_is, region);
    }

sum_multiple : (o n p : ℕ) → o % p ≡ 0 → n % p ≡ 0 → (o + n) % p ≡ 0
sum_multiple o n p first second = add-mod o n p ∙ (rw (first, second) (zero-mod p))

pub has_intervals : (m s size : ℕ) (woven : Woven) → IsLaid m s size woven → HasIntervals woven
has_intervals m s size woven laid o n spa d strand here multiple multiple' pair =
    let ways : ℕ = length woven.strands in
    let first = at_from woven pair.strand pair.member in
    let second = at_from woven strand here in
    let position = same_position m s size woven laid pair.member.0 here.0 pair.strand strand first second (sym pair.handle) in
    let same = same_strand woven pair.member.0 here.0 pair.strand strand first second position in
    let base : Strand → ℕ = λ x. x.base in
    let bases : pair.strand.base ≡ strand.base = ap base same in
    let bytes : pair.d ≡ d = omega (arith, pair.at, bases) in
    let is = laid_at m s size woven laid here.0 strand second in
    let period : period_of strand ≡ m * s = rw (is.lines_are, is.line_size_is) refl in
    let low = edge m s size woven laid here.0 strand second o d (subst (λ (x : ℕ). o % x ≡ 0) period multiple) in
    let high = edge m s size woven laid here.0 strand second (o + n) d (sum_multiple o n (m * s) (subst (λ (x : ℕ). o % x ≡ 0) period multiple) (subst (λ (x : ℕ). n % x ≡ 0) period multiple')) in
    let off : ℕ = offset_of ways strand d in
    let address : spa ≡ woven.spa + off = pair.address ∙ ap (λ (x : Strand). address_of woven x pair.d) same ∙ ap (address_of woven strand) bytes in
    let sums : ways * (o + n) ≡ ways * o + ways * n = omega arith in
    let alike = within_same o n d (ways * o) (ways * n) off woven.spa low.from low.before (λ lt. let h = high.before lt in omega (arith, h, sums)) (λ le. let h = high.from le in omega (arith, h, sums)) in
    ap (λ (x : ℕ). is_within (woven.spa + ways * o) (ways * n) x) address ∙ alike

pub keeps_apart : (m s size : ℕ) (woven : Woven) → IsLaid m s size woven → KeepsApart woven
keeps_apart m s size woven laid o n o' n' spa spa' dimm dpa dimm' dpa' apart inside inside' pair pair' same equal =
    let ways : ℕ = length woven.strands in
    let moved : IsPair woven spa' dimm dpa = subst (λ (x : ℕ). IsPair woven spa' dimm x) (sym equal) (subst (λ (x : ℕ). IsPair woven spa' x dpa') (sym same) pair') in
    let one = (one_to_one m s size woven laid).one_address spa spa' dimm dpa pair moved in
    let below = ltb-true spa (woven.spa + ways * o + ways * n) (and_parts (nat_le (woven.spa + ways * o) spa) _ inside).1 in
    let from = leb-true (woven.spa + ways * o') spa' (and_parts (nat_le (woven.spa + ways * o') spa') _ inside').0 in
    let order : ways * (o + n) ≤ ways * o' = mul-le-mul_left ways apart in
    omega (arith, below, from, order, one)
