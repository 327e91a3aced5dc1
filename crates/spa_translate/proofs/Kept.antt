-- What a weave keeps.
use Rattle.std.proofs.Common.{◌≡◌, ℕ, zero, suc, ◌+◌, ◌-◌, ◌*◌, ◌^◌, ◌/◌, ◌%◌, ◌<◌, ◌≤◌, false, List, [], ◌∷◌, Option, Some, None, length, get_or, refl, sym, ap, subst, ◌∙◌, arith}
use Rattle.std.specs.Prelude.{◌↔◌, All, Contains, IfSome, IsSome}
use Rattle.std.proofs.lemmas.Bool.{false≢true}
use Rattle.std.proofs.lemmas.List.{get_or_default}
use Rattle.std.proofs.lemmas.Nat.{div-add-mod', div_below, mod_below, mul-lt}
use Rattle.spa_translate.specs.declared.strand.Strand.{Strand}
use Rattle.spa_translate.specs.Woven.{Woven, address_of, offset_of}
use Rattle.spa_translate.specs.Pairs.{AddressIn, IsMapped, IsPair}
use Rattle.spa_translate.specs.Places.{ArePlaces}
use Rattle.spa_translate.specs.Faults.{all_lines, lines_differ, lines_each}
use Rattle.spa_translate.specs.Laid.{HasFewLines, IsFit, IsLaid, line_size_each}
use Rattle.spa_translate.proofs.Fitting.{parts_alike}
use Rattle.spa_translate.proofs.OneToOne.{IsAt, at_from, contained, laid_at, no_strand, offset_below, same_position, same_strand, start_is, strand_at, whole, whole_range}
use Rattle.spa_translate.proofs.Lines.{start}
use Rattle.spa_translate.proofs.Numbers.{all_within, byte_split, period_below}
use Rattle.spa_translate.proofs.Offsets.{byte_at}

first_of : (strands : List Strand) (x : Strand) → 0 < length strands → x ≡ get_or strands 0 x → (length x.lines ≡ lines_each strands) × (x.line_size ≡ line_size_each strands)
first_of [] x some is = absurd (omega (arith, some))
first_of (a ∷ rest) x some is = (ap (λ (y : Strand). length y.lines) is, ap (λ (y : Strand). y.line_size) is)

pub first_lines : (strands : List Strand) (x : Strand) → 0 < length strands → x ≡ get_or strands 0 x → length x.lines ≡ lines_each strands
first_lines strands x some is = (first_of strands x some is).0

pub first_line_size : (strands : List Strand) (x : Strand) → 0 < length strands → x ≡ get_or strands 0 x → x.line_size ≡ line_size_each strands
first_line_size strands x some is = (first_of strands x some is).1

pub few_of : (woven : Woven) → IsFit woven → lines_differ woven.strands ≡ false → All (HasFewLines (lines_each woven.strands)) woven.strands
few_of woven fit same = parts_alike woven fit same

-- byte d of a part, summed
pub offset_summed : (m s size : ℕ) (woven : Woven) → IsLaid m s size woven → (p : ℕ) (a : Strand) → IsAt woven p a → (d : ℕ)
    → offset_of (length woven.strands) a d ≡ a.offset + get_or a.lines (d / s % m) 0 * s + d / s / m * (length woven.strands * m * s) + d % s
unfolding offset_of
offset_summed m s size woven laid p a at d =
    let is = laid_at m s size woven laid p a at in
    rw (is.lines_are, is.line_size_is) refl

-- a period is no longer than the range
pub period_fits : (m s size : ℕ) (woven : Woven) → IsLaid m s size woven → length woven.strands * m * s ≤ woven.len
period_fits m s size woven laid = by (size / (m * s)) (whole m s size woven laid) (whole_range m s size woven laid)
  where
    by : (q : ℕ) → size ≡ q * (m * s) → woven.len ≡ q * (length woven.strands * m * s) → length woven.strands * m * s ≤ woven.len
    by zero is range = absurd (omega (arith, is, laid.not_empty))
    by (suc q) is range = omega (arith, range)

-- the byte that is found by the place of its line
pub record IsFound (woven : Woven) (offset d : ℕ) (a : Strand) : Type 0 where
  pub member : Contains woven.strands a
  pub below : d < a.size
  pub end : a.base + a.size ≤ 2 ^ 63
  pub is : offset_of (length woven.strands) a d ≡ offset

found_at : (m s size : ℕ) (woven : Woven) → IsLaid m s size woven → (places : List ℕ) → ArePlaces (all_lines woven.strands) (length woven.strands * m) places → (o x : ℕ) (a : Strand) → o < woven.len
    → x ≡ get_or places (o / s % (length woven.strands * m)) x → a ≡ get_or woven.strands (x / m) a → IsFound woven o ((o / s / (length woven.strands * m) * m + x % m) * s + o % s) a
found_at m s size woven laid places are o x a below place strand =
    let n : ℕ = length woven.strands in
    let t : ℕ = n * m in
    let q : ℕ = size / (m * s) in
    let lines : List ℕ = all_lines woven.strands in
    let line : ℕ = o / s % t in
    let some : 0 < t = (let h = mul-lt 0 0 n m laid.some laid.some_lines in omega (arith, h)) in
    let in_period : line < t = mod_below (o / s) t some in
    let x_is : get_or places line 0 ≡ x = get_or_default places line 0 x (omega (arith, are.len, in_period)) ∙ sym place in
    let each = are.each line in_period in
    let x_below : x < t = subst (λ (y : ℕ). y < t) x_is each.0 in
    let line_is : get_or lines x 0 ≡ line = ap (λ (y : ℕ). get_or lines y 0) (sym x_is) ∙ each.1 in
    let at : IsAt woven (x / m) a = record { below = div_below x m n laid.some_lines x_below; is = sym strand } in
    let j : x % m < m = mod_below x m laid.some_lines in
    let start : start a (x % m) ≡ line = sym (start_is m s size woven laid (x / m) (x % m) a at j) ∙ ap (λ (y : ℕ). get_or lines y 0) (div-add-mod' x m) ∙ line_is in
    let is = laid_at m s size woven laid (x / m) a at in
    let k : ℕ = o / s / t in
    let r : o % s < s = mod_below o s laid.some_bytes in
    let range = whole_range m s size woven laid in
    let period : k < q = period_below o q t s some laid.some_bytes (omega (arith, range, below)) in
    let within = all_within k (x % m) (o % s) q m s period j r in
    let size_is = whole m s size woven laid in
    let byte = byte_at n m s size a is k (x % m) (o % s) j r in
    record {
      member = contained woven (x / m) a at;
      below = omega (arith, within, size_is, is.size_is);
      end = is.end;
      is = byte ∙ ap (λ (l : ℕ). (k * t + l) * s + o % s) start ∙ sym (byte_split t s o);
    }

pub found : (m s size : ℕ) (woven : Woven) → IsLaid m s size woven → (places : List ℕ) → ArePlaces (all_lines woven.strands) (length woven.strands * m) places → (o x : ℕ) (a : Strand) → o < woven.len → (u t : ℕ) → s ≡ u → length woven.strands * m ≡ t
    → x ≡ get_or places (o / u % t) x → a ≡ get_or woven.strands (x / m) a → IsFound woven o ((o / u / t * m + x % m) * u + o % u) a
found m s size woven laid places are o x a below u t is_u is_t =
    subst (λ (v : ℕ). x ≡ get_or places (o / u % v) x → a ≡ get_or woven.strands (x / m) a → IsFound woven o ((o / u / v * m + x % m) * u + o % u) a) is_t
    (subst (λ (v : ℕ). x ≡ get_or places (o / v % (length woven.strands * m)) x → a ≡ get_or woven.strands (x / m) a → IsFound woven o ((o / v / (length woven.strands * m) * m + x % m) * v + o % v) a) is_u
    (found_at m s size woven laid places are o x a below))

pub pair_found : (woven : Woven) (o d : ℕ) (a : Strand) → IsFound woven o d a → (spa : ℕ) → spa ≡ woven.spa + o → IsPair woven spa a.handle (a.base + d)
pair_found woven o d a is spa at = record {
  strand = a;
  member = is.member;
  d = d;
  within = is.below;
  handle = refl;
  at = refl;
  address = at ∙ ap (λ (x : ℕ). woven.spa + x) (sym is.is);
}

-- the sum that gives an address
pub summed : (m s size : ℕ) (woven : Woven) → IsLaid m s size woven → (p : ℕ) (a : Strand) → p < length woven.strands → a ≡ get_or woven.strands p a → (d : ℕ) → d < a.size → (u t x : ℕ) → s ≡ u → length woven.strands * m ≡ t → x ≡ get_or a.lines (d / u % m) 0
    → (a.offset + x * u + d / u / m * (t * u) + d % u ≡ offset_of (length woven.strands) a d) × (a.offset + x * u + d / u / m * (t * u) + d % u < woven.len)
summed m s size woven laid p a below is d within u t x is_u is_t is_x =
    let at : IsAt woven p a = record { below = below; is = sym is } in
    let sum = offset_summed m s size woven laid p a at d in
    let size_is = (laid_at m s size woven laid p a at).size_is in
    let end = offset_below m s size woven laid p a at d (omega (arith, within, size_is)) in
    let here : a.offset + x * u + d / u / m * (t * u) + d % u ≡ offset_of (length woven.strands) a d = rw (is_x, ← is_t, ← is_u) (sym sum) in
    (here, omega (arith, here, end))

-- the answers for a module at its position
pub mapped_in : (m s size : ℕ) (woven : Woven) → IsLaid m s size woven → (p dimm dpa : ℕ) → p < length woven.strands → ((d : Strand) → (get_or woven.strands p d).handle ≡ dimm) → (o : Option ℕ) → AddressIn woven p dpa o
    → IsSome o ↔ IsMapped woven dimm dpa
mapped_in m s size woven laid p dimm dpa below handle None none = (
  λ some. absurd (false≢true some),
  λ mapped.
      let a : Strand = mapped.strand in
      let there = at_from woven a mapped.member in
      let at = strand_at woven p a below in
      let same : p ≡ mapped.member.0 = same_position m s size woven laid p mapped.member.0 (get_or woven.strands p a) a at there (handle a ∙ mapped.handle) in
      let strand : get_or woven.strands p a ≡ a = same_strand woven p mapped.member.0 (get_or woven.strands p a) a at there same in
      let out = none a in
      let past : a.base + a.size ≤ dpa = subst (λ (b : Strand). b.base ≤ dpa → b.base + b.size ≤ dpa) strand out mapped.from in
      absurd (omega (arith, past, mapped.below)),
)
mapped_in m s size woven laid p dimm dpa below handle (Some spa) is =
    let a : Strand = get_or woven.strands p no_strand in
    let here = is no_strand in
    (λ some. record { strand = a; member = contained woven p a (strand_at woven p no_strand below); handle = sym (handle no_strand); from = here.0; below = here.1 }, λ mapped. refl)

pub pair_in : (woven : Woven) (p dimm dpa : ℕ) → p < length woven.strands → ((d : Strand) → (get_or woven.strands p d).handle ≡ dimm) → (o : Option ℕ) → AddressIn woven p dpa o → IfSome o (λ spa. IsPair woven spa dimm dpa)
pair_in woven p dimm dpa below handle None none = tt
pair_in woven p dimm dpa below handle (Some spa) is =
    let a : Strand = get_or woven.strands p no_strand in
    let here = is no_strand in
    record {
      strand = a;
      member = contained woven p a (strand_at woven p no_strand below);
      d = dpa - a.base;
      within = omega (arith, here.0, here.1);
      handle = sym (handle no_strand);
      at = omega (arith, here.0);
      address = here.2;
    }

pub address_given : (woven : Woven) (p dpa x : ℕ) (a : Strand) → p < length woven.strands → a ≡ get_or woven.strands p a → a.base ≤ dpa → dpa < a.base + a.size → x ≡ address_of woven a (dpa - a.base) → AddressIn woven p dpa (Some x)
address_given woven p dpa x a inside is from below address d =
    let same : a ≡ get_or woven.strands p d = is ∙ get_or_default woven.strands p a d inside in
    subst (λ (b : Strand). (b.base ≤ dpa) × (dpa < b.base + b.size) × (x ≡ address_of woven b (dpa - b.base))) same (from, below, address)
