-- The bytes of a region's range are those of its members' parts, one for one.
use Rattle.std.proofs.Common.{◌≡◌, ℕ, ◌+◌, ◌-◌, ◌*◌, ◌/◌, ◌%◌, ◌<◌, [], length, get_or, refl, sym, ap, subst, ◌∙◌, arith, inl, inr}
use Rattle.std.specs.Prelude.{All, Contains}
use Rattle.std.proofs.lemmas.Bool.{cases_order}
use Rattle.std.proofs.lemmas.Nat.{div-add-mod', div_below, mod_below, mul-lt, same_from_place}
use Rattle.std.proofs.lemmas.List.{get_or_default}
use Rattle.spa_translate.specs.declared.strand.Strand.{Strand}
use Rattle.spa_translate.specs.Woven.{Woven, address_of, offset_of}
use Rattle.spa_translate.specs.Pairs.{IsOneToOne, IsPair}
use Rattle.spa_translate.specs.Faults.{all_lines, times}
use Rattle.spa_translate.specs.Laid.{IsLaid, IsStrand}
use Rattle.spa_translate.proofs.Occurring.{found, once_apart, once_below}
use Rattle.spa_translate.proofs.Numbers.{all_within, byte_split, period_below, same_place}
use Rattle.spa_translate.proofs.Lines.{HasLines, length_lines, line_of_all, start}
use Rattle.spa_translate.proofs.Offsets.{byte_at, offset_at}

-- a part at its position
pub record IsAt (woven : Woven) (position : ℕ) (strand : Strand) : Type 0 where
  pub below : position < length woven.strands
  pub is : get_or woven.strands position strand ≡ strand

pub at_from : (woven : Woven) (strand : Strand) → (here : Contains woven.strands strand) → IsAt woven here.0 strand
at_from woven strand here = record { below = here.1; is = here.2 }

pub contained : (woven : Woven) (position : ℕ) (strand : Strand) → IsAt woven position strand → Contains woven.strands strand
contained woven position strand at = (position, at.below, at.is)

pub strand_at : (woven : Woven) (position : ℕ) (d : Strand) → position < length woven.strands → IsAt woven position (get_or woven.strands position d)
strand_at woven position d below = record { below = below; is = get_or_default woven.strands position (get_or woven.strands position d) d below }

pub laid_at : (m s size : ℕ) (woven : Woven) → IsLaid m s size woven → (position : ℕ) (strand : Strand) → IsAt woven position strand → IsStrand m s size strand
laid_at m s size woven laid position strand at = subst (IsStrand m s size) at.is (laid.each position strand at.below)

has_lines : (m s size : ℕ) (woven : Woven) → IsLaid m s size woven → All (HasLines m) woven.strands
has_lines m s size woven laid k d below = (laid.each k d below).lines_are

long : (m s size : ℕ) (woven : Woven) → IsLaid m s size woven → length (all_lines woven.strands) ≡ length woven.strands * m
long m s size woven laid = length_lines m woven.strands (has_lines m s size woven laid)

once : (m s size : ℕ) (woven : Woven) → IsLaid m s size woven → (line : ℕ) → line < length woven.strands * m → times (all_lines woven.strands) line ≡ 1
once m s size woven laid = laid.once

flat_below : (p j m n : ℕ) → p < n → j < m → p * m + j < n * m
flat_below p j m n below line = grind (arith, below, line)

pub start_is : (m s size : ℕ) (woven : Woven) → IsLaid m s size woven → (position j : ℕ) (strand : Strand) → IsAt woven position strand → j < m
    → get_or (all_lines woven.strands) (position * m + j) 0 ≡ start strand j
start_is m s size woven laid position j strand at line =
    line_of_all m woven.strands strand position j (has_lines m s size woven laid) at.below line ∙ ap (λ (a : Strand). start a j) at.is

-- each line of a part is one of a period of the region
pub line_below : (m s size : ℕ) (woven : Woven) → IsLaid m s size woven → (p j : ℕ) (a : Strand) → IsAt woven p a → j < m → start a j < length woven.strands * m
line_below m s size woven laid p j a at line =
    let n : ℕ = length woven.strands in
    let flat = flat_below p j m n at.below line in
    subst (λ (x : ℕ). x < n * m) (start_is m s size woven laid p j a at line)
    (once_below (all_lines woven.strands) (n * m) (p * m + j) (long m s size woven laid) (once m s size woven laid) flat)

-- and of one alone
pub line_once : (m s size : ℕ) (woven : Woven) → IsLaid m s size woven → (p i q j : ℕ) (a b : Strand) → IsAt woven p a → IsAt woven q b → i < m → j < m → start a i ≡ start b j → (p ≡ q) × (i ≡ j)
line_once m s size woven laid p i q j a b at at' line line' same =
    let n : ℕ = length woven.strands in
    let flat : p * m + i ≡ q * m + j =
    once_apart (all_lines woven.strands) (n * m) (p * m + i) (q * m + j) (long m s size woven laid) (once m s size woven laid)
    (flat_below p i m n at.below line) (flat_below q j m n at'.below line')
    (start_is m s size woven laid p i a at line ∙ same ∙ sym (start_is m s size woven laid q j b at' line')) in
    same_from_place p i q j m line line' flat

-- a line of a period as one of a part
pub record IsLineOf (woven : Woven) (m line : ℕ) : Type 0 where
  pub position : ℕ
  pub strand : Strand
  pub at : IsAt woven position strand
  pub j : ℕ
  pub below : j < m
  pub is : start strand j ≡ line

pub no_strand : Strand
no_strand = record { handle = 0; base = 0; size = 0; offset = 0; line_size = 0; lines = [] }

-- the line at a place among the lines of all parts
pub line_of : (m s size : ℕ) (woven : Woven) → IsLaid m s size woven → (i line : ℕ) → i < length woven.strands * m → get_or (all_lines woven.strands) i 0 ≡ line → IsLineOf woven m line
line_of m s size woven laid i line below is =
    let p : ℕ = i / m in
    let j : ℕ = i % m in
    let position : p < length woven.strands = div_below i m (length woven.strands) laid.some_lines below in
    let within : j < m = mod_below i m laid.some_lines in
    let at = strand_at woven p no_strand position in
    let place : p * m + j ≡ i = div-add-mod' i m in
    record {
      position = p;
      strand = get_or woven.strands p no_strand;
      at = at;
      j = j;
      below = within;
      is = sym (start_is m s size woven laid p j (get_or woven.strands p no_strand) at within) ∙ ap (λ (x : ℕ). get_or (all_lines woven.strands) x 0) place ∙ is;
    }

pub line_some : (m s size : ℕ) (woven : Woven) → IsLaid m s size woven → (line : ℕ) → line < length woven.strands * m → IsLineOf woven m line
line_some m s size woven laid line below =
    let one = once m s size woven laid line below in
    let there = found (all_lines woven.strands) line (omega (arith, one)) in
    line_of m s size woven laid there.0 line (let l = long m s size woven laid in omega (arith, l, there.1)) there.2

-- the bytes of a part are so many whole periods
pub whole : (m s size : ℕ) (woven : Woven) → IsLaid m s size woven → size ≡ size / (m * s) * (m * s)
whole m s size woven laid = let e = div-add-mod' size (m * s) in omega (arith, e, laid.periods)

-- the range has as many periods
pub whole_range : (m s size : ℕ) (woven : Woven) → IsLaid m s size woven → woven.len ≡ size / (m * s) * (length woven.strands * m * s)
whole_range m s size woven laid =
    let n : ℕ = length woven.strands in
    let q : ℕ = size / (m * s) in
    let e : n * size ≡ n * (q * (m * s)) = ap (λ (x : ℕ). n * x) (whole m s size woven laid) in
    let t : n * (q * (m * s)) ≡ q * (n * m * s) = omega arith in
    laid.capacity ∙ e ∙ t

pub offset_below : (m s size : ℕ) (woven : Woven) → IsLaid m s size woven → (p : ℕ) (a : Strand) → IsAt woven p a → (d : ℕ) → d < size → offset_of (length woven.strands) a d < woven.len
offset_below m s size woven laid p a at d below =
    let n : ℕ = length woven.strands in
    let q : ℕ = size / (m * s) in
    let some = laid.some_lines in
    let bytes = laid.some_bytes in
    let k : d / s / m < q = period_below d q m s some bytes (let e = whole m s size woven laid in omega (arith, e, below)) in
    let line = line_below m s size woven laid p (d / s % m) a at (mod_below (d / s) m some) in
    let w = all_within (d / s / m) (start a (d / s % m)) (d % s) q (n * m) s k line (mod_below d s bytes) in
    let range = whole_range m s size woven laid in
    let is = offset_at n m s size a (laid_at m s size woven laid p a at) some bytes d in
    omega (arith, w, range, is)

-- two bytes with one address are one
pub same_byte : (m s size : ℕ) (woven : Woven) → IsLaid m s size woven → (p q : ℕ) (a b : Strand) → IsAt woven p a → IsAt woven q b → (d e : ℕ)
    → offset_of (length woven.strands) a d ≡ offset_of (length woven.strands) b e → (p ≡ q) × (d ≡ e)
same_byte m s size woven laid p q a b at at' d e same =
    let n : ℕ = length woven.strands in
    let some = laid.some_lines in
    let bytes = laid.some_bytes in
    let first = offset_at n m s size a (laid_at m s size woven laid p a at) some bytes d in
    let second = offset_at n m s size b (laid_at m s size woven laid q b at') some bytes e in
    let j = mod_below (d / s) m some in
    let j' = mod_below (e / s) m some in
    let places =
    same_place (d / s / m) (start a (d / s % m)) (d % s) (e / s / m) (start b (e / s % m)) (e % s) (n * m) s
    (line_below m s size woven laid p (d / s % m) a at j) (line_below m s size woven laid q (e / s % m) b at' j')
    (mod_below d s bytes) (mod_below e s bytes) (sym first ∙ same ∙ second) in
    let lines = line_once m s size woven laid p (d / s % m) q (e / s % m) a b at at' j j' places.1 in
    (lines.0, byte_split m s d ∙ (rw (places.0, lines.1, places.2) (sym (byte_split m s e))))

pub same_strand : (woven : Woven) (p q : ℕ) (a b : Strand) → IsAt woven p a → IsAt woven q b → p ≡ q → a ≡ b
same_strand woven p q a b at at' same =
    sym at.is ∙ get_or_default woven.strands p a b at.below ∙ ap (λ (k : ℕ). get_or woven.strands k b) same ∙ at'.is

pub same_position : (m s size : ℕ) (woven : Woven) → IsLaid m s size woven → (p q : ℕ) (a b : Strand) → IsAt woven p a → IsAt woven q b → a.handle ≡ b.handle → p ≡ q
same_position m s size woven laid p q a b at at' same =
    let here : (e : Strand) → get_or woven.strands p e ≡ a = λ e. get_or_default woven.strands p e a at.below ∙ at.is in
    let there : (e : Strand) → get_or woven.strands q e ≡ b = λ e. get_or_default woven.strands q e b at'.below ∙ at'.is in
    let handle : Strand → ℕ = λ x. x.handle in
    elim (cases_order p q) [
      | inl is ↦ is
      | inr either ↦ elim either [
        | inl before ↦ absurd (laid.modules p q a before at'.below (ap handle (here a) ∙ same ∙ sym (ap handle (there a))))
        | inr behind ↦ absurd (laid.modules q p a behind at.below (ap handle (there a) ∙ sym same ∙ sym (ap handle (here a))))
      ]
    ]

-- the byte behind an offset
pub record IsByteAt (woven : Woven) (size offset : ℕ) : Type 0 where
  pub position : ℕ
  pub strand : Strand
  pub at : IsAt woven position strand
  pub d : ℕ
  pub below : d < size
  pub is : offset_of (length woven.strands) strand d ≡ offset

-- byte r of a line in period k of the range
pub byte_of_line : (m s size : ℕ) (woven : Woven) → IsLaid m s size woven → (k line r : ℕ) → r < s → k < size / (m * s) → IsLineOf woven m line
    → IsByteAt woven size ((k * (length woven.strands * m) + line) * s + r)
byte_of_line m s size woven laid k line r within period one =
    let q : ℕ = size / (m * s) in
    let n : ℕ = length woven.strands in
    let d : ℕ = (k * m + one.j) * s + r in
    let below = all_within k one.j r q m s period one.below within in
    let is = byte_at n m s size one.strand (laid_at m s size woven laid one.position one.strand one.at) k one.j r one.below within in
    record {
      position = one.position;
      strand = one.strand;
      at = one.at;
      d = d;
      below = let e = whole m s size woven laid in omega (arith, e, below);
      is = is ∙ ap (λ (x : ℕ). (k * (n * m) + x) * s + r) one.is;
    }

pub byte_of : (m s size : ℕ) (woven : Woven) → IsLaid m s size woven → (o : ℕ) → o < woven.len → IsByteAt woven size o
byte_of m s size woven laid o below =
    let n : ℕ = length woven.strands in
    let t : ℕ = n * m in
    let some_lines : 0 < t = many n m laid.some laid.some_lines in
    let range = whole_range m s size woven laid in
    let period : o / s / t < size / (m * s) = period_below o (size / (m * s)) t s some_lines laid.some_bytes (omega (arith, range, below)) in
    let line = line_some m s size woven laid (o / s % t) (mod_below (o / s) t some_lines) in
    let byte = byte_of_line m s size woven laid (o / s / t) (o / s % t) (o % s) (mod_below o s laid.some_bytes) period line in
    subst (λ (x : ℕ). IsByteAt woven size x) (sym (byte_split t s o)) byte
  where
    many : (a b : ℕ) → 0 < a → 0 < b → 0 < a * b
    many a b x y = let h = mul-lt 0 0 a b x y in omega (arith, h)

-- a byte of a part with the address at its offset
pub pair_of : (woven : Woven) (p : ℕ) (a : Strand) → IsAt woven p a → (d : ℕ) → d < a.size → IsPair woven (address_of woven a d) a.handle (a.base + d)
pair_of woven p a at d below = record {
  strand = a;
  member = contained woven p a at;
  d = d;
  within = below;
  handle = refl;
  at = refl;
  address = refl;
}

pub one_to_one : (m s size : ℕ) (woven : Woven) → IsLaid m s size woven → IsOneToOne woven
one_to_one m s size woven laid = record {
  some_module = λ spa inside.
      let byte = byte_of m s size woven laid (spa - woven.spa) (omega (arith, inside.from, inside.below)) in
      let size_is = (laid_at m s size woven laid byte.position byte.strand byte.at).size_is in
      let here = pair_of woven byte.position byte.strand byte.at byte.d (omega (arith, size_is, byte.below)) in
      let address : address_of woven byte.strand byte.d ≡ spa = (let e = byte.is in omega (arith, e, inside.from)) in
      (byte.strand.handle, byte.strand.base + byte.d, subst (λ (x : ℕ). IsPair woven x byte.strand.handle (byte.strand.base + byte.d)) address here);
  one_module = λ spa dimm dpa dimm' dpa' pair pair'.
      let first = at_from woven pair.strand pair.member in
      let second = at_from woven pair'.strand pair'.member in
      let same = same_byte m s size woven laid pair.member.0 pair'.member.0 pair.strand pair'.strand first second pair.d pair'.d (let e = pair.address in let f = pair'.address in omega (arith, e, f)) in
      let strand = same_strand woven pair.member.0 pair'.member.0 pair.strand pair'.strand first second same.0 in
      let handle : Strand → ℕ = λ x. x.handle in
      let base : Strand → ℕ = λ x. x.base in
      let bases : pair.strand.base ≡ pair'.strand.base = ap base strand in
      (pair.handle ∙ ap handle strand ∙ sym pair'.handle, omega (arith, pair.at, pair'.at, bases, same.1));
  some_address = λ dimm dpa mapped.
      let here = pair_of woven mapped.member.0 mapped.strand (at_from woven mapped.strand mapped.member) (dpa - mapped.strand.base) (omega (arith, mapped.from, mapped.below)) in
      let at : mapped.strand.base + (dpa - mapped.strand.base) ≡ dpa = omega (arith, mapped.from) in
      let address : ℕ = address_of woven mapped.strand (dpa - mapped.strand.base) in
      (address, subst (λ (x : ℕ). IsPair woven address dimm x) at (subst (λ (x : ℕ). IsPair woven address x (mapped.strand.base + (dpa - mapped.strand.base))) (sym mapped.handle) here));
  one_address = λ spa spa' dimm dpa pair pair'.
      let first = at_from woven pair.strand pair.member in
      let second = at_from woven pair'.strand pair'.member in
      let position = same_position m s size woven laid pair.member.0 pair'.member.0 pair.strand pair'.strand first second (sym pair.handle ∙ pair'.handle) in
      let strand = same_strand woven pair.member.0 pair'.member.0 pair.strand pair'.strand first second position in
      let base : Strand → ℕ = λ x. x.base in
      let bases : pair.strand.base ≡ pair'.strand.base = ap base strand in
      let bytes : pair.d ≡ pair'.d = omega (arith, pair.at, pair'.at, bases) in
      pair.address ∙ ap (λ (x : Strand). address_of woven x pair.d) strand ∙ ap (address_of woven pair'.strand) bytes ∙ sym pair'.address;
  in_range = λ spa dimm dpa pair.
      let first = at_from woven pair.strand pair.member in
      let size_is = (laid_at m s size woven laid pair.member.0 pair.strand first).size_is in
      let below = offset_below m s size woven laid pair.member.0 pair.strand first pair.d (omega (arith, pair.within, size_is)) in
      record { from = omega (arith, pair.address); below = omega (arith, pair.address, below) };
  mapped = λ spa dimm dpa pair. record {
    strand = pair.strand;
    member = pair.member;
    handle = pair.handle;
    from = omega (arith, pair.at);
    below = omega (arith, pair.at, pair.within);
  };
}
