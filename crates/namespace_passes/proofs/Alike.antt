-- A label that heals another one belongs where that belongs, and needs no healing.
use Rattle.std.proofs.Common.{◌≡◌, ℕ, zero, suc, ◌+◌, ◌≤◌, ◌<◌, Bool, true, false, not, ◌&&◌, length, refl, ap, ◌∙◌, arith}
use Rattle.std.specs.Prelude.{◌==◌, ◌||◌, nat_lt, nat_le, min}
use Rattle.std.specs.Int.{bit_at}
use Rattle.std.specs.Str.{bytes_eq}
use Rattle.std.proofs.lemmas.Bool.{and_parts}
use Rattle.std.proofs.lemmas.Nat.Bits.{bit_at_and, bit_at-lt}
use Rattle.label_codec.specs.declared.label.Label.{Label}
use Rattle.label_codec.specs.Flags.{is_local, is_read_only, is_updating}
use Rattle.label_codec.specs.Names.{name_before_zero}
use Rattle.label_area.specs.Flips.{at_slot}
use Rattle.region_map.specs.declared.platform.Region.{Region}
use Rattle.label_table.specs.Belonging.{belongs, is_persistent, is_shared_range, names_set, offset_in}
use Rattle.label_table.specs.Division.{part_size}
use Rattle.label_table.proofs.ListTests.{eq_same, le_from, lt_from, uuid_same}
use Rattle.label_table.proofs.WholeUuids.{IsInside, inside, place}
use Rattle.namespace_passes.specs.Healing.{HaveOneSize}
use Rattle.namespace_passes.specs.Labels.{healed_label, is_alike, needs_healing, same_name, without_updating}

-- the flags but UPDATING stay
kept-bit : (flags i : ℕ) → bit_at 0xFFFFFFF7 i ≡ 1 → bit_at (without_updating flags) i ≡ bit_at flags i
kept-bit flags i set =
    let lt : bit_at flags i < 2 = bit_at-lt flags i in
    bit_at_and flags 0xFFFFFFF7 i ∙ ap (min (bit_at flags i)) set ∙ by (bit_at flags i) lt
  where
    by : (n : ℕ) → n < 2 → min n 1 ≡ n
    by zero lt = refl
    by (suc zero) lt = refl
    by (suc (suc n)) lt = absurd (omega arith)

pub read_only-kept : (leading own : Label) → is_read_only (healed_label leading own) ≡ is_read_only own
read_only-kept leading own = ap (λ n. n == 1) (kept-bit own.flags 0 refl)

local-kept : (leading own : Label) → is_local (healed_label leading own) ≡ is_local own
local-kept leading own = ap (λ n. n == 1) (kept-bit own.flags 1 refl)

pub not-updating : (leading own : Label) → is_updating (healed_label leading own) ≡ false
not-updating leading own = ap (λ n. n == 1) (bit_at_and own.flags 0xFFFFFFF7 3 ∙ by (bit_at own.flags 3))
  where
    by : (n : ℕ) → min n 0 ≡ 0
    by n = omega arith

pub is-well : (leading own : Label) (slot : ℕ) → needs_healing leading (at_slot slot (healed_label leading own)) ≡ false
is-well leading own slot =
    let name : same_name leading.name leading.name ≡ true = uuid_same (name_before_zero leading.name) in
    let sector : (leading.lba_size == leading.lba_size) ≡ true = eq_same leading.lba_size leading.lba_size refl in
    let abstraction : bytes_eq leading.abstraction leading.abstraction ≡ true = uuid_same leading.abstraction in
    let size : (leading.raw_size == leading.raw_size) ≡ true = eq_same leading.raw_size leading.raw_size refl in
    λ i. not-updating leading own i || not (name i && (sector i && (abstraction i && size i)))

-- what is well is not being changed, and has the length of the leading one
pub record IsWell (leading own : Label) : Type 0 where
  pub still : is_updating own ≡ false
  pub size : (own.raw_size == leading.raw_size) ≡ true

or-false : (a b : Bool) → a || b ≡ false → (a ≡ false) × (b ≡ false)
or-false true b e = absurd cc
or-false false b e = (refl, e)

not-false : (a : Bool) → not a ≡ false → a ≡ true
not-false true e = refl
not-false false e = absurd cc

pub well : (leading own : Label) → needs_healing leading own ≡ false → IsWell leading own
well leading own e =
    let parts = or-false (is_updating own) _ e in
    let alike = not-false (is_alike leading own) parts.1 in
    let a = and_parts (same_name leading.name own.name) _ alike in
    let b = and_parts (own.lba_size == leading.lba_size) _ a.1 in
    let c = and_parts (bytes_eq leading.abstraction own.abstraction) _ b.1 in
    record { still = parts.0; size = c.1 }

-- a range of the leading label's length fits at the same offset
pub belongs-healed : (r : Region) (h h0 : ℕ) (leading own : Label) (slot : ℕ) → HaveOneSize r → belongs r h0 leading ≡ true → belongs r h own ≡ true
    → offset_in r own ≡ offset_in r leading → belongs r h (at_slot slot (healed_label leading own)) ≡ true
belongs-healed r h h0 leading own slot one_size leads is same =
    let a = and_parts (nat_lt own.position (length r.members)) _ is in
    let b = and_parts (names_set r h own) _ a.1 in
    let c = and_parts (is_shared_range own) _ b.1 in
    let shared = and_parts (is_persistent own) _ c.0 in
    let ranged = and_parts (not (is_local own)) _ shared.1 in
    let low = and_parts (nat_le (place r own).dpa_base own.dpa) _ c.1 in
    let there : IsInside r h0 leading = inside r h0 leading leads in
    let here : IsInside r h own = inside r h own is in
    let size : (place r own).size ≡ part_size r = one_size (place r own) here.member in
    let leading_size : (place r leading).size ≡ part_size r = one_size (place r leading) there.member in
    let range : own.dpa + leading.raw_size ≤ (place r own).dpa_base + (place r own).size = omega (arith, size, leading_size, same, there.low, there.high, here.low) in
    let global : not (is_local (healed_label leading own)) ≡ true = ap not (local-kept leading own) ∙ ranged.0 in
    let some : nat_lt 0 leading.raw_size ≡ true = lt_from 0 leading.raw_size there.some_bytes in
    let high : nat_le (own.dpa + leading.raw_size) ((place r own).dpa_base + (place r own).size) ≡ true = le_from _ _ range in
    λ i. a.0 i && (b.0 i && ((shared.0 i && (global i && some i)) && (low.0 i && high i)))
