-- A block is signed, and usable, by its own bytes alone: those behind them in the window don't matter.
use Rattle.std.proofs.Common.{◌≡◌, ℕ, ◌+◌, ◌%◌, ◌≤◌, min, Bool, true, false, ◌&&◌, nat_le, List, length, take, refl, sym, ap, ◌∙◌, subst, arith}
use Rattle.std.specs.Prelude.{not, ◌==◌}
use Rattle.std.proofs.lemmas.Bool.{and_right, and_parts, eqb-true}
use Rattle.std.proofs.lemmas.Bool.Decides.{nat_tests}
use Rattle.std.proofs.lemmas.List.{take-take, length-take, get_or-take}
use Rattle.byte_ranges.specs.Ranges.{number_at}
use Rattle.byte_ranges.proofs.Numbers.{number_at-take}
use Rattle.index_block.specs.declared.geometry.Geometry.{Geometry}
use Rattle.index_block.specs.declared.geometry.Place.{Place}
use Rattle.index_block.specs.Geometry.{place_offset, other_place, slot_offset}
use Rattle.index_block.specs.Blocks.{block_in, my_size, seq_of, has_size, is_signed, label_size_of, minor_of, has_offsets, has_labels, has_fields, is_usable}

-- the tests with other numbers that are equal
nat_le-min : (size n whole : ℕ) → size ≤ n → nat_le size (min n whole) ≡ nat_le size whole
nat_le-min size n whole within = grind (arith, nat_tests)

sizes_same : (size size' n whole whole' : ℕ) → size' ≡ size → whole' ≡ min n whole → size ≤ n
    → ((size' % 256 == 0) && nat_le 256 size' && nat_le size' whole') ≡ ((size % 256 == 0) && nat_le 256 size && nat_le size whole)
sizes_same size size' n whole whole' same cut within = rw (same, cut, nat_le-min size n whole within) refl

four_same : (a b c d a' b' c' d' w x y z : ℕ) → a' ≡ a → b' ≡ b → c' ≡ c → d' ≡ d
    → ((a' == w) && (b' == x) && (c' == y) && (d' == z)) ≡ ((a == w) && (b == x) && (c == y) && (d == z))
four_same a b c d a' b' c' d' w x y z e f g h = rw (e, f, g, h) refl

second_of : (a b c d rest : Bool) → (a && b && c && d && rest) ≡ true → b ≡ true
second_of a b c d rest all =
    let four = (and_parts (a && b && c && d) rest all).0 in
    let three = (and_parts (a && b && c) d four).0 in
    (and_parts a b (and_parts (a && b) c three).0).1

signed_same : (signed signed' fields : Bool) (seq : ℕ) → (fields ≡ true → signed' ≡ signed)
    → (signed' && not (seq == 0) && fields) ≡ (signed && not (seq == 0) && fields)
signed_same signed signed' true seq same = ap (λ (x : Bool). x && not (seq == 0) && true) (same refl)
signed_same signed signed' false seq same = and_right (signed' && not (seq == 0)) false refl ∙ sym (and_right (signed && not (seq == 0)) false refl)

usable_same : (signed signed' fields fields' : Bool) (seq seq' : ℕ) → (fields ≡ true → signed' ≡ signed) → fields' ≡ fields → seq' ≡ seq
    → (signed' && not (seq' == 0) && fields') ≡ (signed && not (seq == 0) && fields)
usable_same signed signed' fields fields' seq seq' same e f = rw (e, f) (signed_same signed signed' fields seq same)

module _ (window : List ℕ) (n : ℕ) (room : 72 ≤ n) where
  field-take : (bytes at : ℕ) → at + bytes ≤ 72 → number_at bytes (take n window) at ≡ number_at bytes window at
  field-take bytes at within = number_at-take bytes at n window (omega arith)

  has_size-take : my_size window ≤ n → has_size (take n window) ≡ has_size window
  has_size-take within =
      sizes_same (my_size window) (my_size (take n window)) n (length window) (length (take n window)) (field-take 8 32 (omega arith)) (length-take n window) within

  block_in-take : my_size window ≤ n → block_in (take n window) ≡ block_in window
  block_in-take within =
      let size = field-take 8 32 (omega arith) in
      subst (λ (m : ℕ). take m (take n window) ≡ take (my_size window) window) (sym size) (take-take (my_size window) n window within)

  pub is_signed-take : my_size window ≤ n → is_signed (take n window) ≡ is_signed window
  unfolding is_signed
  is_signed-take within = rw (has_size-take within, block_in-take within) refl

  has_offsets-take : (place : Place) (g : Geometry) → has_offsets place g (take n window) ≡ has_offsets place g window
  has_offsets-take place g =
      four_same _ _ _ _ _ _ _ _ (place_offset g place) g.block (place_offset g (other_place place)) (slot_offset g 0)
      (field-take 8 24 (omega arith)) (field-take 8 32 (omega arith)) (field-take 8 40 (omega arith)) (field-take 8 48 (omega arith))

  has_labels-take : (g : Geometry) → has_labels g (take n window) ≡ has_labels g window
  has_labels-take g =
      four_same _ _ _ _ _ _ _ _ (label_size_of g.label) g.slots 1 (minor_of g.label)
      (get_or-take n window 19 0 (omega arith)) (field-take 4 56 (omega arith)) (field-take 2 60 (omega arith)) (field-take 2 62 (omega arith))

  has_fields-take : (place : Place) (g : Geometry) → has_fields place g (take n window) ≡ has_fields place g window
  unfolding has_fields
  has_fields-take place g = rw (has_offsets-take place g, has_labels-take g) refl

-- where the fields are those of a place, the size is that of the geometry
size_of_fields : (place : Place) (g : Geometry) (window : List ℕ) → has_fields place g window ≡ true → my_size window ≡ g.block
unfolding has_fields
size_of_fields place g window all = eqb-true (my_size window) g.block (second_of _ _ _ _ (has_labels g window) all)

-- a block is usable by its own bytes
pub is_usable-take : (place : Place) (g : Geometry) (window : List ℕ) → 256 ≤ g.block → is_usable place g (take g.block window) ≡ is_usable place g window
unfolding is_usable
is_usable-take place g window room =
    let seq : seq_of (take g.block window) ≡ seq_of window = ap (λ (x : ℕ). x % 4) (number_at-take 4 20 g.block window (omega arith)) in
    let signed = λ (all : has_fields place g window ≡ true).
    let size = size_of_fields place g window all in
    is_signed-take window g.block (omega arith) (omega arith) in
    usable_same (is_signed window) (is_signed (take g.block window)) (has_fields place g window) (has_fields place g (take g.block window)) (seq_of window) (seq_of (take g.block window))
    signed (has_fields-take window g.block (omega arith) place g) seq
