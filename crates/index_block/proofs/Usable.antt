-- A block that is written is usable, with the sequence number that it was given.
use Rattle.std.proofs.Common.{◌≡◌, ℕ, ◌-◌, ◌*◌, ◌%◌, ◌^◌, ◌<◌, ◌≤◌, Bool, true, ◌&&◌, List, length, drop, refl, ap, ◌∙◌, arith}
use Rattle.std.specs.Prelude.{not, ◌==◌, nat_eq, nat_le, if◌then◌else◌, slice_index}
use Rattle.std.specs.List.{starts_with}
use Rattle.std.proofs.lemmas.Bool.{and_from}
use Rattle.std.proofs.lemmas.Bool.Decides.{nat_tests}
use Rattle.std.proofs.lemmas.List.{take_all}
use Rattle.byteorder.specs.Numbers.{little_number-reads_back}
use Rattle.byte_ranges.specs.Ranges.{number_at, patched}
use Rattle.fletcher64.specs.Sums.{has_checksum, with_checksum}
use Rattle.fletcher64.proofs.Written.{has_checksum-with_checksum}
use Rattle.index_block.specs.declared.geometry.Geometry.{Geometry}
use Rattle.index_block.specs.declared.geometry.Place.{Place}
use Rattle.index_block.specs.declared.geometry.Place.TheVariants.{First, Second}
use Rattle.index_block.specs.declared.blocks.BlockKind.TheVariants.{Unsigned, Foreign, Usable}
use Rattle.index_block.specs.Geometry.{place_offset, other_place, slot_offset}
use Rattle.index_block.specs.Blocks.{block_in, has_size, is_sound, signature, my_size, seq_of, is_signed, label_size_of, minor_of, has_offsets, has_labels, has_fields, is_usable, kind_of}
use Rattle.index_block.specs.Current.{IsSeq}
use Rattle.index_block.specs.Written.{block_text, unchecked_text}
use Rattle.index_block.proofs.Texts.{length-map_text}
use Rattle.index_block.proofs.Sizes.{HasSizes}

-- the tests, of numbers that pass them
size_passes : (size whole : ℕ) → size % 256 ≡ 0 → 256 ≤ size → size ≤ whole → ((size % 256 == 0) && nat_le 256 size && nat_le size whole) ≡ true
size_passes size whole aligned least fits = grind (arith, nat_tests)

four_fit : (a b c d w x y z : ℕ) → a ≡ w → b ≡ x → c ≡ y → d ≡ z → ((a == w) && (b == x) && (c == y) && (d == z)) ≡ true
four_fit a b c d w x y z e f g h = grind (arith, nat_tests)

numbered_fits : (signed fields : Bool) (seq : ℕ) → signed ≡ true → fields ≡ true → 1 ≤ seq → (signed && not (seq == 0) && fields) ≡ true
numbered_fits signed fields seq is fit least = grind (arith, nat_tests)

-- windows with the fields of a place
module _ (place : Place) (g : Geometry) (sizes : HasSizes g) (window : List ℕ) (size : my_size window ≡ g.block) where
  signed_by : length window ≡ g.block → starts_with nat_eq window signature ≡ true → has_checksum window 64 ≡ true → is_signed window ≡ true
  unfolding is_signed
  signed_by long named checked =
      let whole : block_in window ≡ window = take_all (my_size window) window (omega arith) in
      let sized : has_size window ≡ true = size_passes (my_size window) (length window) (rw size sizes.aligned) (omega arith) (omega arith) in
      and_from (has_size window) (is_sound (block_in window)) sized (rw whole (and_from (starts_with nat_eq window signature) (has_checksum window 64) named checked))

  fields_by : number_at 8 window 24 ≡ place_offset g place → number_at 8 window 40 ≡ place_offset g (other_place place) → number_at 8 window 48 ≡ slot_offset g 0
      → slice_index window 19 ≡ label_size_of g.label → number_at 4 window 56 ≡ g.slots → number_at 2 window 60 ≡ 1 → number_at 2 window 62 ≡ minor_of g.label
      → has_fields place g window ≡ true
  unfolding has_fields
  fields_by mine other labels label slots major minor =
      and_from (has_offsets place g window) (has_labels g window)
      (four_fit (number_at 8 window 24) (my_size window) (number_at 8 window 40) (number_at 8 window 48) (place_offset g place) g.block (place_offset g (other_place place)) (slot_offset g 0) mine size other labels)
      (four_fit (slice_index window 19) (number_at 4 window 56) (number_at 2 window 60) (number_at 2 window 62) (label_size_of g.label) g.slots 1 (minor_of g.label) label slots major minor)

usable_by : (place : Place) (g : Geometry) (window : List ℕ) → is_signed window ≡ true → has_fields place g window ≡ true → 1 ≤ seq_of window → is_usable place g window ≡ true
unfolding is_usable
usable_by place g window signed fields least = numbered_fits (is_signed window) (has_fields place g window) (seq_of window) signed fields least

minor_of-lt : (label : ℕ) → minor_of label < 256 ^ 2
minor_of-lt label = grind (arith, nat_tests)

kind_by : (usable signed : Bool) (n seq : ℕ) → usable ≡ true → n ≡ seq → (if usable then Usable n else if signed then Foreign else Unsigned) ≡ Usable seq
kind_by usable signed n seq is same = rw (is, same) refl

module _ (place : Place) (seq : ℕ) (g : Geometry) (free : List ℕ) where
  -- each field reads as it was written
  seq_at : seq < 256 ^ 4 → number_at 4 (block_text place seq g free) 20 ≡ seq
  unfolding block_text with_checksum patched
  seq_at fits = little_number-reads_back 4 seq (drop 24 (block_text place seq g free)) fits

  mine_at : place_offset g place < 256 ^ 8 → number_at 8 (block_text place seq g free) 24 ≡ place_offset g place
  unfolding block_text with_checksum patched
  mine_at fits = little_number-reads_back 8 (place_offset g place) (drop 32 (block_text place seq g free)) fits

  size_at : g.block < 256 ^ 8 → my_size (block_text place seq g free) ≡ g.block
  unfolding block_text with_checksum patched
  size_at fits = little_number-reads_back 8 g.block (drop 40 (block_text place seq g free)) fits

  other_at : place_offset g (other_place place) < 256 ^ 8 → number_at 8 (block_text place seq g free) 40 ≡ place_offset g (other_place place)
  unfolding block_text with_checksum patched
  other_at fits = little_number-reads_back 8 (place_offset g (other_place place)) (drop 48 (block_text place seq g free)) fits

  labels_at : slot_offset g 0 < 256 ^ 8 → number_at 8 (block_text place seq g free) 48 ≡ slot_offset g 0
  unfolding block_text with_checksum patched
  labels_at fits = little_number-reads_back 8 (slot_offset g 0) (drop 56 (block_text place seq g free)) fits

  slots_at : g.slots < 256 ^ 4 → number_at 4 (block_text place seq g free) 56 ≡ g.slots
  unfolding block_text with_checksum patched
  slots_at fits = little_number-reads_back 4 g.slots (drop 60 (block_text place seq g free)) fits

  minor_at : minor_of g.label < 256 ^ 2 → number_at 2 (block_text place seq g free) 62 ≡ minor_of g.label
  unfolding block_text with_checksum patched
  minor_at fits = little_number-reads_back 2 (minor_of g.label) (drop 64 (block_text place seq g free)) fits

  others_at : (starts_with nat_eq (block_text place seq g free) signature ≡ true) × (slice_index (block_text place seq g free) 19 ≡ label_size_of g.label)
      × (number_at 2 (block_text place seq g free) 60 ≡ 1)
  unfolding block_text with_checksum patched
  others_at = (refl, refl, refl)

  checked_at : has_checksum (block_text place seq g free) 64 ≡ true
  unfolding block_text
  checked_at = has_checksum-with_checksum (unchecked_text place seq g free) 64 (omega arith)

  module _ (sizes : HasSizes g) (numbered : IsSeq seq) (enough : g.slots ≤ 8 * length free) where
    pub length-block : length (block_text place seq g free) ≡ g.block
    unfolding block_text with_checksum patched
    length-block = omega (arith, length-map_text (g.block - 72) g.slots free (omega arith) enough)

    offset_fits : (at : Place) → place_offset g at < 256 ^ 8
    offset_fits First = omega arith
    offset_fits Second = omega arith

    -- it is usable at its place
    pub kind_of-block : kind_of place g (block_text place seq g free) ≡ Usable seq
    kind_of-block =
        let size = size_at (omega arith) in
        let number = seq_at (omega arith) in
        let named = others_at.0 in
        let signed = signed_by place g sizes (block_text place seq g free) size length-block named checked_at in
        let fields = fields_by place g sizes (block_text place seq g free) size (mine_at (offset_fits place)) (other_at (offset_fits (other_place place))) (labels_at (omega arith))
        others_at.1 (slots_at (omega arith)) others_at.2 (minor_at (minor_of-lt g.label)) in
        let same : seq_of (block_text place seq g free) ≡ seq = ap (λ (n : ℕ). n % 4) number ∙ omega arith in
        kind_by (is_usable place g (block_text place seq g free)) (is_signed (block_text place seq g free)) (seq_of (block_text place seq g free)) seq
        (usable_by place g (block_text place seq g free) signed fields (omega arith)) same
