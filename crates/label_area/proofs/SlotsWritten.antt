-- What an area is after bytes were put into one of its slots, and after others were put over the index block that isn't
-- current.
use Rattle.std.proofs.Common.{◌≡◌, ◌≢◌, inl, inr, ℕ, ◌+◌, ◌-◌, ◌*◌, ◌<◌, ◌≤◌, Bool, List, length, take, drop, Some, None, refl, sym, ap, ◌∙◌, arith}
use Rattle.std.specs.Prelude.{IsTrue}
use Rattle.std.proofs.lemmas.Bool.{cases_lt}
use Rattle.std.proofs.lemmas.List.{take-take}
use Rattle.byte_ranges.specs.Ranges.{range, patched}
use Rattle.byte_ranges.proofs.Patched.{length-patched, range-patched_after, range-patched_before, range-patched_in}
use Rattle.index_block.specs.declared.geometry.Geometry.{Geometry}
use Rattle.index_block.specs.declared.geometry.Place.{Place}
use Rattle.index_block.specs.declared.geometry.Place.TheVariants.{First, Second}
use Rattle.index_block.specs.Bitmap.{is_free_in}
use Rattle.index_block.specs.Current.{IsSeq, is_followed_by}
use Rattle.index_block.specs.Geometry.{geometry_of, other_place, place_offset, slot_offset, window_bytes}
use Rattle.index_block.specs.Written.{block_text}
use Rattle.index_block.proofs.Behind.{kind_of-window}
use Rattle.index_block.proofs.Sizes.{HasSizes}
use Rattle.index_block.proofs.Usable.{kind_of-block, length-block}
use Rattle.index_block.proofs.WrittenBits.{is_free_in-block}
use Rattle.label_codec.specs.Labels.{label_of}
use Rattle.label_area.specs.Blocks.{kind_at, place_window, seq_in, window_at}
use Rattle.label_area.specs.Slots.{label_at}
use Rattle.label_area.proofs.BlocksWritten.{front-before, front-put, size-patched, window-behind}
use Rattle.label_area.proofs.Standings.{Holds, alone_current, bits_front, current_at, current_seq, next_current, usable_front}

module _ (g : Geometry) (is_256 : g.label ≡ 256) (sizes : HasSizes g) where
  -- the blocks stand before the slots, and the slots one behind the other
  slots_behind : (place : Place) (k : ℕ) → place_offset g place + g.block ≤ slot_offset g k
  slots_behind First k = omega arith
  slots_behind Second k = omega arith

  slots_apart : (j k : ℕ) → j < k → slot_offset g j + g.label ≤ slot_offset g k
  slots_apart j k before = by (k - (j + 1)) (omega arith)
    where
      by : (n : ℕ) → k ≡ j + 1 + n → slot_offset g j + g.label ≤ slot_offset g k
      by n e = rw (e, is_256) (omega arith)

  module _ (bytes : List ℕ) (fills : length bytes ≡ 2 * g.block + g.slots * g.label) where
    pub slot_fits : (k : ℕ) → k < g.slots → slot_offset g k + g.label ≤ length bytes
    slot_fits k below = rw fills (last (g.slots - (k + 1)) (omega arith))
      where
        last : (n : ℕ) → g.slots ≡ k + 1 + n → slot_offset g k + g.label ≤ 2 * g.block + g.slots * g.label
        last n e = rw (e, is_256) (omega arith)

    pub place_fits : (place : Place) → place_offset g place + g.block ≤ length bytes
    place_fits First = omega (arith, fills)
    place_fits Second = omega (arith, fills)

  module _ (bytes : List ℕ) (place : Place) (seq : ℕ) (free : ℕ → Bool) (h : Holds bytes g place seq free) where
    -- bytes of a label's size in a slot
    module _ (slot : ℕ) (put : List ℕ) (long : length put ≡ g.label) (fits : slot_offset g slot + g.label ≤ length bytes) where
      inside : slot_offset g slot + length put ≤ length bytes
      inside = omega (arith, fits, long)

      abbrev with_slot : List ℕ
      with_slot = patched bytes (slot_offset g slot) put

      pub slot_size : length with_slot ≡ length bytes
      slot_size = length-patched bytes put (slot_offset g slot) inside

      slot_front : (p : Place) → take g.block (place_window g with_slot p) ≡ take g.block (place_window g bytes p)
      slot_front p =
          front_of with_slot (place_offset g p) ∙ range-patched_before bytes put (slot_offset g slot) inside (place_offset g p) g.block (slots_behind p slot) ∙ sym (front_of bytes (place_offset g p))
        where
          front_of : (xs : List ℕ) (at : ℕ) → take g.block (window_at xs at) ≡ range xs at g.block
          front_of xs at = take-take g.block window_bytes (drop at xs) sizes.most

      slot_usable : (p : Place) → seq_in (kind_at g with_slot p) ≡ seq_in (kind_at g bytes p)
      slot_usable p = usable_front p g (place_window g with_slot p) (place_window g bytes p) sizes.least (slot_front p)

      -- leave the blocks as they are
      pub slot_holds : Holds with_slot g place seq free
      slot_holds = record {
        found = ap (λ (n : ℕ). geometry_of n 256) slot_size ∙ h.found;
        current = (λ i. current_at g (λ p. slot_usable p i)) ∙ h.current;
        bits = λ k below. bits_front g place seq with_slot (take g.block (place_window g bytes place)) sizes.bits sizes.least (slot_front place) k below
            ∙ sym (bits_front g place seq bytes (take g.block (place_window g bytes place)) sizes.bits sizes.least refl k below) ∙ h.bits k below;
      }

      -- and the labels in all other slots
      pub slot_other : (k : ℕ) → k ≢ slot → label_at g with_slot k ≡ label_at g bytes k
      slot_other k other = elim (cases_lt k slot) [
        | inl before ↦ ap (λ b. label_of b k) (range-patched_before bytes put (slot_offset g slot) inside (slot_offset g k) g.label (slots_apart k slot before))
        | inr behind ↦ ap (λ b. label_of b k) (range-patched_after bytes put (slot_offset g slot) inside (slot_offset g k) g.label (let apart = slots_apart slot k (omega (arith, behind, other)) in omega (arith, apart, long)))
      ]

      pub slot_new : label_at g with_slot slot ≡ label_of put slot
      slot_new = ap (λ b. label_of b slot) (ap (range with_slot (slot_offset g slot)) (sym long) ∙ range-patched_in bytes put (slot_offset g slot) inside)

    -- bytes of a block's size over the block that isn't current
    module _ (block : List ℕ) (long : length block ≡ g.block) (fits : place_offset g (other_place place) + g.block ≤ length bytes) where
      abbrev with_block : List ℕ
      with_block = patched bytes (place_offset g (other_place place)) block

      pub block_size_kept : length with_block ≡ length bytes
      block_size_kept = size-patched bytes block g long sizes.most (place_offset g (other_place place)) fits

      block_found : geometry_of (length with_block) 256 ≡ Some g
      block_found = ap (λ (n : ℕ). geometry_of n 256) block_size_kept ∙ h.found

      current_front : take g.block (place_window g with_block place) ≡ take g.block (place_window g bytes place)
      current_front = by place fits
        where
          by : (p : Place) → place_offset g (other_place p) + g.block ≤ length bytes
              → take g.block (place_window g (patched bytes (place_offset g (other_place p)) block) p) ≡ take g.block (place_window g bytes p)
          by First room = front-before bytes block g long sizes.most g.block room 0 (omega arith)
          by Second room = ap (take g.block) (window-behind bytes block g long sizes.most 0 room g.block (omega arith))

      current_number : seq_in (kind_at g with_block place) ≡ Some seq
      current_number =
          usable_front place g (place_window g with_block place) (place_window g bytes place) sizes.least current_front
          ∙ current_seq g (λ p. seq_in (kind_at g bytes p)) place seq h.current

      other_front : take g.block (place_window g with_block (other_place place)) ≡ block
      other_front = front-put bytes block g long sizes.most (place_offset g (other_place place)) fits

      -- leave the labels
      pub block_labels : (k : ℕ) → label_at g with_block k ≡ label_at g bytes k
      block_labels k =
          ap (λ b. label_of b k) (range-patched_after bytes block (place_offset g (other_place place)) (omega (arith, fits, long)) (slot_offset g k) g.label
          (let behind = slots_behind (other_place place) k in omega (arith, behind, long)))

      -- and all else, where they are no usable block
      pub unusable_holds : seq_in (kind_at g with_block (other_place place)) ≡ None → Holds with_block g place seq free
      unusable_holds none = record {
        found = block_found;
        current = alone_current g (λ p. seq_in (kind_at g with_block p)) place seq current_number none;
        bits = λ k below. bits_front g place seq with_block (take g.block (place_window g bytes place)) sizes.bits sizes.least current_front k below
            ∙ sym (bits_front g place seq bytes (take g.block (place_window g bytes place)) sizes.bits sizes.least refl k below) ∙ h.bits k below;
      }

    -- the block with the next sequence number
    module _ (numbered : IsSeq seq) (next : ℕ) (next_numbered : IsSeq next) (follows : IsTrue (is_followed_by seq next)) (map : List ℕ) (enough : g.slots ≤ 8 * length map) where
      abbrev next_block : List ℕ
      next_block = block_text (other_place place) next g map

      pub next_long : length next_block ≡ g.block
      next_long = length-block (other_place place) next g map sizes next_numbered enough

      -- tells which slots are free then
      pub next_holds : (fits : place_offset g (other_place place) + g.block ≤ length bytes) → Holds (with_block next_block next_long fits) g (other_place place) next (is_free_in map)
      next_holds fits = record {
        found = block_found next_block next_long fits;
        current = next_current g (λ p. seq_in (kind_at g (with_block next_block next_long fits) p)) place seq (current_number next_block next_long fits) next numbered follows
            (ap seq_in (kind_of-window g (place_window g (with_block next_block next_long fits) (other_place place)) next_block (other_front next_block next_long fits) (other_place place) next sizes.least
            (kind_of-block (other_place place) next g map sizes next_numbered enough)));
        bits = λ k below. bits_front g (other_place place) next (with_block next_block next_long fits) next_block sizes.bits sizes.least (other_front next_block next_long fits) k below
            ∙ is_free_in-block (other_place place) next g map enough k below;
      }
