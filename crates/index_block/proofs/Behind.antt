-- What is read of a block in a window, whatever stands behind the block.
use Rattle.std.proofs.Common.{◌≡◌, ℕ, ◌+◌, ◌*◌, ◌/◌, ◌%◌, ◌<◌, ◌≤◌, Bool, true, false, List, get_or, take, drop, refl, sym, ap, ◌∙◌, arith}
use Rattle.std.specs.Prelude.{◌==◌, if◌then◌else◌, replicate}
use Rattle.std.specs.Int.{bit_at}
use Rattle.std.proofs.lemmas.List.{get_or-drop, get_or-replicate, get_or-take}
use Rattle.std.proofs.lemmas.Nat.Bits.{bit_at_ones}
use Rattle.byte_ranges.proofs.Numbers.{number_at-take}
use Rattle.index_block.specs.declared.geometry.Geometry.{Geometry}
use Rattle.index_block.specs.declared.geometry.Place.{Place}
use Rattle.index_block.specs.declared.blocks.BlockKind.TheVariants.{Unsigned, Foreign, Usable}
use Rattle.index_block.specs.Bitmap.{is_free_in}
use Rattle.index_block.specs.Blocks.{free_map, is_signed, is_usable, kind_of, seq_of}
use Rattle.index_block.proofs.Windows.{is_usable-take}

-- where one is usable, so is another that passes the same test and has the same number
usable_too : (usable usable' signed signed' : Bool) (n n' seq : ℕ) → usable' ≡ usable → n' ≡ n
    → (if usable' then Usable n' else if signed' then Foreign else Unsigned) ≡ Usable seq → (if usable then Usable n else if signed then Foreign else Unsigned) ≡ Usable seq
usable_too usable true signed signed' n n' seq tested same is = rw (← tested) (rw same at is)
usable_too usable false signed true n n' seq tested same is = absurd cc
usable_too usable false signed false n n' seq tested same is = absurd cc

module _ (g : Geometry) (window block : List ℕ) (front : take g.block window ≡ block) where
  -- a usable block is usable in its window
  pub kind_of-window : (place : Place) (seq : ℕ) → 256 ≤ g.block → kind_of place g block ≡ Usable seq → kind_of place g window ≡ Usable seq
  kind_of-window place seq room is =
      let number : seq_of block ≡ seq_of window = ap (λ (bytes : List ℕ). seq_of bytes) (sym front) ∙ ap (λ (n : ℕ). n % 4) (number_at-take 4 20 g.block window (omega arith)) in
      let tested : is_usable place g block ≡ is_usable place g window = ap (is_usable place g) (sym front) ∙ is_usable-take place g window room in
      usable_too (is_usable place g window) (is_usable place g block) (is_signed window) (is_signed block) (seq_of window) (seq_of block) seq tested number is

byte_in_front : (bytes : List ℕ) (at k size i : ℕ) → i < k → at + i < size → get_or (take k (drop at bytes)) i 0 ≡ get_or (drop at (take size bytes)) i 0
byte_in_front bytes at k size i below within =
    get_or-take k (drop at bytes) i 0 below ∙ get_or-drop at bytes i 0 ∙ sym (get_or-drop at (take size bytes) i 0 ∙ get_or-take size bytes (at + i) 0 within)

-- the free bit of a slot in the front of its window's bitmap is that in the block
pub is_free_in-window : (window block : List ℕ) (size k slot : ℕ) → take size window ≡ block → slot / 8 < k → 72 + slot / 8 < size
    → is_free_in (take k (free_map window)) slot ≡ is_free_in (free_map block) slot
is_free_in-window window block size k slot front below within =
    ap (λ (byte : ℕ). bit_at byte (slot % 8) == 1)
    (byte_in_front window 72 k size (slot / 8) below within ∙ ap (λ (bytes : List ℕ). get_or (drop 72 bytes) (slot / 8) 0) front)

-- in bytes of ones all slots are free
pub is_free_in-ones : (n slot : ℕ) → slot < 8 * n → is_free_in (replicate n 255) slot ≡ true
is_free_in-ones n slot below =
    let byte = get_or-replicate {A = ℕ} n (slot / 8) 255 0 (omega arith) in
    let bit : bit_at 255 (slot % 8) ≡ 1 = bit_at_ones 8 (slot % 8) (omega arith) in
    rw (byte, bit) refl
