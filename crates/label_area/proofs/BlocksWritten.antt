-- What an area is while its two index blocks are written, with all slots free, and when they are.
use Rattle.std.proofs.Common.{◌≡◌, ℕ, ◌+◌, ◌*◌, ◌<◌, ◌≤◌, true, false, List, length, take, drop, Some, None, ◌⊎◌, inl, inr, sym, ap, ◌∙◌, subst, arith}
use Rattle.std.proofs.lemmas.List.{take-take}
use Rattle.byte_ranges.specs.Ranges.{range, patched}
use Rattle.byte_ranges.proofs.Patched.{length-patched, range-patched_after, range-patched_before, range-patched_in}
use Rattle.index_block.specs.declared.geometry.Geometry.{Geometry}
use Rattle.index_block.specs.declared.geometry.Place.TheVariants.{First, Second}
use Rattle.index_block.specs.declared.blocks.BlockKind.TheVariants.{Usable}
use Rattle.index_block.specs.Bitmap.{is_free_in}
use Rattle.index_block.specs.Blocks.{is_signed, kind_of}
use Rattle.index_block.specs.Geometry.{block_size, geometry_of, window_bytes}
use Rattle.index_block.specs.Written.{block_text}
use Rattle.index_block.proofs.Behind.{kind_of-window}
use Rattle.index_block.proofs.Sizes.{HasSizes}
use Rattle.index_block.proofs.Usable.{kind_of-block, length-block}
use Rattle.label_codec.specs.declared.kind.AreaKind.TheVariants.{Uninit}
use Rattle.label_area.specs.Blocks.{current_in, kind_at, seq_in, window_at}
use Rattle.label_area.specs.Inits.{IsVacant}
use Rattle.label_area.specs.Modules.{area_kind}
use Rattle.label_area.proofs.AreaKinds.{kind_of-unsigned}
use Rattle.label_area.proofs.Sizes.{block_size-smaller, blocks_within}
use Rattle.label_area.proofs.Vacant.{NoneSigned, current_first, current_with, uninit, vacant}

-- What a torn write of an index block may have put at its place: what stood there, the block, or no signed block.
abbrev pub IsLeftAt : List ℕ → ℕ → List ℕ → List ℕ → Type 0
IsLeftAt bytes at put garbage =
    (patched bytes at garbage ≡ bytes) ⊎ ((garbage ≡ put) ⊎ (is_signed (window_at (patched bytes at garbage) at) ≡ false))

-- the front of a window is a range
front_of_window : (bytes : List ℕ) (at n : ℕ) → n ≤ window_bytes → take n (window_at bytes at) ≡ range bytes at n
front_of_window bytes at n within = take-take n window_bytes (drop at bytes) within

-- bytes that are put as a block, at an offset
module _ (bytes put : List ℕ) (g : Geometry) (long : length put ≡ g.block) (most : g.block ≤ window_bytes) (at : ℕ) (fits : at + g.block ≤ length bytes) where
  inside : at + length put ≤ length bytes
  inside = omega arith

  pub size-patched : length (patched bytes at put) ≡ length bytes
  size-patched = length-patched bytes put at inside

  -- they stand at the front of their window
  pub front-put : take g.block (window_at (patched bytes at put) at) ≡ put
  front-put =
      front_of_window (patched bytes at put) at g.block most
      ∙ ap (range (patched bytes at put) at) (sym long)
      ∙ range-patched_in bytes put at inside

  -- the windows behind them are as before
  pub window-behind : (from : ℕ) → at + g.block ≤ from → window_at (patched bytes at put) from ≡ window_at bytes from
  window-behind from behind = range-patched_after bytes put at inside from window_bytes (omega arith)

  -- and so is the front of one before them
  pub front-before : (from : ℕ) → from + g.block ≤ at → take g.block (window_at (patched bytes at put) from) ≡ take g.block (window_at bytes from)
  front-before from before =
      front_of_window (patched bytes at put) from g.block most
      ∙ range-patched_before bytes put at inside from g.block before
      ∙ sym (front_of_window bytes from g.block most)

module _ (bytes : List ℕ) (g : Geometry) (found : geometry_of (length bytes) 256 ≡ Some g) (none : NoneSigned g bytes) (sizes : HasSizes g) where
  two_fit : 2 * g.block ≤ length bytes
  two_fit = blocks_within (length bytes) g found

  module _ (put : List ℕ) (long : length put ≡ g.block) where
    -- the area has its size still
    found-first : geometry_of (length (patched bytes 0 put)) 256 ≡ Some g
    found-first = ap (λ (size : ℕ). geometry_of size 256) (size-patched bytes put g long sizes.most 0 (omega (arith, two_fit))) ∙ found

    behind_first : (at : ℕ) → g.block ≤ at → window_at (patched bytes 0 put) at ≡ window_at bytes at
    behind_first at behind = window-behind bytes put g long sizes.most 0 (omega (arith, two_fit)) at (omega arith)

    -- unsigned bytes in the place of the first block
    none_signed-first : is_signed (window_at (patched bytes 0 put) 0) ≡ false → NoneSigned g (patched bytes 0 put)
    none_signed-first unsigned =
        let size = size-patched bytes put g long sizes.most 0 (omega (arith, two_fit)) in
        let at_128 : g.block ≤ block_size (length bytes) 128 = block_size-smaller (length bytes) g found in
        record {
          first = unsigned;
          second = ap is_signed (behind_first g.block (omega arith)) ∙ none.second;
          third = ap (λ (n : ℕ). is_signed (window_at (patched bytes 0 put) (block_size n 128))) size ∙ ap is_signed (behind_first (block_size (length bytes) 128) at_128) ∙ none.third;
        }

  module _ (free : List ℕ) (enough : g.slots ≤ 8 * length free) (all_free : (slot : ℕ) → slot < g.slots → is_free_in free slot ≡ true) where
    -- the blocks that are written
    first_long : length (block_text First 3 g free) ≡ g.block
    first_long = length-block First 3 g free sizes (omega arith, omega arith) enough

    second_long : length (block_text Second 2 g free) ≡ g.block
    second_long = length-block Second 2 g free sizes (omega arith, omega arith) enough

    -- with the first block
    pub vacant-first : IsVacant (Some (patched bytes 0 (block_text First 3 g free))) g.slots
    vacant-first =
        let first = block_text First 3 g free in
        let unsigned = ap is_signed (behind_first first first_long g.block (omega arith)) ∙ none.second in
        vacant (patched bytes 0 first) g (found-first first first_long) free enough all_free
        (front-put bytes first g first_long sizes.most 0 (omega (arith, two_fit))) (inl (ap seq_in (kind_of-unsigned Second g (window_at (patched bytes 0 first) g.block) unsigned)))

    -- after a torn write of the first block
    pub left_by_first : (garbage : List ℕ) → length garbage ≡ g.block → IsLeftAt bytes 0 (block_text First 3 g free) garbage
        → (area_kind (Some (patched bytes 0 garbage)) ≡ Uninit) ⊎ IsVacant (Some (patched bytes 0 garbage)) g.slots
    left_by_first garbage long left = elim left [
      | inl same ↦ inl (subst (λ area. area_kind (Some area) ≡ Uninit) (sym same) (uninit bytes g found none))
      | inr (inl new) ↦ inr (subst (λ put. IsVacant (Some (patched bytes 0 put)) g.slots) (sym new) vacant-first)
      | inr (inr unsigned) ↦ inl (uninit (patched bytes 0 garbage) g (found-first garbage long) (none_signed-first garbage long unsigned))
    ]

    -- with the first block, and other bytes in the place of the second
    module _ (put : List ℕ) (long : length put ≡ g.block) where
      -- which lies inside the area
      second_fits : g.block + g.block ≤ length (patched bytes 0 (block_text First 3 g free))
      second_fits = omega (arith, two_fit, size-patched bytes (block_text First 3 g free) g first_long sizes.most 0 (omega (arith, two_fit)))

      -- they stand at the front of its window
      front-second : take g.block (window_at (patched (patched bytes 0 (block_text First 3 g free)) g.block put) g.block) ≡ put
      front-second = front-put (patched bytes 0 (block_text First 3 g free)) put g long sizes.most g.block second_fits

      found-second : geometry_of (length (patched (patched bytes 0 (block_text First 3 g free)) g.block put)) 256 ≡ Some g
      found-second =
          let first = block_text First 3 g free in
          ap (λ (size : ℕ). geometry_of size 256) (size-patched (patched bytes 0 first) put g long sizes.most g.block second_fits) ∙ found-first first first_long

      -- behind the first block, as it was written
      front-first : take g.block (window_at (patched (patched bytes 0 (block_text First 3 g free)) g.block put) 0) ≡ block_text First 3 g free
      front-first =
          let first = block_text First 3 g free in
          front-before (patched bytes 0 first) put g long sizes.most g.block second_fits 0 (omega arith) ∙ front-put bytes first g first_long sizes.most 0 (omega (arith, two_fit))

      -- and are an older block, or no usable one
      vacant-second : (seq_in (kind_at g (patched (patched bytes 0 (block_text First 3 g free)) g.block put) Second) ≡ None) ⊎ (seq_in (kind_at g (patched (patched bytes 0 (block_text First 3 g free)) g.block put) Second) ≡ Some 2)
          → IsVacant (Some (patched (patched bytes 0 (block_text First 3 g free)) g.block put)) g.slots
      vacant-second older =
          vacant (patched (patched bytes 0 (block_text First 3 g free)) g.block put) g found-second free enough all_free front-first older

    -- with both blocks
    older-both : seq_in (kind_at g (patched (patched bytes 0 (block_text First 3 g free)) g.block (block_text Second 2 g free)) Second) ≡ Some 2
    older-both =
        let second = block_text Second 2 g free in
        let window = window_at (patched (patched bytes 0 (block_text First 3 g free)) g.block second) g.block in
        let kind : kind_of Second g window ≡ Usable 2 =
        kind_of-window g window second (front-second second second_long) Second 2 (omega (arith, sizes.least)) (kind_of-block Second 2 g free sizes (omega arith, omega arith) enough) in
        ap seq_in kind

    pub vacant-both : IsVacant (Some (patched (patched bytes 0 (block_text First 3 g free)) g.block (block_text Second 2 g free))) g.slots
    vacant-both = vacant-second (block_text Second 2 g free) second_long (inr older-both)

    -- the area has its size still, and the first block is the current one
    pub found-both : geometry_of (length (patched (patched bytes 0 (block_text First 3 g free)) g.block (block_text Second 2 g free))) 256 ≡ Some g
    found-both = found-second (block_text Second 2 g free) second_long

    pub current-both : current_in g (patched (patched bytes 0 (block_text First 3 g free)) g.block (block_text Second 2 g free)) ≡ Some (current_with g First 3)
    current-both =
        let second = block_text Second 2 g free in
        current_first (patched (patched bytes 0 (block_text First 3 g free)) g.block second) g found-both free enough (front-first second second_long) (inr older-both)

    -- after a torn write of the second block
    pub left_by_second : (garbage : List ℕ) → length garbage ≡ g.block → IsLeftAt (patched bytes 0 (block_text First 3 g free)) g.block (block_text Second 2 g free) garbage
        → IsVacant (Some (patched (patched bytes 0 (block_text First 3 g free)) g.block garbage)) g.slots
    left_by_second garbage long left =
        let mid = patched bytes 0 (block_text First 3 g free) in
        elim left [
          | inl same ↦ subst (λ area. IsVacant (Some area) g.slots) (sym same) vacant-first
          | inr (inl new) ↦ subst (λ put. IsVacant (Some (patched mid g.block put)) g.slots) (sym new) vacant-both
          | inr (inr unsigned) ↦ vacant-second garbage long (inl (ap seq_in (kind_of-unsigned Second g (window_at (patched mid g.block garbage) g.block) unsigned)))
        ]
