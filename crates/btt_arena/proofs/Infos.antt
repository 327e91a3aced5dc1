-- The info block that is written is right.
use Rattle.std.proofs.Common.{◌≡◌, ℕ, ◌+◌, ◌≤◌, Bool, true, false, List, [], ◌∷◌, ◌++◌, length, get_or, take, drop, Some, refl, sym, ap, subst, inl, inr, ◌∙◌, arith}
use Rattle.std.specs.Prelude.{replicate, nat_eq, ◌&&◌}
use Rattle.std.specs.List.{starts_with}
use Rattle.std.proofs.lemmas.Bool.Decides.{Decides-eqb}
use Rattle.std.proofs.lemmas.List.{take-append-drop, length-replicate, take_at}
use Rattle.std.proofs.lemmas.Slice.Eq.{starts_is}
use Rattle.byteorder.specs.Endian.{little_bytes}
use Rattle.byte_ranges.specs.Ranges.{range, patched, with_fields}
use Rattle.byte_ranges.proofs.Fields.{AreApart, all_stand, length-with_fields}
use Rattle.byte_ranges.proofs.Patched.{length-patched, range-patched_before}
use Rattle.fletcher64.specs.Sums.{checksum_but, has_checksum, with_checksum}
use Rattle.fletcher64.proofs.Written.{has_checksum-with_checksum}
use Rattle.btt_arena.specs.declared.layout.Layout.{Layout}
use Rattle.btt_arena.specs.Info.{fields_text, info_signature, info_text, is_right, told_layout}
use Rattle.btt_arena.specs.Layout.{IsLayout, layout_of}
use Rattle.btt_arena.proofs.Layouts.{two_sectors}

-- the fields, put into zeros one by one
pub fields_put : (sector sectors blocks map_at log_at info_at : ℕ)
    → patched (patched (patched (patched (patched (patched (patched (patched (patched (patched (patched (replicate 88 0)
    20 (little_bytes 2 2)) 24 (little_bytes 4 sector)) 28 (little_bytes 4 sectors)) 32 (little_bytes 4 sector))
    36 (little_bytes 4 blocks)) 40 (little_bytes 4 256)) 44 (little_bytes 4 4096)) 56 (little_bytes 8 4096))
    64 (little_bytes 8 map_at)) 72 (little_bytes 8 log_at)) 80 (little_bytes 8 info_at)
    ≡ replicate 16 0 ++ little_bytes 4 0 ++ little_bytes 2 2 ++ little_bytes 2 0 ++ little_bytes 4 sector
    ++ little_bytes 4 sectors ++ little_bytes 4 sector ++ little_bytes 4 blocks ++ little_bytes 4 256
    ++ little_bytes 4 4096 ++ little_bytes 8 0 ++ little_bytes 8 4096 ++ little_bytes 8 map_at
    ++ little_bytes 8 log_at ++ little_bytes 8 info_at
unfolding patched
fields_put sector sectors blocks map_at log_at info_at = refl

-- bytes with others at their front, or behind n bytes
pub starts_by : (bytes front : List ℕ) → range bytes 0 (length front) ≡ front → starts_with nat_eq bytes front ≡ true
starts_by bytes front is =
    (starts_is Decides-eqb bytes front (starts_with nat_eq bytes front) refl).1 (drop (length front) bytes)
    (sym (take-append-drop (length front) bytes) ∙ ap (λ (xs : List ℕ). xs ++ drop (length front) bytes) is)

module _ (a : Layout) (block : List ℕ) (long : length block ≡ 4096) (signed : range block 0 16 ≡ info_signature) (told : range block 32 88 ≡ fields_text a) where
  -- where the signature and the fields stand, a checksum makes the block right
  right_by : is_right a (with_checksum block 4088) ≡ true
  unfolding is_right with_checksum
  right_by =
      let sum = little_bytes 8 (checksum_but block 4088) in
      let within : 4088 + length sum ≤ length block = omega arith in
      let first = starts_by (patched block 4088 sum) info_signature (range-patched_before block sum 4088 within 0 16 (omega arith) ∙ signed) in
      let second = starts_by (drop 32 (patched block 4088 sum)) (fields_text a) (range-patched_before block sum 4088 within 32 88 (omega arith) ∙ told) in
      let third = has_checksum-with_checksum block 4088 (omega arith) in
      rw (first, second) third

module _ (a : Layout) (uuid : List ℕ) (uuid_long : length uuid ≡ 16) where
  fields_long : length (fields_text a) ≡ 88
  fields_long = refl

  apart : AreApart 0 4096 ((0, info_signature) ∷ (16, uuid) ∷ (32, fields_text a) ∷ [])
  apart = (omega arith, (omega arith, (omega arith, omega (arith, fields_long))))

  zeros_long : length {A = ℕ} (replicate 4096 0) ≡ 4096
  zeros_long = length-replicate {A = ℕ} 4096 0

  pub length-info_text : length (info_text a uuid) ≡ 4096
  unfolding info_text with_checksum
  length-info_text =
      let block = with_fields (replicate 4096 0) ((0, info_signature) ∷ (16, uuid) ∷ (32, fields_text a) ∷ []) in
      let long : length block ≡ 4096 = length-with_fields 4096 ((0, info_signature) ∷ (16, uuid) ∷ (32, fields_text a) ∷ []) (replicate 4096 0) 0 zeros_long apart in
      length-patched block (little_bytes 8 (checksum_but block 4088)) 4088 (omega arith) ∙ long

  pub is_right-info_text : is_right a (info_text a uuid) ≡ true
  unfolding info_text
  is_right-info_text =
      let parts : List (ℕ × List ℕ) = (0, info_signature) ∷ (16, uuid) ∷ (32, fields_text a) ∷ [] in
      let block = with_fields (replicate 4096 0) parts in
      let long : length block ≡ 4096 = length-with_fields 4096 parts (replicate 4096 0) 0 zeros_long apart in
      let stand = all_stand 4096 parts (replicate 4096 0) 0 zeros_long apart in
      right_by a block long stand.0 stand.1.1.0

-- the fields of layouts with different sizes of sectors differ
other_fields : (size : ℕ) → fields_text (layout_of size 512) ≡ fields_text (layout_of size 4096) → ⊥
other_fields size same =
    let byte : get_or (fields_text (layout_of size 512)) 25 0 ≡ get_or (fields_text (layout_of size 4096)) 25 0 = ap (λ (xs : List ℕ). get_or xs 25 0) same in
    let no : 2 ≡ 16 = byte in
    absurd (omega (arith, no))

and_parts : (p q : Bool) → (p && q) ≡ true → (p ≡ true) × (q ≡ true)
and_parts true q both = (refl, both)
and_parts false q both = let no : false ≡ true = both in absurd (cc)

-- a right block has the fields
fields_of_right : (a : Layout) (block : List ℕ) → is_right a block ≡ true → take 88 (drop 32 block) ≡ fields_text a
unfolding is_right
fields_of_right a block right =
    let fields = fields_text a in
    let starts = (and_parts (starts_with nat_eq block info_signature) (starts_with nat_eq (drop 32 block) fields) (and_parts _ (has_checksum block 4088) right).0).1 in
    let is : drop 32 block ≡ fields ++ drop 88 (drop 32 block) = (starts_is Decides-eqb (drop 32 block) fields (starts_with nat_eq (drop 32 block) fields) refl).0 starts in
    ap (take 88) is ∙ take_at fields (drop 88 (drop 32 block)) 88 refl

never_both : (size : ℕ) (block : List ℕ) → is_right (layout_of size 4096) block ≡ true → is_right (layout_of size 512) block ≡ false
never_both size block large = elim (is_right (layout_of size 512) block) as (λ b. is_right (layout_of size 512) block ≡ b → b ≡ false) [
  | true ↦ λ small. absurd (other_fields size (sym (fields_of_right (layout_of size 512) block small) ∙ fields_of_right (layout_of size 4096) block large))
  | false ↦ λ _. refl
] refl

-- the info block that is written tells its layout
pub told_text : (a : Layout) (uuid : List ℕ) → length uuid ≡ 16 → IsLayout a → told_layout a.size (info_text a uuid) ≡ Some a
told_text a uuid long layout = elim (two_sectors a.sector layout.sector) [
  | inl small ↦
      let is : a ≡ layout_of a.size 512 = layout.numbers ∙ ap (layout_of a.size) small in
      let right : is_right (layout_of a.size 512) (info_text a uuid) ≡ true = subst (λ (b : Layout). is_right b (info_text a uuid) ≡ true) is (is_right-info_text a uuid long) in
      rw right (ap (λ (b : Layout). Some b) (sym is))
  | inr large ↦
      let is : a ≡ layout_of a.size 4096 = layout.numbers ∙ ap (layout_of a.size) large in
      let right : is_right (layout_of a.size 4096) (info_text a uuid) ≡ true = subst (λ (b : Layout). is_right b (info_text a uuid) ≡ true) is (is_right-info_text a uuid long) in
      rw (never_both a.size (info_text a uuid) right, right) (ap (λ (b : Layout). Some b) (sym is))
]
