-- How many positions have a module.
use Rattle.std.proofs.Common.{◌≡◌, ℕ, ◌+◌, ◌<◌, ◌≤◌, cond, eqb, length, take, drop, sym, ap, ◌∙◌, arith}
use Rattle.std.proofs.Math.Seq.{take-length}
use Rattle.std.proofs.lemmas.List.Sums.{sum_by-drop_more, sum_by-take-drop}
use Rattle.std.specs.List.{count_by}
use Rattle.region_map.specs.declared.platform.Region.{Region}
use Rattle.region_labels.specs.Regions.{handles}
use Rattle.region_labels.proofs.Seated.{length-handles}
use Rattle.region_labels.specs.Followed.{count_below, here}
use Rattle.region_labels.specs.Rooms.{position_count}

module _ (dimm : ℕ) (region : Region) where
  count-split : (position : ℕ) → count_below dimm region position
      + count_by (λ handle. eqb handle dimm) (drop position (handles region)) ≡ position_count dimm region
  count-split position = sum_by-take-drop (λ handle. cond {A = ℕ} (eqb handle dimm) 1 0) (handles region) position

  pub count-next : (position : ℕ) → position < length region.members
      → count_below dimm region (position + 1) ≡ count_below dimm region position + here dimm region position
  count-next position lt =
      let len : length (handles region) ≡ length region.members = length-handles region in
      let below : position < length (handles region) = omega arith in
      let now = count-split position in
      let next = count-split (position + 1) in
      let more = sum_by-drop_more (λ handle. cond {A = ℕ} (eqb handle dimm) 1 0) (handles region) position 0 below in
      omega arith

  pub count-most : (position : ℕ) → count_below dimm region position ≤ position_count dimm region
  count-most position = let parts = count-split position in omega arith

  pub count-all : count_below dimm region (length region.members) ≡ position_count dimm region
  count-all =
      ap (λ n. count_by (λ handle. eqb handle dimm) (take n (handles region))) (sym (length-handles region))
      ∙ ap (count_by (λ handle. eqb handle dimm)) (take-length (handles region))
