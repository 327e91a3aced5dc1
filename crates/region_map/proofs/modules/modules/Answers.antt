use Rattle.std.proofs.lemmas.List.Filters.{dedup_is}
use Rattle.std.proofs.lemmas.List.Kept.{Contains-dedup_nat, Contains-from_dedup}
use Rattle.std.proofs.lemmas.List.Sorted.{Contains-permutation, IsPermutation-sym}
use Rattle.std.proofs.lemmas.Map.Keys.{IsStrictlyIncreasing-dedup}
use Rattle.region_map.proofs.modules.modules.Goals as goal

pub returns : goal.returns
returns c =
    let is = dedup_is _ _ _ c.dedup.ensures.filtered in
    let moved = rw c.in_ok-modules.ensures at c.sort_unstable.ensures.permutation in
    record {
      same = λ handle. (
        (λ in_modules. Contains-permutation _ _ handle (IsPermutation-sym _ _ moved) (Contains-from_dedup _ _ handle (rw (c.from_vec.ensures, is) at in_modules))),
        (λ in_table. rw (c.from_vec.ensures, is) (Contains-dedup_nat _ handle (Contains-permutation _ _ handle moved in_table))),
      );
      order = rw (c.from_vec.ensures, is) (IsStrictlyIncreasing-dedup _ c.sort_unstable.ensures.sorted);
    }
