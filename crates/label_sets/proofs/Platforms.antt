-- What a sound platform says of its modules and of the members of its regions.
use Rattle.std.proofs.Common.{◌≡◌, ℕ, zero, suc, ◌+◌, ◌-◌, ◌<◌, ◌^◌, List, [], length, get_or, map, Option, Some, None, refl, sym, ap, subst, ◌∙◌, arith}
use Rattle.std.specs.List.{All, Contains}
use Rattle.std.specs.List.Sorted.{IsStrictlyIncreasing}
use Rattle.std.proofs.lemmas.List.{get_or-map, length-map}
use Rattle.std.proofs.lemmas.List.Elements.{All-nil}
use Rattle.view_types.specs.declared.rule.Rule.{Rule}
use Rattle.region_map.specs.declared.platform.Member.{Member}
use Rattle.region_map.specs.declared.platform.Platform.{Platform}
use Rattle.region_map.specs.declared.platform.Region.{Region}
use Rattle.region_map.specs.Platforms.{IsSound}
use Rattle.region_map.proofs.Disjoint.{unusable_region, usable_region}
use Rattle.label_table.specs.Belonging.{IsDisjoint}
use Rattle.label_table.proofs.SoundPlatforms.{sound-disjoint}
use Rattle.region_labels.specs.Fates.{with_regions}
use Rattle.region_labels.specs.declared.modules.LoadedModule.{LoadedModule}
use Rattle.region_labels.specs.Modules.{EachOnce, dimm_of}

rises : (xs : List ℕ) → IsStrictlyIncreasing xs → (i k : ℕ) → i + suc k < length xs → get_or xs i 0 + k < get_or xs (i + suc k) 0
rises xs up i zero lt = let e : i + 1 ≡ i + suc zero = omega arith in subst (λ j. get_or xs i 0 + 0 < get_or xs j 0) e (let next : get_or xs i 0 < get_or xs (i + 1) 0 = up i (omega arith) in omega arith)
rises xs up i (suc k) lt =
    let before : get_or xs i 0 + k < get_or xs (i + suc k) 0 = rises xs up i k (omega arith) in
    let step : get_or xs (i + suc k) 0 < get_or xs (i + suc k + 1) 0 = up (i + suc k) (omega arith) in
    let e : i + suc k + 1 ≡ i + suc (suc k) = omega arith in
    subst (λ j. get_or xs i 0 + suc k < get_or xs j 0) e (omega arith)

-- ascending modules stand there once each
pub each-once : (xs : List LoadedModule) → IsStrictlyIncreasing (map dimm_of xs) → EachOnce xs
each-once xs up = record {
  apart = λ i j d lt below same.
      let len : length (map dimm_of xs) ≡ length xs = length-map xs dimm_of in
      let k : ℕ = j - suc i in
      let e : i + suc k ≡ j = omega arith in
      let up_to : get_or (map dimm_of xs) i 0 + k < get_or (map dimm_of xs) (i + suc k) 0 = rises (map dimm_of xs) up i k (omega arith) in
      let at_i : get_or (map dimm_of xs) i 0 ≡ (get_or xs i d).dimm = get_or-map dimm_of xs i d 0 (omega arith) in
      let at_j : get_or (map dimm_of xs) (i + suc k) 0 ≡ (get_or xs j d).dimm = ap (λ n. get_or (map dimm_of xs) n 0) e ∙ get_or-map dimm_of xs j d 0 below in
      absurd (omega arith);
}

-- the regions alone tell that no two share a byte
pub regions-disjoint : (P : Platform) (regions : List Region) → IsSound P → regions ≡ P.regions → IsDisjoint (with_regions regions)
regions-disjoint P regions sound same =
    let disjoint : IsDisjoint P = sound-disjoint P sound in
    subst (λ rs. IsDisjoint (with_regions rs)) (sym same) (record { indexes = disjoint.indexes; positions = disjoint.positions; bytes = disjoint.bytes })

module _ (P : Platform) (sound : IsSound P) (r : Region) (in_P : Contains P.regions r) where
  no-members : (rule : Rule) → r.rule ≡ Some rule → r.members ≡ []
  no-members rule e = (unusable_region P r rule sound in_P e).members

  pub known-members : All (λ (m : Member). Contains P.modules m.handle) r.members
  known-members = by r.rule refl
    where
      by : (o : Option Rule) → r.rule ≡ o → All (λ (m : Member). Contains P.modules m.handle) r.members
      by None e = (usable_region P r sound in_P e).known
      by (Some rule) e = subst (All (λ (m : Member). Contains P.modules m.handle)) (sym (no-members rule e)) (All-nil (λ (m : Member). Contains P.modules m.handle))

  pub few-members : length r.members < 2 ^ 16
  few-members = by r.rule refl
    where
      by : (o : Option Rule) → r.rule ≡ o → length r.members < 2 ^ 16
      by None e = let few = (usable_region P r sound in_P e).few in omega arith
      by (Some rule) e = let none : length r.members ≡ 0 = ap length (no-members rule e) in omega arith
