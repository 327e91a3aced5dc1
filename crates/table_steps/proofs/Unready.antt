-- The refusal by a region, as the first of its modules whose area is not Ready tells it.
use Rattle.std.proofs.Common.{◌≡◌, ℕ, Bool, true, false, not, cond, List, [], ◌∷◌, find, Option, Some, None, refl, sym, ap, ◌∙◌}
use Rattle.std.specs.Prelude.{is_some, option_map}
use Rattle.label_codec.specs.declared.kind.AreaKind.{AreaKind}
use Rattle.label_codec.specs.declared.kind.AreaKind.TheVariants.{Foreign, Missing, Ready, Uninit, WrongSize}
use Rattle.label_codec.specs.ModuleLabels.{Labels, is_ready}
use Rattle.region_map.specs.declared.platform.Member.{Member}
use Rattle.region_map.specs.declared.platform.Region.{Region}
use Rattle.label_table.specs.Namespaces.{namespaces}
use Rattle.label_table.specs.Statuses.{AreaNotReady, first_not_ready, status, status_by, status_by_area}
use Rattle.label_table.specs.Wholes.{all_ready}
use Rattle.label_table.proofs.ListTests.{find-some, not_true}
use Rattle.table_steps.specs.Refusals.{area_by, not_ready_by}
use Rattle.table_steps.proofs.AcceptedReleases.{areas-ready}

pub is-none : {A : Type 0} (o : Option A) → is_some o ≡ false → o ≡ None
is-none None e = refl
is-none (Some x) e = absurd cc

area-refusal : (m : ℕ) (kind : AreaKind) → is_ready kind ≡ false → not_ready_by (AreaNotReady m kind) ≡ area_by m kind
area-refusal m Missing e = refl
area-refusal m WrongSize e = refl
area-refusal m Ready e = absurd cc
area-refusal m Foreign e = refl
area-refusal m Uninit e = refl

module _ (L : Labels) where
  abbrev is_unready : Member → Bool
  is_unready x = not (is_ready (L x.handle).kind)

  first-unready : (ms : List Member) → first_not_ready (λ m. (L m).kind) ms ≡ option_map (λ (x : Member). x.handle) (find is_unready ms)
  first-unready [] = refl
  first-unready (x ∷ xs) = by (is_ready (L x.handle).kind) (first-unready xs)
    where
      by : (b : Bool) → first_not_ready (λ m. (L m).kind) xs ≡ option_map (λ (y : Member). y.handle) (find is_unready xs)
          → cond b (first_not_ready (λ m. (L m).kind) xs) (Some x.handle) ≡ option_map (λ (y : Member). y.handle) (cond (not b) (Some x) (find is_unready xs))
      by true rest = rest
      by false rest = refl

  module _ (r : Region) where
    pub region-refusal : r.rule ≡ None → (x : Member) → find is_unready r.members ≡ Some x → area_by x.handle (L x.handle).kind ≡ not_ready_by (status L r)
    region-refusal usable x found =
        let unready : is_ready (L x.handle).kind ≡ false = not_true (is_ready (L x.handle).kind) (find-some is_unready r.members x found).1 in
        let first : first_not_ready (λ m. (L m).kind) r.members ≡ Some x.handle = first-unready r.members ∙ ap (option_map (λ (y : Member). y.handle)) found in
        let by_rule = ap (λ o. not_ready_by (status_by (λ m. (L m).kind) (namespaces L r) r o)) usable in
        let by_area = ap (λ o. not_ready_by (status_by_area (λ m. (L m).kind) (namespaces L r) o)) first in
        sym (by_rule ∙ by_area ∙ area-refusal x.handle (L x.handle).kind unready)

    pub none-unready : find is_unready r.members ≡ None → all_ready r L ≡ true
    none-unready none = areas-ready L r.members (first-unready r.members ∙ ap (option_map (λ (y : Member). y.handle)) none)
