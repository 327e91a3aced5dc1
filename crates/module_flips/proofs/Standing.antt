-- The labels that are kept are those of the areas of the platform's modules.
use Rattle.std.proofs.Common.{◌≡◌, ℕ, Bool, true, false, cond, eqb, List, [], ◌∷◌, Some, map, refl, ap, ◌∙◌, eqb-true}
use Rattle.std.specs.Prelude.{◌==◌, ◌||◌, find}
use Rattle.std.specs.List.{All, list_any}
use Rattle.std.proofs.lemmas.List.Elements.{All-head, All-tail}
use Rattle.rig_trait.specs.Areas.{Areas}
use Rattle.label_codec.specs.declared.kind.AreaKind.TheVariants as kind
use Rattle.label_area.specs.Modules.{module_at}
use Rattle.region_labels.specs.declared.modules.LoadedModule.{LoadedModule}
use Rattle.region_labels.specs.Modules.{dimm_of, is_of, labels_in, module_or_missing, without_labels}
use Rattle.module_flips.specs.Stored.{StandsIn, stored_labels}
use Rattle.module_flips.proofs.Stored.{stands-module}

stands-at : (xs : List LoadedModule) (areas : Areas) → All (StandsIn areas) xs → (handle : ℕ) → labels_in xs handle ≡ stored_labels (map dimm_of xs) areas handle
stands-at [] areas all handle = refl
stands-at (x ∷ xs) areas all handle = by (stands-at xs areas (All-tail (StandsIn areas) x xs all) handle) (eqb x.dimm handle) refl
  where
    by : labels_in xs handle ≡ stored_labels (map dimm_of xs) areas handle → (b : Bool) → eqb x.dimm handle ≡ b
        → module_or_missing (cond b (Some x) (find (is_of handle) xs)) ≡ cond (b || list_any (λ dimm. dimm == handle) (map dimm_of xs)) (module_at areas handle) (without_labels kind.Missing)
    by rest true e = stands-module areas x (All-head (StandsIn areas) x xs all) ∙ ap (module_at areas) (eqb-true x.dimm handle e)
    by rest false e = rest

pub stands : (xs : List LoadedModule) (areas : Areas) → All (StandsIn areas) xs → labels_in xs ≡ stored_labels (map dimm_of xs) areas
stands xs areas all = λ i handle. stands-at xs areas all handle i
