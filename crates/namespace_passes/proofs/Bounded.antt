-- No module has a live label past its slots.
use Rattle.std.proofs.Common.{◌≡◌, ℕ, ◌<◌, ◌≤◌, Bool, true, false, cond, eqb, List, [], ◌∷◌, Option, Some, None, refl, arith}
use Rattle.std.specs.Prelude.{find}
use Rattle.std.specs.List.{All}
use Rattle.std.proofs.lemmas.List.Elements.{All-head, All-tail}
use Rattle.label_codec.specs.declared.label.Label.{Label}
use Rattle.label_codec.specs.ModuleLabels.{IsBounded}
use Rattle.region_labels.specs.declared.modules.LoadedModule.{LoadedModule}
use Rattle.region_labels.specs.Modules.{is_of, labels_in, module_in, module_or_missing}
use Rattle.module_flips.specs.Flips.{HasLabelsInUse}
use Rattle.module_flips.proofs.Freed.{used-within}

pub all-bounded : (ms : List LoadedModule) → All HasLabelsInUse ms → IsBounded (labels_in ms)
all-bounded ms all = record { past = at ms all }
  where
    none : (m : LoadedModule) → HasLabelsInUse m → (slot : ℕ) → (module_in m).slots ≤ slot → (o : Option Label) → (module_in m).at slot ≡ o → (module_in m).at slot ≡ None
    none m in_use slot le None is = is
    none m in_use slot le (Some l) is = let lt : slot < (module_in m).slots = used-within m.area m.dimm slot (in_use slot l is) in absurd (omega arith)

    at : (xs : List LoadedModule) → All HasLabelsInUse xs → (handle slot : ℕ) → (labels_in xs handle).slots ≤ slot → (labels_in xs handle).at slot ≡ None
    at [] uses handle slot le = refl
    at (y ∷ ys) uses handle slot le = by (eqb y.dimm handle) (at ys (All-tail HasLabelsInUse y ys uses) handle slot) le
      where
        by : (b : Bool) → ((labels_in ys handle).slots ≤ slot → (labels_in ys handle).at slot ≡ None) → (module_or_missing (cond b (Some y) (find (is_of handle) ys))).slots ≤ slot
            → (module_or_missing (cond b (Some y) (find (is_of handle) ys))).at slot ≡ None
        by true rest here = none y (All-head HasLabelsInUse y ys uses) slot here ((module_in y).at slot) refl
        by false rest here = rest here
