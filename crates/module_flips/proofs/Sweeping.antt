-- The slots of one module that have junk, or a label that passes a test, are freed.
use Rattle.std.proofs.Common.{◌≡◌, inl, inr, ℕ, ◌+◌, ◌<◌, ◌≤◌, Bool, true, false, cond, eqb, not, ◌&&◌, [], ◌∷◌, List, Option, Some, None, refl, sym, ap, subst, ◌∙◌, arith}
use Rattle.std.specs.Prelude.{find, is_some, IsTrue, nat_lt}
use Rattle.std.specs.List.{All}
use Rattle.std.specs.Option.{option_map_or}
use Rattle.std.proofs.lemmas.Bool.{and_parts, lt-ltb}
use Rattle.std.proofs.lemmas.List.Elements.{All-head, All-tail}
use Rattle.index_block.specs.Bitmap.{free_count, is_free_in}
use Rattle.label_codec.specs.declared.label.Label.{Label}
use Rattle.label_codec.specs.ModuleLabels.{IsBounded, Labels, number}
use Rattle.label_area.specs.Flips.{Standing, is_among}
use Rattle.region_map.specs.declared.platform.Platform.{Platform}
use Rattle.label_table.specs.Fates.{is_dead}
use Rattle.label_table.proofs.ListTests.{both, never}
use Rattle.region_labels.specs.declared.modules.LoadedModule.{LoadedModule}
use Rattle.region_labels.specs.declared.modules.ModuleArea.{ModuleArea}
use Rattle.region_labels.specs.declared.modules.ModuleArea.TheVariants.{Missing, WrongSize, Uninit, Foreign, Ready}
use Rattle.region_labels.specs.Held.{spare_in}
use Rattle.region_labels.specs.Modules.{is_of, labels_in, module_in, module_or_missing}
use Rattle.region_labels.specs.SlotLabels.{slot_labels}
use Rattle.module_flips.specs.Flips.{CanFree, HasLabelsInUse, IsOwn, IsReadyArea, is_used_in, standing_in, with_free}
use Rattle.module_flips.specs.Together.{free_slots}
use Rattle.module_flips.proofs.Freed.{used-within}
use Rattle.module_flips.specs.Sweeps.{IsSwept, is_unwanted, unwanted_slots}
use Rattle.module_flips.proofs.Slots.{among-from, among-true, below-apart, passing}
use Rattle.module_flips.proofs.Swept.{free-or-passing, no-junk, none-passes}

apart : {A : Type 0} → false ≡ true → A
apart e = absurd cc

-- no module has a live label past its slots
pub all-bounded : (ms : List LoadedModule) → All HasLabelsInUse ms → IsBounded (labels_in ms)
all-bounded ms all = record { past = at ms all }
  where
    none : (m : LoadedModule) → HasLabelsInUse m → (slot : ℕ) → (module_in m).slots ≤ slot → (o : Option Label) → (module_in m).at slot ≡ o → (module_in m).at slot ≡ None
    none m in_use slot le None is = is
    none m in_use slot le (Some l) is = let lt : slot < (module_in m).slots = used-within m.area m.dimm slot (in_use slot l is) in absurd (omega arith)

    at : (xs : List LoadedModule) → All HasLabelsInUse xs → (handle slot : ℕ) → (labels_in xs handle).slots ≤ slot → (labels_in xs handle).at slot ≡ None
    at [] uses handle slot le = refl
    at (y ∷ ys) uses handle slot le = by (eqb y.dimm handle) (at ys (All-tail HasLabelsInUse y ys uses) handle slot) le
      where
        by : (b : Bool) → ((labels_in ys handle).slots ≤ slot → (labels_in ys handle).at slot ≡ None) → (module_or_missing (cond b (Some y) (find (is_of handle) ys))).slots ≤ slot
            → (module_or_missing (cond b (Some y) (find (is_of handle) ys))).at slot ≡ None
        by true rest here = none y (All-head HasLabelsInUse y ys uses) slot here ((module_in y).at slot) refl
        by false rest here = rest here

free-unless : (within free some : Bool) → within ≡ true → (within && not free) ≡ some → free ≡ not some
free-unless true true some w e = ap not e
free-unless true false some w e = ap not e
free-unless false free some w e = apart w

-- A module with neither junk nor dead labels has as many free slots as it has spare ones.
free-is-spare : (P : Platform) (L : Labels) (dimm : ℕ) (stored : ModuleArea) → ((k : ℕ) → is_used_in (record { dimm = dimm; area = stored }) k ≡ is_some ((module_in (record { dimm = dimm; area = stored })).at k))
    → ((k : ℕ) (l : Label) → (module_in (record { dimm = dimm; area = stored })).at k ≡ Some l → is_dead P L dimm l ≡ false)
    → free_slots (record { dimm = dimm; area = stored }) ≡ spare_in P L (record { dimm = dimm; area = stored })
free-is-spare P L dimm Missing junk dead = refl
free-is-spare P L dimm (WrongSize size) junk dead = refl
free-is-spare P L dimm (Uninit size) junk dead = refl
free-is-spare P L dimm (Foreign size) junk dead = refl
free-is-spare P L dimm (Ready area) junk dead =
    let n : ℕ = area.geometry.slots in
    let m : LoadedModule = record { dimm = dimm; area = Ready area } in
    let all : number (λ l. not (is_dead P L dimm l)) (module_in m) + free_count area.free n ≡ n = free-or-passing area.free (module_in m).at (λ l. not (is_dead P L dimm l)) n (λ k lt. free-unless (nat_lt k n) (is_free_in area.free k) (is_some ((module_in m).at k)) (lt-ltb k n lt) (junk k)) (λ k l at. ap not (dead k l at)) in
    omega (arith, all)

module _ (here : LoadedModule) (in_use : HasLabelsInUse here) (test : Label → Bool) where
  live : (k : ℕ) → is_some ((module_in here).at k) ≡ true → is_used_in here k ≡ true
  live k some = by ((module_in here).at k) refl some
    where
      by : (o : Option Label) → (module_in here).at k ≡ o → is_some o ≡ true → is_used_in here k ≡ true
      by None e is = apart is
      by (Some l) e is = in_use k l e

  -- it is swept, where no label is dead afterwards but what passes the test
  pub swept : (P : Platform) (L_now : Labels) (now : LoadedModule) → now.dimm ≡ here.dimm → ((l : Label) → test l ≡ false → is_dead P L_now here.dimm l ≡ false)
      → standing_in now ≡ with_free (unwanted_slots test here) (standing_in here) → IsSwept P L_now now
  swept P L_now now dimm dead freed =
      let junk : (k : ℕ) → is_used_in now k ≡ is_some ((module_in now).at k) = λ k.
      subst (λ (s : Standing). s.used k ≡ is_some (s.labels.at k)) (sym freed) (no-junk (standing_in here) test live (used-within here.area here.dimm) k) in
      let gone : (k : ℕ) (l : Label) → (module_in now).at k ≡ Some l → is_dead P L_now now.dimm l ≡ false = λ k l at.
      ap (λ d. is_dead P L_now d l) dimm
      ∙ dead l (none-passes (standing_in here) test live (used-within here.area here.dimm) k l (sym (ap (λ (s : Standing). s.labels.at k) freed) ∙ at)) in
      record { no_junk = junk; no_dead = gone; free = free-is-spare P L_now now.dimm now.area junk gone }

  -- the slots can be freed
  pub can-free : IsReadyArea here.area → IsOwn here → CanFree here (unwanted_slots test here) (slot_labels (module_in here) (unwanted_slots test here))
  can-free ready own = record {
    ready = ready;
    own = own;
    in_use = in_use;
    used = passing (is_unwanted test here) (λ slot. IsTrue (is_used_in here slot)) (λ k e. (and_parts _ _ e).0) (module_in here).slots;
    apart = below-apart (is_unwanted test here) (module_in here).slots;
    labels = refl;
  }

  -- a slot with a label is one of these exactly where the label passes
  pub among-label : (k : ℕ) (l : Label) → (module_in here).at k ≡ Some l → is_among (unwanted_slots test here) k ≡ test l
  among-label k l at = elim (both (test l)) [
    | inl passes ↦
        among-from (is_unwanted test here) (module_in here).slots k (used-within here.area here.dimm k (in_use k l at)) (is ∙ passes) ∙ sym passes
    | inr fails ↦ elim (both (is_among (unwanted_slots test here) k)) [
      | inl among ↦ never (is_unwanted test here k) (among-true (is_unwanted test here) (module_in here).slots k among).1 (is ∙ fails)
      | inr not_among ↦ not_among ∙ sym fails
    ]
  ]
    where
      is : is_unwanted test here k ≡ test l
      is = λ i. in_use k l at i && option_map_or test (at i) true
