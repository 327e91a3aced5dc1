-- The held labels of a module, or why they are not listed.
use Rattle.std.proofs.Common.{◌≡◌, ◌≢◌, ℕ, ◌==◌, ◌⊎◌, inl, inr, true, false, List, [], ◌∷◌, map, find, is_some, if◌then◌else◌, Option, Some, None, refl, sym, ap, subst, ◌∙◌}
use Rattle.std.specs.List.{list_any}
use Rattle.std.specs.List.Sorted.{IsPermutation}
use Rattle.view_types.specs.declared.refusal.Refusal.TheVariants.{NotReady, UnknownDimm}
use Rattle.view_types.specs.declared.reply.Reply.TheVariants.{HeldList, Refused}
use Rattle.view_types.specs.declared.states.AreaState.{AreaState}
use Rattle.view_types.specs.declared.states.AreaState.TheVariants as states
use Rattle.view_types.specs.declared.states.Status.TheVariants.{Area}
use Rattle.view_types.specs.declared.views.ModuleView.{ModuleView}
use Rattle.label_codec.specs.declared.kind.AreaKind.{AreaKind}
use Rattle.label_codec.specs.declared.kind.AreaKind.TheVariants as kind
use Rattle.label_codec.specs.ModuleLabels.{Module, is_ready}
use Rattle.region_map.specs.declared.platform.Platform.{Platform}
use Rattle.region_map.specs.declared.platform.Region.{Region}
use Rattle.label_table.proofs.ListTests.{both, eq_true, find-some}
use Rattle.label_table.specs.Fates.{spare}
use Rattle.region_labels.specs.declared.modules.LoadedModule.{LoadedModule}
use Rattle.region_labels.specs.Fates.{with_regions}
use Rattle.region_labels.specs.Held.{held_below, spare_in}
use Rattle.region_labels.specs.Modules.{dimm_of, is_of, module_in, module_or_missing}
use Rattle.region_labels.specs.Statuses.{unready_state}
use Rattle.label_sets.specs.Sets.{StoredSets, labels_in, platform_in}
use Rattle.label_sets.specs.Views.{IsModuleView, IsModuleViewOf}
use Rattle.table_steps.specs.Refusals.{area_by}
use Rattle.namespace_commands.specs.Lists.{IsHeld, IsStateOf}

-- a module is known by its handle where it is found
known_where : (dimm : ℕ) (modules : List LoadedModule) → list_any (λ handle. handle == dimm) (map dimm_of modules) ≡ is_some (find (is_of dimm) modules)
known_where dimm [] = refl
known_where dimm (loaded ∷ modules) = by (both (is_of dimm loaded)) (known_where dimm modules)
  where
    by : (is_of dimm loaded ≡ true) ⊎ (is_of dimm loaded ≡ false) → list_any (λ handle. handle == dimm) (map dimm_of modules) ≡ is_some (find (is_of dimm) modules)
        → list_any (λ handle. handle == dimm) (map dimm_of (loaded ∷ modules)) ≡ is_some (find (is_of dimm) (loaded ∷ modules))
    by (inl is) more = rw is refl
    by (inr other) more = rw other more

-- what a state tells of the kind of an area
pub record IsReadyState (k : AreaKind) (left spare : ℕ) : Type 0 where
  pub ready : k ≡ kind.Ready
  pub spare_is : left ≡ spare

ready_state : (k : AreaKind) (all left slots spare : ℕ) → (if is_ready k then states.Ready all left else unready_state k) ≡ states.Ready slots spare → IsReadyState k left spare
ready_state kind.Ready all left slots spare is = record { ready = refl; spare_is = cc }
ready_state kind.Missing all left slots spare is = absurd cc
ready_state kind.WrongSize all left slots spare is = absurd cc
ready_state kind.Uninit all left slots spare is = absurd cc
ready_state kind.Foreign all left slots spare is = absurd cc

unready_refusal : (dimm : ℕ) (k : AreaKind) (all left : ℕ) (state : AreaState) → state ≡ (if is_ready k then states.Ready all left else unready_state k) → ((slots spare : ℕ) → state ≢ states.Ready slots spare)
    → area_by dimm k ≡ Some (NotReady (Area dimm state))
unready_refusal dimm kind.Ready all left state is other = absurd (other all left is)
unready_refusal dimm kind.Missing all left state is other = rw is refl
unready_refusal dimm kind.WrongSize all left state is other = rw is refl
unready_refusal dimm kind.Uninit all left state is other = rw is refl
unready_refusal dimm kind.Foreign all left state is other = rw is refl

module _ (platform : Platform) (sets : StoredSets) (dimm : ℕ) (state : IsStateOf platform sets) where
  known_in : list_any (λ handle. handle == dimm) platform.modules ≡ is_some (find (is_of dimm) sets.modules)
  known_in = ap (list_any (λ handle. handle == dimm)) (sym state.modules) ∙ known_where dimm sets.modules

  unknown : find (is_of dimm) sets.modules ≡ None → IsHeld platform (labels_in sets) dimm (Refused (UnknownDimm dimm))
  unknown none =
      let no : list_any (λ handle. handle == dimm) platform.modules ≡ false = known_in ∙ ap is_some none in
      rw no refl

  pub unknown_module : IsModuleViewOf (platform_in sets) (labels_in sets) (find (is_of dimm) sets.modules) None → IsHeld platform (labels_in sets) dimm (Refused (UnknownDimm dimm))
  unknown_module views = by (find (is_of dimm) sets.modules) refl views
    where
      by : (found : Option LoadedModule) → find (is_of dimm) sets.modules ≡ found → IsModuleViewOf (platform_in sets) (labels_in sets) found None → IsHeld platform (labels_in sets) dimm (Refused (UnknownDimm dimm))
      by None is none = unknown is
      by (Some loaded) is none = absurd none

  -- the view of a module of the platform
  pub record IsKnownModule (view : ModuleView) : Type 0 where
    pub loaded : LoadedModule
    pub known : list_any (λ handle. handle == dimm) platform.modules ≡ true
    pub handle : loaded.dimm ≡ dimm
    pub there : labels_in sets dimm ≡ module_in loaded
    pub shows : IsModuleView (with_regions platform.regions) (labels_in sets) loaded view

  pub known_module : (view : ModuleView) → IsModuleViewOf (platform_in sets) (labels_in sets) (find (is_of dimm) sets.modules) (Some view) → IsKnownModule view
  known_module view views = by (find (is_of dimm) sets.modules) refl views
    where
      by : (found : Option LoadedModule) → find (is_of dimm) sets.modules ≡ found → IsModuleViewOf (platform_in sets) (labels_in sets) found (Some view) → IsKnownModule view
      by None is shows = absurd shows
      by (Some loaded) is shows = record {
        loaded = loaded;
        known = known_in ∙ ap is_some is;
        handle = eq_true loaded.dimm dimm (find-some (is_of dimm) sets.modules loaded is).1;
        there = ap module_or_missing is;
        shows = subst (λ (regions : List Region). IsModuleView (with_regions regions) (labels_in sets) loaded view) state.regions shows;
      }

  pub held_is : (view : ModuleView) → IsKnownModule view → (slots left : ℕ) → view.state ≡ states.Ready slots left → IsHeld platform (labels_in sets) dimm (HeldList view.held left)
  held_is view m slots left is =
      let area = module_in m.loaded in
      let L = labels_in sets in
      let tells = ready_state area.kind area.slots (spare_in (with_regions platform.regions) L m.loaded) slots left (sym m.shows.state_is ∙ is) in
      let ready : (L dimm).kind ≡ kind.Ready = ap (λ (a : Module). a.kind) m.there ∙ tells.ready in
      let spare_is : left ≡ spare platform L dimm = sym tells.spare_is ∙ rw (← m.there, ← m.handle) refl in
      let same : IsPermutation (held_below platform L dimm (L dimm).at (L dimm).slots) view.held =
      subst (λ (a : Module). IsPermutation (held_below platform L dimm a.at a.slots) view.held) (sym m.there)
      (subst (λ (handle : ℕ). IsPermutation (held_below platform L handle area.at area.slots) view.held) m.handle m.shows.held_are.same) in
      rw (m.known, ready) (record { held = view.held; held_are = record { same = same; order = m.shows.held_are.order }; reply_is = ap (HeldList view.held) spare_is })

  pub unready_is : (view : ModuleView) → IsKnownModule view → ((slots left : ℕ) → view.state ≢ states.Ready slots left) → IsHeld platform (labels_in sets) dimm (Refused (NotReady (Area dimm view.state)))
  unready_is view m other =
      let area = module_in m.loaded in
      let L = labels_in sets in
      let refusal = unready_refusal dimm area.kind area.slots (spare_in (with_regions platform.regions) L m.loaded) view.state m.shows.state_is other in
      let refused : area_by dimm (L dimm).kind ≡ Some (NotReady (Area dimm view.state)) = ap (λ (a : Module). area_by dimm a.kind) m.there ∙ refusal in
      rw (m.known, refused) refl
