-- What is kept of all modules before the area of one is initialised, and what a stop leaves of them.
use Rattle.std.proofs.Common.{◌≡◌, ◌⊎◌, inl, inr, ℕ, ◌<◌, List, length, get_or, map, Some, refl, sym, ap, subst, ◌∙◌}
use Rattle.std.specs.Prelude.{find}
use Rattle.std.specs.List.{All}
use Rattle.std.specs.Option.{option_and_then, option_map}
use Rattle.std.proofs.lemmas.List.{get_or_default}
use Rattle.rig_trait.specs.declared.shown.Shown.{Ghosts}
use Rattle.rig_trait.specs.Areas.{Areas}
use Rattle.rig_trait.specs.Frames.{LeavesOnly, Reads}
use Rattle.rig_trait.proofs.Frames.{reading}
use Rattle.rig_trait.proofs.Moments.{weakened}
use Rattle.view_types.specs.declared.states.AreaState.TheVariants as state_is
use Rattle.label_codec.specs.ModuleChanges.{with_module}
use Rattle.label_codec.specs.ModuleLabels.{Labels}
use Rattle.label_table.specs.Settling.{IsInitialised}
use Rattle.label_table.specs.Tables.{state}
use Rattle.region_labels.specs.declared.modules.LoadedModule.{LoadedModule}
use Rattle.region_labels.specs.declared.modules.ModuleArea.{ModuleArea}
use Rattle.region_labels.specs.declared.modules.ModuleArea.TheVariants.{Missing, WrongSize, Uninit, Foreign, Ready}
use Rattle.region_labels.specs.Modules.{EachOnce, dimm_of, is_of, size_in, size_of_area}
use Rattle.module_flips.specs.Stored.{StandsIn, stored_labels}
use Rattle.module_flips.specs.Stops.{IsOneOf, LeftIn}
use Rattle.module_flips.proofs.Standing.{stands}
use Rattle.module_flips.proofs.Turned.{no_flip}
use Rattle.label_sets.specs.Init.{initialised_state, slots_at, slots_by_size, state_at, uninit_size, vacant_module}
use Rattle.label_sets.specs.Sets.{StoredSets, labels_in, platform_in, state_in}
use Rattle.label_sets.specs.Views.{area_state}
use Rattle.label_sets.proofs.InitialisedSets.{find-own}

-- the size tells that the area is Uninit
pub uninit-is : (area : ModuleArea) (size : ℕ) → Some size ≡ uninit_size area → area ≡ Uninit size
uninit-is Missing size e = absurd cc
uninit-is (WrongSize n) size e = absurd cc
uninit-is (Uninit n) size e = ap Uninit (same n size e)
  where
    same : (a b : ℕ) → Some b ≡ Some a → a ≡ b
    same a b e = cc
uninit-is (Foreign n) size e = absurd cc
uninit-is (Ready area) size e = absurd cc

-- the module at a seat
module _ (sets : StoredSets) (seat dimm : ℕ) (x : LoadedModule) (once : EachOnce sets.modules) (lt : seat < length sets.modules) (named : (d : LoadedModule) → (get_or sets.modules seat d).dimm ≡ dimm) (is : x ≡ get_or sets.modules seat x) where
  pub at-seat : (d : LoadedModule) → get_or sets.modules seat d ≡ x
  at-seat d = get_or_default sets.modules seat d x lt ∙ sym is

  found : find (is_of dimm) sets.modules ≡ Some x
  found = subst (λ h. find (is_of h) sets.modules ≡ Some (get_or sets.modules seat x)) (named x) (find-own sets.modules seat x once lt) ∙ ap Some (sym is)

  pub state-here : state_at sets dimm ≡ Some (area_state (platform_in sets) (labels_in sets) x)
  state-here = ap (option_map (area_state (platform_in sets) (labels_in sets))) found

  pub slots-here : slots_at sets dimm ≡ slots_by_size (size_in x)
  slots-here = ap (λ o. slots_by_size (option_and_then size_in o)) found

  pub stands-here : (areas : Areas) → All (StandsIn areas) sets.modules → StandsIn areas x
  stands-here areas all = subst (StandsIn areas) (at-seat x) (all seat x lt)

  module _ (size : ℕ) (uninit : x.area ≡ Uninit size) where
    pub uninit-state : state_at sets dimm ≡ Some state_is.Uninit
    uninit-state = state-here ∙ ap (λ a. Some (area_state (platform_in sets) (labels_in sets) (record { dimm = x.dimm; area = a }))) uninit

    pub uninit-slots : slots_at sets dimm ≡ slots_by_size (Some size)
    uninit-slots = slots-here ∙ ap (λ a. slots_by_size (size_of_area a)) uninit

    pub uninit-at : (d : LoadedModule) → (get_or sets.modules seat d).area ≡ Uninit size
    uninit-at d = ap (λ (m : LoadedModule). m.area) (at-seat d) ∙ uninit

-- what a stop leaves: the state before, or another one
module _ (sets : StoredSets) {R : Type 0} (m : Ghosts R) (old new : R) (other : Labels → Type 0) (all : All (StandsIn (m.areas old)) sets.modules) where
  abbrev pub either-state : Labels → Type 0
  either-state labels = (state (platform_in sets) labels ≡ state_in sets) ⊎ other labels

  standing : labels_in sets ≡ stored_labels (map dimm_of sets.modules) (m.areas old)
  standing = stands sets.modules (m.areas old) all

  -- of calls that only read
  pub reads-left : Reads m old new → LeavesOnly m old new (LeftIn (map dimm_of sets.modules) (m.said old) either-state)
  reads-left read = reading (LeftIn (map dimm_of sets.modules) (m.said old) either-state) (λ c same said. record {
    said_is = said;
    labels = λ fair. inl (ap (state (platform_in sets)) (ap (stored_labels (map dimm_of sets.modules)) same ∙ sym standing));
  }) read

  -- of none
  pub none-left : LeavesOnly m old old (LeftIn (map dimm_of sets.modules) (m.said old) either-state)
  none-left = no_flip {m = m} {old = old} (map dimm_of sets.modules) either-state (labels_in sets) standing (inl refl)

-- of an area that is initialised
pub init-state-left : (sets : StoredSets) {R : Type 0} (m : Ghosts R) (old new : R) (dimm slots : ℕ) (handles : List ℕ) (L : Labels) → handles ≡ map dimm_of sets.modules → L ≡ labels_in sets
    → state (platform_in sets) (with_module dimm (vacant_module slots) L) ≡ initialised_state (platform_in sets) dimm slots (state_in sets)
    → LeavesOnly m old new (LeftIn handles (m.said old) (IsOneOf L (with_module dimm (vacant_module slots) L)))
    → LeavesOnly m old new (LeftIn (map dimm_of sets.modules) (m.said old) (λ labels. (state (platform_in sets) labels ≡ state_in sets) ⊎ (state (platform_in sets) labels ≡ initialised_state (platform_in sets) dimm slots (state_in sets))))
init-state-left sets m old new dimm slots handles L same_handles same settled turn =
    subst (λ hs. LeavesOnly m old new (LeftIn hs (m.said old) goal)) same_handles
    (weakened (LeftIn handles (m.said old) (IsOneOf L (with_module dimm (vacant_module slots) L))) (LeftIn handles (m.said old) goal) (λ c left. record {
      said_is = left.said_is;
      labels = λ fair. elim (left.labels fair) [
        | inl e ↦ inl (ap (state (platform_in sets)) (e ∙ same))
        | inr e ↦ inr (ap (state (platform_in sets)) e ∙ settled)
      ];
    }) turn)
  where
    goal : Labels → Type 0
    goal labels = (state (platform_in sets) labels ≡ state_in sets) ⊎ (state (platform_in sets) labels ≡ initialised_state (platform_in sets) dimm slots (state_in sets))

-- the same of what is equal
pub initialised-same : (dimm dimm_too slots slots_too : ℕ) (was was_too now now_too : Labels) → dimm ≡ dimm_too → slots ≡ slots_too → was ≡ was_too → now ≡ now_too → IsInitialised dimm slots was now → IsInitialised dimm_too slots_too was_too now_too
initialised-same dimm dimm_too slots slots_too was was_too now now_too a b c d init =
    subst (λ w. IsInitialised dimm_too slots_too was_too w) d (subst (λ w. IsInitialised dimm_too slots_too w now) c (subst (λ w. IsInitialised dimm_too w was now) b (subst (λ w. IsInitialised w slots was now) a init)))
