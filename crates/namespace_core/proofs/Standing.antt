-- How many slots the areas of the modules have room for, as it is kept and as they stand.
use Rattle.std.proofs.Common.{◌≡◌, ℕ, Bool, true, false, cond, eqb, List, [], ◌∷◌, Option, Some, None, find, length, map, option_map, Err, refl, sym, ap, ◌∙◌, eqb-true, ◌||◌}
use Rattle.std.specs.FinMap.{get}
use Rattle.std.specs.List.{All, list_any}
use Rattle.std.specs.Option.{option_and_then}
use Rattle.std.proofs.lemmas.List.Elements.{All-head, All-tail}
use Rattle.rig_trait.specs.declared.shown.Shown.{Ghosts}
use Rattle.rig_trait.specs.Areas.{Areas}
use Rattle.rig_trait.specs.Frames.{IsTold}
use Rattle.label_area.specs.Flips.{is_among}
use Rattle.label_area.specs.Inits as area
use Rattle.region_map.specs.declared.platform.Platform.{Platform}
use Rattle.region_labels.specs.declared.modules.LoadedModule.{LoadedModule}
use Rattle.region_labels.specs.Modules.{dimm_of, is_of, size_in}
use Rattle.module_flips.specs.Stored.{StandsIn}
use Rattle.module_flips.proofs.Stored.{stands-sized}
use Rattle.label_sets.specs.Init.{slots_at, slots_by_size}
use Rattle.label_sets.specs.Sets.{StoredSets}
use Rattle.namespace_commands.specs.Lists.{IsStateOf}
use Rattle.cmd_words.specs.declared.parts.Part.{Part}
use Rattle.cmd_words.specs.declared.parts.Part.TheVariants.{Change, Query, Translation}
use Rattle.namespace_core.specs.declared.faults.RunFault.{RunFault}
use Rattle.namespace_core.specs.declared.faults.RunFault.TheVariants.{Area, Memory, Spent}
use Rattle.namespace_core.specs.Commands.{may_change, written_by}
use Rattle.namespace_core.specs.Faults.{IsRunAt, is_area}
use Rattle.namespace_core.specs.Sessions.{IsCurrent, StoredSession, stored_slots}
use Rattle.namespace_commands.proofs.InitEnds.{standing}

slots-of-size : (stored : Option (List ℕ)) → slots_by_size (option_map length stored) ≡ area.slots_of stored
slots-of-size None = refl
slots-of-size (Some bytes) = refl

slots-in : (xs : List LoadedModule) (areas : Areas) → All (StandsIn areas) xs → (handle : ℕ)
    → slots_by_size (option_and_then size_in (find (is_of handle) xs)) ≡ stored_slots (map dimm_of xs) areas handle
slots-in [] areas all handle = refl
slots-in (x ∷ xs) areas all handle = by (slots-in xs areas (All-tail (StandsIn areas) x xs all) handle) (eqb x.dimm handle) refl
  where
    by : slots_by_size (option_and_then size_in (find (is_of handle) xs)) ≡ stored_slots (map dimm_of xs) areas handle → (b : Bool) → eqb x.dimm handle ≡ b
        → slots_by_size (option_and_then size_in (cond b (Some x) (find (is_of handle) xs))) ≡ cond (b || list_any (λ dimm. eqb dimm handle) (map dimm_of xs)) (area.slots_of (get areas handle)) 0
    by rest true e =
        ap slots_by_size (sym (stands-sized areas x (All-head (StandsIn areas) x xs all))) ∙ slots-of-size (get areas x.dimm) ∙ ap (λ h. area.slots_of (get areas h)) (eqb-true x.dimm handle e)
    by rest false e = rest

pub slots-stand : (P : Platform) (sets : StoredSets) → IsStateOf P sets → (areas : Areas) → All (StandsIn areas) sets.modules → slots_at sets ≡ stored_slots P.modules areas
slots-stand P sets in_P areas all =
    (λ i handle. slots-in sets.modules areas all handle i) ∙ ap (λ (hs : List ℕ). stored_slots hs areas) in_P.modules

-- the areas are those that are kept
pub current-is : {R : Type 0} (m : Ghosts R) (rig : R) (P : Platform) (sets : StoredSets) (spent : Bool) → IsStateOf P sets → IsTold m rig → All (StandsIn (m.areas rig)) sets.modules
    → IsCurrent m rig (record { platform = P; sets = sets; spent = spent })
current-is m rig P sets spent in_P told all = record {
  told = told;
  stands = all;
  labels_are = standing P sets in_P (m.areas rig) all;
  slots_are = slots-stand P sets in_P (m.areas rig) all;
}

-- A command at whose area the rig failed may have written.
pub quiet-area : (P : Platform) (part : Part) (dimm : ℕ) → may_change part (Err (Area dimm)) ≡ false → is_among (written_by P part) dimm ≡ true → ⊥
quiet-area P (Change change) dimm quiet is = let differ : true ≡ false = quiet in cc
quiet-area P (Query query) dimm quiet is = let differ : false ≡ true = is in cc
quiet-area P (Translation translation) dimm quiet is = let differ : false ≡ true = is in cc

abbrev pub session-of : Platform → StoredSets → Bool → StoredSession
session-of P sets spent = record { platform = P; sets = sets; spent = spent }

-- a session is kept where nothing may have changed
pub kept-session : (P : Platform) (sets now : StoredSets) (part : Part) (fault : RunFault) → may_change part (Err fault) ≡ false → (may_change part (Err fault) ≡ false → now ≡ sets)
    → IsRunAt (written_by P part) fault → session-of P now (is_area fault) ≡ session-of P sets false
kept-session P sets now part (Area dimm) quiet kept at = absurd (quiet-area P part dimm quiet at)
kept-session P sets now part Memory quiet kept at = ap (λ (s : StoredSets). session-of P s false) (kept quiet)
kept-session P sets now part Spent quiet kept at = ap (λ (s : StoredSets). session-of P s false) (kept quiet)
