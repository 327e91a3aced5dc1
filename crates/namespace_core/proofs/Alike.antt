-- Sessions of the same modules, and areas that are as a session keeps them.
use Rattle.std.proofs.Common.{◌≡◌, ◌<◌, ℕ, Bool, true, false, cond, eqb, find, get_or, length, List, [], ◌∷◌, map, Option, Some, None, refl, sym, ap, subst, ◌∙◌}
use Rattle.std.specs.List.{All}
use Rattle.std.specs.Option.{option_and_then}
use Rattle.std.proofs.lemmas.List.{get_or-map, length-map}
use Rattle.rig_trait.specs.declared.shown.Shown.{Ghosts}
use Rattle.rig_trait.specs.Areas.{Areas, SizesKept}
use Rattle.rig_trait.specs.Areas as stored
use Rattle.label_table.specs.Tables.{table}
use Rattle.region_labels.specs.declared.modules.LoadedModule.{LoadedModule}
use Rattle.region_labels.specs.Modules.{dimm_of, is_of, size_in}
use Rattle.module_flips.specs.Stored.{StandsIn, stored_labels}
use Rattle.module_flips.proofs.Stored.{stands-sized}
use Rattle.label_sets.specs.Init.{slots_by_size}
use Rattle.namespace_core.specs.Sessions.{HasSizes, HasTable, IsAlike, IsCurrent, StoredSession, slots_of, state_of, stored_slots}

-- The size of each area is kept by the handles and the sizes of the modules.
size-by : List ℕ → List (Option ℕ) → ℕ → Option ℕ
size-by [] sizes handle = None
size-by (dimm ∷ dimms) [] handle = None
size-by (dimm ∷ dimms) (size ∷ sizes) handle = cond (eqb dimm handle) size (size-by dimms sizes handle)

size-kept : (modules : List LoadedModule) (handle : ℕ) → option_and_then size_in (find (is_of handle) modules) ≡ size-by (map dimm_of modules) (map size_in modules) handle
unfolding size-by
size-kept [] handle = refl
size-kept (x ∷ xs) handle = by (size-kept xs handle) (eqb x.dimm handle)
  where
    by : option_and_then size_in (find (is_of handle) xs) ≡ size-by (map dimm_of xs) (map size_in xs) handle
        → (b : Bool) → option_and_then size_in (cond b (Some x) (find (is_of handle) xs)) ≡ cond b (size_in x) (size-by (map dimm_of xs) (map size_in xs) handle)
    by rest true = refl
    by rest false = rest

-- they have room for as many slots
pub slots-alike : (session now : StoredSession) → IsAlike session now → slots_of now ≡ slots_of session
slots-alike session now alike i handle = slots_by_size (same i)
  where
    same : option_and_then size_in (find (is_of handle) now.sets.modules) ≡ option_and_then size_in (find (is_of handle) session.sets.modules)
    same = size-kept now.sets.modules handle ∙ (λ j. size-by (alike.dimms j) (alike.sizes j) handle) ∙ sym (size-kept session.sets.modules handle)

-- lists that show the same are of one length, and show the same at each place
same-length : {A : Type 0} (f : LoadedModule → A) (ms now : List LoadedModule) → map f now ≡ map f ms → length now ≡ length ms
same-length f ms now same = sym (length-map now f) ∙ ap length same ∙ length-map ms f

same-at : {A : Type 0} (f : LoadedModule → A) (e : A) (ms now : List LoadedModule) → map f now ≡ map f ms → (k : ℕ) (d : LoadedModule) → k < length ms → f (get_or now k d) ≡ f (get_or ms k d)
same-at f e ms now same k d lt =
    sym (get_or-map f now k d e (subst (λ n. k < n) (sym (same-length f ms now same)) lt)) ∙ ap (λ xs. get_or xs k e) same ∙ get_or-map f ms k d e lt

-- the rig still has areas of the sizes that are shown
pub sized-alike : (session now : StoredSession) (areas areas_now : Areas) → IsAlike session now → SizesKept areas areas_now → HasSizes session areas → HasSizes now areas_now
sized-alike session now areas areas_now alike kept all k d lt =
    let ms = session.sets.modules in
    let k_lt : k < length ms = subst (λ n. k < n) (same-length dimm_of ms now.sets.modules alike.dimms) lt in
    kept (get_or now.sets.modules k d).dimm ∙ ap (stored.size_in areas) (same-at dimm_of 0 ms now.sets.modules alike.dimms k d k_lt) ∙ all k d k_lt ∙ sym (same-at size_in None ms now.sets.modules alike.sizes k d k_lt)

module _ {R : Type 0} {m : Ghosts R} where
  -- what is kept is what the areas stand for
  pub table-is : (rig : R) (session : StoredSession) (areas : Areas) → IsCurrent m rig session → areas ≡ m.areas rig → HasTable session.platform (state_of session) areas
  table-is rig session areas current same =
      ap (λ (a : Areas). table session.platform (stored_labels session.platform.modules a)) same ∙ ap (table session.platform) (sym current.labels_are)

  -- they have the sizes that it shows
  pub sized-current : (rig : R) (session : StoredSession) → IsCurrent m rig session → HasSizes session (m.areas rig)
  sized-current rig session current k d lt = stands-sized (m.areas rig) _ (current.stands k d lt)

  -- it is so behind calls that leave all areas
  pub still-current : {old new : R} (session : StoredSession) → m.tells new ≡ m.tells old → m.areas new ≡ m.areas old → IsCurrent m old session → IsCurrent m new session
  still-current session tells same current = record {
    told = tells ∙ current.told;
    stands = subst (λ (a : Areas). All (StandsIn a) session.sets.modules) (sym same) current.stands;
    labels_are = current.labels_are ∙ ap (stored_labels session.platform.modules) (sym same);
    slots_are = current.slots_are ∙ ap (stored_slots session.platform.modules) (sym same);
  }
