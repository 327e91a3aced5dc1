-- The modules after one area has changed.
use Rattle.std.proofs.Common.{◌≡◌, ◌≢◌, inl, inr, ℕ, zero, suc, ◌<◌, Bool, true, false, cond, eqb, List, [], ◌∷◌, length, get_or, Some, refl, sym, ap, subst, ◌∙◌, eq-eqb, arith}
use Rattle.std.specs.Prelude.{find, map}
use Rattle.std.proofs.lemmas.Bool.{cases_eq, cond-false, cond-true, ne_eqb}
use Rattle.std.proofs.lemmas.List.{ext_get_or, get_or-map, get_or-set_other, get_or-set_same}
use Rattle.std.proofs.Math.ListN.{length-set, set}
use Rattle.region_map.specs.declared.platform.Member.{Member}
use Rattle.label_codec.specs.ModuleChanges.{with_module}
use Rattle.region_labels.specs.declared.modules.LoadedModule.{LoadedModule}
use Rattle.region_labels.specs.declared.region.RegionLabels.{RegionLabels}
use Rattle.region_labels.specs.Modules.{EachOnce, dimm_of, is_of, labels_in, module_in, module_or_missing}
use Rattle.region_labels.specs.Regions.{AreSeatsOf, IsOver, handles}
use Rattle.region_labels.proofs.Seated.{own-labels}
use Rattle.uuid_index.specs.Labels.{IsIndex}
use Rattle.region_labels.specs.Changes.{IsChangedAt, dimm_at}

-- a module that is written over
pub changed-set : (modules : List LoadedModule) (seat : ℕ) (loaded : LoadedModule) → seat < length modules
    → ((d : LoadedModule) → loaded.dimm ≡ (get_or modules seat d).dimm) → IsChangedAt modules (set modules seat loaded) seat
changed-set modules seat loaded lt same = record {
  within = lt;
  each = length-set modules seat loaded;
  dimm = λ d. ap dimm_of (get_or-set_same modules seat loaded d lt) ∙ same d;
  others = λ k d differ. get_or-set_other modules seat k loaded d differ;
}

-- the module at the seat is the one with its handle
pub dimm-at : (modules : List LoadedModule) (seat : ℕ) (d : LoadedModule) → seat < length modules
    → dimm_at modules seat ≡ (get_or modules seat d).dimm
dimm-at modules seat d lt = get_or-map dimm_of modules seat d 0 lt

pub labels-at : (modules : List LoadedModule) (seat : ℕ) (d : LoadedModule) → EachOnce modules → seat < length modules
    → labels_in modules (dimm_at modules seat) ≡ module_in (get_or modules seat d)
labels-at modules seat d once lt = ap (labels_in modules) (dimm-at modules seat d lt) ∙ own-labels modules seat d once lt

-- the other modules keep their labels
pub labels-others : (xs ys : List LoadedModule) (seat : ℕ) → IsChangedAt xs ys seat → (handle : ℕ)
    → handle ≢ dimm_at xs seat → labels_in ys handle ≡ labels_in xs handle
labels-others [] ys seat changed handle differ = absurd (let lt : seat < 0 = changed.within in omega arith)
labels-others (x ∷ xs) [] seat changed handle differ = absurd (let e : 0 ≡ suc (length xs) = changed.each in omega arith)
labels-others (x ∷ xs) (y ∷ ys) zero changed handle differ =
    let other : eqb x.dimm handle ≡ false = ne_eqb x.dimm handle (λ e. differ (sym e)) in
    let dimm : y.dimm ≡ x.dimm = changed.dimm x in
    let same : ys ≡ xs = ext_get_or x ys xs
    (let e : suc (length ys) ≡ suc (length xs) = changed.each in omega arith)
    (λ i lt. changed.others (suc i) x (omega arith)) in
    ap module_or_missing (cond-false (eqb y.dimm handle) _ _ (ap (λ h. eqb h handle) dimm ∙ other)
    ∙ ap (find (is_of handle)) same ∙ sym (cond-false (eqb x.dimm handle) _ _ other))
labels-others (x ∷ xs) (y ∷ ys) (suc seat) changed handle differ =
    subst (λ (z : LoadedModule). labels_in (z ∷ ys) handle ≡ labels_in (x ∷ xs) handle)
    (sym (changed.others 0 x (omega arith))) (by (labels-others xs ys seat tails handle differ) (eqb x.dimm handle))
  where
    tails : IsChangedAt xs ys seat
    tails = record {
      within = let lt : suc seat < suc (length xs) = changed.within in omega arith;
      each = let e : suc (length ys) ≡ suc (length xs) = changed.each in omega arith;
      dimm = changed.dimm;
      others = λ k d ne. changed.others (suc k) d (omega arith);
    }

    by : labels_in ys handle ≡ labels_in xs handle → (b : Bool) → module_or_missing (cond b (Some x) (find (is_of handle) ys))
        ≡ module_or_missing (cond b (Some x) (find (is_of handle) xs))
    by rest true = refl
    by rest false = rest

module _ (before after : List LoadedModule) (seat : ℕ) (changed : IsChangedAt before after seat) where
  pub dimm-same : (k : ℕ) (d : LoadedModule) → (get_or after k d).dimm ≡ (get_or before k d).dimm
  dimm-same k d = elim (cases_eq k seat) [
    | inl e ↦ subst (λ s. (get_or after s d).dimm ≡ (get_or before s d).dimm) (sym e) (changed.dimm d)
    | inr differ ↦ ap dimm_of (changed.others k d differ)
  ]

  -- the handles stay
  pub handles-same : map dimm_of after ≡ map dimm_of before
  handles-same = by before after changed.each dimm-same
    where
      by : (xs ys : List LoadedModule) → length ys ≡ length xs
          → ((k : ℕ) (d : LoadedModule) → (get_or ys k d).dimm ≡ (get_or xs k d).dimm)
          → map dimm_of ys ≡ map dimm_of xs
      by [] [] e same = refl
      by [] (y ∷ ys) e same = absurd (omega arith)
      by (x ∷ xs) [] e same = absurd (omega arith)
      by (x ∷ xs) (y ∷ ys) e same =
          let rest : map dimm_of ys ≡ map dimm_of xs = by xs ys (omega arith) (λ k d. same (suc k) d) in
          let here : y.dimm ≡ x.dimm = same 0 x in
          λ i. here i ∷ rest i

  pub once-after : EachOnce before → EachOnce after
  once-after once = record {
    apart = λ i j d lt below e. once.apart i j d lt (subst (λ n. j < n) changed.each below)
        (sym (dimm-same i d) ∙ e ∙ dimm-same j d);
  }

  pub dimm_at-same : dimm_at after seat ≡ dimm_at before seat
  dimm_at-same = ap (λ hs. get_or hs seat 0) handles-same

  pub seats-after : (members : List Member) (seats : List ℕ) → AreSeatsOf before members seats
      → AreSeatsOf after members seats
  seats-after members seats are = record {
    each = are.each;
    within = λ position lt. subst (λ n. get_or seats position 0 < n) (sym changed.each) (are.within position lt);
    is = λ position d e lt. dimm-same (get_or seats position 0) d ∙ are.is position d e lt;
  }

  -- what is kept of a region stands over them when its index does
  pub over-after : (old new : RegionLabels) → IsOver before old → new.region ≡ old.region → new.seats ≡ old.seats
      → IsIndex (handles old.region) (labels_in after) new.index.entries → IsOver after new
  over-after old new over region seats index = record {
    once = once-after over.once;
    seats = subst (λ r. AreSeatsOf after r.members new.seats.items) (sym region)
        (subst (λ s. AreSeatsOf after old.region.members s.items) (sym seats)
        (seats-after old.region.members old.seats.items over.seats));
    index = subst (λ r. IsIndex (handles r) (labels_in after) new.index.entries) (sym region) index;
  }

-- The labels are those before with one module changed.
pub labels-after : (before after : List LoadedModule) (seat : ℕ) (d : LoadedModule) → EachOnce before
    → IsChangedAt before after seat
    → labels_in after ≡ with_module (dimm_at before seat) (module_in (get_or after seat d)) (labels_in before)
labels-after before after seat d once changed = λ i handle. at handle i
  where
    dimm : ℕ
    dimm = dimm_at before seat

    here : labels_in after dimm ≡ module_in (get_or after seat d)
    here = ap (labels_in after) (sym (dimm_at-same before after seat changed))
        ∙ labels-at after seat d (once-after before after seat changed once)
        (subst (λ n. seat < n) (sym changed.each) changed.within)

    at : (handle : ℕ) → labels_in after handle ≡ with_module dimm (module_in (get_or after seat d)) (labels_in before) handle
    at handle = elim (cases_eq handle dimm) [
      | inl e ↦ ap (labels_in after) e ∙ here ∙ sym (cond-true (eqb handle dimm) _ _ (eq-eqb handle dimm e))
      | inr differ ↦ labels-others before after seat changed handle differ
          ∙ sym (cond-false (eqb handle dimm) _ _ (ne_eqb handle dimm differ))
    ]
