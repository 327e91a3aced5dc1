-- Indexes get room, and keep their entries.
use Rattle.std.proofs.Common.{inl, inr, ℕ, ◌<◌, List, length, get_or, refl, sym, subst, ◌∙◌, arith}
use Rattle.std.specs.List.{All, AllZip}
use Rattle.std.proofs.Math.ListN.{length-set, set}
use Rattle.std.proofs.lemmas.Bool.{cases_eq, cases_lt}
use Rattle.std.proofs.lemmas.List.{get_or-set_other, get_or-set_same, get_or_default}
use Rattle.uuid_index.specs.Labels.{IsIndex}
use Rattle.region_labels.specs.declared.modules.LoadedModule.{LoadedModule}
use Rattle.region_labels.specs.declared.region.RegionLabels.{RegionLabels}
use Rattle.region_labels.specs.Modules.{labels_in}
use Rattle.region_labels.specs.Regions.{AreSeatsOf, IsOver, handles}
use Rattle.region_labels.specs.Rooms.{HasRoom, KeepsEntries}
use Rattle.region_labels.proofs.Looped.{AreChanged, changed-all, zip-by, zip-carry, zip-right}

-- an index that was reserved
pub record IsReserved (old new : RegionLabels) : Type 0 where
  pub kept : KeepsEntries old new
  pub room : HasRoom new

keeps-same : (kept : RegionLabels) → KeepsEntries kept kept
keeps-same kept = record { region = refl; seats = refl; entries = refl; room = omega arith }

keeps-over : (modules : List LoadedModule) (old new : RegionLabels) → KeepsEntries old new → IsOver modules old
    → IsOver modules new
keeps-over modules old new keeps over = record {
  once = over.once;
  seats = subst (λ r. AreSeatsOf modules r.members new.seats.items) (sym keeps.region)
      (subst (λ s. AreSeatsOf modules old.region.members s.items) (sym keeps.seats) over.seats);
  index = subst (λ r. IsIndex (handles r) (labels_in modules) new.index.entries) (sym keeps.region)
      (subst (IsIndex (handles old.region) (labels_in modules)) (sym keeps.entries) over.index);
}

pub zip-over : (old new : List RegionLabels) → AllZip KeepsEntries old new → (modules : List LoadedModule)
    → All (IsOver modules) old → All (IsOver modules) new
zip-over old new zip modules all = zip-carry KeepsEntries (IsOver modules) (IsOver modules) (keeps-over modules) old new zip all

-- all that were reserved
pub reserved-kept : (old now : List RegionLabels) → AreChanged IsReserved old (length old) now → AllZip KeepsEntries old now
reserved-kept old now changed =
    zip-by KeepsEntries old now changed.each (λ k d lt. (changed.done k d lt).kept)

pub reserved-room : (old now : List RegionLabels) → AreChanged IsReserved old (length old) now → All HasRoom now
reserved-room old now changed =
    zip-right IsReserved HasRoom (λ x y reserved. reserved.room) old now (changed-all IsReserved old now changed)

-- those up to the one at which memory was refused
pub refused-kept : (old now : List RegionLabels) (place : ℕ) (new : RegionLabels) → place < length old
    → AreChanged IsReserved old place now → (e : RegionLabels) → KeepsEntries (get_or now place e) new
    → AllZip KeepsEntries old (set now place new)
refused-kept old now place new lt changed e here =
    zip-by KeepsEntries old (set now place new) (length-set now place new ∙ changed.each) (λ k d below. by k d)
  where
    within : place < length now
    within = subst (λ n. place < n) (sym changed.each) lt

    by : (k : ℕ) (d : RegionLabels) → KeepsEntries (get_or old k d) (get_or (set now place new) k d)
    by k d = elim (cases_lt k place) [
      | inl less ↦ subst (KeepsEntries (get_or old k d)) (sym (get_or-set_other now place k new d (omega arith)))
          (changed.done k d less).kept
      | inr le ↦ elim (cases_eq k place) [
        | inl is ↦ subst (λ p. KeepsEntries (get_or old p d) (get_or (set now place new) p d)) (sym is)
            (subst (λ x. KeepsEntries x (get_or (set now place new) place d)) (changed.ahead place d (omega arith))
            (subst (KeepsEntries (get_or now place d)) (sym (get_or-set_same now place new d within))
            (subst (λ x. KeepsEntries x new) (get_or_default now place e d within) here)))
        | inr differ ↦ subst (KeepsEntries (get_or old k d)) (sym (get_or-set_other now place k new d differ))
            (subst (KeepsEntries (get_or old k d)) (sym (changed.ahead k d le)) (keeps-same (get_or old k d)))
      ]
    ]
