-- What the recovery of a region makes of the state, and where it cannot be made.
use Rattle.std.specs.Prelude.{◌≡◌, ◌≢◌, ℕ, ◌==◌, nat_lt, false, true, List, [], ◌∷◌, Option, None, Some, Result}
use Rattle.std.specs.Prelude.{◌<◌, Err, Ok, count_by, length, if◌then◌else◌}
use Rattle.std.specs.List.{All}
use Rattle.label_codec.specs.ModuleLabels.{Labels}
use Rattle.region_map.specs.declared.platform.Member.{Member}
use Rattle.region_map.specs.declared.platform.Region.{Region}
use Rattle.label_table.specs.Belonging.{member_at}
use Rattle.label_table.specs.Namespaces.{namespaces}
use Rattle.label_table.specs.Spaces.{Space, is_pending}
use Rattle.label_table.specs.Tables.{is_member}
use Rattle.region_labels.specs.declared.modules.LoadedModule.{LoadedModule}
use Rattle.module_flips.specs.declared.flips.AreaFailed.{AreaFailed}
use Rattle.module_flips.specs.Together.{free_slots}
use Rattle.label_sets.specs.Sets.{StoredSets, labels_in, state_in}
use Rattle.label_sets.specs.Sweeps.{IsSweptAt}
use Rattle.recovery.specs.declared.region.RecoverFault.{RecoverFault}
use Rattle.recovery.specs.declared.region.RecoverFault.TheVariants.{Failed, Unhealed}

-- how many namespaces of a region are pending
abbrev pub pending_count : Labels → Region → ℕ
pending_count labels region =
    count_by (λ (space : Space). is_pending labels region space.uuid) (namespaces labels region)

-- the first of some members whose module has no spare slot
abbrev pub first_full : (ℕ → ℕ) → List Member → Option ℕ
first_full spare [] = None
first_full spare (member ∷ members) =
    if spare member.handle == 0 then Some member.handle else first_full spare members

-- where a namespace of the region is pending: the first of its modules that has no spare slot
abbrev pub unhealed_at : StoredSets → Region → Option ℕ
unhealed_at sets region = if nat_lt 0 (pending_count (labels_in sets) region)
    then first_full (state_in sets).table.spare region.members else None

abbrev pub unhealed_of : RecoverFault → Option ℕ
unhealed_of (Unhealed dimm) = Some dimm
unhealed_of (Failed dimm) = None

-- the module that `Unhealed` names
abbrev pub unhealed_by : {T : Type 0} → Result T RecoverFault → Option ℕ
unhealed_by (Ok value) = None
unhealed_by (Err fault) = unhealed_of fault

abbrev pub WhereUnhealed : Type 0 → RecoverFault → Type 0
WhereUnhealed fact (Unhealed dimm) = fact
WhereUnhealed fact (Failed dimm) = Unit {0}

-- a module of the region has as many free slots as the table has spare ones of it
abbrev pub HasSpareFree : StoredSets → Region → LoadedModule → Type 0
HasSpareFree sets region loaded = is_member region loaded.dimm ≡ true
    → free_slots loaded ≡ (state_in sets).table.spare loaded.dimm

-- each module of the region is swept: it has neither junk nor dead labels
abbrev pub AreSwept : StoredSets → Region → Type 0
AreSwept sets region = (position : ℕ) → position < length region.members
    → IsSweptAt sets (member_at region position).handle

-- The table is as before. No namespace of the region is pending, the marks of all other regions are as before, and in
-- each of the region's modules as many slots are free as are spare.
pub record IsRecovered (before after : StoredSets) (region : Region) : Type 0 where
  pub same_table : (state_in after).table ≡ (state_in before).table
  pub none_pending : (uuid : List ℕ) → (state_in after).pending region.index uuid ≡ false
  pub others : (index : ℕ) (uuid : List ℕ) → index ≢ region.index
      → (state_in after).pending index uuid ≡ (state_in before).pending index uuid
  pub free : All (HasSpareFree after region) after.modules

abbrev pub failed_by : RecoverFault → Result Unit AreaFailed
failed_by (Unhealed dimm) = Ok tt
failed_by (Failed dimm) = Err (record { dimm = dimm })

-- the area that failed, where one did
abbrev pub area_failed : {T : Type 0} → Result T RecoverFault → Result Unit AreaFailed
area_failed (Ok value) = Ok tt
area_failed (Err fault) = failed_by fault
