-- The region of a range to which no rule applies.
use Rattle.std.proofs.Common.{◌≡◌, ℕ, ◌+◌, ◌*◌, ◌^◌, ◌<◌, ◌≤◌, Bool, true, false, cond, List, Option, Some, None, length, refl}
use Rattle.view_types.specs.declared.rule.Rule.{Rule}
use Rattle.region_map.specs.declared.records.PersistentRange.{PersistentRange}
use Rattle.region_map.specs.declared.records.Part.{Part}
use Rattle.region_map.specs.declared.records.ControlFields.{ControlFields}
use Rattle.region_map.specs.Rules.{capacity_differs, dpa_overlap, empty_range, first_rule, module_twice, no_control, no_mapping, offset_twice, sizes_differ, sum_overflows, too_many_ways}

pub record Passed (parts : List Part) (controls : List ControlFields) (range : PersistentRange) (members : List Part) : Type 0 where
  pub some : no_mapping members ≡ false
  pub few : too_many_ways members ≡ false
  pub not_empty : empty_range range ≡ false
  pub sizes : sizes_differ members ≡ false
  pub capacity : capacity_differs range members ≡ false
  pub ends : sum_overflows range members ≡ false
  pub modules : module_twice members ≡ false
  pub offsets : offset_twice members ≡ false
  pub controlled : no_control controls members ≡ false
  pub apart : dpa_overlap parts members ≡ false

-- a rule that does not apply, and those behind it
next : (applies : Bool) (rule : Rule) (rest : Option Rule) → cond applies (Some rule) rest ≡ None → (applies ≡ false) × (rest ≡ None)
next true rule rest none = cc
next false rule rest none = (refl, none)

pub passed : (parts : List Part) (controls : List ControlFields) (range : PersistentRange) (members : List Part) → first_rule parts controls range members ≡ None → Passed parts controls range members
passed parts controls range members none =
    let a = next (no_mapping members) _ _ none in
    let b = next (too_many_ways members) _ _ a.1 in
    let c = next (empty_range range) _ _ b.1 in
    let d = next (sizes_differ members) _ _ c.1 in
    let e = next (capacity_differs range members) _ _ d.1 in
    let f = next (sum_overflows range members) _ _ e.1 in
    let g = next (module_twice members) _ _ f.1 in
    let h = next (offset_twice members) _ _ g.1 in
    let i = next (no_control controls members) _ _ h.1 in
    let j = next (dpa_overlap parts members) _ _ i.1 in
    record { some = a.0; few = b.0; not_empty = c.0; sizes = d.0; capacity = e.0; ends = f.0; modules = g.0; offsets = h.0; controlled = i.0; apart = j.0 }
