use Rattle.std.proofs.Common.{◌≡◌, Some, None, length, refl, sym, ap, ◌∙◌, arith}
use Rattle.std.proofs.lemmas.List.{with_items_is}
use Rattle.std.specs.Ordering.{nat_cmp}
use Rattle.std.specs.BTreeMap as tree
use Rattle.std.specs.FinMap.{insert}
use Rattle.std.specs.Vec.{with_items}
use Rattle.byte_ranges.specs.Ranges.{patched}
use Rattle.byte_ranges.proofs.Patched.{length-patched}
use Rattle.rig_trait.specs.Memory.{areas_of}
use Rattle.rig_trait.specs.Areas.{area}
use Rattle.rig_trait.proofs.StoredAreas.{area-areas_of, absent, areas_of-inserted}
use Rattle.rig_trait.proofs.stored_areas.put_into.Goals as goal

pub put-requires : goal.put-requires
put-requires c =
    let found : Some c.in-Some.area.now ≡ tree.get nat_cmp c.args.areas.now c.args.dimm = c.in-Some.ensures.value in
    omega (arith, ap length (area-areas_of c.args.areas.now c.args.dimm c.in-Some.area.now found), ap length c.deref_mut.ensures.value, c.requires.fits)

pub returns-in-Some : goal.returns-in-Some
returns-in-Some c =
    let old = c.in-Some.area.now in
    let put = c.args.bytes.now in
    let found : Some old ≡ tree.get nat_cmp c.args.areas.now c.args.dimm = c.in-Some.ensures.value in
    let area_is = area-areas_of c.args.areas.now c.args.dimm old found in
    let put_is : c.put.new.into ≡ patched (area (areas_of c.args.areas.now) c.args.dimm) c.args.at put =
    c.put.ensures ∙ ap (λ bytes. patched bytes c.args.at put) (c.deref_mut.ensures.value ∙ sym area_is) in
    let same_length : length c.put.new.into ≡ old.len =
    ap length put_is ∙ length-patched (area (areas_of c.args.areas.now) c.args.dimm) put c.args.at c.requires.fits ∙ ap length area_is ∙ sym old.ok.0 in
    let new = with_items old c.put.new.into in
    areas_of-inserted c.args.areas.now (c.get_mut.follows.lender new) c.args.dimm new ((c.get_mut.follows.holds new).3 (rw (← found) refl)).0
    ∙ ap (insert (areas_of c.args.areas.now) c.args.dimm) (with_items_is old c.put.new.into same_length ∙ put_is)

pub returns-in_default : goal.returns-in_default
returns-in_default c =
    let none : tree.get nat_cmp c.args.areas.now c.args.dimm ≡ None = sym c.in_default.ensures.value in
    absurd (absent c.args.areas.now c.args.dimm none c.requires.is_area)
