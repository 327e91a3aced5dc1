use Rattle.std.proofs.Common.{◌≡◌, Some, None, length, sym, ap, ◌∙◌, arith}
use Rattle.std.specs.Ordering.{nat_cmp}
use Rattle.std.specs.BTreeMap as tree
use Rattle.byte_ranges.specs.Ranges.{range}
use Rattle.rig_trait.proofs.StoredAreas.{area-areas_of, absent}
use Rattle.rig_trait.proofs.stored_areas.bytes_at.Goals as goal

pub part-requires : goal.part-requires
part-requires c =
    let found : Some c.in-Some.area.now ≡ tree.get nat_cmp c.args.areas.now c.args.dimm = c.in-Some.ensures.value in
    omega (arith, ap length (area-areas_of c.args.areas.now c.args.dimm c.in-Some.area.now found), ap length c.deref.ensures.value, c.requires.fits)

pub returns-in-Some : goal.returns-in-Some
returns-in-Some c =
    let found : Some c.in-Some.area.now ≡ tree.get nat_cmp c.args.areas.now c.args.dimm = c.in-Some.ensures.value in
    c.part.ensures ∙ ap (λ bytes. range bytes c.args.at c.args.len) (c.deref.ensures.value ∙ sym (area-areas_of c.args.areas.now c.args.dimm c.in-Some.area.now found))

pub returns-in-None : goal.returns-in-None
returns-in-None c =
    let none : tree.get nat_cmp c.args.areas.now c.args.dimm ≡ None = sym c.in-None.ensures.value in
    absurd (absent c.args.areas.now c.args.dimm none c.requires.is_area)
