use Rattle.std.proofs.Common.{◌≡◌, Some, None, sym}
use Rattle.std.specs.Ordering.{nat_cmp}
use Rattle.std.specs.BTreeMap as tree
use Rattle.rig_trait.proofs.StoredAreas.{get-areas_of}
use Rattle.rig_trait.proofs.memory.MemoryRig.area.Goals as goal

pub returns-in-Some : goal.returns-in-Some
returns-in-Some c =
    let found : tree.get nat_cmp c.self.inside.areas c.args.dimm ≡ Some c.in-Some.bytes.now = sym c.in-Some.ensures.value in
    rw (← c.self.view_is, get-areas_of, found, c.as_slice.ensures.value)

pub returns-in-None : goal.returns-in-None
returns-in-None c =
    let absent : tree.get nat_cmp c.self.inside.areas c.args.dimm ≡ None = sym c.in-None.ensures.value in
    rw (← c.self.view_is, get-areas_of, absent)
