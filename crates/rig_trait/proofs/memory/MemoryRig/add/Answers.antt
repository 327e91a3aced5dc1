use Rattle.rig_trait.proofs.StoredAreas.{areas_of-inserted}
use Rattle.rig_trait.proofs.memory.MemoryRig.add.Goals as goal

pub returns-clause-ok : goal.returns-clause-ok
returns-clause-ok c =
    rw (← c.self.view_is, areas_of-inserted c.self.inside.areas c.insert.new.self c.args.dimm c.args.bytes c.in_ok-insert.ensures.updates.0)
