-- The memory that a rig over files has taken.
use Rattle.std.specs.Prelude.{◌≤◌, vec_capacity}
use Rattle.rig_trait.specs.Files.{HasRoom}
use Rattle.rig_trait.specs.declared.files.TheConstants.{MOST_OPEN}
use Rattle.rig_trait.specs.declared.files.FileRig.TheInside.{Inside}

-- enough for the path of any area's file, and for all files that stay open
pub record IsRoomy (rig : Inside) : Type 0 where
  pub path : HasRoom rig.path rig.folder_len
  pub files : MOST_OPEN ≤ vec_capacity rig.open
