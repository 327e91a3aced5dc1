-- The session with which a run starts.
use Rattle.std.specs.Prelude.{◌≡◌, true, false}
use Rattle.rig_trait.specs.declared.shown.Shown.{Ghosts}
use Rattle.rig_trait.specs.Frames.{FailsAt, IsTold, Reads}
use Rattle.region_map.specs.declared.platform.Platform.{Platform}
use Rattle.namespace_core.specs.Commands.{has_module}
use Rattle.namespace_core.specs.Sessions.{IsCurrent, StoredSession, opens}
use Rattle.run_edges.specs.declared.faults.Fault.{Fault}
use Rattle.run_edges.specs.declared.faults.Fault.TheVariants.{Words, Nfit, Area, Source, Limit, Memory}

-- All areas were read, and nothing was written or said.
pub record HasSession {R : Type 0} (m : Ghosts R) (platform : Platform) (old new : R) (session : StoredSession)
    : Type 0 where
  pub opened : opens platform session
  pub current : IsTold m old → IsCurrent m new session
  pub reads : Reads m old new
  pub faults : FailsAt 0 m old new false

-- the rig failed at the area of a module of the platform, or memory was refused
abbrev pub IsStartFault : {R : Type 0} → Ghosts R → Platform → R → R → Fault → Type 0
IsStartFault m platform old new (Area dimm) = (has_module platform dimm ≡ true) × FailsAt dimm m old new true
IsStartFault m platform old new Memory = FailsAt 0 m old new false
IsStartFault m platform old new (Nfit fault) = ⊥
IsStartFault m platform old new (Source source) = ⊥
IsStartFault m platform old new (Limit source) = ⊥
IsStartFault m platform old new Words = ⊥

-- The areas could not be read, or memory was refused there; nothing was written or said.
pub record HasNoSession {R : Type 0} (m : Ghosts R) (platform : Platform) (old new : R) (fault : Fault) : Type 0 where
  pub reads : Reads m old new
  pub cause : IsStartFault m platform old new fault
