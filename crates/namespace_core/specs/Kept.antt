-- What is kept of a platform and of the areas of its modules.
use Rattle.region_map.specs.Platforms.{IsSound}
use Rattle.namespace_commands.specs.Lists.{IsStateOf}
use Rattle.namespace_core.specs.declared.session.Session.TheInside.{Inside}
use Rattle.namespace_core.specs.Sessions.{StoredSession}

abbrev pub shown : Inside → StoredSession
shown session = record { platform = session.platform; sets = session.sets; spent = session.spent }

-- the platform is that of an NFIT, and what is kept is the state of its modules
pub record IsKept (session : Inside) : Type 0 where
  pub sound : IsSound session.platform
  pub state : IsStateOf session.platform session.sets
