use Rattle.uuid_index.proofs.Places.{place_found, place_missing}
use Rattle.uuid_index.proofs.index.place_of.Goals as goal

pub returns-in-Ok : goal.returns-in-Ok
returns-in-Ok c = place_found c.args.entry.now c.args.entries.now c.in-Ok.at c.requires c.in-Ok.ensures.bound c.in-Ok.ensures.position

pub returns-in-Err : goal.returns-in-Err
returns-in-Err c = place_missing c.args.entry.now c.args.entries.now c.in-Err.at c.requires c.in-Err.ensures.bound c.in-Err.ensures.position
