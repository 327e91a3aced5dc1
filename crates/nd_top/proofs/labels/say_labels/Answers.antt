use Rattle.std.proofs.Common.{ℕ, List, subst, ◌∙◌}
use Rattle.nd_top.specs.Labels.{WantsMemory}
use Rattle.run_edges.specs.Saying.{Says}
use Rattle.nd_top.proofs.Listings.{listed, unlisted}
use Rattle.nd_top.proofs.labels.say_labels.Goals as goal

pub returns-in-Ok-listing : goal.returns-in-Ok-listing
returns-in-Ok-listing g c =
    let read = c.load.new.rig in
    listed g.R.Shown c.args.dimm c.args.rig.now read c.say.new.rig c.say.result c.in-Ok.area c.in-Ok.ensures.dimm c.load.ensures.reads_only c.in-Ok.ensures.loaded c.in-Ok.ensures.cause
    (subst (λ (text : List ℕ). Says g.R.Shown read c.say.new.rig text 0 c.say.result) (c.deref.ensures.value ∙ c.in-Ok-listing.ensures) c.say.ensures)

pub returns-in-Ok : goal.returns-in-Ok
returns-in-Ok g c = record {
  read = c.load.new.rig;
  reads = c.load.ensures.reads_only;
  answer = WantsMemory;
  is_answer = λ told. tt;
  faults = c.in-Ok.ensures.cause;
  says = c.say_fault.ensures;
}

pub returns : goal.returns
returns g c =
    unlisted g.R.Shown c.args.dimm c.args.rig.now c.load.new.rig c.say_unlisted.new.rig c.say_unlisted.result c.in-Err.fault c.load.ensures.reads_only c.in-Err.ensures.loaded c.in-Err.ensures.cause c.say_unlisted.ensures
