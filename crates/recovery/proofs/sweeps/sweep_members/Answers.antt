use Rattle.std.proofs.Common.{◌≡◌, length, refl, sym, ◌∙◌, arith}
use Rattle.region_labels.specs.Regions.{handles}
use Rattle.module_flips.proofs.Passes.{no-pass, sized-on}
use Rattle.label_sets.specs.Sets.{IsTableOf, kept_in}
use Rattle.label_sets.proofs.TablePasses.{tables-on}
use Rattle.recovery.proofs.Swept.{all-free, free-more, ready-still}
use Rattle.recovery.proofs.sweeps.sweep_members.Goals as goal

pub loop-position-init : goal.loop-position-init
loop-position-init g c = record {
  state = refl;
  free = λ k lt. absurd (omega (arith, lt));
  room = refl;
  pass = no-pass (handles c.args.found.now) (IsTableOf c.args.sets.now) (kept_in c.args.sets.now) c.args.rig.now tt refl;
}

pub sweep_member-requires-clause-platform : goal.sweep_member-requires-clause-platform
sweep_member-requires-clause-platform g c = c.requires.platform ∙ sym c.loop-position.invariant.pass.regions

pub sweep_member-requires-clause-ready : goal.sweep_member-requires-clause-ready
sweep_member-requires-clause-ready g c = ready-still c.args.sets.now c.loop-position.sets c.args.found.now c.loop-position.invariant.state c.requires.ready

pub sweep_member-requires-clause-sized : goal.sweep_member-requires-clause-sized
sweep_member-requires-clause-sized g c = sized-on c.loop-position.invariant.pass c.requires.sized

pub returns-in-Err-clause-pass : goal.returns-in-Err-clause-pass
returns-in-Err-clause-pass g c = tables-on c.args.sets.now c.loop-position.sets c.sweep_member.new.sets c.loop-position.invariant.pass c.in-Err.ensures.pass

pub loop-position-preserved : goal.loop-position-preserved
loop-position-preserved g c =
    let before = c.loop-position.invariant in
    let turn = c.in-Ok.ensures in
    record {
      state = turn.state ∙ before.state;
      free = free-more c.loop-position.sets c.sweep_member.new.sets c.args.found.now c.loop-position.position turn.state turn.others turn.pass.dimms turn.free before.free;
      room = turn.room ∙ before.room;
      pass = tables-on c.args.sets.now c.loop-position.sets c.sweep_member.new.sets before.pass turn.pass;
    }

pub returns-clause-free : goal.returns-clause-free
returns-clause-free g c =
    let len : c.len-position-end.result ≡ length c.args.found.now.members = c.len-position-end.ensures in
    all-free c.loop-position.sets c.args.found.now (λ k lt. c.loop-position.invariant.free k (omega (arith, lt, len, c.loop-position-test.false)))
