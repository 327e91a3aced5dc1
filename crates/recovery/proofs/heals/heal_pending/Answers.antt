use Rattle.std.proofs.Common.{◌≤◌, ◌<◌, refl, sym, ◌∙◌, arith}
use Rattle.region_labels.specs.Regions.{handles}
use Rattle.label_sets.specs.Sets.{IsTableOf, kept_in, labels_in}
use Rattle.recovery.specs.Recovery.{pending_count}
use Rattle.recovery.proofs.Healed.{can-still, none-left}
use Rattle.module_flips.proofs.Passes.{no-pass, sized-on}
use Rattle.label_sets.proofs.TablePasses.{table-still, tables-on}
use Rattle.recovery.proofs.Pending.{first-in, found-still, marks-elsewhere, none-in, none-of}
use Rattle.recovery.proofs.heals.heal_pending.Goals as goal

pub loop-uuid-init : goal.loop-uuid-init
loop-uuid-init g c = record {
  room = refl;
  pass = no-pass (handles c.args.found.now) (IsTableOf c.args.sets.now) (kept_in c.args.sets.now) c.args.rig.now tt refl;
  others = λ index u other. refl;
  same_free = refl;
  fewer = omega arith;
}

pub heal_one-requires-clause-heal : goal.heal_one-requires-clause-heal
heal_one-requires-clause-heal g c =
    let before = c.loop-uuid.invariant in
    can-still c.args.platform.now c.requires.sound c.args.sets.now c.loop-uuid.sets c.requires.platform c.args.found.now c.requires.found before.pass.regions (table-still c.args.sets.now c.loop-uuid.sets before.pass) c.requires.heal before.same_free before.pass.dimms before.fewer

pub heal_one-requires-clause-pending : goal.heal_one-requires-clause-pending
heal_one-requires-clause-pending g c =
    let before = c.loop-uuid.invariant in
    first-in c.loop-uuid.sets c.args.found.now.index c.args.found.now
    (found-still c.args.platform.now c.requires.sound c.args.sets.now c.loop-uuid.sets c.requires.platform c.args.found.now c.args.found.now.index c.requires.found before.pass.regions (table-still c.args.sets.now c.loop-uuid.sets before.pass))
    c.in-Some.uuid (sym c.in-Some.ensures)

pub heal_one-requires-clause-sized : goal.heal_one-requires-clause-sized
heal_one-requires-clause-sized g c = sized-on c.loop-uuid.invariant.pass c.requires.sized

pub returns-in-Err-clause-pass : goal.returns-in-Err-clause-pass
returns-in-Err-clause-pass g c = tables-on c.args.sets.now c.loop-uuid.sets c.heal_one.new.sets c.loop-uuid.invariant.pass c.in-Err.ensures.pass

pub loop-uuid-preserved : goal.loop-uuid-preserved
loop-uuid-preserved g c =
    let before = c.loop-uuid.invariant in
    let turn = c.in-Ok.ensures in
    let less : pending_count (labels_in c.heal_one.new.sets) c.args.found.now < pending_count (labels_in c.loop-uuid.sets) c.args.found.now = turn.fewer in
    let few : pending_count (labels_in c.loop-uuid.sets) c.args.found.now ≤ pending_count (labels_in c.args.sets.now) c.args.found.now = before.fewer in
    record {
      room = turn.room ∙ before.room;
      pass = tables-on c.args.sets.now c.loop-uuid.sets c.heal_one.new.sets before.pass turn.pass;
      others = λ index u other. marks-elsewhere c.loop-uuid.sets c.heal_one.new.sets c.args.found.now c.in-Some.uuid turn.healed.marks index u other ∙ before.others index u other;
      same_free = turn.healed.same_free ∙ before.same_free;
      fewer = omega (arith, less, few);
    }

pub returns-clause-healed : goal.returns-clause-healed
returns-clause-healed g c =
    let before = c.loop-uuid.invariant in
    let still = found-still c.args.platform.now c.requires.sound c.args.sets.now c.loop-uuid.sets c.requires.platform c.args.found.now c.args.found.now.index c.requires.found before.pass.regions (table-still c.args.sets.now c.loop-uuid.sets before.pass) in
    record {
      none_pending = none-left c.loop-uuid.sets c.args.found.now still (none-in c.loop-uuid.sets c.args.found.now.index c.args.found.now still (sym c.first_pending.ensures ∙ none-of c.first_pending.result c.in_default.not-Some));
      others = before.others;
      same_free = before.same_free;
    }
