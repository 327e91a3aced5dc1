use Rattle.std.proofs.Common.{◌≡◌, ◌<◌, ◌≤◌, inl, length, refl, arith}
use Rattle.region_labels.specs.Fates.{platform_of}
use Rattle.region_labels.specs.Modules.{labels_in}
use Rattle.region_labels.specs.Regions.{handles}
use Rattle.module_flips.specs.Passes.{kept_of}
use Rattle.module_flips.proofs.Passes.{no-pass, pass-on, sized-on}
use Rattle.namespace_passes.proofs.Bounded.{all-bounded}
use Rattle.namespace_passes.proofs.HealEnds.{some-members}
use Rattle.namespace_passes.proofs.Passing.{stays-on, still-kept}
use Rattle.namespace_passes.specs.Dropping.{IsBeforeOrWithout}
use Rattle.namespace_passes.proofs.DropEnds.{dropped-more, dropped-start, kept-or-gone, none-left, one-there, turn-state}
use Rattle.namespace_passes.proofs.DropSlots.{all-given, given-more, given-start, kept-elsewhere, room-all, room-more, room-start}
use Rattle.namespace_passes.proofs.dropping.drop_labels.Goals as goal

pub loop-position-init : goal.loop-position-init
loop-position-init g c = record {
  dropped = dropped-start (platform_of c.args.regions.now) c.args.region.now c.args.uuid.now (labels_in c.args.modules.now) c.requires.can.whole;
  start = λ e. refl;
  given = given-start c.args.region.now c.args.modules.now;
  room = room-start c.args.regions.now;
  together = (still-kept c.args.modules.now c.args.regions.now c.args.modules.now c.args.regions.now c.requires.can.together refl refl).together;
  pass = no-pass (handles c.args.region.now) (IsBeforeOrWithout (platform_of c.args.regions.now) c.args.region.now c.args.uuid.now (labels_in c.args.modules.now)) (kept_of c.args.modules.now c.args.regions.now) c.args.rig.now tt (inl refl);
}

pub drop_at-requires-clause-one : goal.drop_at-requires-clause-one
drop_at-requires-clause-one g c =
    let can = c.requires.can in
    let before = c.loop-position.invariant in
    let len : c.len-position-end.result ≡ length c.args.region.now.members = c.len-position-end.ensures in
    let lt : c.loop-position.position < length c.args.region.now.members = omega (arith, len, c.loop-position-test.true) in
    one-there (platform_of c.args.regions.now) can.together.disjoint c.args.region.now can.region_in c.args.uuid.now (labels_in c.args.modules.now) (all-bounded c.args.modules.now can.together.in_use) can.whole can.stale
    (labels_in c.loop-position.modules) (all-bounded c.loop-position.modules before.together.together.in_use) c.loop-position.position lt before.dropped

pub drop_at-requires-clause-sized : goal.drop_at-requires-clause-sized
drop_at-requires-clause-sized g c =
    sized-on c.loop-position.invariant.pass c.requires.sized

pub returns-in-Err-clause-pass : goal.returns-in-Err-clause-pass
returns-in-Err-clause-pass g c =
    let can = c.requires.can in
    let P = platform_of c.args.regions.now in
    let region = c.args.region.now in
    let u = c.args.uuid.now in
    let start = labels_in c.args.modules.now in
    let L = labels_in c.loop-position.modules in
    let before = c.loop-position.invariant in
    let len : c.len-position-end.result ≡ length c.args.region.now.members = c.len-position-end.ensures in
    let lt : c.loop-position.position < length c.args.region.now.members = omega (arith, len, c.loop-position-test.true) in
    pass-on before.pass
    (turn-state P can.together.disjoint region can.region_in u start (all-bounded c.args.modules.now can.together.in_use) can.whole can.stale L (all-bounded c.loop-position.modules before.together.together.in_use) c.loop-position.position lt before.dropped)
    c.in-Err.ensures.pass

pub returns-in-Err-clause-together : goal.returns-in-Err-clause-together
returns-in-Err-clause-together g c = stays-on c.loop-position.invariant.together c.drop_at.ensures.together

pub returns-in-Err-clause-failed : goal.returns-in-Err-clause-failed
returns-in-Err-clause-failed g c =
    let before = c.loop-position.invariant in
    let len : c.len-position-end.result ≡ length c.args.region.now.members = c.len-position-end.ensures in
    let lt : c.loop-position.position < length c.args.region.now.members = omega (arith, len, c.loop-position-test.true) in
    kept-or-gone c.args.modules.now c.args.regions.now c.args.region.now c.args.uuid.now c.loop-position.position lt c.loop-position.modules c.drop_at.new.modules before.dropped before.start c.in-Err.ensures.kept

pub loop-position-preserved : goal.loop-position-preserved
loop-position-preserved g c =
    let can = c.requires.can in
    let P = platform_of c.args.regions.now in
    let region = c.args.region.now in
    let u = c.args.uuid.now in
    let start = labels_in c.args.modules.now in
    let L = labels_in c.loop-position.modules in
    let before = c.loop-position.invariant in
    let turn = c.in-Ok.ensures in
    let position = c.loop-position.position in
    let len : c.len-position-end.result ≡ length c.args.region.now.members = c.len-position-end.ensures in
    let lt : c.loop-position.position < length c.args.region.now.members = omega (arith, len, c.loop-position-test.true) in
    let bounded_start = all-bounded c.args.modules.now can.together.in_use in
    let bounded = all-bounded c.loop-position.modules before.together.together.in_use in
    record {
      dropped = dropped-more P can.together.disjoint region can.region_in u start bounded_start can.whole can.stale L bounded position lt before.dropped (labels_in c.drop_at.new.modules) turn.lost;
      start = λ e. absurd (omega (arith, e));
      given = given-more P can.together.disjoint region can.region_in position lt c.args.modules.now c.loop-position.modules c.drop_at.new.modules before.together.dimms before.given turn.gives;
      room = room-more region position lt c.args.regions.now c.loop-position.regions c.drop_at.new.regions before.room turn.room;
      together = stays-on before.together turn.together;
      pass = pass-on before.pass
          (turn-state P can.together.disjoint region can.region_in u start bounded_start can.whole can.stale L bounded position lt before.dropped)
          turn.pass;
    }

pub returns-clause-dropped : goal.returns-clause-dropped
returns-clause-dropped g c =
    let P = platform_of c.args.regions.now in
    let region = c.args.region.now in
    let u = c.args.uuid.now in
    let start = labels_in c.args.modules.now in
    let L = labels_in c.loop-position.modules in
    let before = c.loop-position.invariant in
    let end = c.loop-position.position in
    let all : length region.members ≤ end = omega (arith, c.loop-position-test.false) in
    let some : 0 < length region.members = some-members region u start c.requires.can.whole in
    record {
      state_is = before.dropped.gone (omega (arith, all, some));
      none = none-left P region u end start L all before.dropped;
      others = before.dropped.others;
      elsewhere = before.dropped.elsewhere;
      free = λ place d lt. (all-given region end all c.args.modules.now c.loop-position.modules before.given place d lt).0;
      counts = λ place d lt. (all-given region end all c.args.modules.now c.loop-position.modules before.given place d lt).1;
      kept = kept-elsewhere region end all c.args.modules.now c.loop-position.modules before.given;
    }

pub returns-clause-room : goal.returns-clause-room
returns-clause-room g c =
    room-all c.args.region.now c.loop-position.position (omega (arith, c.loop-position-test.false)) c.args.regions.now c.loop-position.regions c.loop-position.invariant.room
