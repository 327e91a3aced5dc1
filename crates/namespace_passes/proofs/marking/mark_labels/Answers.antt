use Rattle.std.proofs.Common.{◌≡◌, ◌<◌, ◌≤◌, ℕ, List, length, refl, sym, ap, subst, ◌∙◌, arith}
use Rattle.region_map.specs.declared.platform.Platform.{Platform}
use Rattle.region_map.specs.declared.platform.Region.{Region}
use Rattle.region_labels.specs.declared.modules.LoadedModule.{LoadedModule}
use Rattle.region_labels.specs.Fates.{platform_of, with_regions}
use Rattle.region_labels.specs.Modules.{labels_in}
use Rattle.region_labels.specs.Regions.{handles}
use Rattle.namespace_passes.proofs.Bounded.{all-bounded}
use Rattle.module_flips.specs.Passes.{kept_of}
use Rattle.module_flips.proofs.Passes.{no-pass, pass-on, sized-on}
use Rattle.namespace_passes.specs.Passes.{HasTableOf}
use Rattle.namespace_passes.proofs.Passing.{can-still, still-kept, still-on, table-still}
use Rattle.namespace_passes.specs.Marking.{AreUpdating, IsMarkedAt, IsUpdatingAt}
use Rattle.namespace_passes.proofs.MarkEnds.{all-marked, all-marks, all-stale, marked-more, marked-start}
use Rattle.namespace_passes.proofs.marking.mark_labels.Goals as goal

pub loop-position-init : goal.loop-position-init
loop-position-init g c = record {
  still = still-kept c.args.modules.now c.args.regions.now c.args.modules.now c.args.regions.now c.requires.can.together refl refl;
  pass = no-pass (handles c.args.region.now) (HasTableOf c.args.modules.now c.args.regions.now) (kept_of c.args.modules.now c.args.regions.now) c.args.rig.now tt refl;
  marked = marked-start (platform_of c.args.regions.now) c.args.region.now c.args.uuid.now (labels_in c.args.modules.now) (record { whole = c.requires.can.whole; writable = c.requires.can.writable });
  idle = λ updating. (refl, refl);
}

pub mark_at-requires-clause-can : goal.mark_at-requires-clause-can
mark_at-requires-clause-can g c =
    let before = c.loop-position.invariant in
    can-still c.args.modules.now c.args.regions.now c.loop-position.modules c.loop-position.regions c.args.region.now c.args.uuid.now c.requires.can before.still.together before.still.same_free before.marked.stands

pub mark_at-requires-clause-sized : goal.mark_at-requires-clause-sized
mark_at-requires-clause-sized g c =
    sized-on c.loop-position.invariant.pass c.requires.sized

-- no turn flips a label that is marked
idle-on : {R : Type 0} {old mid new : R} {was between now : List LoadedModule} (region : Region) (u : List ℕ) (position : ℕ) → position < length region.members
    → (AreUpdating (labels_in was) region u → (mid ≡ old) × (between ≡ was)) → (IsUpdatingAt (labels_in between) region u position → (new ≡ mid) × (now ≡ between))
    → AreUpdating (labels_in was) region u → (new ≡ old) × (now ≡ was)
idle-on {R} {old} {mid} {new} {was} {between} {now} region u position lt first second updating =
    let before = first updating in
    let here : IsUpdatingAt (labels_in between) region u position = subst (λ (ms : List LoadedModule). IsUpdatingAt (labels_in ms) region u position) (sym before.1) (updating position lt) in
    let behind = second here in
    (behind.0 ∙ before.0, behind.1 ∙ before.1)

pub loop-position-preserved : goal.loop-position-preserved
loop-position-preserved g c =
    let before = c.loop-position.invariant in
    let turn = c.in-Ok.ensures in
    let L = labels_in c.loop-position.modules in
    let M = labels_in c.mark_at.new.modules in
    let len : c.len-position-end.result ≡ length c.args.region.now.members = c.len-position-end.ensures in
    let lt : c.loop-position.position < length c.args.region.now.members = omega (arith, len, c.loop-position-test.true) in
    let marked : IsMarkedAt (platform_of c.args.regions.now) c.args.region.now c.args.uuid.now c.loop-position.position L M =
    subst (λ (P : Platform). IsMarkedAt P c.args.region.now c.args.uuid.now c.loop-position.position L M) (ap with_regions before.still.together.same_regions) turn.marked in
    record {
      still = still-on before.still turn.still;
      pass = pass-on before.pass (table-still c.args.modules.now c.args.regions.now c.loop-position.modules c.loop-position.regions before.still.together before.pass.labels) turn.pass;
      marked = marked-more (platform_of c.args.regions.now) c.requires.can.together.disjoint c.args.region.now c.requires.can.region_in c.args.uuid.now (labels_in c.args.modules.now) L M c.loop-position.position lt before.marked marked;
      idle = idle-on c.args.region.now c.args.uuid.now c.loop-position.position lt before.idle turn.idle;
    }

pub returns-in-Err-clause-still : goal.returns-in-Err-clause-still
returns-in-Err-clause-still g c = still-on c.loop-position.invariant.still c.mark_at.ensures.still

pub returns-in-Err-clause-pass : goal.returns-in-Err-clause-pass
returns-in-Err-clause-pass g c =
    let before = c.loop-position.invariant in
    pass-on before.pass (table-still c.args.modules.now c.args.regions.now c.loop-position.modules c.loop-position.regions before.still.together before.pass.labels) c.in-Err.ensures.pass

pub returns-clause-marked : goal.returns-clause-marked
returns-clause-marked g c =
    let P = platform_of c.args.regions.now in
    let region = c.args.region.now in
    let u = c.args.uuid.now in
    let start = labels_in c.args.modules.now in
    let M = labels_in c.loop-position.modules in
    let still = c.loop-position.invariant.still in
    let to = c.loop-position.invariant.marked in
    let disjoint = c.requires.can.together.disjoint in
    let bounded = all-bounded c.loop-position.modules still.together.together.in_use in
    let end = c.loop-position.position in
    let all : length region.members ≤ end = omega (arith, c.loop-position-test.false) in
    record {
      same_table = to.same_table;
      marks = all-marks P disjoint region c.requires.can.region_in u start M bounded end all to;
      stands = to.stands;
      mark = all-marked P disjoint region c.requires.can.region_in u start M bounded end all to;
      stale = all-stale P disjoint region c.requires.can.region_in u start M bounded end all to;
      others = to.others;
      elsewhere = to.elsewhere;
      same_free = still.same_free;
    }
