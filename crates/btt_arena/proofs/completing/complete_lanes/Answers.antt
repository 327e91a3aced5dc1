use Rattle.std.proofs.Common.{◌≡◌, ℕ, ◌+◌, ◌<◌, List, length, Option, true, refl, sym, ap, subst, ◌∙◌, arith}
use Rattle.std.specs.Prelude.{IfSome}
use Rattle.btt_arena.specs.declared.halves.Half.{Half}
use Rattle.btt_arena.specs.Completing.{HasMap, IsHereOrThere, IsPartly}
use Rattle.btt_arena.specs.Opening.{is_lane_right, newer_of_log}
use Rattle.btt_arena.specs.Records.{CrashRecord}
use Rattle.btt_arena.specs.Tables.{map_in, with_lane}
use Rattle.btt_arena.proofs.Frames.{goes_on}
use Rattle.btt_arena.proofs.Kept.{here_or_more, not_yet, one_more, right_sector}
use Rattle.btt_arena.proofs.Moments.{joined, started, weakened}
use Rattle.btt_arena.proofs.completing.complete_lanes.Goals as goal

pub loop-lane-init : goal.loop-lane-init
loop-lane-init g c =
    let m = g.M.MediaState in
    let a = c.args.layout.now in
    let halves = newer_of_log c.args.log.now in
    let before = m.bytes c.args.media.now in
    record {
      completed = λ told. not_yet a halves before before refl;
      any_moment = λ told. started c.args.media.now (λ (r : CrashRecord). IsPartly a halves before r.bytes) (λ r left. (0, omega arith, not_yet a halves r.bytes before (m.now_is c.args.media.now r left)));
      goes_on = record { tells = refl; tells_records = λ has. has; size = λ told. refl; faults = omega arith };
      cause = refl;
    }

pub complete-requires-clause-told : goal.complete-requires-clause-told
complete-requires-clause-told g c told = c.loop-lane.invariant.goes_on.size (sym c.loop-lane.invariant.goes_on.tells ∙ told) ∙ c.requires.told (sym c.loop-lane.invariant.goes_on.tells ∙ told)

pub complete-requires-clause-sector : goal.complete-requires-clause-sector
complete-requires-clause-sector g c =
    let a = c.args.layout.now in
    subst (λ (o : Option Half). IfSome o (λ half. half.lba < a.sectors)) (sym c.newer_half.ensures) (right_sector a (newer_of_log c.args.log.now c.loop-lane.lane) (c.requires.right c.loop-lane.lane (omega arith)))

pub returns-in_err-complete-clause-so_far : goal.returns-in_err-complete-clause-so_far
returns-in_err-complete-clause-so_far g c told =
    let m = g.M.MediaState in
    let a = c.args.layout.now in
    let lane = c.loop-lane.lane in
    let mid = m.bytes c.loop-lane.media in
    let after = m.bytes c.complete.new.media in
    let told1 = c.loop-lane.invariant.goes_on.tells ∙ told in
    here_or_more a (newer_of_log c.args.log.now) (m.bytes c.args.media.now) mid after lane (lane + 1) refl (c.loop-lane.invariant.completed told) (omega arith)
    (subst (λ (o : Option Half). IsHereOrThere a o mid after) c.newer_half.ensures (c.complete.ensures.so_far told1))

pub returns-in_err-complete-clause-any_moment : goal.returns-in_err-complete-clause-any_moment
returns-in_err-complete-clause-any_moment g c told =
    let m = g.M.MediaState in
    let a = c.args.layout.now in
    let lane = c.loop-lane.lane in
    let halves = newer_of_log c.args.log.now in
    let before = m.bytes c.args.media.now in
    let mid = m.bytes c.loop-lane.media in
    let told1 = c.loop-lane.invariant.goes_on.tells ∙ told in
    let P = λ (r : CrashRecord). IsPartly a halves before r.bytes in
    joined (c.loop-lane.invariant.any_moment told)
    (weakened (λ (r : CrashRecord). IsHereOrThere a c.newer_half.result mid r.bytes) P
    (λ r has. here_or_more a halves before mid r.bytes lane (lane + 1) refl (c.loop-lane.invariant.completed told) (omega arith) (subst (λ (o : Option Half). IsHereOrThere a o mid r.bytes) c.newer_half.ensures has))
    (c.complete.ensures.any_moment told1))

pub loop-lane-preserved : goal.loop-lane-preserved
loop-lane-preserved g c =
    let m = g.M.MediaState in
    let a = c.args.layout.now in
    let lane = c.loop-lane.lane in
    let halves = newer_of_log c.args.log.now in
    let before = m.bytes c.args.media.now in
    let mid = m.bytes c.loop-lane.media in
    let after = m.bytes c.complete.new.media in
    let P = λ (r : CrashRecord). IsPartly a halves before r.bytes in
    record {
      completed = λ told.
          one_more a halves before mid after lane (lane + 1) refl (c.loop-lane.invariant.completed told)
          (subst (λ (o : Option Half). HasMap a (with_lane o (map_in a mid)) mid after) c.newer_half.ensures (c.in_ok-complete.ensures.completed (c.loop-lane.invariant.goes_on.tells ∙ told)));
      any_moment = λ told.
          joined (c.loop-lane.invariant.any_moment told)
          (weakened (λ (r : CrashRecord). IsHereOrThere a c.newer_half.result mid r.bytes) P
          (λ r has. here_or_more a halves before mid r.bytes lane (lane + 1) refl (c.loop-lane.invariant.completed told) (omega arith) (subst (λ (o : Option Half). IsHereOrThere a o mid r.bytes) c.newer_half.ensures has))
          (c.complete.ensures.any_moment (c.loop-lane.invariant.goes_on.tells ∙ told)));
      goes_on = goes_on c.loop-lane.invariant.goes_on c.complete.ensures.goes_on;
      cause = c.in_ok-complete.ensures.cause ∙ c.loop-lane.invariant.cause;
    }

pub returns-clause-so_far : goal.returns-clause-so_far
returns-clause-so_far g c told = (c.loop-lane.lane, omega arith, c.loop-lane.invariant.completed told)
