use Rattle.std.proofs.Common.{false}
use Rattle.btt_arena.specs.Completing.{IsCompleted, IsPartly}
use Rattle.btt_arena.specs.Frames.{Fails, GoesOn, IsTold, LeavesOnly}
use Rattle.btt_arena.specs.Opening.{newer_of_log}
use Rattle.btt_arena.specs.Records.{CrashRecord}
use Rattle.btt_arena.proofs.completing.complete_lanes.Given as goal

abbrev pub invariant-loop-lane : goal.invariant-loop-lane
invariant-loop-lane g l = record {
  completed : IsTold g.M.MediaState l.fn.media → IsCompleted l.layout (newer_of_log l.log) (g.M.MediaState.bytes l.fn.media) l.lane (g.M.MediaState.bytes l.media);
  any_moment : IsTold g.M.MediaState l.fn.media
      → LeavesOnly g.M.MediaState l.fn.media l.media (λ (c : CrashRecord). IsPartly l.layout (newer_of_log l.log) (g.M.MediaState.bytes l.fn.media) c.bytes);
  goes_on : GoesOn g.M.MediaState l.fn.media l.media;
  cause : Fails g.M.MediaState l.fn.media l.media false;
}
