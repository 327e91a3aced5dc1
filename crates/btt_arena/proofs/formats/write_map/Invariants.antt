use Rattle.std.proofs.Common.{◌≡◌, ◌≤◌, ◌-◌, ◌%◌, false}
use Rattle.btt_arena.specs.Formatting.{AreZero, ChangesOnly}
use Rattle.btt_arena.specs.Frames.{Fails, GoesOn, IsTold, LeavesOnly}
use Rattle.btt_arena.specs.Records.{CrashRecord}
use Rattle.btt_arena.proofs.formats.write_map.Given as goal

abbrev pub invariant-loop-at : goal.invariant-loop-at
invariant-loop-at g l = record {
  from : l.layout.map_at ≤ l.at;
  to : l.at ≤ l.layout.log_at;
  words : l.at % 4096 ≡ 0;
  zero : IsTold g.M.MediaState l.fn.media → AreZero l.layout.map_at (l.at - l.layout.map_at) (g.M.MediaState.bytes l.media);
  changes : IsTold g.M.MediaState l.fn.media → ChangesOnly l.layout.map_at (l.layout.log_at - l.layout.map_at) (g.M.MediaState.bytes l.fn.media) (g.M.MediaState.bytes l.media);
  any_moment : IsTold g.M.MediaState l.fn.media
      → LeavesOnly g.M.MediaState l.fn.media l.media (λ (c : CrashRecord). ChangesOnly l.layout.map_at (l.layout.log_at - l.layout.map_at) (g.M.MediaState.bytes l.fn.media) c.bytes);
  goes_on : GoesOn g.M.MediaState l.fn.media l.media;
  cause : Fails g.M.MediaState l.fn.media l.media false;
}

abbrev pub decreases-loop-at : goal.decreases-loop-at
decreases-loop-at g l = l.layout.log_at - l.at
