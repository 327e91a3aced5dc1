use Rattle.std.proofs.Common.{◌≡◌, ◌≤◌, ◌++◌, false, vec_len}
use Rattle.rig_trait.specs.Sources.{Draws, TellsLeft}
use Rattle.run_edges.proofs.sources.read_all.Given as goal

abbrev pub invariant-loop : goal.invariant-loop
invariant-loop g l = record {
  so_far : TellsLeft g.N.Source l.fn.source → g.N.Source.left l.fn.source ≡ l.bytes.items ++ g.N.Source.left l.source;
  most : vec_len l.bytes ≤ l.most;
  least : l.counter ≤ vec_len l.bytes;
  draws : Draws g.N.Source l.fn.source l.source false;
}
