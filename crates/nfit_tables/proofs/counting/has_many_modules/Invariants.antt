use Rattle.std.proofs.Common.{◌≡◌, ◌+◌, ◌≤◌, length, drop}
use Rattle.std.specs.List.{filter_map}
use Rattle.nfit_tables.specs.Proper.{handle_of, module_count}
use Rattle.nfit_tables.proofs.Modules.{more_than}
use Rattle.nfit_tables.proofs.counting.has_many_modules.Given as goal

abbrev pub invariant-loop-piece : goal.invariant-loop-piece
invariant-loop-piece l = record {
  few : length l.handles.items ≤ 64;
  count : length l.handles.items + more_than l.handles.items (filter_map handle_of (drop l.piece-index l.pieces)) ≡ module_count l.pieces;
}
