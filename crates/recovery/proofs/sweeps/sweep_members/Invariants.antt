use Rattle.std.proofs.Common.{◌≡◌, ◌<◌, ℕ, Ok}
use Rattle.label_table.specs.Belonging.{member_at}
use Rattle.region_labels.specs.Regions.{handles}
use Rattle.module_flips.specs.Passes.{IsPass}
use Rattle.label_sets.specs.Sets.{IsTableOf, kept_in, state_in}
use Rattle.label_sets.specs.Sweeps.{IsFreeAsSpare}
use Rattle.recovery.proofs.sweeps.sweep_members.Given as goal

abbrev pub invariant-loop-position : goal.invariant-loop-position
invariant-loop-position g l = record {
  state : state_in l.sets ≡ state_in l.fn.sets;
  free : (k : ℕ) → k < l.position → IsFreeAsSpare l.sets (member_at l.found k).handle;
  room : l.sets.room ≡ l.fn.sets.room;
  pass : IsPass (handles l.found) (IsTableOf l.fn.sets) g.R.Shown (kept_in l.fn.sets) l.fn.rig (kept_in l.sets) l.rig (Ok (tt {0}));
}
