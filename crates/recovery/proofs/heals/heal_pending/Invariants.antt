use Rattle.std.proofs.Common.{◌≡◌, ◌≢◌, ◌≤◌, ℕ, List, Ok, map}
use Rattle.region_labels.specs.Regions.{handles}
use Rattle.module_flips.specs.Passes.{IsPass}
use Rattle.module_flips.specs.Together.{free_slots}
use Rattle.label_sets.specs.Sets.{IsTableOf, kept_in, labels_in, state_in}
use Rattle.recovery.specs.Recovery.{pending_count}
use Rattle.recovery.proofs.heals.heal_pending.Given as goal

abbrev pub invariant-loop-uuid : goal.invariant-loop-uuid
invariant-loop-uuid g l = record {
  room : l.sets.room ≡ l.fn.sets.room;
  pass : IsPass (handles l.found) (IsTableOf l.fn.sets) g.R.Shown (kept_in l.fn.sets) l.fn.rig (kept_in l.sets) l.rig (Ok (tt {0}));
  others : (index : ℕ) (u : List ℕ) → index ≢ l.found.index → (state_in l.sets).pending index u ≡ (state_in l.fn.sets).pending index u;
  same_free : map free_slots l.sets.modules ≡ map free_slots l.fn.sets.modules;
  fewer : pending_count (labels_in l.sets) l.found ≤ pending_count (labels_in l.fn.sets) l.found;
}

abbrev pub decreases-loop-uuid : goal.decreases-loop-uuid
decreases-loop-uuid g l = pending_count (labels_in l.sets) l.found
