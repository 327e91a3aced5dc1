use Rattle.std.proofs.Common.{◌≡◌, ℕ, ◌<◌, length, get_or}
use Rattle.region_map.specs.declared.platform.Member.{Member}
use Rattle.region_labels.specs.declared.modules.LoadedModule.{LoadedModule}
use Rattle.region_labels.proofs.seats.seats_of.Given as goal

abbrev pub invariant-loop-member : goal.invariant-loop-member
invariant-loop-member l = record {
  each : length l.seats.items ≡ l.member-index;
  within : (i : ℕ) → i < l.member-index → get_or l.seats.items i 0 < length l.modules;
  is : (i : ℕ) (d : LoadedModule) (e : Member) → i < l.member-index → (get_or l.modules (get_or l.seats.items i 0) d).dimm ≡ (get_or l.members i e).handle;
}
