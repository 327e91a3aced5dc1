-- What calls leave at any moment.
use Rattle.std.proofs.Common.{◌≡◌, ◌≤◌, ℕ, arith, length, List, Bool, refl, ap, ◌∙◌}
use Rattle.rig_trait.specs.declared.shown.Shown.{Ghosts}
use Rattle.rig_trait.specs.Frames.{Reads, SayLeaves, SaysOnly}
use Rattle.rig_trait.specs.Records.{IsSaying}
use Rattle.rig_trait.proofs.Frames.{no_call, reading}
use Rattle.rig_trait.proofs.Moments.{and_a_call, joined, weakened}
use Rattle.command_runs.specs.Areas.{WritesNothing}

-- as much was said
pub same-most : {xs ys : List ℕ} → xs ≡ ys → length xs ≤ length ys
same-most {xs} {ys} same = let lengths : length xs ≡ length ys = ap length same in omega arith

module _ {R : Type 0} {m : Ghosts R} where
  -- calls that write nothing
  pub none-written : (rig : R) → WritesNothing m rig rig
  none-written rig = record { areas = refl; any_moment = reading (λ c. c.areas ≡ m.areas rig) (λ c same said. same) (no_call m rig) }

  pub read-only : {old new : R} → Reads m old new → WritesNothing m old new
  read-only {old} reads = record { areas = reads.areas; any_moment = reading (λ c. c.areas ≡ m.areas old) (λ c same said. same) reads }

  pub writes-nothing : {old mid new : R} → WritesNothing m old mid → WritesNothing m mid new → WritesNothing m old new
  writes-nothing {old} {mid} first second = record {
    areas = second.areas ∙ first.areas;
    any_moment = joined first.any_moment (weakened (λ c. c.areas ≡ m.areas mid) (λ c. c.areas ≡ m.areas old) (λ c same. same ∙ first.areas) second.any_moment);
  }

  pub says-nothing-written : {old mid new : R} (text : List ℕ) (failed : Bool) → WritesNothing m old mid → SaysOnly m mid new failed → SayLeaves m mid new text → WritesNothing m old new
  says-nothing-written {old} {mid} text failed first says stops = record {
    areas = says.areas ∙ first.areas;
    any_moment = and_a_call (λ c. c.areas ≡ m.areas old) (IsSaying (m.may_leave mid) (m.said mid) text) first.any_moment stops
        (λ c saying. saying.areas_are ∙ (m.now_is mid saying.from saying.was).0 ∙ first.areas);
  }
