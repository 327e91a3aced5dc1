use Rattle.std.proofs.Common.{◌≡◌, ℕ, suc, ◌-◌, ◌<◌, List, ◌∷◌, length, drop, sym, ap, ◌∙◌, arith}
use Rattle.rig_trait.specs.Kept.{KeptCall}
use Rattle.rig_trait.specs.Memory.{areas_of}
use Rattle.rig_trait.specs.Undone.{before, undone, whole}
use Rattle.rig_trait.proofs.Lying.{call_there}
use Rattle.rig_trait.proofs.kept_calls.KeptCalls.rewind.Goals as goal

pub loop-i-preserved : goal.loop-i-preserved
loop-i-preserved c =
    let kept = c.args.self.now.kept in
    let start = whole (areas_of c.args.areas.now) c.args.said.now.items in
    let lt : c.loop-i.i - 1 < length kept = omega arith in
    let next : suc (c.loop-i.i - 1) ≡ c.loop-i.i = omega arith in
    let there = call_there kept (c.loop-i.i - 1) lt in
    let split : drop (c.loop-i.i - 1) kept ≡ there.0 ∷ drop c.loop-i.i kept = there.1 ∙ ap (λ (j : ℕ). there.0 ∷ drop j kept) next in
    record {
      above = omega arith;
      below = omega arith;
      state = c.undo.ensures.undone there.0 (drop c.loop-i.i kept, split) ∙ ap (undone there.0) c.loop-i.invariant.state ∙ sym (ap (λ (l : List KeptCall). before l start) split);
      lie = c.undo.ensures.lie;
    }
