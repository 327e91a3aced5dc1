use Rattle.std.proofs.Common.{◌≡◌, ℕ, suc, ◌-◌, ◌<◌, List, ◌∷◌, length, drop, sym, ap, ◌∙◌, arith}
use Rattle.btt_arena.specs.Kept.{KeptWrite}
use Rattle.btt_arena.specs.Undone.{before, undone}
use Rattle.btt_arena.proofs.Stopping.{write_there}
use Rattle.btt_arena.proofs.kept_writes.KeptWrites.rewind.Goals as goal

pub loop-i-preserved : goal.loop-i-preserved
loop-i-preserved c =
    let kept = c.args.self.now.kept in
    let lt : c.loop-i.i - 1 < length kept = omega arith in
    let next : suc (c.loop-i.i - 1) ≡ c.loop-i.i = omega arith in
    let there = write_there kept (c.loop-i.i - 1) lt in
    let split : drop (c.loop-i.i - 1) kept ≡ there.0 ∷ drop c.loop-i.i kept = there.1 ∙ ap (λ (j : ℕ). there.0 ∷ drop j kept) next in
    record {
      above = omega arith;
      below = omega arith;
      bytes = c.undo.ensures there.0 (drop c.loop-i.i kept, split) ∙ ap (undone there.0) c.loop-i.invariant.bytes ∙ sym (ap (λ (l : List KeptWrite). before l c.args.bytes.now) split);
    }
