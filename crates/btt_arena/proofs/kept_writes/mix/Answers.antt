use Rattle.std.proofs.Common.{◌++◌, false, true, sym, ◌∙◌}
use Rattle.btt_arena.proofs.Words.{word_put}
use Rattle.btt_arena.proofs.kept_writes.mix.Goals as goal
use Rattle.btt_arena.proofs.kept_writes.mix.Goals.{then-is_new, else-is_new}

pub loop-word-preserved : goal.loop-word-preserved
loop-word-preserved c = elim c.if-is_new.branch [
  | then-is_new w ↦
      let piece = rw w.from-is at c.part.ensures in
      c.in_ok-extend_from_slice.ensures.items ∙ (λ i. c.loop-word.invariant i ++ piece i)
      ∙ sym (word_put c.args.taken.now c.loop-word.word _ true c.args.old.now c.args.new.now c.loop-word-test.true w.if-is_new.true)
  | else-is_new w ↦
      let piece = rw w.from-is at c.part.ensures in
      c.in_ok-extend_from_slice.ensures.items ∙ (λ i. c.loop-word.invariant i ++ piece i)
      ∙ sym (word_put c.args.taken.now c.loop-word.word _ false c.args.old.now c.args.new.now c.loop-word-test.true w.if-is_new.false)
]
