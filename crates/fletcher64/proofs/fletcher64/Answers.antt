use Rattle.std.proofs.Common.{◌/◌, length, ◌∙◌, arith}
use Rattle.fletcher64.specs.Sums.{word}
use Rattle.fletcher64.proofs.Running.{AreSums-suc, AreSums-all}
use Rattle.fletcher64.proofs.fletcher64.Goals as goal

pub loop-i-preserved : goal.loop-i-preserved
loop-i-preserved c =
    AreSums-suc (word c.args.bytes.now) c.loop-i.i c.word_at.result c.loop-i.sums.low c.loop-i.sums.high c.add.new.self.low c.add.new.self.high c.loop-i.invariant c.word_at.ensures c.add.ensures.low c.add.ensures.high

pub returns : goal.returns
returns c = c.checksum.ensures ∙ AreSums-all (word c.args.bytes.now) (length c.args.bytes.now / 4) c.loop-i.i c.loop-i.sums.low c.loop-i.sums.high c.loop-i.invariant (omega arith)
