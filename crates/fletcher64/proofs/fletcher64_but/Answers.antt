use Rattle.std.proofs.Common.{◌≡◌, ◌/◌, length, ◌∙◌, arith}
use Rattle.std.specs.Prelude.{replicate}
use Rattle.byte_ranges.specs.Ranges.{patched}
use Rattle.byte_ranges.proofs.Patched.{length-patched}
use Rattle.fletcher64.proofs.Holes.{word_but}
use Rattle.fletcher64.proofs.Running.{AreSums-suc, AreSums-all}
use Rattle.fletcher64.proofs.fletcher64_but.Goals as goal

pub loop-i-preserved : goal.loop-i-preserved
loop-i-preserved c =
    AreSums-suc (word_but c.args.bytes.now c.args.hole) c.loop-i.i c.word_but.result c.loop-i.sums.low c.loop-i.sums.high c.add.new.self.low c.add.new.self.high c.loop-i.invariant c.word_but.ensures c.add.ensures.low c.add.ensures.high

pub returns : goal.returns
returns c =
    let same : length (patched c.args.bytes.now c.args.hole (replicate 8 0)) ≡ length c.args.bytes.now = length-patched c.args.bytes.now (replicate 8 0) c.args.hole c.requires.within in
    c.checksum.ensures ∙ AreSums-all (word_but c.args.bytes.now c.args.hole) (length (patched c.args.bytes.now c.args.hole (replicate 8 0)) / 4) c.loop-i.i c.loop-i.sums.low c.loop-i.sums.high c.loop-i.invariant (omega (arith, same))
