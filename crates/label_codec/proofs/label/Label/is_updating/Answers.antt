use Rattle.std.proofs.Common.{arith}
use Rattle.std.proofs.lemmas.Bool.Decides.{nat_tests}
use Rattle.std.proofs.lemmas.Nat.Bits.{and_pow}
use Rattle.label_codec.proofs.label.Label.is_updating.Goals as goal

pub returns : goal.returns
returns c = rw (and_pow c.args.self.now.flags 3) (grind (arith, nat_tests))
