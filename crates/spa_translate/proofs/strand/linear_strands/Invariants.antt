use Rattle.std.proofs.Common.{◌≡◌, map, take}
use Rattle.spa_translate.specs.Woven.{linear_strand}
use Rattle.spa_translate.proofs.strand.linear_strands.Given as goal

abbrev pub invariant-loop-member : goal.invariant-loop-member
invariant-loop-member l = l.strands.items ≡ map linear_strand (take l.member-index l.members)
