use Rattle.std.proofs.Common.{◌≡◌, take}
use Rattle.spa_translate.specs.Faults.{strands_of}
use Rattle.spa_translate.proofs.strand.strands_of.Given as goal

abbrev pub invariant-loop-member : goal.invariant-loop-member
invariant-loop-member l = l.strands.items ≡ strands_of l.tables (take l.member-index l.members)
