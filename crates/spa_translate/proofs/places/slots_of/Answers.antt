use Rattle.std.proofs.Common.{◌*◌, length, rules}
use Rattle.spa_translate.specs.Faults.{all_lines}
use Rattle.spa_translate.proofs.Slots.{slots_none}
use Rattle.spa_translate.proofs.places.slots_of.Goals as goal

pub mark_all-requires-clause-free : goal.mark_all-requires-clause-free
mark_all-requires-clause-free c = slots_none (all_lines c.args.strands.now) (length c.args.strands.now * c.args.lines) _ (search rules)
