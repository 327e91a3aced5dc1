use Rattle.std.proofs.Common.{subst}
use Rattle.label_sets.specs.Largest.{TellsLargest}
use Rattle.label_sets.specs.Lookups.{TellsFree}
use Rattle.label_sets.specs.Sets.{StoredSets}
use Rattle.namespace_commands.proofs.Unread.{free_is}
use Rattle.namespace_commands.proofs.lists.free_reply.Goals as goal

pub returns-clause-free : goal.returns-clause-free
returns-clause-free c =
    let sets = c.args.sets.now in
    let index = c.args.index in
    free_is c.args.platform.now sets index c.requires.state c.requires.unrefused c.in-Some-Some.extents (subst (TellsFree sets index) c.in-Some-Some.is-0 c.in_ok-extents.ensures.free) c.in-Some-Some.largest
    (subst (TellsLargest sets index) c.in-Some-Some.is-1 (subst (λ (s : StoredSets). TellsLargest s index c.in_ok-largest.largest) c.free_extents.ensures.same c.in_ok-largest.ensures.most))
