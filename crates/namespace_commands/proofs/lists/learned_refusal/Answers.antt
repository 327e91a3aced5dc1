use Rattle.std.proofs.Common.{◌∙◌}
use Rattle.namespace_commands.proofs.Unread.{told-unread}
use Rattle.namespace_commands.proofs.lists.learned_refusal.Goals as goal

pub returns-clause-refusal : goal.returns-clause-refusal
returns-clause-refusal c =
    c.refusal_of.ensures ∙ told-unread c.args.platform.now c.args.sets.now c.args.index c.requires.state c.in_ok-status.status c.in_ok-status.ensures.status
