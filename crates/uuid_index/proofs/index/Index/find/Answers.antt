use Rattle.std.proofs.Common.{rules}
use Rattle.uuid_index.proofs.Live.{found_label}
use Rattle.uuid_index.proofs.index.Index.find.Goals as goal

pub returns-clause-labels : goal.returns-clause-labels
returns-clause-labels c modules labels index lt =
    found_label c.args.uuid.now c.args.position modules labels c.args.self.now.entries _ index lt (search rules)
