use Rattle.std.proofs.Common.{◌≡◌, ◌≢◌, get_or, ◌∙◌, sym, subst}
use Rattle.uuid_index.specs.Labels.{FollowsGain}
use Rattle.label_table.specs.Belonging.{no_member}
use Rattle.region_labels.proofs.Seated.{handle-at}
use Rattle.region_labels.specs.Followed.{handle_at}
use Rattle.region_labels.proofs.Stepped.{gain-passes, gain-there}
use Rattle.region_labels.proofs.member_positions.gain_at.Goals as goal

pub returns-then-as_slice-position-clause-index : goal.returns-then-as_slice-position-clause-index
returns-then-as_slice-position-clause-index c = λ before after gain is.
    let region = c.args.kept.now.region in
    let at = c.args.position in
    let lt = c.requires.position in
    let there : handle_at region at ≡ c.args.dimm = handle-at region at lt
    ∙ subst (λ members. (get_or members at no_member).handle ≡ c.args.dimm) c.as_slice.ensures c.if-as_slice-position.true in
    gain-there region c.args.dimm at c.args.gained.now before after c.args.kept.now.index.entries c.insert.new.self.entries lt there
    (subst (λ e. FollowsGain e c.args.kept.now.index.entries c.insert.new.self.entries) c.entry.ensures c.insert.ensures.labels) gain is

pub returns-else-as_slice-position-clause-index : goal.returns-else-as_slice-position-clause-index
returns-else-as_slice-position-clause-index c = λ before after gain is.
    let region = c.args.kept.now.region in
    let at = c.args.position in
    let lt = c.requires.position in
    let differ : handle_at region at ≢ c.args.dimm = λ e.
    subst (λ members. (get_or members at no_member).handle ≢ c.args.dimm) c.as_slice.ensures c.if-as_slice-position.false
    (sym (handle-at region at lt) ∙ e) in
    gain-passes region c.args.dimm at c.args.gained.now before after c.args.kept.now.index.entries differ gain is
