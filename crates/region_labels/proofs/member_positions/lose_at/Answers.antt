use Rattle.std.proofs.Common.{◌≡◌, ◌≢◌, ◌+◌, get_or, ◌∙◌, ap, sym, subst, arith}
use Rattle.std.specs.List.{Contains}
use Rattle.std.proofs.lemmas.Bool.{OnTrue_at}
use Rattle.uuid_index.specs.Labels.{FollowsLoss}
use Rattle.label_table.specs.Belonging.{no_member}
use Rattle.region_labels.proofs.Seated.{handle-at}
use Rattle.region_labels.specs.Followed.{handle_at, here}
use Rattle.region_labels.proofs.Stepped.{here-none, here-one, loss-had, loss-passes, loss-there}
use Rattle.region_labels.proofs.member_positions.lose_at.Goals as goal

pub returns-then-as_slice-position-clause-index : goal.returns-then-as_slice-position-clause-index
returns-then-as_slice-position-clause-index c = λ before after loss is.
    let region = c.args.kept.now.region in
    let at = c.args.position in
    let dimm = c.args.dimm in
    let one = c.args.lost.now in
    let old = c.args.kept.now.index in
    let new = c.remove.new.self in
    let lt = c.requires in
    let there : handle_at region at ≡ dimm = handle-at region at lt
    ∙ subst (λ members. (get_or members at no_member).handle ≡ dimm) c.as_slice.ensures c.if-as_slice-position.true in
    let had = subst (Contains old.entries) (sym c.entry.ensures) (loss-had region dimm at one before after old.entries lt there loss is) in
    let removed = c.remove.ensures.there.1 had in
    record {
      is = loss-there region dimm at one before after old.entries new.entries lt there
          (subst (λ e. FollowsLoss e old.entries new.entries) c.entry.ensures c.remove.ensures.labels) loss is;
      room = OnTrue_at removed c.remove.ensures.room ∙ ap (λ n. old.room + n) (sym (here-one dimm region at there));
    }

pub returns-else-as_slice-position-clause-index : goal.returns-else-as_slice-position-clause-index
returns-else-as_slice-position-clause-index c = λ before after loss is.
    let region = c.args.kept.now.region in
    let at = c.args.position in
    let dimm = c.args.dimm in
    let lt = c.requires in
    let differ : handle_at region at ≢ dimm = λ e.
    subst (λ members. (get_or members at no_member).handle ≢ dimm) c.as_slice.ensures c.if-as_slice-position.false
    (sym (handle-at region at lt) ∙ e) in
    let none : here dimm region at ≡ 0 = here-none dimm region at differ in
    record {
      is = loss-passes region dimm at c.args.lost.now before after c.args.kept.now.index.entries differ loss is;
      room = omega arith;
    }
