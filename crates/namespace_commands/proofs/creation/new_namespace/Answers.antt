use Rattle.std.proofs.Common.{◌/◌, ◌<◌, Some, None, sym, subst}
use Rattle.label_sets.specs.Lookups.{FitsFirst}
use Rattle.label_sets.specs.Sets.{labels_in}
use Rattle.namespace_commands.proofs.AcceptedCreates.{fits-first, has-free, has-place, made-length}
use Rattle.namespace_commands.proofs.creation.new_namespace.Goals as goal

pub nonzero_div-length : goal.nonzero_div-length
nonzero_div-length c = subst (λ n. 0 < n) (sym c.len.ensures) (has-free c.args.platform.now (labels_in c.args.sets.now) c.args.asked.now c.args.region.now c.requires.known c.requires.unrefused).is.size.some_ways

pub first_fit-requires : goal.first_fit-requires
first_fit-requires c =
    let a = c.args.asked.now in
    subst (λ n. 0 < a.size / n) (sym c.len.ensures) (has-free c.args.platform.now (labels_in c.args.sets.now) a c.args.region.now c.requires.known c.requires.unrefused).is.size.some

pub unreachable-requires : goal.unreachable-requires
unreachable-requires c =
    let a = c.args.asked.now in
    let sets = c.args.sets.now in
    let r = c.args.region.now in
    has-place c.args.platform.now sets c.requires.state a r c.requires.known c.requires.unrefused
    (subst (λ n. FitsFirst sets a.region (a.size / n) None) c.len.ensures (subst (FitsFirst sets a.region (a.size / c.len.result)) c.in_default.is c.in_ok-offset.ensures.fit))

pub returns-clause-space : goal.returns-clause-space
returns-clause-space c =
    let a = c.args.asked.now in
    let sets = c.args.sets.now in
    let r = c.args.region.now in
    record {
      first = fits-first c.args.platform.now sets c.requires.state a r c.requires.known c.requires.unrefused c.in-Some.offset
          (subst (λ n. FitsFirst sets a.region (a.size / n) (Some c.in-Some.offset)) c.len.ensures (subst (FitsFirst sets a.region (a.size / c.len.result)) c.in-Some.is c.in_ok-offset.ensures.fit));
      is_made = made-length a r c.in-Some.offset c.len.result c.len.ensures;
    }
