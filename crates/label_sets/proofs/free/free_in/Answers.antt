use Rattle.std.proofs.Common.{map, ap, ◌∙◌, arith}
use Rattle.label_table.specs.Namespaces.{namespaces}
use Rattle.region_labels.specs.Modules.{labels_in}
use Rattle.region_labels.specs.Statuses.{space_in}
use Rattle.region_labels.proofs.Sorted.{unlisted}
use Rattle.label_sets.specs.Kept.{IsFree}
use Rattle.label_sets.proofs.Frees.{free-more}
use Rattle.label_sets.proofs.free.free_in.Goals as goal

pub free_extents-requires-clause-spaces : goal.free_extents-requires-clause-spaces
free_extents-requires-clause-spaces c =
    let L = labels_in c.args.modules.now in
    let r = c.kept-item.result.region in
    ap (map space_in) (c.deref.ensures.value ∙ c.in_ok-spaces.ensures) ∙ unlisted L r (namespaces L r)

pub loop-kept-preserved : goal.loop-kept-preserved
loop-kept-preserved c =
    let before = c.loop-kept.invariant in
    let free = c.in_ok-free_extents.field-0 in
    let here : IsFree c.args.modules.now c.args.regions.now c.kept-item.result free = record { extents = c.in_ok-free_extents.ensures.free; whole = c.in_ok-free_extents.ensures.whole } in
    record {
      each = omega (arith, before.each, c.in_ok-push.ensures.len);
      is = free-more c.args.modules.now c.args.regions.now c.loop-kept.free.items c.push.new.self.items free c.loop-kept.kept-index c.kept-item.result before.each c.loop-kept-test.true c.kept-item.is
          c.in_ok-push.ensures.items before.is here;
    }
