use Rattle.std.proofs.Common.{◌≡◌, ◌≤◌, length, ap, subst, ◌∙◌, arith}
use Rattle.std.proofs.lemmas.Result.{IfOk-weaker}
use Rattle.extent_alloc.specs.Free.{FreeSpace, is_outside}
use Rattle.view_types.specs.Intervals.{AreMaximal}
use Rattle.label_table.specs.Division.{part_size, size_among}
use Rattle.region_labels.specs.Fates.{platform_of}
use Rattle.region_labels.specs.Modules.{labels_in}
use Rattle.region_labels.proofs.Taken.{all-ranges, free-outside}
use Rattle.region_labels.proofs.free.free_extents.Goals as goal

pub returns-clause-free : goal.returns-clause-free
returns-clause-free c =
    let P = platform_of c.args.regions.now in
    let L = labels_in c.args.modules.now in
    let r = c.args.kept.now.region in
    let ranges = c.loop-position.ranges.items in
    let past : length r.members ≤ c.loop-position.position = omega (arith, c.loop-position-test.false, c.len-position-end.ensures) in
    let are = all-ranges P L r c.args.spaces.now ranges c.loop-position.position past c.requires.spaces c.loop-position.invariant in
    let whole : c.part_size.result ≡ part_size r = c.part_size.ensures ∙ ap size_among c.as_slice-2.ensures in
    IfOk-weaker c.outside.result _ _ (λ (free : FreeSpace) maximal. free-outside P L r free.extents ranges are (subst (λ n. AreMaximal n (is_outside n ranges) free.extents) whole maximal)) c.outside.ensures.extents
