use Rattle.std.proofs.Common.{List, sym, subst}
use Rattle.std.specs.List.{Contains}
use Rattle.region_map.specs.declared.platform.Region.{Region}
use Rattle.label_table.proofs.SoundPlatforms.{sound-disjoint}
use Rattle.namespace_commands.proofs.lists.all_spaces.Goals as goal

pub push_spaces-requires-clause-known : goal.push_spaces-requires-clause-known
push_spaces-requires-clause-known c =
    let P = c.args.platform.now in
    let region = c.region-item.result in
    let in_P : Contains P.regions region = subst (λ (rs : List Region). Contains rs region) c.as_slice-region-items.ensures (c.loop-region.region-index, c.loop-region-test.true, sym c.region-item.is) in
    (sound-disjoint P c.requires.sound).indexes region in_P
