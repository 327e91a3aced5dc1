use Rattle.std.proofs.Common.{◌≡◌, true}
use Rattle.spa_translate.specs.Pairs.{IsMapped, is_member}
use Rattle.namespace_commands.proofs.Parts.{outside_part}
use Rattle.namespace_commands.proofs.translations.to_spa.Goals as goal

pub returns : goal.returns
returns c =
    let member : is_member c.in-Ok.weave c.args.dimm ≡ true = cc in
    let unmapped : ¬ IsMapped c.in-Ok.weave c.args.dimm c.args.dpa = λ mapped. let some = c.in-None.ensures.mapped.1 mapped in absurd cc in
    outside_part c.args.platform.now c.args.region c.args.dimm c.args.dpa c.in-Ok.weave c.in-Ok.ensures.weave member unmapped
