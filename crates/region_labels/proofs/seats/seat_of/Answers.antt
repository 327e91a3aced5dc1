use Rattle.std.proofs.Common.{◌<◌, length, sym, ◌∙◌, arith}
use Rattle.std.proofs.lemmas.List.{get_or-map, length-map}
use Rattle.region_labels.specs.declared.modules.LoadedModule.{LoadedModule}
use Rattle.region_labels.specs.declared.modules.ModuleArea.TheVariants.{Missing}
use Rattle.region_labels.specs.Modules.{dimm_of}
use Rattle.region_labels.proofs.seats.seat_of.Goals as goal

pub unreachable-requires : goal.unreachable-requires
unreachable-requires c =
    let modules = c.args.modules.now in
    let k = c.requires.0 in
    let none : LoadedModule = record { dimm = 0; area = Missing } in
    let len = length-map modules dimm_of in
    let lt : k < length modules = omega (arith, len, c.requires.1) in
    let at = get_or-map dimm_of modules k none c.args.handle lt in
    c.loop-at.invariant k none (omega (arith, c.loop-at-test.false)) (sym at ∙ c.requires.2)
