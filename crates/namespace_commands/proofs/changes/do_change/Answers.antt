use Rattle.std.proofs.Common.{◌≡◌, ℕ, List, sym, subst, ◌∙◌}
use Rattle.std.specs.Option.{unwrap_or}
use Rattle.cmd_words.specs.declared.parts.Change.{Change}
use Rattle.label_sets.specs.Sets.{labels_in}
use Rattle.table_steps.specs.Create.{Creates}
use Rattle.namespace_commands.specs.Commands.{IsChange}
use Rattle.namespace_commands.specs.Create.{modules_of}
use Rattle.namespace_commands.specs.EachChange.{IsChangeDone}
use Rattle.namespace_commands.proofs.EachChange.{region-among}
use Rattle.namespace_commands.proofs.changes.do_change.Goals as goal

pub returns-in-InitLabels-clause-done : goal.returns-in-InitLabels-clause-done
returns-in-InitLabels-clause-done g c =
    subst (λ (change : Change). IsChangeDone g.R.Shown c.args.platform.now change c.args.own.now c.args.sets.now c.args.rig.now c.init_labels.new.sets c.init_labels.new.rig c.init_labels.result)
    (sym c.in-InitLabels.is) c.init_labels.ensures

pub returns-in-InitLabels-clause-among : goal.returns-in-InitLabels-clause-among
returns-in-InitLabels-clause-among g c = c.init_labels.ensures.among

pub returns-in-Create-clause-done : goal.returns-in-Create-clause-done
returns-in-Create-clause-done g c =
    let m = c.in-Create in
    let P = c.args.platform.now in
    let L = labels_in c.args.sets.now in
    let uuid_is : c.unwrap_or-uuid.result ≡ unwrap_or m.uuid c.args.own.now = c.unwrap_or-uuid.ensures in
    subst (λ (change : Change). IsChangeDone g.R.Shown P change c.args.own.now c.args.sets.now c.args.rig.now c.create.new.sets c.create.new.rig c.create.result) (sym m.is)
    (subst (λ (uuid : List ℕ). IsChange (modules_of P m.region) P (Creates P L (record {
      region = m.region;
      size = m.size;
      name = m.name;
      abstraction = m.abstraction;
      sector = m.sector;
      uuid = uuid;
    })) g.R.Shown c.args.sets.now c.args.rig.now c.create.new.sets c.create.new.rig c.create.result) uuid_is c.create.ensures)

pub returns-in-Create-clause-among : goal.returns-in-Create-clause-among
returns-in-Create-clause-among g c =
    region-among g.R.Shown c.args.rig.now c.create.new.rig c.args.platform.now c.requires.sound c.in-Create.region c.create.result c.create.ensures.pass.cause

pub returns-in-Destroy-clause-done : goal.returns-in-Destroy-clause-done
returns-in-Destroy-clause-done g c =
    subst (λ (change : Change). IsChangeDone g.R.Shown c.args.platform.now change c.args.own.now c.args.sets.now c.args.rig.now c.destroy.new.sets c.destroy.new.rig c.destroy.result)
    (sym c.in-Destroy.is) c.destroy.ensures

pub returns-in-Destroy-clause-among : goal.returns-in-Destroy-clause-among
returns-in-Destroy-clause-among g c =
    region-among g.R.Shown c.args.rig.now c.destroy.new.rig c.args.platform.now c.requires.sound c.in-Destroy.region c.destroy.result c.destroy.ensures.pass.cause

pub returns-in-Rename-clause-done : goal.returns-in-Rename-clause-done
returns-in-Rename-clause-done g c =
    subst (λ (change : Change). IsChangeDone g.R.Shown c.args.platform.now change c.args.own.now c.args.sets.now c.args.rig.now c.rename.new.sets c.rename.new.rig c.rename.result)
    (sym c.in-Rename.is) c.rename.ensures

pub returns-in-Rename-clause-among : goal.returns-in-Rename-clause-among
returns-in-Rename-clause-among g c =
    region-among g.R.Shown c.args.rig.now c.rename.new.rig c.args.platform.now c.requires.sound c.in-Rename.region c.rename.result c.rename.ensures.pass.cause

pub returns-in-ReleaseHeld-clause-done : goal.returns-in-ReleaseHeld-clause-done
returns-in-ReleaseHeld-clause-done g c =
    subst (λ (change : Change). IsChangeDone g.R.Shown c.args.platform.now change c.args.own.now c.args.sets.now c.args.rig.now c.release_held.new.sets c.release_held.new.rig c.release_held.result)
    (sym c.in-ReleaseHeld.is) c.release_held.ensures.change
