use Rattle.std.proofs.Common.{◌≡◌, List, ℕ, Result, refl, sym, subst, ◌∙◌}
use Rattle.view_types.specs.declared.reply.Reply.{Reply}
use Rattle.cmd_words.specs.declared.parts.Part.{Part}
use Rattle.cmd_words.specs.Parts.{part_of}
use Rattle.cmd_words.specs.declared.parts.Part.TheVariants as parts
use Rattle.label_sets.specs.Sets.{StoredSets, labels_in}
use Rattle.namespace_commands.specs.declared.creation.ChangeFault.{ChangeFault}
use Rattle.namespace_commands.specs.EachChange.{IsChangeDone}
use Rattle.namespace_commands.specs.Lists.{IsShown}
use Rattle.namespace_commands.specs.Translations.{IsTranslated}
use Rattle.namespace_core.specs.Done.{IsDone, run_by}
use Rattle.namespace_core.proofs.Changing.{change-is-done}
use Rattle.namespace_core.proofs.Telling.{tells-done, tells-of}
use Rattle.namespace_core.proofs.commands.do_command.Goals as goal

pub returns-in-Change : goal.returns-in-Change
returns-in-Change g c =
    let P = c.args.platform.now in
    let sets = c.args.sets.now in
    let own = c.args.own.now in
    let rig = c.args.rig.now in
    let done : IsChangeDone g.R.Shown P c.in-Change.change own sets rig c.do_change.new.sets c.do_change.new.rig c.do_change.result =
    subst (λ (bytes : List ℕ). IsChangeDone g.R.Shown P c.in-Change.change bytes sets rig c.do_change.new.sets c.do_change.new.rig c.do_change.result) c.as_bytes.ensures c.do_change.ensures.done in
    subst (λ (part : Part). IsDone g.R.Shown P part own sets rig c.do_change.new.sets c.do_change.new.rig (run_by c.do_change.result)) (sym (sym c.part.ensures ∙ c.in-Change.is))
    (change-is-done g.R.Shown P sets c.requires.state own rig c.do_change.new.sets c.do_change.new.rig c.in-Change.change c.do_change.result done c.do_change.ensures.among)

pub returns-in-Query : goal.returns-in-Query
returns-in-Query g c =
    let P = c.args.platform.now in
    let sets = c.args.sets.now in
    let own = c.args.own.now in
    let rig = c.args.rig.now in
    subst (λ (after : StoredSets). IsDone g.R.Shown P (part_of c.args.command.now) own sets rig after rig (run_by c.told.result)) (sym c.show.ensures.same)
    (subst (λ (part : Part). IsDone g.R.Shown P part own sets rig sets rig (run_by c.told.result)) (sym (sym c.part.ensures ∙ c.in-Query.is))
    (subst (λ (answer : Result Reply ChangeFault). IsDone g.R.Shown P (parts.Query c.in-Query.query) own sets rig sets rig (run_by answer)) (sym c.told.ensures)
    (tells-done g.R.Shown P sets c.requires.state (parts.Query c.in-Query.query) own rig c.show.result
    (tells-of P (labels_in sets) (IsShown P (labels_in sets) c.in-Query.query) c.show.result c.show.ensures.shown) (λ answer. refl))))

pub returns-in-Translation : goal.returns-in-Translation
returns-in-Translation g c =
    let P = c.args.platform.now in
    let sets = c.args.sets.now in
    let own = c.args.own.now in
    let rig = c.args.rig.now in
    subst (λ (part : Part). IsDone g.R.Shown P part own sets rig sets rig (run_by c.told-in-Translation.result)) (sym (sym c.part.ensures ∙ c.in-Translation.is))
    (subst (λ (answer : Result Reply ChangeFault). IsDone g.R.Shown P (parts.Translation c.in-Translation.translation) own sets rig sets rig (run_by answer)) (sym c.told-in-Translation.ensures)
    (tells-done g.R.Shown P sets c.requires.state (parts.Translation c.in-Translation.translation) own rig c.translate.result
    (tells-of P (labels_in sets) (IsTranslated P c.in-Translation.translation) c.translate.result c.translate.ensures) (λ answer. refl)))
