use Rattle.std.proofs.Common.{◌≡◌, Some, None, find, sym, ap, subst, ◌∙◌}
use Rattle.std.specs.Option.{option_copied}
use Rattle.region_map.specs.declared.platform.Region.{Region}
use Rattle.label_table.specs.Statuses.{RegionReady, status}
use Rattle.label_table.proofs.ListTests.{some_is}
use Rattle.label_sets.specs.Sets.{labels_in}
use Rattle.namespace_commands.specs.Lists.{IsUnread}
use Rattle.namespace_commands.specs.Releases.{lacks_area}
use Rattle.namespace_commands.proofs.ReleaseRefusals.{lacking-known, lacking-ready, lacking-refusal, lacks-none}
use Rattle.namespace_commands.proofs.release_refusals.region_refusal.Goals as goal

pub returns-in_default : goal.returns-in_default
returns-in_default c =
    let P = c.args.platform.now in
    let L = labels_in c.args.sets.now in
    let held = c.args.held.now in
    let u = c.args.uuid.now in
    let none : find (lacks_area L held u) P.regions ≡ None =
    ap (find (lacks_area L held u)) (sym c.as_slice.ensures) ∙ sym c.lacking_region.ensures ∙ ap option_copied c.in_default.is in
    sym (lacks-none P c.requires.sound L c.args.dimm u held c.requires.held none)

pub returns-in-Ok : goal.returns-in-Ok
returns-in-Ok c =
    let P = c.args.platform.now in
    let L = labels_in c.args.sets.now in
    let held = c.args.held.now in
    let u = c.args.uuid.now in
    let r = c.in-Some.region.now in
    let found : find (lacks_area L held u) P.regions ≡ Some r =
    ap (find (lacks_area L held u)) (sym c.as_slice.ensures) ∙ sym c.lacking_region.ensures ∙ ap option_copied c.in-Some.is in
    let view = c.in-Ok.ensures.view in
    let known = lacking-known P c.requires.sound L c.args.dimm u held c.requires.held r found in
    sym (lacking-ready P c.requires.sound L c.args.dimm u held c.requires.held r found (subst (λ (q : Region). status L q ≡ RegionReady) (some_is (sym view.found ∙ known)) view.ready))

pub returns-in-Err-Refused : goal.returns-in-Err-Refused
returns-in-Err-Refused c =
    let P = c.args.platform.now in
    let L = labels_in c.args.sets.now in
    let held = c.args.held.now in
    let u = c.args.uuid.now in
    let r = c.in-Some.region.now in
    let found : find (lacks_area L held u) P.regions ≡ Some r =
    ap (find (lacks_area L held u)) (sym c.as_slice.ensures) ∙ sym c.lacking_region.ensures ∙ ap option_copied c.in-Some.is in
    sym (lacking-refusal P c.requires.sound L c.args.dimm u held c.requires.held r found c.in-Err-Refused.refusal (subst (IsUnread P L r.index) c.in-Err-Refused.field-0-is c.in-Err-Refused.ensures.fault))
