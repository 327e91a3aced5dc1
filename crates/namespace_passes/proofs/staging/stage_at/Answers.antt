use Rattle.std.proofs.Common.{◌≡◌, ◌+◌, inl, inr, ℕ, [], ◌∷◌, None, Result, Ok, Err, get_or, sym, ap, subst, ◌∙◌, arith}
use Rattle.std.specs.Result.{OnOk}
use Rattle.std.specs.List.{All}
use Rattle.label_area.specs.Flips.{is_among}
use Rattle.label_codec.specs.ModuleLabels.{Labels}
use Rattle.label_codec.specs.declared.label.Label.{Label}
use Rattle.label_table.specs.Belonging.{member_at, no_member}
use Rattle.region_labels.specs.declared.modules.LoadedModule.{LoadedModule}
use Rattle.region_labels.specs.Fates.{platform_of}
use Rattle.region_labels.specs.Modules.{labels_in}
use Rattle.region_labels.specs.Changes.{dimm_at}
use Rattle.region_labels.specs.Regions.{handles}
use Rattle.region_labels.specs.Rooms.{HasRoomFor}
use Rattle.module_flips.specs.Flips.{IsPutAt, first_slot_in, with_put_at}
use Rattle.module_flips.specs.Stops.{IsOneOf}
use Rattle.module_flips.specs.Passes.{IsPass, kept_of}
use Rattle.module_flips.proofs.Passes.{pass-as, pass-within}
use Rattle.namespace_passes.specs.Staged.{IsBeforeOrWith, new_space, staged_label}
use Rattle.namespace_passes.proofs.StagedFlips.{next-below, next-labels, no_module, seat-at}
use Rattle.namespace_passes.proofs.Records.{known-handle}
use Rattle.namespace_passes.proofs.Steps.{fits-staged}
use Rattle.namespace_passes.proofs.staging.stage_at.Goals as goal

on_ok : {T E A B C D F G : Type 0} (r : Result T E) → (A → B → C → D → F → G) → OnOk r A → OnOk r B → OnOk r C → OnOk r D → OnOk r F → OnOk r G
on_ok (Ok t) f a b c d e = f a b c d e
on_ok (Err failed) f a b c d e = tt

each_ok : {T E X : Type 0} (A : X → Type 0) (r : Result T E) → ((x : X) → OnOk r (A x)) → OnOk r ((x : X) → A x)
each_ok A (Ok t) f = f
each_ok A (Err e) f = tt

one-fits : (before after : Labels) (fits : Labels → Type 0) → fits before → fits after → (labels : Labels) → IsOneOf before after labels → fits labels
one-fits before after fits before_fits after_fits labels one = elim one [
  | inl e ↦ subst fits (sym e) before_fits
  | inr e ↦ subst fits (sym e) after_fits
]

pub put_at-requires-clause-room : goal.put_at-requires-clause-room
put_at-requires-clause-room g c = λ none.
    let ms = c.args.modules.now in
    let seat = c.seat_of-seat.result in
    subst (λ h. All (HasRoomFor h) c.args.regions.now)
    (sym (seat-at ms c.args.region.now c.args.position c.requires.position seat c.seat_of-seat.ensures.within
    (λ d. subst (λ members. (get_or ms seat d).dimm ≡ (get_or members c.args.position no_member).handle) c.as_slice.ensures (c.seat_of-seat.ensures.dimm d))))
    c.requires.stage.room

pub returns-clause-staged : goal.returns-clause-staged
returns-clause-staged g c = λ before regions_before can below.
    let ms = c.args.modules.now in
    let rs = c.args.regions.now in
    let r = c.args.region.now in
    let s = c.args.space.now in
    let i = c.args.position in
    let seat = c.seat_of-seat.result in
    let now = c.put_at.new.modules in
    let put = c.put_at.ensures in
    let label = c.staged_label-label.ensures in
    let result = c.put_at.result in
    let named : (d : LoadedModule) → (get_or ms seat d).dimm ≡ (member_at r i).handle = λ d. subst (λ members. (get_or ms seat d).dimm ≡ (get_or members i no_member).handle) c.as_slice.ensures (c.seat_of-seat.ensures.dimm d) in
    on_ok result (λ is labels together regions free.
    next-below before regions_before r s can i ms rs below c.requires.position seat c.seat_of-seat.ensures.within named no_module
    (put.slot_within no_module) (put.slot_free no_module) now c.put_at.new.regions
    (subst (λ (l : Label). IsPutAt ms now seat l None) label is)
    (labels ∙ ap (λ (l : Label). with_put_at (dimm_at ms seat) (first_slot_in (get_or ms seat no_module)) l None (labels_in ms)) label)
    together (λ e. omega (arith, free e)) regions)
    put.put (put.labels no_module) put.together (put.regions no_module) (each_ok _ result put.free_slots)

pub returns-clause-pass : goal.returns-clause-pass
returns-clause-pass g c = λ before regions_before can below.
    let ms = c.args.modules.now in
    let r = c.args.region.now in
    let s = c.args.space.now in
    let i = c.args.position in
    let seat = c.seat_of-seat.result in
    let put = c.put_at.ensures in
    let start = labels_in before in
    let fits = IsBeforeOrWith (platform_of regions_before) r (new_space s) start in
    let named : (d : LoadedModule) → (get_or ms seat d).dimm ≡ (member_at r i).handle = λ d. subst (λ members. (get_or ms seat d).dimm ≡ (get_or members i no_member).handle) c.as_slice.ensures (c.seat_of-seat.ensures.dimm d) in
    pass-within (handles r) (ap (is_among (handles r)) (seat-at ms r i c.requires.position seat c.seat_of-seat.ensures.within named) ∙ known-handle r i c.requires.position)
    (pass-as (one-fits (labels_in ms) (with_put_at (dimm_at ms seat) (first_slot_in (get_or ms seat no_module)) (staged_label r s i) None (labels_in ms)) fits
    (fits-staged (platform_of regions_before) r s start i (labels_in ms) below.labels)
    (fits-staged (platform_of regions_before) r s start (i + 1) _
    (next-labels before regions_before r s can i ms c.args.regions.now below c.requires.position seat c.seat_of-seat.ensures.within named no_module (put.slot_within no_module) (put.slot_free no_module))))
    (subst (λ (l : Label). IsPass (dimm_at ms seat ∷ []) (IsOneOf (labels_in ms) (with_put_at (dimm_at ms seat) (first_slot_in (get_or ms seat no_module)) l None (labels_in ms))) g.R.Shown (kept_of ms c.args.regions.now) c.args.rig.now
    (kept_of c.put_at.new.modules c.put_at.new.regions) c.put_at.new.rig c.put_at.result) c.staged_label-label.ensures (put.pass no_module)))
