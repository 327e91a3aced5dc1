use Rattle.std.proofs.Common.{◌≡◌, ◌≤◌, length, get_or, ap, subst, sym, ◌∙◌, arith}
use Rattle.std.specs.Prelude.{vec_capacity}
use Rattle.region_labels.specs.Fates.{platform_of}
use Rattle.region_labels.specs.Modules.{labels_in, module_in}
use Rattle.region_labels.specs.Changes.{dimm_at}
use Rattle.region_labels.specs.Rooms.{room_after_free}
use Rattle.region_labels.specs.SlotLabels.{slot_labels}
use Rattle.module_flips.specs.Flips.{IsFreedAt, without_slots_at}
use Rattle.module_flips.specs.Releases.{has_or_is_dead, released_slots}
use Rattle.module_flips.specs.Sweeps.{is_unwanted}
use Rattle.module_flips.proofs.FreedModules.{can-free-at}
use Rattle.module_flips.proofs.Passes.{pass-as, still-ended, still-failed}
use Rattle.module_flips.proofs.ReleasedModules.{count-is, keeps-or-releases, released-to}
use Rattle.module_flips.proofs.Slots.{few-below}
use Rattle.module_flips.proofs.release.release_labels.Goals as goal

pub list_labels-requires : goal.list_labels-requires
list_labels-requires g c =
    let P = platform_of c.args.regions.now in
    let L = labels_in c.args.modules.now in
    let u = c.args.uuid.now in
    let here = get_or c.args.modules.now c.args.seat c.index-all-seat.result in
    let few : length (released_slots P L u here) ≤ (module_in here).slots = few-below (is_unwanted (has_or_is_dead P L u here) here) (module_in here).slots in
    let most : (module_in here).slots ≤ vec_capacity c.args.lost.now = c.requires.lost c.args.seat c.index-all-seat.result c.requires.within in
    let same : length c.deref.result.now ≡ length (released_slots P L u here) = ap length (c.deref.ensures.value ∙ c.list_released.ensures.slots ∙ ap (released_slots P L u) c.index-all-seat.is) in
    omega (arith, few, most, same)

pub free_at-requires-clause-free : goal.free_at-requires-clause-free
free_at-requires-clause-free g c =
    let P = platform_of c.args.regions.now in
    let L = labels_in c.args.modules.now in
    let u = c.args.uuid.now in
    can-free-at c.args.modules.now c.args.regions.now c.args.seat c.requires.within c.requires.together c.index-all-seat.result
    (has_or_is_dead P L u (get_or c.args.modules.now c.args.seat c.index-all-seat.result)) c.requires.ready c.deref-2.result.now c.deref-3.result.now c.index-modules-seat.result
    (c.deref-2.ensures.value ∙ c.list_released.ensures.slots ∙ ap (released_slots P L u) c.index-all-seat.is)
    (c.deref-3.ensures.value ∙ c.list_labels.ensures.labels ∙ (λ i. slot_labels (module_in (get_or c.args.modules.now c.args.seat c.index-modules-seat.result)) ((c.deref.ensures.value ∙ sym c.deref-2.ensures.value) i)))

pub returns-in-Ok-clause-count : goal.returns-in-Ok-clause-count
returns-in-Ok-clause-count g c =
    c.count_labels-count.ensures
    ∙ count-is c.args.modules.now c.args.regions.now c.args.seat c.requires.within c.requires.together c.args.uuid.now c.requires.held c.index-modules-seat-2.result

pub returns-in-Ok-clause-released : goal.returns-in-Ok-clause-released
returns-in-Ok-clause-released g c =
    let ms = c.args.modules.now in
    let L = labels_in ms in
    let same = c.deref-2.ensures.value ∙ c.list_released.ensures.slots ∙ ap (released_slots (platform_of c.args.regions.now) L c.args.uuid.now) c.index-all-seat.is in
    released-to ms c.args.regions.now c.args.seat c.requires.within c.requires.together c.args.uuid.now c.requires.held c.index-all-seat.result c.free_at.new.modules c.free_at.new.regions
    (subst (λ ss. IsFreedAt ms c.free_at.new.modules c.args.seat ss) same c.in-Ok.ensures.freed)
    (c.in-Ok.ensures.labels ∙ ap (λ ss. without_slots_at (dimm_at ms c.args.seat) ss L) same)
    (room_after_free (dimm_at ms c.args.seat) (length c.deref-3.result.now)) c.in-Ok.ensures.regions c.in-Ok.ensures.over

pub returns-in-Ok-clause-pass : goal.returns-in-Ok-clause-pass
returns-in-Ok-clause-pass g c =
    still-ended (pass-as (keeps-or-releases c.args.modules.now c.args.regions.now c.args.seat c.requires.within c.requires.together c.args.uuid.now c.requires.held c.index-all-seat.result c.deref-2.result.now
    (c.deref-2.ensures.value ∙ c.list_released.ensures.slots ∙ ap (released_slots (platform_of c.args.regions.now) (labels_in c.args.modules.now) c.args.uuid.now) c.index-all-seat.is)) c.in-Ok.ensures.pass)

pub returns-in-Err-clause-pass : goal.returns-in-Err-clause-pass
returns-in-Err-clause-pass g c =
    still-failed (pass-as (keeps-or-releases c.args.modules.now c.args.regions.now c.args.seat c.requires.within c.requires.together c.args.uuid.now c.requires.held c.index-all-seat.result c.deref-2.result.now
    (c.deref-2.ensures.value ∙ c.list_released.ensures.slots ∙ ap (released_slots (platform_of c.args.regions.now) (labels_in c.args.modules.now) c.args.uuid.now) c.index-all-seat.is)) c.in-Err.ensures.pass)
