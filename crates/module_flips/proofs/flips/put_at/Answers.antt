use Rattle.std.proofs.Common.{◌≡◌, ℕ, ◌<◌, ◌+◌, List, length, Option, None, inl, inr, [], ◌∷◌, Result, Ok, Err, get_or, set, refl, sym, ap, subst, ◌∙◌}
use Rattle.std.specs.List.{All, AllZip}
use Rattle.rig_trait.specs.declared.shown.Shown.{Ghosts}
use Rattle.label_codec.specs.declared.label.Label.{Label}
use Rattle.label_area.specs.Flips.{replaced}
use Rattle.region_labels.specs.declared.modules.LoadedModule.{LoadedModule}
use Rattle.region_labels.specs.declared.region.RegionLabels.{RegionLabels}
use Rattle.region_labels.specs.Modules.{labels_in, module_in}
use Rattle.region_labels.specs.Changes.{dimm_at}
use Rattle.region_labels.specs.Flips.{StoodBeforePut}
use Rattle.region_labels.specs.Rooms.{HasRoomFor, KeepsRegion, room_after_put}
use Rattle.region_labels.specs.SlotLabels.{replaced_label}
use Rattle.region_labels.proofs.ChangedModules.{dimm_at-same}
use Rattle.module_flips.specs.Flips.{first_slot_in, with_put_at}
use Rattle.module_flips.specs.declared.flips.AreaFailed.{AreaFailed}
use Rattle.module_flips.specs.Passes.{IsPass, Kept}
use Rattle.module_flips.specs.Stops.{IsOneOf}
use Rattle.module_flips.proofs.Freed.{at-seat, changed, new-at}
use Rattle.module_flips.proofs.OnePass.{flip-pass, kept-labels}
use Rattle.module_flips.specs.Flips.{CanPut, HasFreeIn, IsReplaced}
use Rattle.module_flips.specs.Together.{IsTogether, free_slots}
use Rattle.module_flips.proofs.Freed.{used-within}
use Rattle.module_flips.proofs.FreeSlots.{put-free}
use Rattle.module_flips.proofs.Put.{either-put, labels-put, none-replaced, stood-put}
use Rattle.module_flips.proofs.Together.{is-put-at, put-together, same-regions}
use Rattle.module_flips.proofs.flips.put_at.Goals as goal

-- a label can be put there
can : {ms : List LoadedModule} {rs : List RegionLabels} {seat : ℕ} (x : LoadedModule) (replaces : Option ℕ) → IsTogether ms rs → seat < length ms → HasFreeIn (get_or ms seat x).area → IsReplaced (get_or ms seat x) replaces → CanPut (get_or ms seat x) replaces
can {ms} {rs} {seat} x replaces together within free there = record { free = free; own = together.own seat x within; in_use = together.in_use seat x within; replaced = there }

pub follow_put-requires-clause-put : goal.follow_put-requires-clause-put
follow_put-requires-clause-put g c =
    let ms = c.args.modules.now in
    let x = c.index-modules-seat-2.result in
    let q = c.requires in
    subst (λ k. StoodBeforePut (set ms c.args.seat c.put_in.new.loaded) c.args.seat (record { uuid = c.args.label.now.uuid; slot = k }) c.replaced_label-lost.result c.args.regions.now) (sym c.in-Ok.ensures.slot)
    (stood-put ms c.args.seat q.within q.together.once x c.put_in.new.loaded c.index-modules-seat-2.is c.put_in.ensures.dimm c.args.label.now c.args.replaces (can x c.args.replaces c.requires.together c.requires.within (q.free x) (q.replaces x)) c.put_in.ensures.within c.put_in.ensures.was_free
    c.in-Ok.ensures.put c.args.regions.now c.replaced_label-lost.result
    (c.replaced_label-lost.ensures ∙ ap (λ (m : LoadedModule). replaced_label (module_in m) c.args.replaces) (at-seat ms c.args.seat q.within q.together.once x c.put_in.new.loaded c.index-modules-seat-2.is c.put_in.ensures.dimm c.index-modules-seat.result))
    q.together.over)

pub follow_put-requires-clause-room : goal.follow_put-requires-clause-room
follow_put-requires-clause-room g c = λ none.
    let ms = c.args.modules.now in
    let x = c.index-modules-seat-2.result in
    let q = c.requires in
    subst (λ d. All (HasRoomFor d) c.args.regions.now)
    (sym (dimm_at-same ms _ c.args.seat (changed ms c.args.seat q.within q.together.once x c.put_in.new.loaded c.index-modules-seat-2.is c.put_in.ensures.dimm)))
    (q.room (none-replaced (module_in (get_or ms c.args.seat c.index-modules-seat.result)) c.args.replaces (q.replaces c.index-modules-seat.result) (sym c.replaced_label-lost.ensures ∙ none)))

pub returns-in-Ok-clause-labels : goal.returns-in-Ok-clause-labels
returns-in-Ok-clause-labels g c = λ d.
    let ms = c.args.modules.now in
    let x = c.index-modules-seat-2.result in
    let q = c.requires in
    labels-put ms c.args.seat q.within q.together.once x c.put_in.new.loaded c.index-modules-seat-2.is c.put_in.ensures.dimm c.args.label.now c.args.replaces (can x c.args.replaces c.requires.together c.requires.within (q.free x) (q.replaces x)) c.put_in.ensures.within c.put_in.ensures.was_free c.in-Ok.ensures.put
    ∙ ap (λ (m : LoadedModule). with_put_at (dimm_at ms c.args.seat) (first_slot_in m) c.args.label.now c.args.replaces (labels_in ms))
    (sym (at-seat ms c.args.seat q.within q.together.once x c.put_in.new.loaded c.index-modules-seat-2.is c.put_in.ensures.dimm d))

-- the labels afterwards, told of the module at the seat in other words
told-of : (ms : List LoadedModule) (seat : ℕ) (here there : LoadedModule) (label : Label) (replaces : Option ℕ) {R : Type 0} {m : Ghosts R} {old new : R} {before after : Kept} {result : Result Unit AreaFailed} → there ≡ here
    → IsPass (dimm_at ms seat ∷ []) (IsOneOf (labels_in ms) (with_put_at (dimm_at ms seat) (first_slot_in here) label replaces (labels_in ms))) m before old after new result
    → IsPass (dimm_at ms seat ∷ []) (IsOneOf (labels_in ms) (with_put_at (dimm_at ms seat) (first_slot_in there) label replaces (labels_in ms))) m before old after new result
told-of ms seat here there label replaces {R} {m} {old} {new} {before} {after} {result} same pass = subst (λ (x : LoadedModule). IsPass (dimm_at ms seat ∷ []) (IsOneOf (labels_in ms) (with_put_at (dimm_at ms seat) (first_slot_in x) label replaces (labels_in ms))) m before old after new result) (sym same) pass

pub returns-in-Ok-clause-pass : goal.returns-in-Ok-clause-pass
returns-in-Ok-clause-pass g c = λ d.
    let ms = c.args.modules.now in
    let x = c.index-modules-seat-2.result in
    let q = c.requires in
    let did = c.put_in.ensures in
    let here = get_or ms c.args.seat x in
    told-of ms c.args.seat here (get_or ms c.args.seat d) c.args.label.now c.args.replaces (at-seat ms c.args.seat q.within q.together.once x c.put_in.new.loaded c.index-modules-seat-2.is did.dimm d)
    (flip-pass ms c.args.seat q.within q.together.once x c.put_in.new.loaded c.index-modules-seat-2.is did.dimm g.R.Shown c.args.rig.now c.put_in.new.rig c.args.regions.now c.follow_put.new.regions
    (IsOneOf (labels_in ms) (with_put_at (dimm_at ms c.args.seat) (first_slot_in here) c.args.label.now c.args.replaces (labels_in ms))) (Ok tt) did.size (same-regions _ c.args.regions.now c.follow_put.new.regions c.follow_put.ensures.kept)
    (inr (labels-put ms c.args.seat q.within q.together.once x c.put_in.new.loaded c.index-modules-seat-2.is did.dimm c.args.label.now c.args.replaces (can x c.args.replaces q.together q.within (q.free x) (q.replaces x)) did.within did.was_free c.in-Ok.ensures.put))
    did.writes_only c.in-Ok.ensures.cause tt did.reads c.in-Ok.ensures.stands
    (λ told all. either-put ms c.args.seat q.within q.together.once x c.put_in.new.loaded c.index-modules-seat-2.is did.dimm c.args.label.now c.args.replaces (can x c.args.replaces q.together q.within (q.free x) (q.replaces x)) did.within did.was_free
    g.R.Shown c.args.rig.now c.put_in.new.rig all (did.any_moment told)))

pub returns-in-Err-clause-pass : goal.returns-in-Err-clause-pass
returns-in-Err-clause-pass g c = λ d.
    let ms = c.args.modules.now in
    let x = c.index-modules-seat-2.result in
    let q = c.requires in
    let did = c.put_in.ensures in
    let here = get_or ms c.args.seat x in
    told-of ms c.args.seat here (get_or ms c.args.seat d) c.args.label.now c.args.replaces (at-seat ms c.args.seat q.within q.together.once x c.put_in.new.loaded c.index-modules-seat-2.is did.dimm d)
    (flip-pass ms c.args.seat q.within q.together.once x c.put_in.new.loaded c.index-modules-seat-2.is did.dimm g.R.Shown c.args.rig.now c.put_in.new.rig c.args.regions.now c.args.regions.now
    (IsOneOf (labels_in ms) (with_put_at (dimm_at ms c.args.seat) (first_slot_in here) c.args.label.now c.args.replaces (labels_in ms))) (Err c.in-Err.failed) did.size refl
    (inl (kept-labels ms c.args.seat q.within q.together.once x c.put_in.new.loaded c.index-modules-seat-2.is did.dimm c.in-Err.ensures.kept))
    did.writes_only c.in-Err.ensures.cause c.in-Err.ensures.names did.reads (λ told stored. tt)
    (λ told all. either-put ms c.args.seat q.within q.together.once x c.put_in.new.loaded c.index-modules-seat-2.is did.dimm c.args.label.now c.args.replaces (can x c.args.replaces q.together q.within (q.free x) (q.replaces x)) did.within did.was_free
    g.R.Shown c.args.rig.now c.put_in.new.rig all (did.any_moment told)))

pub returns-in-Ok-clause-regions : goal.returns-in-Ok-clause-regions
returns-in-Ok-clause-regions g c = λ d.
    let ms = c.args.modules.now in
    let x = c.index-modules-seat-2.result in
    let q = c.requires in
    subst (λ h. AllZip (KeepsRegion (room_after_put h (replaced_label (module_in (get_or ms c.args.seat d)) c.args.replaces))) c.args.regions.now c.follow_put.new.regions)
    (dimm_at-same ms _ c.args.seat (changed ms c.args.seat q.within q.together.once x c.put_in.new.loaded c.index-modules-seat-2.is c.put_in.ensures.dimm))
    (subst (λ lost. AllZip (KeepsRegion (room_after_put (dimm_at (set ms c.args.seat c.put_in.new.loaded) c.args.seat) lost)) c.args.regions.now c.follow_put.new.regions)
    (c.replaced_label-lost.ensures ∙ ap (λ (m : LoadedModule). replaced_label (module_in m) c.args.replaces)
    (at-seat ms c.args.seat q.within q.together.once x c.put_in.new.loaded c.index-modules-seat-2.is c.put_in.ensures.dimm c.index-modules-seat.result
    ∙ sym (at-seat ms c.args.seat q.within q.together.once x c.put_in.new.loaded c.index-modules-seat-2.is c.put_in.ensures.dimm d)))
    c.follow_put.ensures.kept)

pub returns-in-Ok-clause-slot_within : goal.returns-in-Ok-clause-slot_within
returns-in-Ok-clause-slot_within g c = λ d. subst (λ (m : LoadedModule). first_slot_in m < (module_in m).slots)
    (sym (at-seat c.args.modules.now c.args.seat c.requires.within c.requires.together.once c.index-modules-seat-2.result c.put_in.new.loaded c.index-modules-seat-2.is c.put_in.ensures.dimm d)) c.put_in.ensures.within

pub returns-in-Ok-clause-slot_free : goal.returns-in-Ok-clause-slot_free
returns-in-Ok-clause-slot_free g c = λ d. subst (λ (m : LoadedModule). (module_in m).at (first_slot_in m) ≡ None)
    (sym (at-seat c.args.modules.now c.args.seat c.requires.within c.requires.together.once c.index-modules-seat-2.result c.put_in.new.loaded c.index-modules-seat-2.is c.put_in.ensures.dimm d)) c.put_in.ensures.was_free

pub returns-in-Err-clause-slot_within : goal.returns-in-Err-clause-slot_within
returns-in-Err-clause-slot_within g c = λ d. subst (λ (m : LoadedModule). first_slot_in m < (module_in m).slots)
    (sym (at-seat c.args.modules.now c.args.seat c.requires.within c.requires.together.once c.index-modules-seat-2.result c.put_in.new.loaded c.index-modules-seat-2.is c.put_in.ensures.dimm d)) c.put_in.ensures.within

pub returns-in-Err-clause-slot_free : goal.returns-in-Err-clause-slot_free
returns-in-Err-clause-slot_free g c = λ d. subst (λ (m : LoadedModule). (module_in m).at (first_slot_in m) ≡ None)
    (sym (at-seat c.args.modules.now c.args.seat c.requires.within c.requires.together.once c.index-modules-seat-2.result c.put_in.new.loaded c.index-modules-seat-2.is c.put_in.ensures.dimm d)) c.put_in.ensures.was_free

pub returns-in-Ok-clause-together : goal.returns-in-Ok-clause-together
returns-in-Ok-clause-together g c =
    let x = c.index-modules-seat-2.result in
    put-together c.args.modules.now c.args.regions.now _ c.follow_put.new.regions c.args.seat c.args.label.now c.args.replaces x c.requires.together
    (is-put-at c.args.modules.now c.args.seat c.requires.within c.requires.together.once x c.put_in.new.loaded c.index-modules-seat-2.is c.put_in.ensures.dimm c.args.label.now c.args.replaces c.put_in.ensures.own c.put_in.ensures.size c.in-Ok.ensures.put)
    (same-regions _ c.args.regions.now c.follow_put.new.regions c.follow_put.ensures.kept) c.follow_put.ensures.over

pub returns-in-Ok-clause-free_slots : goal.returns-in-Ok-clause-free_slots
returns-in-Ok-clause-free_slots g c = λ d.
    let ms = c.args.modules.now in
    let x = c.index-modules-seat-2.result in
    let q = c.requires in
    let here = get_or ms c.args.seat x in
    let moved = at-seat ms c.args.seat q.within q.together.once x c.put_in.new.loaded c.index-modules-seat-2.is c.put_in.ensures.dimm in
    let there = new-at ms c.args.seat q.within q.together.once x c.put_in.new.loaded c.index-modules-seat-2.is c.put_in.ensures.dimm in
    subst (λ (m : LoadedModule). free_slots (get_or (set ms c.args.seat c.put_in.new.loaded) c.args.seat d) + 1 ≡ free_slots m + length (replaced c.args.replaces)) (sym (moved d))
    (subst (λ (m : LoadedModule). free_slots m + 1 ≡ free_slots here + length (replaced c.args.replaces)) (sym (there d))
    (put-free here c.args.label.now (q.free x) (q.together.in_use c.args.seat x q.within) (used-within here.area here.dimm) c.put_in.ensures.within c.put_in.new.loaded c.args.replaces (q.replaces x) c.in-Ok.ensures.put))
