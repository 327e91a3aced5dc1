use Rattle.std.proofs.Common.{◌≡◌, ◌*◌, ◌≤◌, ℕ, [], ◌∷◌, List, length, get_or, refl, sym, ap, subst, ◌∙◌, Result, Ok, Err, true, false, eq-eqb, eqb-true, arith}
use Rattle.std.specs.Prelude.{vec_capacity, vec_len}
use Rattle.std.specs.Result.{OnOk}
use Rattle.label_table.specs.Tables.{state}
use Rattle.region_labels.specs.declared.modules.LoadedModule.{LoadedModule}
use Rattle.region_labels.specs.declared.region.RegionLabels.{RegionLabels}
use Rattle.region_labels.specs.Fates.{platform_of}
use Rattle.region_labels.specs.Modules.{labels_in, module_in}
use Rattle.region_labels.specs.Changes.{dimm_at}
use Rattle.region_labels.specs.SlotLabels.{slot_labels}
use Rattle.region_labels.specs.Rooms.{position_count, room_after_free}
use Rattle.module_flips.specs.Flips.{IsFreedAt, without_slots_at}
use Rattle.module_flips.specs.Passes.{kept_of}
use Rattle.module_flips.proofs.Passes.{no-pass, pass-as}
use Rattle.module_flips.specs.Sweeps.{is_dead_of, is_unwanted, unwanted_slots}
use Rattle.module_flips.proofs.FreedModules.{can-free-at}
use Rattle.module_flips.proofs.Slots.{few-below}
use Rattle.module_flips.proofs.SweptModules.{keeps-state, none-unwanted, swept-already, swept-to}
use Rattle.module_flips.proofs.sweep.sweep_labels.Goals as goal

on_ok : {T E A B C D F : Type 0} (r : Result T E) → (A → B → C → D → F) → OnOk r A → OnOk r B → OnOk r C → OnOk r D → OnOk r F
on_ok (Ok t) f a b c d = f a b c d
on_ok (Err e) f a b c d = tt

empty : {A : Type 0} (xs : List A) → length xs ≡ 0 → xs ≡ []
empty [] e = refl
empty (x ∷ xs) e = absurd (omega (arith, e))

pub returns-then-is_empty-clause-swept : goal.returns-then-is_empty-clause-swept
returns-then-is_empty-clause-swept g c =
    let q = c.requires in
    let len : vec_len c.list_unwanted.new.slots ≡ 0 = eqb-true (vec_len c.list_unwanted.new.slots) 0 (sym c.is_empty.ensures ∙ c.if-is_empty.true) in
    let none : c.list_unwanted.new.slots.items ≡ [] = empty c.list_unwanted.new.slots.items (sym c.list_unwanted.new.slots.ok.0 ∙ len) in
    swept-already c.args.modules.now c.args.regions.now c.args.seat q.within q.together c.index-all-seat.result
    (sym (c.list_unwanted.ensures.slots ∙ ap (λ (m : LoadedModule). unwanted_slots (is_dead_of (platform_of c.args.regions.now) (labels_in c.args.modules.now) m) m) c.index-all-seat.is) ∙ none)

pub returns-then-is_empty-clause-pass : goal.returns-then-is_empty-clause-pass
returns-then-is_empty-clause-pass g c = no-pass (dimm_at c.args.modules.now c.args.seat ∷ []) (λ labels. state (platform_of c.args.regions.now) labels ≡ state (platform_of c.args.regions.now) (labels_in c.args.modules.now))
    (kept_of c.args.modules.now c.args.regions.now) c.args.rig.now tt refl

pub list_labels-requires : goal.list_labels-requires
list_labels-requires g c =
    let P = platform_of c.args.regions.now in
    let L = labels_in c.args.modules.now in
    let here = get_or c.args.modules.now c.args.seat c.index-all-seat.result in
    let few : length (unwanted_slots (is_dead_of P L here) here) ≤ (module_in here).slots = few-below (is_unwanted (is_dead_of P L here) here) (module_in here).slots in
    let most : (module_in here).slots ≤ vec_capacity c.args.lost.now = c.requires.lost c.args.seat c.index-all-seat.result c.requires.within in
    let same : length c.deref.result.now ≡ length (unwanted_slots (is_dead_of P L here) here) =
    ap length (c.deref.ensures.value ∙ c.list_unwanted.ensures.slots ∙ ap (λ (m : LoadedModule). unwanted_slots (is_dead_of P L m) m) c.index-all-seat.is) in
    omega (arith, few, most, same)

pub free_at-requires-clause-free : goal.free_at-requires-clause-free
free_at-requires-clause-free g c =
    let P = platform_of c.args.regions.now in
    let L = labels_in c.args.modules.now in
    can-free-at c.args.modules.now c.args.regions.now c.args.seat c.requires.within c.requires.together c.index-all-seat.result
    (is_dead_of P L (get_or c.args.modules.now c.args.seat c.index-all-seat.result)) c.requires.ready c.deref-2.result.now c.deref-3.result.now c.index-modules-seat.result
    (c.deref-2.ensures.value ∙ c.list_unwanted.ensures.slots ∙ ap (λ (m : LoadedModule). unwanted_slots (is_dead_of P L m) m) c.index-all-seat.is)
    (c.deref-3.ensures.value ∙ c.list_labels.ensures.labels ∙ (λ i. slot_labels (module_in (get_or c.args.modules.now c.args.seat c.index-modules-seat.result)) ((c.deref.ensures.value ∙ sym c.deref-2.ensures.value) i)))

pub returns-clause-swept : goal.returns-clause-swept
returns-clause-swept g c =
    let ms = c.args.modules.now in
    let P = platform_of c.args.regions.now in
    let L = labels_in ms in
    let same = c.deref-2.ensures.value ∙ c.list_unwanted.ensures.slots ∙ ap (λ (m : LoadedModule). unwanted_slots (is_dead_of P L m) m) c.index-all-seat.is in
    let room : RegionLabels → ℕ = room_after_free (dimm_at ms c.args.seat) (length c.deref-3.result.now) in
    on_ok c.free_at.result (λ freed labels over kept.
    swept-to ms c.args.regions.now c.args.seat c.requires.within c.requires.together c.index-all-seat.result c.free_at.new.modules c.free_at.new.regions
    (subst (λ ss. IsFreedAt ms c.free_at.new.modules c.args.seat ss) same freed)
    (labels ∙ ap (λ ss. without_slots_at (dimm_at ms c.args.seat) ss L) same)
    room kept over (λ r. let more : ℕ = length c.deref-3.result.now * position_count (dimm_at ms c.args.seat) r.region in omega arith))
    c.free_at.ensures.freed c.free_at.ensures.labels c.free_at.ensures.over c.free_at.ensures.regions

pub returns-clause-pass : goal.returns-clause-pass
returns-clause-pass g c =
    let P = platform_of c.args.regions.now in
    let L = labels_in c.args.modules.now in
    pass-as (keeps-state c.args.modules.now c.args.regions.now c.args.seat c.requires.within c.requires.together c.index-all-seat.result c.deref-2.result.now
    (c.deref-2.ensures.value ∙ c.list_unwanted.ensures.slots ∙ ap (λ (m : LoadedModule). unwanted_slots (is_dead_of P L m) m) c.index-all-seat.is)) c.free_at.ensures.pass

pub returns-clause-idle : goal.returns-clause-idle
returns-clause-idle g c = λ clean.
    let P = platform_of c.args.regions.now in
    let L = labels_in c.args.modules.now in
    let none : c.list_unwanted.new.slots.items ≡ [] =
    c.list_unwanted.ensures.slots ∙ ap (λ (m : LoadedModule). unwanted_slots (is_dead_of P L m) m) c.index-all-seat.is
    ∙ none-unwanted c.args.modules.now c.args.regions.now c.args.seat c.requires.within c.requires.together c.index-all-seat.result clean in
    let len : vec_len c.list_unwanted.new.slots ≡ 0 = c.list_unwanted.new.slots.ok.0 ∙ ap length none in
    absurd (apart (sym (eq-eqb (vec_len c.list_unwanted.new.slots) 0 len) ∙ sym c.is_empty.ensures ∙ c.if-is_empty.false))
  where
    apart : true ≡ false → ⊥
    apart e = cc
