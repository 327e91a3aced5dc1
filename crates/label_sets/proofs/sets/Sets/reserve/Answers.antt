use Rattle.std.proofs.Common.{◌≡◌, false, true, List, length, map, sym, ap, subst, ◌∙◌, Result, Ok, Err}
use Rattle.std.specs.Prelude.{IfSome}
use Rattle.std.specs.Result.{OnErr}
use Rattle.std.specs.Vec.{with_items}
use Rattle.std.proofs.lemmas.Option.{IfSome_then}
use Rattle.extent_alloc.specs.Free.{FreeSpace}
use Rattle.label_table.specs.Belonging.{IsDisjoint}
use Rattle.region_labels.specs.Fates.{with_regions}
use Rattle.region_labels.specs.Modules.{labels_in}
use Rattle.region_labels.specs.declared.region.RegionLabels.{RegionLabels}
use Rattle.label_sets.specs.Kept.{AllFree, IsReadyIn}
use Rattle.label_sets.specs.Room.{HaveExtentRoom, without_room}
use Rattle.label_sets.specs.Sets.{StoredSets}
use Rattle.label_sets.proofs.Rooms.{has-room, known-still, same-length, same-regions, still-few, still-free, still-over, written-is, written-same}
use Rattle.label_sets.proofs.sets.Sets.reserve.Goals as goal

on_err : {T E P : Type 0} (r : Result T E) → P → OnErr r P
on_err (Ok t) p = tt
on_err (Err e) p = p

no_room : {A : Type 0} → false ≡ true → A
no_room e = absurd cc

pub invariant_of-self : goal.invariant_of-self
invariant_of-self c =
    let ws = c.reserve_labels.new.regions in
    let now = (with_items c.self.inside.regions ws).items in
    let was = c.self.inside.regions.items in
    let same : map without_room now ≡ map without_room was = written-same without_room c.self.inside.regions ws (c.reserve_labels.ensures.same ∙ ap (map without_room) c.deref_mut.ensures.value) in
    let kept = c.self.invariant in
    record {
      once = kept.once;
      own = kept.own;
      in_use = kept.in_use;
      disjoint = subst (λ rs. IsDisjoint (with_regions rs)) (sym (same-regions now was same)) kept.disjoint;
      over = still-over now was same c.self.inside.modules.items kept.over;
      free = IfSome_then c.self.inside.free kept.free (still-free now was same c.self.inside.modules.items);
      ready = subst (λ qs. IfSome c.self.inside.ready (IsReadyIn (labels_in c.self.inside.modules.items) qs)) (sym (same-regions now was same)) kept.ready;
      few = still-few now was same kept.few;
      slots = kept.slots;
      lost = kept.lost;
      room = λ e. no_room (sym c.if-self.false ∙ e);
    }

pub returns-in_err-reserve_labels-clause-err : goal.returns-in_err-reserve_labels-clause-err
returns-in_err-reserve_labels-clause-err c =
    let ws = c.reserve_labels.new.regions in
    let now = (with_items c.self.inside.regions ws).items in
    let was = c.self.inside.regions.items in
    let same : map without_room now ≡ map without_room was = written-same without_room c.self.inside.regions ws (c.reserve_labels.ensures.same ∙ ap (map without_room) c.deref_mut.ensures.value) in
    on_err c.from_residual.result ((λ i. record { regions = same-regions now was same i; modules = c.self.inside.modules.items; room = c.self.inside.room }) ∙ c.self.view_is)

pub reserve-requires : goal.reserve-requires
reserve-requires c =
    let ws = c.reserve_labels.new.regions in
    let was = c.self.inside.regions.items in
    let region_same : map without_room ws ≡ map without_room was = c.reserve_labels.ensures.same ∙ ap (map without_room) c.deref_mut.ensures.value in
    let seen : c.deref.result.now ≡ ws = c.deref.ensures.value ∙ written-is without_room c.self.inside.regions ws region_same in
    IfSome_then c.self.inside.free c.self.invariant.free (λ (spaces : List FreeSpace) (all : AllFree c.self.inside.modules.items was spaces). all.each ∙ same-length without_room was ws (sym region_same) ∙ ap length (sym seen))

pub invariant_of-self-in_err-reserve : goal.invariant_of-self-in_err-reserve
invariant_of-self-in_err-reserve c =
    let ws = c.reserve_labels.new.regions in
    let now = (with_items c.self.inside.regions ws).items in
    let was = c.self.inside.regions.items in
    let same : map without_room now ≡ map without_room was = written-same without_room c.self.inside.regions ws (c.reserve_labels.ensures.same ∙ ap (map without_room) c.deref_mut.ensures.value) in
    let kept = c.self.invariant in
    record {
      once = kept.once;
      own = kept.own;
      in_use = kept.in_use;
      disjoint = subst (λ rs. IsDisjoint (with_regions rs)) (sym (same-regions now was same)) kept.disjoint;
      over = still-over now was same c.self.inside.modules.items kept.over;
      free = known-still c.reserve.new.self c.self.inside.free c.reserve.ensures.same c.self.inside.modules.items now (IfSome_then c.self.inside.free kept.free (still-free now was same c.self.inside.modules.items));
      ready = subst (λ qs. IfSome c.self.inside.ready (IsReadyIn (labels_in c.self.inside.modules.items) qs)) (sym (same-regions now was same)) kept.ready;
      few = still-few now was same kept.few;
      slots = kept.slots;
      lost = kept.lost;
      room = λ e. no_room (sym c.if-self.false ∙ e);
    }

pub returns-in_err-reserve-clause-err : goal.returns-in_err-reserve-clause-err
returns-in_err-reserve-clause-err c =
    let ws = c.reserve_labels.new.regions in
    let now = (with_items c.self.inside.regions ws).items in
    let was = c.self.inside.regions.items in
    let same : map without_room now ≡ map without_room was = written-same without_room c.self.inside.regions ws (c.reserve_labels.ensures.same ∙ ap (map without_room) c.deref_mut.ensures.value) in
    on_err c.from_residual-in_err-reserve.result ((λ i. record { regions = same-regions now was same i; modules = c.self.inside.modules.items; room = c.self.inside.room }) ∙ c.self.view_is)

pub invariant_of-self-2 : goal.invariant_of-self-2
invariant_of-self-2 c =
    let ws = c.reserve_labels.new.regions in
    let now = (with_items c.self.inside.regions ws).items in
    let was = c.self.inside.regions.items in
    let region_same : map without_room ws ≡ map without_room was = c.reserve_labels.ensures.same ∙ ap (map without_room) c.deref_mut.ensures.value in
    let same : map without_room now ≡ map without_room was = written-same without_room c.self.inside.regions ws region_same in
    let kept = c.self.invariant in
    let seen : c.deref.result.now ≡ ws = c.deref.ensures.value ∙ written-is without_room c.self.inside.regions ws region_same in
    record {
      once = kept.once;
      own = kept.own;
      in_use = kept.in_use;
      disjoint = subst (λ rs. IsDisjoint (with_regions rs)) (sym (same-regions now was same)) kept.disjoint;
      over = still-over now was same c.self.inside.modules.items kept.over;
      free = known-still c.reserve.new.self c.self.inside.free c.reserve.ensures.same c.self.inside.modules.items now (IfSome_then c.self.inside.free kept.free (still-free now was same c.self.inside.modules.items));
      ready = subst (λ qs. IfSome c.self.inside.ready (IsReadyIn (labels_in c.self.inside.modules.items) qs)) (sym (same-regions now was same)) kept.ready;
      few = still-few now was same kept.few;
      slots = kept.slots;
      lost = kept.lost;
      room = λ e. has-room ws now c.reserve.new.self (written-is without_room c.self.inside.regions ws region_same) c.in_ok-reserve_labels.ensures.room
          (subst (λ (rs : List RegionLabels). IfSome c.reserve.new.self (HaveExtentRoom rs)) seen c.in_ok-reserve.ensures.room);
    }

pub returns-clause-ok : goal.returns-clause-ok
returns-clause-ok c =
    let ws = c.reserve_labels.new.regions in
    let now = (with_items c.self.inside.regions ws).items in
    let was = c.self.inside.regions.items in
    let same : map without_room now ≡ map without_room was = written-same without_room c.self.inside.regions ws (c.reserve_labels.ensures.same ∙ ap (map without_room) c.deref_mut.ensures.value) in
    (λ i. record { regions = same-regions now was same i; modules = c.self.inside.modules.items; room = true }) ∙ ap (λ (s : StoredSets). record s { room = true }) c.self.view_is
