use Rattle.std.proofs.Common.{◌≡◌, IsSome, sym, subst, ◌∙◌}
use Rattle.std.specs.Cmp.{nat_cmp_total}
use Rattle.std.specs.FinMap.{same_map, nat_cmp-IsAntisymmetric}
use Rattle.label_area.specs.Kept.{live_of}
use Rattle.label_area.specs.Slots.{live_labels}
use Rattle.label_area.proofs.LabelsBySlot.{get-live_labels, get-live_of, live_label-in_use}
use Rattle.label_area.proofs.Sound.{sound}
use Rattle.label_area.proofs.area.Area.of.Goals as goal

pub invariant_of-result : goal.invariant_of-result
invariant_of-result c =
    let current = c.args.current.now in
    record {
      geometry = c.requires.geometry;
      label = c.requires.label;
      seq = c.requires.seq;
      bits = c.in_ok-free.ensures.len;
      room = c.in_ok-labels.ensures.room;
      in_use = λ slot some.
          let used = live_label-in_use current c.args.bytes.now slot (subst IsSome (c.in_ok-labels.ensures.labels slot) some) in
          rw c.in_ok-free.ensures.bits used;
    }

pub returns-clause-area : goal.returns-clause-area
returns-clause-area c =
    let current = c.args.current.now in
    let bytes = c.args.bytes.now in
    let labels = c.in_ok-labels.labels.items in
    let live_is : live_of labels ≡ live_of (live_labels current bytes) = same_map nat_cmp_total nat_cmp-IsAntisymmetric _ _ (λ slot.
    get-live_of slot labels ∙ c.in_ok-labels.ensures.labels slot ∙ sym (get-live_labels current bytes slot)) in
    λ i. record {
      dimm = c.args.dimm;
      geometry = current.geometry;
      place = current.place;
      seq = current.seq;
      free = c.in_ok-free.ensures.bits i;
      live = live_is i;
    }

pub returns-clause-sound : goal.returns-clause-sound
returns-clause-sound c = sound _ (invariant_of-result c)
