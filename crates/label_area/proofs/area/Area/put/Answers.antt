use Rattle.std.proofs.Common.{◌<◌, ◌||◌, ℕ, Option, Some, false, cond, List, sym, ap, subst, ◌∙◌, eq-eqb, refl}
use Rattle.std.specs.Prelude.{◌==◌}
use Rattle.std.specs.List.{All}
use Rattle.rig_trait.specs.Frames.{LeavesOnly}
use Rattle.index_block.specs.Bitmap.{is_free_in}
use Rattle.label_codec.specs.declared.label.Label.{Label}
use Rattle.label_area.specs.Flips.{FailedFlip, LeftByFlip, Standing, after_free, at_slot, is_among, with_label}
use Rattle.label_area.specs.LoadedAreas.{LoadedArea}
use Rattle.label_area.proofs.Freeing.{on_err}
use Rattle.label_area.proofs.Putting.{in_use_there, put_frees, put_keeps, put_shows, replaced_below}
use Rattle.label_area.proofs.area.Area.put.Goals as goal

pub next_putting-next-requires-clause-freed : goal.next_putting-next-requires-clause-freed
next_putting-next-requires-clause-freed g c =
    let a = c.args.self.now in
    subst (λ (slots : List ℕ). All (λ slot. slot < a.geometry.slots) slots) (sym c.replaced-freed.ensures) (replaced_below a c.first_slot-slot.ensures.sound c.args.replaces c.requires.replaces)

pub flip_with-requires-clause-used : goal.flip_with-requires-clause-used
flip_with-requires-clause-used g c =
    let slot = c.first_slot-slot.result in
    c.next_putting-next.ensures.bits slot c.first_slot-slot.ensures.first.below
    ∙ (λ i. cond (eq-eqb slot slot refl i) false (is_among c.replaced-freed.result.now slot || is_free_in c.args.self.now.free slot))

pub flip_with-requires-clause-bits : goal.flip_with-requires-clause-bits
flip_with-requires-clause-bits g c = λ k below other was.
    put_frees c.next_putting-next.result.free c.first_slot-slot.result (is_among c.replaced-freed.result.now) (is_free_in c.args.self.now.free) k (c.next_putting-next.ensures.bits k below) other was

pub returns-in_err-flip_with-clause-any_moment : goal.returns-in_err-flip_with-clause-any_moment
returns-in_err-flip_with-clause-any_moment g c = λ told is_shown.
    let m = g.R.Shown in
    let old = c.args.rig.now in
    let label = c.args.label.now in
    subst (λ (after : Standing). LeavesOnly m old c.flip_with.new.rig (LeftByFlip (m.areas old) (m.said old) c.args.self.now.dimm after))
    (c.next_putting-next.ensures.after label ∙ (λ i. with_label (c.first_slot-slot.ensures.is i) label (after_free c.args.self.now (c.replaced-freed.ensures i))))
    (c.in_err-flip_with.ensures.flips told is_shown).any_moment

pub returns-in_err-flip_with-clause-failed : goal.returns-in_err-flip_with-clause-failed
returns-in_err-flip_with-clause-failed g c = λ told is_shown.
    let m = g.R.Shown in
    let old = c.args.rig.now in
    let label = c.args.label.now in
    on_err c.from_residual.result (subst (λ (after : Standing). FailedFlip (m.areas old) (m.areas c.flip_with.new.rig) (m.said old) c.args.self.now.dimm after)
    (c.next_putting-next.ensures.after label ∙ (λ i. with_label (c.first_slot-slot.ensures.is i) label (after_free c.args.self.now (c.replaced-freed.ensures i))))
    (c.in_err-flip_with.ensures.flips told is_shown).failed)

pub keep-requires-clause-freed : goal.keep-requires-clause-freed
keep-requires-clause-freed g c =
    let a = c.args.self.now in
    subst (λ (slots : List ℕ). All (λ slot. slot < a.geometry.slots) slots) (sym c.replaced-freed.ensures) (replaced_below a c.first_slot-slot.ensures.sound c.args.replaces c.requires.replaces)

pub keep-requires-clause-bits : goal.keep-requires-clause-bits
keep-requires-clause-bits g c = λ k below kept was.
    put_keeps c.next_putting-next.result.free c.first_slot-slot.result (is_among c.replaced-freed.result.now) (is_free_in c.args.self.now.free) k (c.next_putting-next.ensures.bits k below) kept was

pub keep_label-requires : goal.keep_label-requires
keep_label-requires g c =
    let b = c.keep.new.self in
    let slot = c.first_slot-slot.result in
    let below = c.first_slot-slot.ensures.first.below in
    let slots_are = ap (λ (x : LoadedArea). x.geometry.slots) c.keep.ensures.rest in
    in_use_there b.free b.geometry.slots slot (subst (λ (n : ℕ). slot < n) (sym slots_are) below)
    (c.keep.ensures.bits slot below ∙ c.next_putting-next.ensures.bits slot below
    ∙ (λ i. cond (eq-eqb slot slot refl i) false (is_among c.replaced-freed.result.now slot || is_free_in c.args.self.now.free slot)))

pub returns-clause-put : goal.returns-clause-put
returns-clause-put g c =
    let a = c.args.self.now in
    let b = c.keep_label.new.self in
    let slot = c.first_slot-slot.result in
    let label = c.args.label.now in
    let free_is = ap (λ (x : LoadedArea). x.free) c.keep_label.ensures.rest in
    put_shows a b label c.replaced-freed.result.now slot c.first_slot-slot.ensures.first.below
    (ap (λ (x : LoadedArea). x.geometry) c.keep_label.ensures.rest ∙ ap (λ (x : LoadedArea). x.geometry) c.keep.ensures.rest)
    (λ k below. ap (λ (free : List ℕ). is_free_in free k) free_is ∙ c.keep.ensures.bits k below ∙ c.next_putting-next.ensures.bits k below)
    (λ k. c.keep_label.ensures.live k ∙ ap (λ (o : Option Label). cond (k == slot) (Some (at_slot slot label)) o) (c.keep.ensures.live k))
    ∙ (λ i. with_label (c.first_slot-slot.ensures.is i) label (after_free a (c.replaced-freed.ensures i)))

pub returns-clause-shown : goal.returns-clause-shown
returns-clause-shown g c = λ told is_shown.
    let a = c.args.self.now in
    let b = c.keep_label.new.self in
    let slot = c.first_slot-slot.result in
    let next = c.next_putting-next.result in
    let label = c.args.label.now in
    let free_is = ap (λ (x : LoadedArea). x.free) c.keep_label.ensures.rest in
    (c.in_ok-flip_with.ensures.flips told is_shown).shown b (record {
      rest = c.keep_label.ensures.rest ∙ (λ i. record (c.keep.ensures.rest i) { live = b.live }) ∙ (λ i. record a { place = next.place; seq = next.seq; free = sym free_is i; live = b.live });
      bits = λ k below. ap (λ (free : List ℕ). is_free_in free k) free_is ∙ c.keep.ensures.bits k below;
      live = λ k. c.keep_label.ensures.live k ∙ ap (λ (o : Option Label). cond (k == slot) (Some (at_slot slot label)) o) (c.keep.ensures.live k)
          ∙ sym (ap (λ (s : Standing). s.labels.at k) (c.next_putting-next.ensures.after label));
    })

pub returns-clause-any_moment : goal.returns-clause-any_moment
returns-clause-any_moment g c = λ told is_shown.
    let m = g.R.Shown in
    let old = c.args.rig.now in
    let label = c.args.label.now in
    subst (λ (after : Standing). LeavesOnly m old c.flip_with.new.rig (LeftByFlip (m.areas old) (m.said old) c.args.self.now.dimm after))
    (c.next_putting-next.ensures.after label ∙ (λ i. with_label (c.first_slot-slot.ensures.is i) label (after_free c.args.self.now (c.replaced-freed.ensures i))))
    (c.in_ok-flip_with.ensures.flips told is_shown).any_moment
