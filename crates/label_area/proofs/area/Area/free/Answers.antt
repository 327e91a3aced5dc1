use Rattle.std.proofs.Common.{◌||◌, sym, ap, ◌∙◌, subst}
use Rattle.rig_trait.specs.Frames.{LeavesOnly}
use Rattle.index_block.specs.Bitmap.{is_free_in}
use Rattle.label_area.specs.Flips.{FailedFlip, LeftByFlip, Standing, is_among}
use Rattle.label_area.specs.LoadedAreas.{LoadedArea}
use Rattle.label_area.proofs.Freeing.{free_shows, on_err, still_free}
use Rattle.label_area.proofs.area.Area.free.Goals as goal

pub flip-requires-clause-bits : goal.flip-requires-clause-bits
flip-requires-clause-bits g c = λ k below was.
    still_free c.next_freeing-next.result.free (is_among c.args.slots.now) (is_free_in c.args.self.now.free) k (c.next_freeing-next.ensures.bits k below) was

pub returns-in_err-flip-clause-any_moment : goal.returns-in_err-flip-clause-any_moment
returns-in_err-flip-clause-any_moment g c = λ told is_shown.
    let m = g.R.Shown in
    let old = c.args.rig.now in
    subst (λ (after : Standing). LeavesOnly m old c.flip.new.rig (LeftByFlip (m.areas old) (m.said old) c.args.self.now.dimm after)) c.next_freeing-next.ensures.after
    (c.in_err-flip.ensures.flips told is_shown).any_moment

pub returns-in_err-flip-clause-failed : goal.returns-in_err-flip-clause-failed
returns-in_err-flip-clause-failed g c = λ told is_shown.
    let m = g.R.Shown in
    let old = c.args.rig.now in
    on_err c.from_residual.result (subst (λ (after : Standing). FailedFlip (m.areas old) (m.areas c.flip.new.rig) (m.said old) c.args.self.now.dimm after) c.next_freeing-next.ensures.after
    (c.in_err-flip.ensures.flips told is_shown).failed)

pub keep-requires-clause-bits : goal.keep-requires-clause-bits
keep-requires-clause-bits g c = λ k below kept was. c.next_freeing-next.ensures.bits k below ∙ (λ i. kept i || was i)

pub returns-clause-freed : goal.returns-clause-freed
returns-clause-freed g c =
    free_shows c.args.self.now c.keep.new.self c.args.slots.now (ap (λ (x : LoadedArea). x.geometry) c.keep.ensures.rest)
    (λ k below. c.keep.ensures.bits k below ∙ c.next_freeing-next.ensures.bits k below) c.keep.ensures.live

pub returns-clause-shown : goal.returns-clause-shown
returns-clause-shown g c = λ told is_shown.
    (c.in_ok-flip.ensures.flips told is_shown).shown c.keep.new.self (record {
      rest = c.keep.ensures.rest;
      bits = c.keep.ensures.bits;
      live = λ k. c.keep.ensures.live k ∙ sym (ap (λ (s : Standing). s.labels.at k) c.next_freeing-next.ensures.after);
    })

pub returns-clause-any_moment : goal.returns-clause-any_moment
returns-clause-any_moment g c = λ told is_shown.
    let m = g.R.Shown in
    let old = c.args.rig.now in
    subst (λ (after : Standing). LeavesOnly m old c.flip.new.rig (LeftByFlip (m.areas old) (m.said old) c.args.self.now.dimm after)) c.next_freeing-next.ensures.after
    (c.in_ok-flip.ensures.flips told is_shown).any_moment
