use Rattle.std.proofs.Common.{sym, ap, subst, ◌∙◌}
use Rattle.std.specs.FinMap.{get}
use Rattle.label_area.specs.Inits.{IsVacant, with_blocks}
use Rattle.label_area.proofs.Initialised.{stored_of, vacant}
use Rattle.label_area.proofs.Initialising.{initialising}
use Rattle.label_area.proofs.area.Area.init.Goals as goal

pub returns-in_err-write_blocks-clause-any_moment : goal.returns-in_err-write_blocks-clause-any_moment
returns-in_err-write_blocks-clause-any_moment g c told =
    let read = c.uninit_layout.ensures.reads_only in
    initialising c.args.dimm c.in_ok-geometry.geometry (c.in_ok-geometry.ensures.layout told) (c.in_ok-geometry.ensures.uninit told) read
    (c.write_blocks.ensures.any_moment (read.goes_on.tells ∙ told))

pub returns-clause-vacant : goal.returns-clause-vacant
returns-clause-vacant g c told =
    let areas = g.R.Shown.areas c.args.rig.now in
    let dimm = c.args.dimm in
    let geometry = c.in_ok-geometry.geometry in
    let read = c.uninit_layout.ensures.reads_only in
    let is = stored_of (get areas dimm) geometry (c.in_ok-geometry.ensures.layout told) in
    let written = c.in_ok-write_blocks.ensures.both (read.goes_on.tells ∙ told) ∙ ap (λ now. with_blocks geometry now dimm) read.areas in
    subst (λ now. IsVacant (get now dimm) geometry.slots) (sym written)
    (vacant areas dimm is.bytes geometry is.is_area is.found (c.in_ok-geometry.ensures.uninit told))

pub returns-clause-any_moment : goal.returns-clause-any_moment
returns-clause-any_moment g c told =
    let read = c.uninit_layout.ensures.reads_only in
    initialising c.args.dimm c.in_ok-geometry.geometry (c.in_ok-geometry.ensures.layout told) (c.in_ok-geometry.ensures.uninit told) read
    (c.write_blocks.ensures.any_moment (read.goes_on.tells ∙ told))
