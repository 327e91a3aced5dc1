use Rattle.std.proofs.Common.{◌≡◌, sym, subst, IfNone, arith}
use Rattle.view_types.proofs.Multiples.{IsNextMultiple, next_multiple}
use Rattle.extent_alloc.specs.Fits.{IsFitIn, NoFitIn}
use Rattle.std.specs.Int.{next_multiple_of}
use Rattle.extent_alloc.proofs.fits.fit_in.Goals as goal

pub returns-in_err-start-clause-none : goal.returns-in_err-start-clause-none
returns-in_err-start-clause-none c =
    let start = c.args.extent.start in
    let align = c.args.align in
    let next : IsNextMultiple start align (next_multiple_of start align) = next_multiple start align c.requires.align in
    subst (λ o. IfNone o (NoFitIn c.args.extent c.args.len align)) (sym c.from_residual.ensures)
    (λ p multiple inside.
    let least = next.least p multiple inside.starts in
    c.in_err-start.ensures (c.requires.align, omega (arith, least, inside.ends, c.requires.inside)))

pub returns-then-len-room-clause-fit : goal.returns-then-len-room-clause-fit
returns-then-len-room-clause-fit c =
    let start = c.args.extent.start in
    let align = c.args.align in
    let next : IsNextMultiple start align (next_multiple_of start align) = next_multiple start align c.requires.align in
    let is : c.in_ok-start.start ≡ next_multiple_of start align = c.in_ok-start.ensures.1 in
    subst (IsFitIn c.args.extent c.args.len align) (sym is) (record {
      multiple = next.multiple;
      inside = record {
        starts = next.from;
        ends = omega (arith, c.if-len-room.true, c.saturating_sub-room.ensures, c.end.ensures, is, c.requires.some);
      };
      least = λ p multiple inside. next.least p multiple inside.starts;
    })

pub returns-else-len-room-clause-none : goal.returns-else-len-room-clause-none
returns-else-len-room-clause-none c p multiple inside =
    let start = c.args.extent.start in
    let align = c.args.align in
    let next : IsNextMultiple start align (next_multiple_of start align) = next_multiple start align c.requires.align in
    let is : c.in_ok-start.start ≡ next_multiple_of start align = c.in_ok-start.ensures.1 in
    let least = next.least p multiple inside.starts in
    absurd (omega (arith, least, is, inside.ends, c.if-len-room.false, c.saturating_sub-room.ensures, c.end.ensures, c.requires.some))
