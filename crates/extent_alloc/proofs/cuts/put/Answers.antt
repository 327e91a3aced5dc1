use Rattle.std.proofs.Common.{◌≡◌, ◌∷◌, ◌+◌, Some, None, slice_get, sym, ap, ◌∙◌, arith}
use Rattle.std.specs.Option.{option_map}
use Rattle.view_types.specs.declared.extents.Extent.{Extent}
use Rattle.view_types.specs.Intervals.{end_of}
use Rattle.extent_alloc.specs.declared.pool.Link.{Link}
use Rattle.extent_alloc.specs.Chains.{extents_of, first_at, times, unwind}
use Rattle.extent_alloc.specs.Cuts.{joined_in, ending_at, starting_at}
use Rattle.extent_alloc.proofs.Unwinding.{extents_of-unwind, times-unwind, times-first}
use Rattle.extent_alloc.proofs.Passing.{some_here, ends_inside}
use Rattle.extent_alloc.proofs.Placing.{Front, front, ended, started, index_of-front, joined_in-both, joined_in-before, joined_in-after, joined_in-none}
use Rattle.extent_alloc.proofs.cuts.put.Goals as goal

pub ending_at-before-requires : goal.ending_at-before-requires
ending_at-before-requires g c l e =
    let cut = c.requires.cut in
    let f : Front l cut.done = front l cut.done (sym cut.before ∙ e) in
    let inside = ends_inside c.args.whole c.args.chain.now.links f.later cut.rest l c.requires.ascend (cut.is ∙ ap (λ ls. unwind ls cut.rest) f.is) in
    omega (arith, inside, c.ranges.whole)

pub joined-joined-requires-clause-fits : goal.joined-joined-requires-clause-fits
joined-joined-requires-clause-fits g c =
    let cut = c.requires.cut in
    let b = c.in-Some-Some.before in
    let a = c.in-Some-Some.after in
    let behind : (c.args.cut.before ≡ Some b) × (end_of b.extent ≡ c.args.extent.start) = ended c.args.cut.before c.args.extent.start b (sym c.ending_at-before.ensures ∙ c.in-Some-Some.is-0) in
    let ahead : (c.args.cut.after ≡ Some a) × (a.extent.start ≡ c.end.result) = started c.args.cut.after c.end.result a (sym c.starting_at-after.ensures ∙ c.in-Some-Some.is-1) in
    let f : Front a cut.rest = front a cut.rest (sym cut.after ∙ ahead.0) in
    let inside = ends_inside c.args.whole c.args.chain.now.links cut.done f.later a c.requires.ascend (cut.is ∙ ap (unwind cut.done) f.is) in
    omega (arith, inside, behind.1, ahead.1, c.end.ensures, ap (λ (x : Extent). x.len) c.joined.ensures, c.ranges.whole)

pub set_extent-requires : goal.set_extent-requires
set_extent-requires g c =
    let cut = c.requires.cut in
    let b = c.in-Some-Some.before in
    let behind : (c.args.cut.before ≡ Some b) × (end_of b.extent ≡ c.args.extent.start) = ended c.args.cut.before c.args.extent.start b (sym c.ending_at-before.ensures ∙ c.in-Some-Some.is-0) in
    let f : Front b cut.done = front b cut.done (sym cut.before ∙ behind.0) in
    some_here b.at b.extent c.args.chain.now.links f.later cut.rest (cut.is ∙ ap (λ ls. unwind ls cut.rest) f.is)

pub remove-requires : goal.remove-requires
remove-requires g c =
    let cut = c.requires.cut in
    let b = c.in-Some-Some.before in
    let a = c.in-Some-Some.after in
    let behind : (c.args.cut.before ≡ Some b) × (end_of b.extent ≡ c.args.extent.start) = ended c.args.cut.before c.args.extent.start b (sym c.ending_at-before.ensures ∙ c.in-Some-Some.is-0) in
    let ahead : (c.args.cut.after ≡ Some a) × (a.extent.start ≡ c.end.result) = started c.args.cut.after c.end.result a (sym c.starting_at-after.ensures ∙ c.in-Some-Some.is-1) in
    let fb : Front b cut.done = front b cut.done (sym cut.before ∙ behind.0) in
    let fa : Front a cut.rest = front a cut.rest (sym cut.after ∙ ahead.0) in
    let link : Link = record { at = b.at; extent = c.joined-joined.result } in
    some_here a.at a.extent c.set_extent.new.self.links (link ∷ fb.later) fa.later
    (c.set_extent.ensures.links fb.later (a ∷ fa.later) b.extent (cut.is ∙ (λ i. unwind (fb.is i) (fa.is i))))

pub set_extent-requires-in-Some-None : goal.set_extent-requires-in-Some-None
set_extent-requires-in-Some-None g c =
    let cut = c.requires.cut in
    let b = c.in-Some-None.before in
    let behind : (c.args.cut.before ≡ Some b) × (end_of b.extent ≡ c.args.extent.start) = ended c.args.cut.before c.args.extent.start b (sym c.ending_at-before.ensures ∙ c.in-Some-None.is-0) in
    let f : Front b cut.done = front b cut.done (sym cut.before ∙ behind.0) in
    some_here b.at b.extent c.args.chain.now.links f.later cut.rest (cut.is ∙ ap (λ ls. unwind ls cut.rest) f.is)

pub joined-requires-in-None-Some-clause-fits : goal.joined-requires-in-None-Some-clause-fits
joined-requires-in-None-Some-clause-fits g c =
    let cut = c.requires.cut in
    let a = c.in-None-Some.after in
    let ahead : (c.args.cut.after ≡ Some a) × (a.extent.start ≡ c.end.result) = started c.args.cut.after c.end.result a (sym c.starting_at-after.ensures ∙ c.in-None-Some.is-1) in
    let f : Front a cut.rest = front a cut.rest (sym cut.after ∙ ahead.0) in
    let inside = ends_inside c.args.whole c.args.chain.now.links cut.done f.later a c.requires.ascend (cut.is ∙ ap (unwind cut.done) f.is) in
    omega (arith, inside, ahead.1, c.end.ensures, c.ranges.whole)

pub set_extent-requires-in-None-Some : goal.set_extent-requires-in-None-Some
set_extent-requires-in-None-Some g c =
    let cut = c.requires.cut in
    let a = c.in-None-Some.after in
    let ahead : (c.args.cut.after ≡ Some a) × (a.extent.start ≡ c.end.result) = started c.args.cut.after c.end.result a (sym c.starting_at-after.ensures ∙ c.in-None-Some.is-1) in
    let f : Front a cut.rest = front a cut.rest (sym cut.after ∙ ahead.0) in
    some_here a.at a.extent c.args.chain.now.links cut.done f.later (cut.is ∙ ap (unwind cut.done) f.is)

pub insert_after-requires-clause-before : goal.insert_after-requires-clause-before
insert_after-requires-clause-before g c k e =
    let cut = c.requires.cut in
    let first : first_at cut.done ≡ Some k =
    sym (ap (option_map (λ (l : Link). l.at)) cut.before ∙ index_of-front cut.done) ∙ sym c.index_of.ensures ∙ e in
    omega (arith, ap (times k) cut.is, times-unwind k cut.done cut.rest, times-first k cut.done first)

pub returns-in-Some-Some-clause-extents : goal.returns-in-Some-Some-clause-extents
returns-in-Some-Some-clause-extents g c done rest is before after =
    let e = c.args.extent in
    let b = c.in-Some-Some.before in
    let a = c.in-Some-Some.after in
    let behind : (c.args.cut.before ≡ Some b) × (end_of b.extent ≡ e.start) = ended c.args.cut.before e.start b (sym c.ending_at-before.ensures ∙ c.in-Some-Some.is-0) in
    let ahead : (c.args.cut.after ≡ Some a) × (a.extent.start ≡ c.end.result) = started c.args.cut.after c.end.result a (sym c.starting_at-after.ensures ∙ c.in-Some-Some.is-1) in
    let fb : Front b done = front b done (sym before ∙ behind.0) in
    let fa : Front a rest = front a rest (sym after ∙ ahead.0) in
    let link : Link = record { at = b.at; extent = c.joined-joined.result } in
    let set = c.set_extent.ensures.links fb.later (a ∷ fa.later) b.extent (is ∙ (λ i. unwind (fb.is i) (fa.is i))) in
    let all = c.joined-joined.ensures ∙ (λ i. record { start = (c.joined.ensures i).start; len = (c.joined.ensures i).len + a.extent.len }) in
    ap extents_of (c.remove.ensures.links (link ∷ fb.later) fa.later a.extent set) ∙ extents_of-unwind fb.later (link ∷ fa.later)
    ∙ (λ i. unwind (extents_of fb.later) (all i ∷ extents_of fa.later))
    ∙ sym (joined_in-both fb.later fa.later e b.extent a.extent behind.1 (ahead.1 ∙ c.end.ensures))
    ∙ (λ i. joined_in (extents_of (sym fb.is i)) e (extents_of (sym fa.is i)))

pub returns-in-Some-None-clause-extents : goal.returns-in-Some-None-clause-extents
returns-in-Some-None-clause-extents g c done rest is before after =
    let e = c.args.extent in
    let b = c.in-Some-None.before in
    let behind : (c.args.cut.before ≡ Some b) × (end_of b.extent ≡ e.start) = ended c.args.cut.before e.start b (sym c.ending_at-before.ensures ∙ c.in-Some-None.is-0) in
    let none : starting_at (slice_get rest 0) (end_of e) ≡ None =
    (λ i. starting_at (sym after i) (sym c.end.ensures i)) ∙ sym c.starting_at-after.ensures ∙ c.in-Some-None.is-1 in
    let fb : Front b done = front b done (sym before ∙ behind.0) in
    let link : Link = record { at = b.at; extent = c.joined-in-Some-None.result } in
    ap extents_of (c.set_extent-in-Some-None.ensures.links fb.later rest b.extent (is ∙ ap (λ ls. unwind ls rest) fb.is)) ∙ extents_of-unwind fb.later (link ∷ rest)
    ∙ (λ i. unwind (extents_of fb.later) (c.joined-in-Some-None.ensures i ∷ extents_of rest))
    ∙ sym (joined_in-before fb.later rest e b.extent behind.1 none)
    ∙ (λ i. joined_in (extents_of (sym fb.is i)) e (extents_of rest))

pub returns-in-None-Some-clause-extents : goal.returns-in-None-Some-clause-extents
returns-in-None-Some-clause-extents g c done rest is before after =
    let e = c.args.extent in
    let a = c.in-None-Some.after in
    let none : ending_at (slice_get done 0) e.start ≡ None =
    (λ i. ending_at (sym before i) e.start) ∙ sym c.ending_at-before.ensures ∙ c.in-None-Some.is-0 in
    let ahead : (c.args.cut.after ≡ Some a) × (a.extent.start ≡ c.end.result) = started c.args.cut.after c.end.result a (sym c.starting_at-after.ensures ∙ c.in-None-Some.is-1) in
    let fa : Front a rest = front a rest (sym after ∙ ahead.0) in
    let link : Link = record { at = a.at; extent = c.joined-in-None-Some.result } in
    ap extents_of (c.set_extent-in-None-Some.ensures.links done fa.later a.extent (is ∙ ap (unwind done) fa.is)) ∙ extents_of-unwind done (link ∷ fa.later)
    ∙ (λ i. unwind (extents_of done) (c.joined-in-None-Some.ensures i ∷ extents_of fa.later))
    ∙ sym (joined_in-after done fa.later e a.extent none (ahead.1 ∙ c.end.ensures))
    ∙ (λ i. joined_in (extents_of done) e (extents_of (sym fa.is i)))

pub returns-in-None-None-clause-extents : goal.returns-in-None-None-clause-extents
returns-in-None-None-clause-extents g c done rest is before after =
    let e = c.args.extent in
    let behind : ending_at (slice_get done 0) e.start ≡ None =
    (λ i. ending_at (sym before i) e.start) ∙ sym c.ending_at-before.ensures ∙ c.in-None-None.is-0 in
    let ahead : starting_at (slice_get rest 0) (end_of e) ≡ None =
    (λ i. starting_at (sym after i) (sym c.end.ensures i)) ∙ sym c.starting_at-after.ensures ∙ c.in-None-None.is-1 in
    c.insert_after.ensures.extents done rest is (c.index_of.ensures ∙ ap (option_map (λ (l : Link). l.at)) before ∙ index_of-front done)
    ∙ sym (joined_in-none done rest e behind ahead)
