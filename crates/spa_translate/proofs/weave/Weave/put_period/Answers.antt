use Rattle.std.proofs.Common.{◌≡◌, ℕ, ◌+◌, ◌*◌, ◌^◌, ◌<◌, ◌≤◌, ◌∙◌, List, length, get_or, refl, sym, ap, subst, arith}
use Rattle.std.specs.Prelude.{Contains}
use Rattle.spa_translate.specs.declared.strand.Strand.{Strand}
use Rattle.spa_translate.specs.Woven.{Woven, address_of}
use Rattle.spa_translate.specs.Kept.{woven_in}
use Rattle.spa_translate.specs.Laid.{IsLaid, size_each}
use Rattle.spa_translate.specs.Pairs.{period_of}
use Rattle.spa_translate.specs.Runs.{AreUpTo}
use Rattle.spa_translate.proofs.OneToOne.{at_from, laid_at}
use Rattle.spa_translate.proofs.Reaching.{line_lies}
use Rattle.spa_translate.proofs.Spans.{line_ends, period_is}
use Rattle.spa_translate.proofs.weave.Weave.put_period.Goals as goal

pub byte_at-d-requires-clause-fits : goal.byte_at-d-requires-clause-fits
byte_at-d-requires-clause-fits c =
    let inside = c.self.inside in
    let woven : Woven = woven_in inside in
    let same : woven ≡ c.args.self.now = c.self.view_is in
    let m : ℕ = inside.lines in
    let s : ℕ = c.from-line_size.result in
    let size : ℕ = size_each inside.strands.items in
    let laid : IsLaid m s size woven = subst (λ (x : ℕ). IsLaid m x size woven) (sym c.from-line_size.ensures) c.self.invariant.laid in
    let a : Strand = c.args.strand.now in
    let member : Contains woven.strands a = subst (λ (w : Woven). Contains w.strands a) (sym same) c.requires.member in
    let at = at_from woven a member in
    let p : ℕ = member.0 in
    let period : period_of a ≡ m * s = period_is m s size woven laid p a at in
    let t : length inside.strands.items * m ≡ c.len.result = (let e = c.self.invariant.places.len in let f = c.len.ensures in omega (arith, e, f, inside.places.ok.0)) in
    let whole : length woven.strands * m * s ≡ c.len.result * s = ap (λ (x : ℕ). x * s) t in
    let le : (c.args.k + 1) * (length woven.strands * m * s) ≤ woven.len = (let e : (c.args.k + 1) * (length woven.strands * (m * s)) ≤ woven.len = subst (λ (w : Woven). (c.args.k + 1) * (length w.strands * (m * s)) ≤ w.len) (sym same) (subst (λ (x : ℕ). (c.args.k + 1) * (length c.args.self.now.strands * x) ≤ c.args.self.now.len) period c.requires.period) in omega (arith, e)) in
    let j : ℕ = c.loop-j.j in
    let x : ℕ = get_or a.lines j 0 in
    let many : length c.as_slice-line-items.result.now ≡ length a.lines = ap (λ (xs : List ℕ). length xs) c.as_slice-line-items.ensures in
    let line : j < m = (let e = (laid_at m s size woven laid p a at).lines_are in omega (arith, e, many, c.loop-j-test.true)) in
    let x_is : x ≡ get_or a.lines j 0 = refl in
    let ends = line_ends m s size woven laid p a at c.args.k j x line x_is le in
    let turned : c.args.k * (c.len.result * s) ≡ c.args.k * (length woven.strands * m * s) = ap (λ (y : ℕ). c.args.k * y) (sym whole) in
    let size_le : size ≤ 2 ^ 63 = (let e = (laid_at m s size woven laid p a at).end in let f = (laid_at m s size woven laid p a at).size_is in omega (arith, e, f)) in
    omega (arith, ends.byte, size_le, laid.some_bytes)

pub offset_at-offset-requires : goal.offset_at-offset-requires
offset_at-offset-requires c =
    let inside = c.self.inside in
    let woven : Woven = woven_in inside in
    let same : woven ≡ c.args.self.now = c.self.view_is in
    let m : ℕ = inside.lines in
    let s : ℕ = c.from-line_size.result in
    let size : ℕ = size_each inside.strands.items in
    let laid : IsLaid m s size woven = subst (λ (x : ℕ). IsLaid m x size woven) (sym c.from-line_size.ensures) c.self.invariant.laid in
    let a : Strand = c.args.strand.now in
    let member : Contains woven.strands a = subst (λ (w : Woven). Contains w.strands a) (sym same) c.requires.member in
    let at = at_from woven a member in
    let p : ℕ = member.0 in
    let period : period_of a ≡ m * s = period_is m s size woven laid p a at in
    let t : length inside.strands.items * m ≡ c.len.result = (let e = c.self.invariant.places.len in let f = c.len.ensures in omega (arith, e, f, inside.places.ok.0)) in
    let whole : length woven.strands * m * s ≡ c.len.result * s = ap (λ (x : ℕ). x * s) t in
    let le : (c.args.k + 1) * (length woven.strands * m * s) ≤ woven.len = (let e : (c.args.k + 1) * (length woven.strands * (m * s)) ≤ woven.len = subst (λ (w : Woven). (c.args.k + 1) * (length w.strands * (m * s)) ≤ w.len) (sym same) (subst (λ (x : ℕ). (c.args.k + 1) * (length c.args.self.now.strands * x) ≤ c.args.self.now.len) period c.requires.period) in omega (arith, e)) in
    let j : ℕ = c.loop-j.j in
    let x : ℕ = c.from.result in
    let many : length c.as_slice-line-items.result.now ≡ length a.lines = ap (λ (xs : List ℕ). length xs) c.as_slice-line-items.ensures in
    let line : j < m = (let e = (laid_at m s size woven laid p a at).lines_are in omega (arith, e, many, c.loop-j-test.true)) in
    let x_is : x ≡ get_or a.lines j 0 = cc in
    let ends = line_ends m s size woven laid p a at c.args.k j x line x_is le in
    let turned : c.args.k * (c.len.result * s) ≡ c.args.k * (length woven.strands * m * s) = ap (λ (y : ℕ). c.args.k * y) (sym whole) in
    let size_le : size ≤ 2 ^ 63 = (let e = (laid_at m s size woven laid p a at).end in let f = (laid_at m s size woven laid p a at).size_is in omega (arith, e, f)) in
    omega (arith, ends.line, turned, laid.end, laid.some_bytes)

pub overflow_add-self-inside : goal.overflow_add-self-inside
overflow_add-self-inside c =
    let inside = c.self.inside in
    let woven : Woven = woven_in inside in
    let same : woven ≡ c.args.self.now = c.self.view_is in
    let m : ℕ = inside.lines in
    let s : ℕ = c.from-line_size.result in
    let size : ℕ = size_each inside.strands.items in
    let laid : IsLaid m s size woven = subst (λ (x : ℕ). IsLaid m x size woven) (sym c.from-line_size.ensures) c.self.invariant.laid in
    let a : Strand = c.args.strand.now in
    let member : Contains woven.strands a = subst (λ (w : Woven). Contains w.strands a) (sym same) c.requires.member in
    let at = at_from woven a member in
    let p : ℕ = member.0 in
    let period : period_of a ≡ m * s = period_is m s size woven laid p a at in
    let t : length inside.strands.items * m ≡ c.len.result = (let e = c.self.invariant.places.len in let f = c.len.ensures in omega (arith, e, f, inside.places.ok.0)) in
    let whole : length woven.strands * m * s ≡ c.len.result * s = ap (λ (x : ℕ). x * s) t in
    let le : (c.args.k + 1) * (length woven.strands * m * s) ≤ woven.len = (let e : (c.args.k + 1) * (length woven.strands * (m * s)) ≤ woven.len = subst (λ (w : Woven). (c.args.k + 1) * (length w.strands * (m * s)) ≤ w.len) (sym same) (subst (λ (x : ℕ). (c.args.k + 1) * (length c.args.self.now.strands * x) ≤ c.args.self.now.len) period c.requires.period) in omega (arith, e)) in
    let j : ℕ = c.loop-j.j in
    let x : ℕ = c.from.result in
    let many : length c.as_slice-line-items.result.now ≡ length a.lines = ap (λ (xs : List ℕ). length xs) c.as_slice-line-items.ensures in
    let line : j < m = (let e = (laid_at m s size woven laid p a at).lines_are in omega (arith, e, many, c.loop-j-test.true)) in
    let x_is : x ≡ get_or a.lines j 0 = cc in
    let ends = line_ends m s size woven laid p a at c.args.k j x line x_is le in
    let turned : c.args.k * (c.len.result * s) ≡ c.args.k * (length woven.strands * m * s) = ap (λ (y : ℕ). c.args.k * y) (sym whole) in
    let size_le : size ≤ 2 ^ 63 = (let e = (laid_at m s size woven laid p a at).end in let f = (laid_at m s size woven laid p a at).size_is in omega (arith, e, f)) in
    omega (arith, ends.line, turned, laid.end, c.offset_at-offset.ensures)

pub put_cut-requires-clause-bytes : goal.put_cut-requires-clause-bytes
put_cut-requires-clause-bytes c =
    let inside = c.self.inside in
    let woven : Woven = woven_in inside in
    let same : woven ≡ c.args.self.now = c.self.view_is in
    let m : ℕ = inside.lines in
    let s : ℕ = c.from-line_size.result in
    let size : ℕ = size_each inside.strands.items in
    let laid : IsLaid m s size woven = subst (λ (x : ℕ). IsLaid m x size woven) (sym c.from-line_size.ensures) c.self.invariant.laid in
    let a : Strand = c.args.strand.now in
    let member : Contains woven.strands a = subst (λ (w : Woven). Contains w.strands a) (sym same) c.requires.member in
    let at = at_from woven a member in
    let p : ℕ = member.0 in
    let period : period_of a ≡ m * s = period_is m s size woven laid p a at in
    let t : length inside.strands.items * m ≡ c.len.result = (let e = c.self.invariant.places.len in let f = c.len.ensures in omega (arith, e, f, inside.places.ok.0)) in
    let whole : length woven.strands * m * s ≡ c.len.result * s = ap (λ (x : ℕ). x * s) t in
    let le : (c.args.k + 1) * (length woven.strands * m * s) ≤ woven.len = (let e : (c.args.k + 1) * (length woven.strands * (m * s)) ≤ woven.len = subst (λ (w : Woven). (c.args.k + 1) * (length w.strands * (m * s)) ≤ w.len) (sym same) (subst (λ (x : ℕ). (c.args.k + 1) * (length c.args.self.now.strands * x) ≤ c.args.self.now.len) period c.requires.period) in omega (arith, e)) in
    let j : ℕ = c.loop-j.j in
    let x : ℕ = c.from.result in
    let many : length c.as_slice-line-items.result.now ≡ length a.lines = ap (λ (xs : List ℕ). length xs) c.as_slice-line-items.ensures in
    let line : j < m = (let e = (laid_at m s size woven laid p a at).lines_are in omega (arith, e, many, c.loop-j-test.true)) in
    let x_is : x ≡ get_or a.lines j 0 = cc in
    let ends = line_ends m s size woven laid p a at c.args.k j x line x_is le in
    let turned : c.args.k * (c.len.result * s) ≡ c.args.k * (length woven.strands * m * s) = ap (λ (y : ℕ). c.args.k * y) (sym whole) in
    let size_le : size ≤ 2 ^ 63 = (let e = (laid_at m s size woven laid p a at).end in let f = (laid_at m s size woven laid p a at).size_is in omega (arith, e, f)) in
    omega (arith, ends.byte, size_le, c.byte_at-d.ensures)

pub put_cut-requires-clause-line : goal.put_cut-requires-clause-line
put_cut-requires-clause-line c =
    let inside = c.self.inside in
    let woven : Woven = woven_in inside in
    let same : woven ≡ c.args.self.now = c.self.view_is in
    let m : ℕ = inside.lines in
    let s : ℕ = c.from-line_size.result in
    let size : ℕ = size_each inside.strands.items in
    let laid : IsLaid m s size woven = subst (λ (x : ℕ). IsLaid m x size woven) (sym c.from-line_size.ensures) c.self.invariant.laid in
    let a : Strand = c.args.strand.now in
    let member : Contains woven.strands a = subst (λ (w : Woven). Contains w.strands a) (sym same) c.requires.member in
    let at = at_from woven a member in
    let p : ℕ = member.0 in
    let period : period_of a ≡ m * s = period_is m s size woven laid p a at in
    let t : length inside.strands.items * m ≡ c.len.result = (let e = c.self.invariant.places.len in let f = c.len.ensures in omega (arith, e, f, inside.places.ok.0)) in
    let whole : length woven.strands * m * s ≡ c.len.result * s = ap (λ (x : ℕ). x * s) t in
    let le : (c.args.k + 1) * (length woven.strands * m * s) ≤ woven.len = (let e : (c.args.k + 1) * (length woven.strands * (m * s)) ≤ woven.len = subst (λ (w : Woven). (c.args.k + 1) * (length w.strands * (m * s)) ≤ w.len) (sym same) (subst (λ (x : ℕ). (c.args.k + 1) * (length c.args.self.now.strands * x) ≤ c.args.self.now.len) period c.requires.period) in omega (arith, e)) in
    let j : ℕ = c.loop-j.j in
    let x : ℕ = c.from.result in
    let many : length c.as_slice-line-items.result.now ≡ length a.lines = ap (λ (xs : List ℕ). length xs) c.as_slice-line-items.ensures in
    let line : j < m = (let e = (laid_at m s size woven laid p a at).lines_are in omega (arith, e, many, c.loop-j-test.true)) in
    let x_is : x ≡ get_or a.lines j 0 = cc in
    let ends = line_ends m s size woven laid p a at c.args.k j x line x_is le in
    let turned : c.args.k * (c.len.result * s) ≡ c.args.k * (length woven.strands * m * s) = ap (λ (y : ℕ). c.args.k * y) (sym whole) in
    let size_le : size ≤ 2 ^ 63 = (let e = (laid_at m s size woven laid p a at).end in let f = (laid_at m s size woven laid p a at).size_is in omega (arith, e, f)) in
    omega (arith, ends.line, turned, laid.end, c.offset_at-offset.ensures)

pub loop-j-preserved : goal.loop-j-preserved
loop-j-preserved c =
    let inside = c.self.inside in
    let woven : Woven = woven_in inside in
    let same : woven ≡ c.args.self.now = c.self.view_is in
    let m : ℕ = inside.lines in
    let s : ℕ = c.from-line_size.result in
    let size : ℕ = size_each inside.strands.items in
    let laid : IsLaid m s size woven = subst (λ (x : ℕ). IsLaid m x size woven) (sym c.from-line_size.ensures) c.self.invariant.laid in
    let a : Strand = c.args.strand.now in
    let member : Contains woven.strands a = subst (λ (w : Woven). Contains w.strands a) (sym same) c.requires.member in
    let at = at_from woven a member in
    let p : ℕ = member.0 in
    let period : period_of a ≡ m * s = period_is m s size woven laid p a at in
    let t : length inside.strands.items * m ≡ c.len.result = (let e = c.self.invariant.places.len in let f = c.len.ensures in omega (arith, e, f, inside.places.ok.0)) in
    let whole : length woven.strands * m * s ≡ c.len.result * s = ap (λ (x : ℕ). x * s) t in
    let le : (c.args.k + 1) * (length woven.strands * m * s) ≤ woven.len = (let e : (c.args.k + 1) * (length woven.strands * (m * s)) ≤ woven.len = subst (λ (w : Woven). (c.args.k + 1) * (length w.strands * (m * s)) ≤ w.len) (sym same) (subst (λ (x : ℕ). (c.args.k + 1) * (length c.args.self.now.strands * x) ≤ c.args.self.now.len) period c.requires.period) in omega (arith, e)) in
    let j : ℕ = c.loop-j.j in
    let x : ℕ = c.from.result in
    let many : length c.as_slice-line-items.result.now ≡ length a.lines = ap (λ (xs : List ℕ). length xs) c.as_slice-line-items.ensures in
    let line : j < m = (let e = (laid_at m s size woven laid p a at).lines_are in omega (arith, e, many, c.loop-j-test.true)) in
    let x_is : x ≡ get_or a.lines j 0 = cc in
    let ends = line_ends m s size woven laid p a at c.args.k j x line x_is le in
    let turned : c.args.k * (c.len.result * s) ≡ c.args.k * (length woven.strands * m * s) = ap (λ (y : ℕ). c.args.k * y) (sym whole) in
    let size_le : size ≤ 2 ^ 63 = (let e = (laid_at m s size woven laid p a at).end in let f = (laid_at m s size woven laid p a at).size_is in omega (arith, e, f)) in
    let d_is : c.byte_at-d.result ≡ (c.args.k * m + j) * s = (let e = c.byte_at-d.ensures in omega (arith, e)) in
    let before : AreUpTo c.args.self.now c.args.spa c.args.bytes a c.byte_at-d.result c.loop-j.extents.items = subst (λ (y : ℕ). AreUpTo c.args.self.now c.args.spa c.args.bytes a y c.loop-j.extents.items) (sym d_is) c.loop-j.invariant in
    let lies : (r : ℕ) → r < s → address_of c.args.self.now a (c.byte_at-d.result + r) ≡ inside.spa + c.offset_at-offset.result + r = λ r below.
    let here = line_lies m s size woven laid p a at c.args.k j x line x_is r below in
    let sum : inside.spa + c.offset_at-offset.result + r ≡ woven.spa + c.args.k * (length woven.strands * m * s) + a.offset + x * s + r = (let e = c.offset_at-offset.ensures in omega (arith, e, turned)) in
    ap (λ (w : Woven). address_of w a (c.byte_at-d.result + r)) (sym same) ∙ ap (λ (y : ℕ). address_of woven a (y + r)) d_is ∙ here ∙ sym sum in
    let put = c.in_ok-put_cut.ensures c.args.self.now a before lies in
    let next : c.byte_at-d.result + s ≡ (c.args.k * m + (j + 1)) * s = omega (arith, d_is) in
    subst (λ (y : ℕ). AreUpTo c.args.self.now c.args.spa c.args.bytes a y c.put_cut.new.extents.items) next put
