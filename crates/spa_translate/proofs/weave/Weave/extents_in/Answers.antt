use Rattle.std.proofs.Common.{◌≡◌, ℕ, ◌+◌, ◌-◌, ◌*◌, ◌/◌, ◌≤◌, List, [], length, refl, sym, ap, subst, arith}
use Rattle.std.specs.Prelude.{Contains}
use Rattle.view_types.specs.declared.extents.Extent.{Extent}
use Rattle.spa_translate.specs.declared.strand.Strand.{Strand}
use Rattle.spa_translate.specs.Woven.{Woven}
use Rattle.spa_translate.specs.Kept.{woven_in}
use Rattle.spa_translate.specs.Laid.{IsLaid, size_each}
use Rattle.spa_translate.specs.Pairs.{period_of}
use Rattle.spa_translate.specs.Runs.{AreUpTo}
use Rattle.spa_translate.proofs.OneToOne.{at_from, laid_at}
use Rattle.std.proofs.Math.Nat.{mul-le-mul_right}
use Rattle.spa_translate.proofs.Reaching.{first_periods, last_periods, put_between}
use Rattle.spa_translate.proofs.Spans.{part_fits, period_is, span_of}
use Rattle.spa_translate.proofs.weave.Weave.extents_in.Goals as goal

pub put_period-requires-clause-period : goal.put_period-requires-clause-period
put_period-requires-clause-period c =
    let inside = c.self.inside in
    let woven : Woven = woven_in inside in
    let same : woven ≡ c.args.self.now = c.self.view_is in
    let m : ℕ = inside.lines in
    let s : ℕ = c.from-line_size.result in
    let size : ℕ = size_each inside.strands.items in
    let laid : IsLaid m s size woven = subst (λ (x : ℕ). IsLaid m x size woven) (sym c.from-line_size.ensures) c.self.invariant.laid in
    let a : Strand = c.args.strand.now in
    let member : Contains woven.strands a = subst (λ (w : Woven). Contains w.strands a) (sym same) c.requires.member in
    let at = at_from woven a member in
    let p : ℕ = member.0 in
    let period : period_of a ≡ m * s = period_is m s size woven laid p a at in
    let t : length inside.strands.items * m ≡ c.len.result = (let e = c.self.invariant.places.len in let f = c.len.ensures in omega (arith, e, f, inside.places.ok.0)) in
    let whole : length woven.strands * m * s ≡ c.len.result * s = ap (λ (x : ℕ). x * s) t in
    let x : ℕ = c.args.spa - inside.spa in
    let y : ℕ = c.args.spa - inside.spa + (c.args.length - 1) in
    let first : ℕ = x / (c.len.result * s) in
    let last : ℕ = y / (c.len.result * s) in
    let spa_is : woven.spa ≡ c.args.self.now.spa = ap (λ (w : Woven). w.spa) same in
    let len_is : woven.len ≡ c.args.self.now.len = ap (λ (w : Woven). w.len) same in
    let span = span_of m s size woven laid c.args.spa c.args.length first last c.requires.some (omega (arith, c.requires.from, spa_is)) (omega (arith, c.requires.end, spa_is, len_is)) (ap (λ (z : ℕ). x / z) (sym whole)) (ap (λ (z : ℕ). y / z) (sym whole)) in
    let up : (k : ℕ) (es : List Extent) → AreUpTo woven c.args.spa c.args.length a (k * (m * s)) es → AreUpTo c.args.self.now c.args.spa c.args.length a (k * period_of a) es = λ k es are.
    subst (λ (w : Woven). AreUpTo w c.args.spa c.args.length a (k * period_of a) es) same (subst (λ (z : ℕ). AreUpTo woven c.args.spa c.args.length a (k * z) es) (sym period) are) in
    let down : (k : ℕ) (es : List Extent) → AreUpTo c.args.self.now c.args.spa c.args.length a (k * period_of a) es → AreUpTo woven c.args.spa c.args.length a (k * (m * s)) es = λ k es are.
    subst (λ (z : ℕ). AreUpTo woven c.args.spa c.args.length a (k * z) es) period (subst (λ (w : Woven). AreUpTo w c.args.spa c.args.length a (k * period_of a) es) (sym same) are) in
    let fits : (k : ℕ) → k * (length woven.strands * m * s) ≤ woven.len → k * (length c.args.self.now.strands * period_of a) ≤ c.args.self.now.len = λ k le.
    (let h : k * (length woven.strands * (m * s)) ≤ woven.len = omega (arith, le) in
    subst (λ (w : Woven). k * (length w.strands * period_of a) ≤ w.len) same (subst (λ (z : ℕ). k * (length woven.strands * z) ≤ woven.len) (sym period) h)) in
    let part = laid_at m s size woven laid p a at in
    fits (first + 1) span.first_fits

pub put_period-requires-clause-before : goal.put_period-requires-clause-before
put_period-requires-clause-before c =
    let inside = c.self.inside in
    let woven : Woven = woven_in inside in
    let same : woven ≡ c.args.self.now = c.self.view_is in
    let m : ℕ = inside.lines in
    let s : ℕ = c.from-line_size.result in
    let size : ℕ = size_each inside.strands.items in
    let laid : IsLaid m s size woven = subst (λ (x : ℕ). IsLaid m x size woven) (sym c.from-line_size.ensures) c.self.invariant.laid in
    let a : Strand = c.args.strand.now in
    let member : Contains woven.strands a = subst (λ (w : Woven). Contains w.strands a) (sym same) c.requires.member in
    let at = at_from woven a member in
    let p : ℕ = member.0 in
    let period : period_of a ≡ m * s = period_is m s size woven laid p a at in
    let t : length inside.strands.items * m ≡ c.len.result = (let e = c.self.invariant.places.len in let f = c.len.ensures in omega (arith, e, f, inside.places.ok.0)) in
    let whole : length woven.strands * m * s ≡ c.len.result * s = ap (λ (x : ℕ). x * s) t in
    let x : ℕ = c.args.spa - inside.spa in
    let y : ℕ = c.args.spa - inside.spa + (c.args.length - 1) in
    let first : ℕ = x / (c.len.result * s) in
    let last : ℕ = y / (c.len.result * s) in
    let spa_is : woven.spa ≡ c.args.self.now.spa = ap (λ (w : Woven). w.spa) same in
    let len_is : woven.len ≡ c.args.self.now.len = ap (λ (w : Woven). w.len) same in
    let span = span_of m s size woven laid c.args.spa c.args.length first last c.requires.some (omega (arith, c.requires.from, spa_is)) (omega (arith, c.requires.end, spa_is, len_is)) (ap (λ (z : ℕ). x / z) (sym whole)) (ap (λ (z : ℕ). y / z) (sym whole)) in
    let up : (k : ℕ) (es : List Extent) → AreUpTo woven c.args.spa c.args.length a (k * (m * s)) es → AreUpTo c.args.self.now c.args.spa c.args.length a (k * period_of a) es = λ k es are.
    subst (λ (w : Woven). AreUpTo w c.args.spa c.args.length a (k * period_of a) es) same (subst (λ (z : ℕ). AreUpTo woven c.args.spa c.args.length a (k * z) es) (sym period) are) in
    let down : (k : ℕ) (es : List Extent) → AreUpTo c.args.self.now c.args.spa c.args.length a (k * period_of a) es → AreUpTo woven c.args.spa c.args.length a (k * (m * s)) es = λ k es are.
    subst (λ (z : ℕ). AreUpTo woven c.args.spa c.args.length a (k * z) es) period (subst (λ (w : Woven). AreUpTo w c.args.spa c.args.length a (k * period_of a) es) (sym same) are) in
    let fits : (k : ℕ) → k * (length woven.strands * m * s) ≤ woven.len → k * (length c.args.self.now.strands * period_of a) ≤ c.args.self.now.len = λ k le.
    (let h : k * (length woven.strands * (m * s)) ≤ woven.len = omega (arith, le) in
    subst (λ (w : Woven). k * (length w.strands * period_of a) ≤ w.len) same (subst (λ (z : ℕ). k * (length woven.strands * z) ≤ woven.len) (sym period) h)) in
    let part = laid_at m s size woven laid p a at in
    rw c.new-extents.ensures.items (up first [] (first_periods m s size woven laid p a at c.args.spa c.args.length first span.low))

pub returns-then-first-last-clause-extents : goal.returns-then-first-last-clause-extents
returns-then-first-last-clause-extents c =
    let inside = c.self.inside in
    let woven : Woven = woven_in inside in
    let same : woven ≡ c.args.self.now = c.self.view_is in
    let m : ℕ = inside.lines in
    let s : ℕ = c.from-line_size.result in
    let size : ℕ = size_each inside.strands.items in
    let laid : IsLaid m s size woven = subst (λ (x : ℕ). IsLaid m x size woven) (sym c.from-line_size.ensures) c.self.invariant.laid in
    let a : Strand = c.args.strand.now in
    let member : Contains woven.strands a = subst (λ (w : Woven). Contains w.strands a) (sym same) c.requires.member in
    let at = at_from woven a member in
    let p : ℕ = member.0 in
    let period : period_of a ≡ m * s = period_is m s size woven laid p a at in
    let t : length inside.strands.items * m ≡ c.len.result = (let e = c.self.invariant.places.len in let f = c.len.ensures in omega (arith, e, f, inside.places.ok.0)) in
    let whole : length woven.strands * m * s ≡ c.len.result * s = ap (λ (x : ℕ). x * s) t in
    let x : ℕ = c.args.spa - inside.spa in
    let y : ℕ = c.args.spa - inside.spa + (c.args.length - 1) in
    let first : ℕ = x / (c.len.result * s) in
    let last : ℕ = y / (c.len.result * s) in
    let spa_is : woven.spa ≡ c.args.self.now.spa = ap (λ (w : Woven). w.spa) same in
    let len_is : woven.len ≡ c.args.self.now.len = ap (λ (w : Woven). w.len) same in
    let span = span_of m s size woven laid c.args.spa c.args.length first last c.requires.some (omega (arith, c.requires.from, spa_is)) (omega (arith, c.requires.end, spa_is, len_is)) (ap (λ (z : ℕ). x / z) (sym whole)) (ap (λ (z : ℕ). y / z) (sym whole)) in
    let up : (k : ℕ) (es : List Extent) → AreUpTo woven c.args.spa c.args.length a (k * (m * s)) es → AreUpTo c.args.self.now c.args.spa c.args.length a (k * period_of a) es = λ k es are.
    subst (λ (w : Woven). AreUpTo w c.args.spa c.args.length a (k * period_of a) es) same (subst (λ (z : ℕ). AreUpTo woven c.args.spa c.args.length a (k * z) es) (sym period) are) in
    let down : (k : ℕ) (es : List Extent) → AreUpTo c.args.self.now c.args.spa c.args.length a (k * period_of a) es → AreUpTo woven c.args.spa c.args.length a (k * (m * s)) es = λ k es are.
    subst (λ (z : ℕ). AreUpTo woven c.args.spa c.args.length a (k * z) es) period (subst (λ (w : Woven). AreUpTo w c.args.spa c.args.length a (k * period_of a) es) (sym same) are) in
    let fits : (k : ℕ) → k * (length woven.strands * m * s) ≤ woven.len → k * (length c.args.self.now.strands * period_of a) ≤ c.args.self.now.len = λ k le.
    (let h : k * (length woven.strands * (m * s)) ≤ woven.len = omega (arith, le) in
    subst (λ (w : Woven). k * (length w.strands * period_of a) ≤ w.len) same (subst (λ (z : ℕ). k * (length woven.strands * z) ≤ woven.len) (sym period) h)) in
    let part = laid_at m s size woven laid p a at in
    let es : List Extent = c.put_period.new.extents.items in
    let are = down (first + 1) es c.in_ok-put_period.ensures in
    let more : (last + 1) * (length woven.strands * m * s) ≤ (first + 1) * (length woven.strands * m * s) = mul-le-mul_right (length woven.strands * m * s) (omega (arith, c.if-first-last.true)) in
    let all = last_periods m s size woven laid p a at c.args.spa c.args.length (first + 1) es (omega (arith, span.end, more)) (part_fits m s size woven laid (first + 1) span.first_fits) are in
    subst (λ (w : Woven). AreUpTo w c.args.spa c.args.length a a.size es) same (subst (λ (z : ℕ). AreUpTo woven c.args.spa c.args.length a z es) (sym part.size_is) all)

pub put_periods-requires-clause-fits : goal.put_periods-requires-clause-fits
put_periods-requires-clause-fits c =
    let inside = c.self.inside in
    let woven : Woven = woven_in inside in
    let same : woven ≡ c.args.self.now = c.self.view_is in
    let m : ℕ = inside.lines in
    let s : ℕ = c.from-line_size.result in
    let size : ℕ = size_each inside.strands.items in
    let laid : IsLaid m s size woven = subst (λ (x : ℕ). IsLaid m x size woven) (sym c.from-line_size.ensures) c.self.invariant.laid in
    let a : Strand = c.args.strand.now in
    let member : Contains woven.strands a = subst (λ (w : Woven). Contains w.strands a) (sym same) c.requires.member in
    let at = at_from woven a member in
    let p : ℕ = member.0 in
    let period : period_of a ≡ m * s = period_is m s size woven laid p a at in
    let t : length inside.strands.items * m ≡ c.len.result = (let e = c.self.invariant.places.len in let f = c.len.ensures in omega (arith, e, f, inside.places.ok.0)) in
    let whole : length woven.strands * m * s ≡ c.len.result * s = ap (λ (x : ℕ). x * s) t in
    let x : ℕ = c.args.spa - inside.spa in
    let y : ℕ = c.args.spa - inside.spa + (c.args.length - 1) in
    let first : ℕ = x / (c.len.result * s) in
    let last : ℕ = y / (c.len.result * s) in
    let spa_is : woven.spa ≡ c.args.self.now.spa = ap (λ (w : Woven). w.spa) same in
    let len_is : woven.len ≡ c.args.self.now.len = ap (λ (w : Woven). w.len) same in
    let span = span_of m s size woven laid c.args.spa c.args.length first last c.requires.some (omega (arith, c.requires.from, spa_is)) (omega (arith, c.requires.end, spa_is, len_is)) (ap (λ (z : ℕ). x / z) (sym whole)) (ap (λ (z : ℕ). y / z) (sym whole)) in
    let up : (k : ℕ) (es : List Extent) → AreUpTo woven c.args.spa c.args.length a (k * (m * s)) es → AreUpTo c.args.self.now c.args.spa c.args.length a (k * period_of a) es = λ k es are.
    subst (λ (w : Woven). AreUpTo w c.args.spa c.args.length a (k * period_of a) es) same (subst (λ (z : ℕ). AreUpTo woven c.args.spa c.args.length a (k * z) es) (sym period) are) in
    let down : (k : ℕ) (es : List Extent) → AreUpTo c.args.self.now c.args.spa c.args.length a (k * period_of a) es → AreUpTo woven c.args.spa c.args.length a (k * (m * s)) es = λ k es are.
    subst (λ (z : ℕ). AreUpTo woven c.args.spa c.args.length a (k * z) es) period (subst (λ (w : Woven). AreUpTo w c.args.spa c.args.length a (k * period_of a) es) (sym same) are) in
    let fits : (k : ℕ) → k * (length woven.strands * m * s) ≤ woven.len → k * (length c.args.self.now.strands * period_of a) ≤ c.args.self.now.len = λ k le.
    (let h : k * (length woven.strands * (m * s)) ≤ woven.len = omega (arith, le) in
    subst (λ (w : Woven). k * (length w.strands * period_of a) ≤ w.len) same (subst (λ (z : ℕ). k * (length woven.strands * z) ≤ woven.len) (sym period) h)) in
    let part = laid_at m s size woven laid p a at in
    let le = part_fits m s size woven laid (last + 1) span.last_fits in
    omega (arith, le, part.end, part.size_is)

pub put_period-requires-2-clause-period : goal.put_period-requires-2-clause-period
put_period-requires-2-clause-period c =
    let inside = c.self.inside in
    let woven : Woven = woven_in inside in
    let same : woven ≡ c.args.self.now = c.self.view_is in
    let m : ℕ = inside.lines in
    let s : ℕ = c.from-line_size.result in
    let size : ℕ = size_each inside.strands.items in
    let laid : IsLaid m s size woven = subst (λ (x : ℕ). IsLaid m x size woven) (sym c.from-line_size.ensures) c.self.invariant.laid in
    let a : Strand = c.args.strand.now in
    let member : Contains woven.strands a = subst (λ (w : Woven). Contains w.strands a) (sym same) c.requires.member in
    let at = at_from woven a member in
    let p : ℕ = member.0 in
    let period : period_of a ≡ m * s = period_is m s size woven laid p a at in
    let t : length inside.strands.items * m ≡ c.len.result = (let e = c.self.invariant.places.len in let f = c.len.ensures in omega (arith, e, f, inside.places.ok.0)) in
    let whole : length woven.strands * m * s ≡ c.len.result * s = ap (λ (x : ℕ). x * s) t in
    let x : ℕ = c.args.spa - inside.spa in
    let y : ℕ = c.args.spa - inside.spa + (c.args.length - 1) in
    let first : ℕ = x / (c.len.result * s) in
    let last : ℕ = y / (c.len.result * s) in
    let spa_is : woven.spa ≡ c.args.self.now.spa = ap (λ (w : Woven). w.spa) same in
    let len_is : woven.len ≡ c.args.self.now.len = ap (λ (w : Woven). w.len) same in
    let span = span_of m s size woven laid c.args.spa c.args.length first last c.requires.some (omega (arith, c.requires.from, spa_is)) (omega (arith, c.requires.end, spa_is, len_is)) (ap (λ (z : ℕ). x / z) (sym whole)) (ap (λ (z : ℕ). y / z) (sym whole)) in
    let up : (k : ℕ) (es : List Extent) → AreUpTo woven c.args.spa c.args.length a (k * (m * s)) es → AreUpTo c.args.self.now c.args.spa c.args.length a (k * period_of a) es = λ k es are.
    subst (λ (w : Woven). AreUpTo w c.args.spa c.args.length a (k * period_of a) es) same (subst (λ (z : ℕ). AreUpTo woven c.args.spa c.args.length a (k * z) es) (sym period) are) in
    let down : (k : ℕ) (es : List Extent) → AreUpTo c.args.self.now c.args.spa c.args.length a (k * period_of a) es → AreUpTo woven c.args.spa c.args.length a (k * (m * s)) es = λ k es are.
    subst (λ (z : ℕ). AreUpTo woven c.args.spa c.args.length a (k * z) es) period (subst (λ (w : Woven). AreUpTo w c.args.spa c.args.length a (k * period_of a) es) (sym same) are) in
    let fits : (k : ℕ) → k * (length woven.strands * m * s) ≤ woven.len → k * (length c.args.self.now.strands * period_of a) ≤ c.args.self.now.len = λ k le.
    (let h : k * (length woven.strands * (m * s)) ≤ woven.len = omega (arith, le) in
    subst (λ (w : Woven). k * (length w.strands * period_of a) ≤ w.len) same (subst (λ (z : ℕ). k * (length woven.strands * z) ≤ woven.len) (sym period) h)) in
    let part = laid_at m s size woven laid p a at in
    fits (last + 1) span.last_fits

pub put_period-requires-2-clause-before : goal.put_period-requires-2-clause-before
put_period-requires-2-clause-before c =
    let inside = c.self.inside in
    let woven : Woven = woven_in inside in
    let same : woven ≡ c.args.self.now = c.self.view_is in
    let m : ℕ = inside.lines in
    let s : ℕ = c.from-line_size.result in
    let size : ℕ = size_each inside.strands.items in
    let laid : IsLaid m s size woven = subst (λ (x : ℕ). IsLaid m x size woven) (sym c.from-line_size.ensures) c.self.invariant.laid in
    let a : Strand = c.args.strand.now in
    let member : Contains woven.strands a = subst (λ (w : Woven). Contains w.strands a) (sym same) c.requires.member in
    let at = at_from woven a member in
    let p : ℕ = member.0 in
    let period : period_of a ≡ m * s = period_is m s size woven laid p a at in
    let t : length inside.strands.items * m ≡ c.len.result = (let e = c.self.invariant.places.len in let f = c.len.ensures in omega (arith, e, f, inside.places.ok.0)) in
    let whole : length woven.strands * m * s ≡ c.len.result * s = ap (λ (x : ℕ). x * s) t in
    let x : ℕ = c.args.spa - inside.spa in
    let y : ℕ = c.args.spa - inside.spa + (c.args.length - 1) in
    let first : ℕ = x / (c.len.result * s) in
    let last : ℕ = y / (c.len.result * s) in
    let spa_is : woven.spa ≡ c.args.self.now.spa = ap (λ (w : Woven). w.spa) same in
    let len_is : woven.len ≡ c.args.self.now.len = ap (λ (w : Woven). w.len) same in
    let span = span_of m s size woven laid c.args.spa c.args.length first last c.requires.some (omega (arith, c.requires.from, spa_is)) (omega (arith, c.requires.end, spa_is, len_is)) (ap (λ (z : ℕ). x / z) (sym whole)) (ap (λ (z : ℕ). y / z) (sym whole)) in
    let up : (k : ℕ) (es : List Extent) → AreUpTo woven c.args.spa c.args.length a (k * (m * s)) es → AreUpTo c.args.self.now c.args.spa c.args.length a (k * period_of a) es = λ k es are.
    subst (λ (w : Woven). AreUpTo w c.args.spa c.args.length a (k * period_of a) es) same (subst (λ (z : ℕ). AreUpTo woven c.args.spa c.args.length a (k * z) es) (sym period) are) in
    let down : (k : ℕ) (es : List Extent) → AreUpTo c.args.self.now c.args.spa c.args.length a (k * period_of a) es → AreUpTo woven c.args.spa c.args.length a (k * (m * s)) es = λ k es are.
    subst (λ (z : ℕ). AreUpTo woven c.args.spa c.args.length a (k * z) es) period (subst (λ (w : Woven). AreUpTo w c.args.spa c.args.length a (k * period_of a) es) (sym same) are) in
    let fits : (k : ℕ) → k * (length woven.strands * m * s) ≤ woven.len → k * (length c.args.self.now.strands * period_of a) ≤ c.args.self.now.len = λ k le.
    (let h : k * (length woven.strands * (m * s)) ≤ woven.len = omega (arith, le) in
    subst (λ (w : Woven). k * (length w.strands * period_of a) ≤ w.len) same (subst (λ (z : ℕ). k * (length woven.strands * z) ≤ woven.len) (sym period) h)) in
    let part = laid_at m s size woven laid p a at in
    let old : List Extent = c.put_period.new.extents.items in
    let new : List Extent = c.put_periods.new.extents.items in
    let are = down (first + 1) old c.in_ok-put_period.ensures in
    up last new (put_between m s size woven laid p a at c.args.spa c.args.length (first + 1) last old new span.next span.high (omega (arith, c.if-first-last.false)) are ((last - (first + 1)) * (m * s)) refl c.in_ok-put_periods.ensures)

pub returns-clause-extents : goal.returns-clause-extents
returns-clause-extents c =
    let inside = c.self.inside in
    let woven : Woven = woven_in inside in
    let same : woven ≡ c.args.self.now = c.self.view_is in
    let m : ℕ = inside.lines in
    let s : ℕ = c.from-line_size.result in
    let size : ℕ = size_each inside.strands.items in
    let laid : IsLaid m s size woven = subst (λ (x : ℕ). IsLaid m x size woven) (sym c.from-line_size.ensures) c.self.invariant.laid in
    let a : Strand = c.args.strand.now in
    let member : Contains woven.strands a = subst (λ (w : Woven). Contains w.strands a) (sym same) c.requires.member in
    let at = at_from woven a member in
    let p : ℕ = member.0 in
    let period : period_of a ≡ m * s = period_is m s size woven laid p a at in
    let t : length inside.strands.items * m ≡ c.len.result = (let e = c.self.invariant.places.len in let f = c.len.ensures in omega (arith, e, f, inside.places.ok.0)) in
    let whole : length woven.strands * m * s ≡ c.len.result * s = ap (λ (x : ℕ). x * s) t in
    let x : ℕ = c.args.spa - inside.spa in
    let y : ℕ = c.args.spa - inside.spa + (c.args.length - 1) in
    let first : ℕ = x / (c.len.result * s) in
    let last : ℕ = y / (c.len.result * s) in
    let spa_is : woven.spa ≡ c.args.self.now.spa = ap (λ (w : Woven). w.spa) same in
    let len_is : woven.len ≡ c.args.self.now.len = ap (λ (w : Woven). w.len) same in
    let span = span_of m s size woven laid c.args.spa c.args.length first last c.requires.some (omega (arith, c.requires.from, spa_is)) (omega (arith, c.requires.end, spa_is, len_is)) (ap (λ (z : ℕ). x / z) (sym whole)) (ap (λ (z : ℕ). y / z) (sym whole)) in
    let up : (k : ℕ) (es : List Extent) → AreUpTo woven c.args.spa c.args.length a (k * (m * s)) es → AreUpTo c.args.self.now c.args.spa c.args.length a (k * period_of a) es = λ k es are.
    subst (λ (w : Woven). AreUpTo w c.args.spa c.args.length a (k * period_of a) es) same (subst (λ (z : ℕ). AreUpTo woven c.args.spa c.args.length a (k * z) es) (sym period) are) in
    let down : (k : ℕ) (es : List Extent) → AreUpTo c.args.self.now c.args.spa c.args.length a (k * period_of a) es → AreUpTo woven c.args.spa c.args.length a (k * (m * s)) es = λ k es are.
    subst (λ (z : ℕ). AreUpTo woven c.args.spa c.args.length a (k * z) es) period (subst (λ (w : Woven). AreUpTo w c.args.spa c.args.length a (k * period_of a) es) (sym same) are) in
    let fits : (k : ℕ) → k * (length woven.strands * m * s) ≤ woven.len → k * (length c.args.self.now.strands * period_of a) ≤ c.args.self.now.len = λ k le.
    (let h : k * (length woven.strands * (m * s)) ≤ woven.len = omega (arith, le) in
    subst (λ (w : Woven). k * (length w.strands * period_of a) ≤ w.len) same (subst (λ (z : ℕ). k * (length woven.strands * z) ≤ woven.len) (sym period) h)) in
    let part = laid_at m s size woven laid p a at in
    let es : List Extent = c.put_period-2.new.extents.items in
    let are = down (last + 1) es c.in_ok-put_period-2.ensures in
    let all = last_periods m s size woven laid p a at c.args.spa c.args.length (last + 1) es span.end (part_fits m s size woven laid (last + 1) span.last_fits) are in
    subst (λ (w : Woven). AreUpTo w c.args.spa c.args.length a a.size es) same (subst (λ (z : ℕ). AreUpTo woven c.args.spa c.args.length a z es) (sym part.size_is) all)
