use Rattle.std.proofs.Common.{◌≡◌, ℕ, ◌+◌, ◌-◌, ◌*◌, ◌<◌, ◌≤◌, length, sym, ap, subst, arith}
use Rattle.spa_translate.specs.declared.strand.Strand.{Strand}
use Rattle.spa_translate.specs.Woven.{Woven}
use Rattle.spa_translate.specs.Kept.{woven_in}
use Rattle.spa_translate.specs.Laid.{size_each}
use Rattle.spa_translate.specs.Pairs.{IsPair}
use Rattle.spa_translate.proofs.Kept.{found, pair_found}
use Rattle.spa_translate.proofs.weave.Weave.module_at.Goals as goal

pub byte_at-d-requires-clause-fits : goal.byte_at-d-requires-clause-fits
byte_at-d-requires-clause-fits c =
    let inside = c.self.inside in
    let woven : Woven = woven_in inside in
    let same : woven ≡ c.args.self.now = c.self.view_is in
    let from : inside.spa ≤ c.args.spa = (let e : woven.spa ≡ c.args.self.now.spa = ap (λ (w : Woven). w.spa) same in omega (arith, e, c.requires.from)) in
    let below : c.args.spa - inside.spa < inside.size = (let e : woven.spa ≡ c.args.self.now.spa = ap (λ (w : Woven). w.spa) same in let f : woven.len ≡ c.args.self.now.len = ap (λ (w : Woven). w.len) same in omega (arith, e, f, c.requires.from, c.requires.below)) in
    let t : length inside.strands.items * inside.lines ≡ c.len-in_period.result = (let e = c.self.invariant.places.len in let f = c.len-in_period.ensures in omega (arith, e, f, inside.places.ok.0)) in
    let found = found inside.lines inside.line_size (size_each inside.strands.items) woven c.self.invariant.laid inside.places.items c.self.invariant.places (c.args.spa - inside.spa) c.index.result.now c.index-strand.result.now below c.from-line_size.result c.len-in_period.result (sym c.from-line_size.ensures) t c.index.ensures c.index-strand.ensures in
    omega (arith, found.below, found.end)

pub overflow_add-result : goal.overflow_add-result
overflow_add-result c =
    let inside = c.self.inside in
    let woven : Woven = woven_in inside in
    let same : woven ≡ c.args.self.now = c.self.view_is in
    let from : inside.spa ≤ c.args.spa = (let e : woven.spa ≡ c.args.self.now.spa = ap (λ (w : Woven). w.spa) same in omega (arith, e, c.requires.from)) in
    let below : c.args.spa - inside.spa < inside.size = (let e : woven.spa ≡ c.args.self.now.spa = ap (λ (w : Woven). w.spa) same in let f : woven.len ≡ c.args.self.now.len = ap (λ (w : Woven). w.len) same in omega (arith, e, f, c.requires.from, c.requires.below)) in
    let t : length inside.strands.items * inside.lines ≡ c.len-in_period.result = (let e = c.self.invariant.places.len in let f = c.len-in_period.ensures in omega (arith, e, f, inside.places.ok.0)) in
    let found = found inside.lines inside.line_size (size_each inside.strands.items) woven c.self.invariant.laid inside.places.items c.self.invariant.places (c.args.spa - inside.spa) c.index.result.now c.index-strand.result.now below c.from-line_size.result c.len-in_period.result (sym c.from-line_size.ensures) t c.index.ensures c.index-strand.ensures in
    omega (arith, found.below, found.end, c.byte_at-d.ensures)

pub returns : goal.returns
returns c =
    let inside = c.self.inside in
    let woven : Woven = woven_in inside in
    let same : woven ≡ c.args.self.now = c.self.view_is in
    let from : inside.spa ≤ c.args.spa = (let e : woven.spa ≡ c.args.self.now.spa = ap (λ (w : Woven). w.spa) same in omega (arith, e, c.requires.from)) in
    let below : c.args.spa - inside.spa < inside.size = (let e : woven.spa ≡ c.args.self.now.spa = ap (λ (w : Woven). w.spa) same in let f : woven.len ≡ c.args.self.now.len = ap (λ (w : Woven). w.len) same in omega (arith, e, f, c.requires.from, c.requires.below)) in
    let t : length inside.strands.items * inside.lines ≡ c.len-in_period.result = (let e = c.self.invariant.places.len in let f = c.len-in_period.ensures in omega (arith, e, f, inside.places.ok.0)) in
    let found = found inside.lines inside.line_size (size_each inside.strands.items) woven c.self.invariant.laid inside.places.items c.self.invariant.places (c.args.spa - inside.spa) c.index.result.now c.index-strand.result.now below c.from-line_size.result c.len-in_period.result (sym c.from-line_size.ensures) t c.index.ensures c.index-strand.ensures in
    let a : Strand = c.index-strand.result.now in
    let pair = pair_found woven (c.args.spa - inside.spa) _ a found c.args.spa (omega (arith, from)) in
    subst (λ (w : Woven). IsPair w c.args.spa a.handle (a.base + c.byte_at-d.result)) same
    (subst (λ (x : ℕ). IsPair woven c.args.spa a.handle (a.base + x)) (sym c.byte_at-d.ensures) pair)
