use Rattle.std.proofs.Common.{◌≡◌, ◌+◌, ◌-◌, ◌*◌, ◌/◌, ◌%◌, ◌<◌, ◌≤◌, Some, length, get_or, sym, ap, subst, arith}
use Rattle.spa_translate.specs.declared.strand.Strand.{Strand}
use Rattle.spa_translate.specs.Woven.{Woven, address_of}
use Rattle.spa_translate.specs.Kept.{woven_in}
use Rattle.spa_translate.specs.Laid.{size_each}
use Rattle.spa_translate.specs.Pairs.{AddressIn}
use Rattle.spa_translate.proofs.Kept.{address_given, period_fits, summed}
use Rattle.spa_translate.proofs.weave.Weave.address_in.Goals as goal

pub overflow_mul-len : goal.overflow_mul-len
overflow_mul-len c =
    let inside = c.self.inside in
    let t : length inside.strands.items * inside.lines ≡ c.len.result = (let e = c.self.invariant.places.len in let f = c.len.ensures in omega (arith, e, f, inside.places.ok.0)) in
    let fits = period_fits inside.lines inside.line_size (size_each inside.strands.items) (woven_in inside) c.self.invariant.laid in
    let small : c.len.result * c.from-line_size.result ≤ inside.size = rw (← t, c.from-line_size.ensures) fits in
    omega (arith, small, c.self.invariant.laid.end)

pub offset_at-offset-requires : goal.offset_at-offset-requires
offset_at-offset-requires c =
    let inside = c.self.inside in
    let woven : Woven = woven_in inside in
    let same : woven ≡ c.args.self.now = c.self.view_is in
    let below : c.args.position < length inside.strands.items = (let e : length woven.strands ≡ length c.args.self.now.strands = ap (λ (w : Woven). length w.strands) same in omega (arith, e, c.requires)) in
    let t : length inside.strands.items * inside.lines ≡ c.len.result = (let e = c.self.invariant.places.len in let f = c.len.ensures in omega (arith, e, f, inside.places.ok.0)) in
    let a : Strand = c.index-strand.result.now in
    let x : c.from.result ≡ get_or a.lines ((c.args.dpa - a.base) / c.from-line_size.result % inside.lines) 0 = cc in
    let sums = summed inside.lines inside.line_size (size_each inside.strands.items) woven c.self.invariant.laid c.args.position a below c.index-strand.ensures (c.args.dpa - a.base) (omega arith) c.from-line_size.result c.len.result c.from.result (sym c.from-line_size.ensures) t x in
    omega (arith, sums.1, c.self.invariant.laid.end)

pub overflow_add-result : goal.overflow_add-result
overflow_add-result c =
    let inside = c.self.inside in
    let woven : Woven = woven_in inside in
    let same : woven ≡ c.args.self.now = c.self.view_is in
    let below : c.args.position < length inside.strands.items = (let e : length woven.strands ≡ length c.args.self.now.strands = ap (λ (w : Woven). length w.strands) same in omega (arith, e, c.requires)) in
    let t : length inside.strands.items * inside.lines ≡ c.len.result = (let e = c.self.invariant.places.len in let f = c.len.ensures in omega (arith, e, f, inside.places.ok.0)) in
    let a : Strand = c.index-strand.result.now in
    let x : c.from.result ≡ get_or a.lines ((c.args.dpa - a.base) / c.from-line_size.result % inside.lines) 0 = cc in
    let sums = summed inside.lines inside.line_size (size_each inside.strands.items) woven c.self.invariant.laid c.args.position a below c.index-strand.ensures (c.args.dpa - a.base) (omega arith) c.from-line_size.result c.len.result c.from.result (sym c.from-line_size.ensures) t x in
    omega (arith, sums.1, c.self.invariant.laid.end, c.offset_at-offset.ensures)

pub returns : goal.returns
returns c =
    let inside = c.self.inside in
    let woven : Woven = woven_in inside in
    let same : woven ≡ c.args.self.now = c.self.view_is in
    let below : c.args.position < length inside.strands.items = (let e : length woven.strands ≡ length c.args.self.now.strands = ap (λ (w : Woven). length w.strands) same in omega (arith, e, c.requires)) in
    let t : length inside.strands.items * inside.lines ≡ c.len.result = (let e = c.self.invariant.places.len in let f = c.len.ensures in omega (arith, e, f, inside.places.ok.0)) in
    let a : Strand = c.index-strand.result.now in
    let x : c.from.result ≡ get_or a.lines ((c.args.dpa - a.base) / c.from-line_size.result % inside.lines) 0 = cc in
    let sums = summed inside.lines inside.line_size (size_each inside.strands.items) woven c.self.invariant.laid c.args.position a below c.index-strand.ensures (c.args.dpa - a.base) (omega arith) c.from-line_size.result c.len.result c.from.result (sym c.from-line_size.ensures) t x in
    let address : inside.spa + c.offset_at-offset.result ≡ address_of woven a (c.args.dpa - a.base) = (let e = sums.0 in let f = c.offset_at-offset.ensures in omega (arith, e, f)) in
    subst (λ (w : Woven). AddressIn w c.args.position c.args.dpa (Some (inside.spa + c.offset_at-offset.result))) same
    (address_given woven c.args.position c.args.dpa (inside.spa + c.offset_at-offset.result) a below c.index-strand.ensures (omega arith) (omega arith) address)
