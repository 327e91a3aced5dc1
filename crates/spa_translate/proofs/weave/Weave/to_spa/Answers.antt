use Rattle.std.proofs.Common.{◌≡◌, ◌<◌, List, length, get_or, sym, subst}
use Rattle.std.specs.Prelude.{◌↔◌, IfSome, IsSome}
use Rattle.spa_translate.specs.declared.strand.Strand.{Strand}
use Rattle.spa_translate.specs.Woven.{Woven}
use Rattle.spa_translate.specs.Kept.{woven_in}
use Rattle.spa_translate.specs.Laid.{size_each}
use Rattle.spa_translate.specs.Pairs.{AddressIn, IsMapped, IsPair}
use Rattle.spa_translate.proofs.Kept.{mapped_in, pair_in}
use Rattle.spa_translate.proofs.weave.Weave.to_spa.Goals as goal

pub returns-in-Some-clause-mapped : goal.returns-in-Some-clause-mapped
returns-in-Some-clause-mapped c =
    let inside = c.self.inside in
    let woven : Woven = woven_in inside in
    let same : woven ≡ c.args.self.now = c.self.view_is in
    let value = c.deref.ensures.value in
    let found = c.in-Some.ensures in
    let below : c.in-Some.position < length inside.strands.items = subst (λ (xs : List Strand). c.in-Some.position < length xs) value found.0 in
    let handle : (d : Strand) → (get_or inside.strands.items c.in-Some.position d).handle ≡ c.args.dimm = subst (λ (xs : List Strand). (d : Strand) → (get_or xs c.in-Some.position d).handle ≡ c.args.dimm) value found.1 in
    let address : AddressIn woven c.in-Some.position c.args.dpa c.address_in.result = subst (λ (w : Woven). AddressIn w c.in-Some.position c.args.dpa c.address_in.result) (sym same) c.address_in.ensures in
    subst (λ (w : Woven). IsSome c.address_in.result ↔ IsMapped w c.args.dimm c.args.dpa) same
    (mapped_in inside.lines inside.line_size (size_each inside.strands.items) woven c.self.invariant.laid c.in-Some.position c.args.dimm c.args.dpa below handle c.address_in.result address)

pub returns-in-Some-clause-pair : goal.returns-in-Some-clause-pair
returns-in-Some-clause-pair c =
    let inside = c.self.inside in
    let woven : Woven = woven_in inside in
    let same : woven ≡ c.args.self.now = c.self.view_is in
    let value = c.deref.ensures.value in
    let found = c.in-Some.ensures in
    let below : c.in-Some.position < length inside.strands.items = subst (λ (xs : List Strand). c.in-Some.position < length xs) value found.0 in
    let handle : (d : Strand) → (get_or inside.strands.items c.in-Some.position d).handle ≡ c.args.dimm = subst (λ (xs : List Strand). (d : Strand) → (get_or xs c.in-Some.position d).handle ≡ c.args.dimm) value found.1 in
    let address : AddressIn woven c.in-Some.position c.args.dpa c.address_in.result = subst (λ (w : Woven). AddressIn w c.in-Some.position c.args.dpa c.address_in.result) (sym same) c.address_in.ensures in
    subst (λ (w : Woven). IfSome c.address_in.result (λ spa. IsPair w spa c.args.dimm c.args.dpa)) same
    (pair_in woven c.in-Some.position c.args.dimm c.args.dpa below handle c.address_in.result address)
