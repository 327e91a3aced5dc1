use Rattle.std.proofs.Common.{◌≡◌, ◌<◌, ℕ, None, List, sym, ap, subst, ◌∙◌, rules, arith}
use Rattle.std.specs.FinMap.{get}
use Rattle.index_block.specs.Bitmap.{IsFirstFree, free_count}
use Rattle.label_area.specs.LoadedAreas.{IsSound, LoadedArea}
use Rattle.label_area.proofs.FirstSlot.{first_slot-is, free_count-none, none_in_free}
use Rattle.label_area.proofs.Sound.{sound}
use Rattle.label_area.proofs.area.Area.first_slot.Goals as goal

pub returns-clause-is : goal.returns-clause-is
returns-clause-is c = first_slot-is c.args.self.now _ (search rules)

pub returns-clause-unused : goal.returns-clause-unused
returns-clause-unused c =
    let a = c.args.self.now in
    let first : IsFirstFree a.free a.geometry.slots c.in-Some.slot = search rules in
    subst (λ (slot : ℕ). get a.live slot ≡ None) (first_slot-is a c.in-Some.slot first) (none_in_free a (subst IsSound c.self.view_is (sound c.self.inside c.self.invariant)) c.in-Some.slot first.free)

pub returns-clause-sound : goal.returns-clause-sound
returns-clause-sound c = subst IsSound c.self.view_is (sound c.self.inside c.self.invariant)

pub unreachable-requires : goal.unreachable-requires
unreachable-requires c =
    let n = c.self.inside.geometry.slots in
    let none = free_count-none c.deref.result.now n (λ k below. c.in-None.ensures.none k below) in
    let none_free : free_count c.args.self.now.free c.args.self.now.geometry.slots ≡ 0 =
    subst (λ (a : LoadedArea). free_count a.free a.geometry.slots ≡ 0) c.self.view_is (ap (λ (free : List ℕ). free_count free n) (sym c.deref.ensures.value) ∙ none) in
    let some : 0 < free_count c.args.self.now.free c.args.self.now.geometry.slots = c.requires in
    omega (arith, none_free, some)
