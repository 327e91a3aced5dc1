use Rattle.std.proofs.Common.{◌≡◌, ℕ, ◌*◌, ◌<◌, ◌∙◌, true, false, List, None, length, get_or, map, sym, ap, subst}
use Rattle.std.specs.Prelude.{All, option_map}
use Rattle.view_types.specs.declared.translation.TranslateFault.TheVariants.{NotPartition}
use Rattle.spa_translate.specs.declared.strand.Strand.{Strand}
use Rattle.spa_translate.specs.declared.places.Slot.{Slot}
use Rattle.spa_translate.specs.Woven.{Woven}
use Rattle.spa_translate.specs.Faults.{all_lines, first_not_once, lines_each}
use Rattle.spa_translate.specs.Laid.{HasFewLines, IsFit, IsLaid, line_size_each, size_each}
use Rattle.spa_translate.specs.Places.{ArePlaces, AreSlots, is_once, place_of}
use Rattle.spa_translate.proofs.Fitting.{laid}
use Rattle.spa_translate.proofs.Kept.{few_of, first_line_size, first_lines}
use Rattle.spa_translate.proofs.Slots.{are_places, many_lines, none_of_slots, some_of_slots}
use Rattle.spa_translate.proofs.weave.Weave.of_lines.Goals as goal

each_is : (woven : Woven) → IsFit woven → (x : Strand) → x ≡ get_or woven.strands 0 x → (m : ℕ) → m ≡ length x.lines → lines_each woven.strands ≡ m
each_is woven fit x is m long = sym (long ∙ first_lines woven.strands x fit.some is)

pub returns-in-Some-clause-fault : goal.returns-in-Some-clause-fault
returns-in-Some-clause-fault c =
    let strands = c.args.strands.items in
    let woven : Woven = record { spa = c.args.spa; len = c.args.size; strands = strands } in
    let x : Strand = c.index.result.now in
    let m : ℕ = c.len-lines.result in
    let each : lines_each strands ≡ m = each_is woven c.requires.fit x c.index.ensures m c.len-lines.ensures in
    let few : All (HasFewLines m) strands = subst (λ (n : ℕ). All (HasFewLines n) strands) each (few_of woven c.requires.fit c.requires.same) in
    let slots : List Slot = c.in-Ok.slots.items in
    let long : length slots ≡ length strands * m = c.in-Ok.ensures.len ∙ ap (λ (xs : List Strand). length xs * m) c.deref.ensures.value in
    let are : AreSlots (all_lines strands) (length strands * m) slots = subst (λ (xs : List Strand). AreSlots (all_lines xs) (length xs * m) slots) c.deref.ensures.value c.in-Ok.ensures.slots in
    let found = c.in-Some.ensures in
    let value = c.deref-2.ensures.value in
    let line = c.in-Some.line in
    let inside : line < length slots = subst (λ (xs : List Slot). line < length xs) value found.0 in
    let other : (d : Slot) → is_once (get_or slots line d) ≡ false = subst (λ (xs : List Slot). (d : Slot) → is_once (get_or xs line d) ≡ false) value found.1 in
    let before : (k : ℕ) (d : Slot) → k < line → is_once (get_or slots k d) ≡ true = subst (λ (xs : List Slot). (k : ℕ) (d : Slot) → k < line → is_once (get_or xs k d) ≡ true) value found.2 in
    ap (option_map (λ (l : ℕ). NotPartition l)) (some_of_slots strands m few each slots long are line inside other before)

pub returns-in-Ok-places_of-clause-none : goal.returns-in-Ok-places_of-clause-none
returns-in-Ok-places_of-clause-none c =
    let strands = c.args.strands.items in
    let woven : Woven = record { spa = c.args.spa; len = c.args.size; strands = strands } in
    let x : Strand = c.index.result.now in
    let m : ℕ = c.len-lines.result in
    let each : lines_each strands ≡ m = each_is woven c.requires.fit x c.index.ensures m c.len-lines.ensures in
    let few : All (HasFewLines m) strands = subst (λ (n : ℕ). All (HasFewLines n) strands) each (few_of woven c.requires.fit c.requires.same) in
    let slots : List Slot = c.in-Ok.slots.items in
    let long : length slots ≡ length strands * m = c.in-Ok.ensures.len ∙ ap (λ (xs : List Strand). length xs * m) c.deref.ensures.value in
    let are : AreSlots (all_lines strands) (length strands * m) slots = subst (λ (xs : List Strand). AreSlots (all_lines xs) (length xs * m) slots) c.deref.ensures.value c.in-Ok.ensures.slots in
    let once : (k : ℕ) (d : Slot) → k < length slots → is_once (get_or slots k d) ≡ true =
    subst (λ (xs : List Slot). (k : ℕ) (d : Slot) → k < length xs → is_once (get_or xs k d) ≡ true) c.deref-2.ensures.value (λ k d below. c.in-None.ensures k below d) in
    ap (option_map (λ (l : ℕ). NotPartition l)) (none_of_slots strands m few each slots long are once)

pub invariant_of-result : goal.invariant_of-result
invariant_of-result c =
    let strands = c.args.strands.items in
    let woven : Woven = record { spa = c.args.spa; len = c.args.size; strands = strands } in
    let x : Strand = c.index.result.now in
    let m : ℕ = c.len-lines.result in
    let each : lines_each strands ≡ m = each_is woven c.requires.fit x c.index.ensures m c.len-lines.ensures in
    let few : All (HasFewLines m) strands = subst (λ (n : ℕ). All (HasFewLines n) strands) each (few_of woven c.requires.fit c.requires.same) in
    let slots : List Slot = c.in-Ok.slots.items in
    let long : length slots ≡ length strands * m = c.in-Ok.ensures.len ∙ ap (λ (xs : List Strand). length xs * m) c.deref.ensures.value in
    let are : AreSlots (all_lines strands) (length strands * m) slots = subst (λ (xs : List Strand). AreSlots (all_lines xs) (length xs * m) slots) c.deref.ensures.value c.in-Ok.ensures.slots in
    let once : (k : ℕ) (d : Slot) → k < length slots → is_once (get_or slots k d) ≡ true =
    subst (λ (xs : List Slot). (k : ℕ) (d : Slot) → k < length xs → is_once (get_or xs k d) ≡ true) c.deref-2.ensures.value (λ k d below. c.in-None.ensures k below d) in
    let none : first_not_once strands ≡ None = none_of_slots strands m few each slots long are once in
    let is : IsLaid (lines_each strands) (line_size_each strands) (size_each strands) woven = laid woven c.requires.fit c.requires.same c.requires.aligned c.requires.whole none in
    let y : Strand = c.index-2.result.now in
    let bytes : line_size_each strands ≡ y.line_size = sym (first_line_size strands y c.requires.fit.some c.index-2.ensures) in
    let many = many_lines m strands few in
    let all : AreSlots (all_lines strands) (length (all_lines strands)) slots = subst (λ (n : ℕ). AreSlots (all_lines strands) n slots) (sym many) are in
    let places : ArePlaces (all_lines strands) (length (all_lines strands)) (map place_of slots) = are_places (all_lines strands) slots (long ∙ sym many) all once in
    let places_is : map place_of slots ≡ c.in-Ok-places_of.places.items = sym (c.in-Ok-places_of.ensures ∙ ap (map place_of) c.deref-in-None.ensures.value) in
    record {
      laid = subst (λ (n : ℕ). IsLaid n y.line_size (size_each strands) woven) each (subst (λ (s : ℕ). IsLaid (lines_each strands) s (size_each strands) woven) bytes is);
      places = subst (λ (xs : List ℕ). ArePlaces (all_lines strands) (length strands * m) xs) places_is (subst (λ (n : ℕ). ArePlaces (all_lines strands) n (map place_of slots)) many places);
    }
