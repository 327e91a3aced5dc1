-- Slots of lines: one line more, and what they say of all lines.
use Rattle.std.proofs.Common.{◌≡◌, ◌≢◌, ℕ, zero, suc, ◌+◌, ◌*◌, ◌/◌, ◌%◌, ◌<◌, ◌≤◌, true, false, List, Option, Some, None, length, get_or, set, map, take, refl, sym, ap, subst, ◌∙◌, arith, inl, inr}
use Rattle.std.specs.Prelude.{◌==◌, ◌⊎◌, not, replicate, All, MatchOption}
use Rattle.std.proofs.lemmas.Bool.{cases_eq, eq-eqb, ne_eqb}
use Rattle.std.proofs.lemmas.List.{get_or_default, get_or-map, get_or-replicate, get_or-set_other, get_or-set_same, length-map, length-replicate, length-set, take_all}
use Rattle.std.proofs.lemmas.List.Sums.{count_by_more_no, count_by_more_yes}
use Rattle.std.proofs.lemmas.Nat.{div-add-mod', div_below, mod_below}
use Rattle.spa_translate.specs.declared.strand.Strand.{Strand}
use Rattle.spa_translate.specs.declared.places.Slot.{Slot}
use Rattle.spa_translate.specs.declared.places.Slot.TheVariants.{Free, Once, Twice}
use Rattle.spa_translate.specs.Faults.{all_lines, first_not_once, lines_each, times}
use Rattle.spa_translate.specs.Laid.{HasFewLines}
use Rattle.spa_translate.specs.Places.{ArePlaces, AreSlots, IsSlot, is_once, marked, place_of, with_place}
use Rattle.spa_translate.proofs.Fitting.{find_first, find_is_none}
use Rattle.spa_translate.proofs.Lines.{HasLines, length_lines, line_of_all, start}

-- where each part has so many lines
pub few_lines : (m : ℕ) (strands : List Strand) → All (HasFewLines m) strands → All (HasLines m) strands
few_lines m strands each k d below = (each k d below).lines_are

pub many_lines : (m : ℕ) (strands : List Strand) → All (HasFewLines m) strands → length (all_lines strands) ≡ length strands * m
many_lines m strands each = length_lines m strands (few_lines m strands each)

-- a line of so many parts leaves none without lines
pub some_lines : (n m place : ℕ) → place < n * m → 0 < m
some_lines n zero place below = absurd (omega (arith, below))
some_lines n (suc m) place below = omega arith

pub line_is : (m : ℕ) (strands : List Strand) (e : Strand) (place : ℕ) → All (HasFewLines m) strands → place < length strands * m
    → get_or (all_lines strands) place 0 ≡ start (get_or strands (place / m) e) (place % m)
line_is m strands e place each below =
    let some = some_lines (length strands) m place below in
    ap (λ (x : ℕ). get_or (all_lines strands) x 0) (sym (div-add-mod' place m))
    ∙ line_of_all m strands e (place / m) (place % m) (few_lines m strands each) (div_below place m (length strands) some below) (mod_below place m some)

-- how often a line is among one more
more_here : (lines : List ℕ) (place line : ℕ) → place < length lines → get_or lines place 0 ≡ line → times (take (place + 1) lines) line ≡ times (take place lines) line + 1
more_here lines place line below is = count_by_more_yes (λ x. x == line) lines place 0 below (eq-eqb (get_or lines place 0) line is)

more_elsewhere : (lines : List ℕ) (place line : ℕ) → place < length lines → (get_or lines place 0 ≡ line → ⊥) → times (take (place + 1) lines) line ≡ times (take place lines) line
more_elsewhere lines place line below ne = count_by_more_no (λ x. x == line) lines place 0 below (ne_eqb (get_or lines place 0) line ne)

slot_elsewhere : (lines : List ℕ) (place line : ℕ) (slot : Slot) → place < length lines → (get_or lines place 0 ≡ line → ⊥) → IsSlot lines place line slot → IsSlot lines (place + 1) line slot
slot_elsewhere lines place line Free below ne is = more_elsewhere lines place line below ne ∙ is
slot_elsewhere lines place line (Once k) below ne is = (more_elsewhere lines place line below ne ∙ is.0, omega (arith, is.1), is.2)
slot_elsewhere lines place line Twice below ne is = let e = more_elsewhere lines place line below ne in omega (arith, e, is)

slot_here : (lines : List ℕ) (place line : ℕ) (slot : Slot) → place < length lines → get_or lines place 0 ≡ line → IsSlot lines place line slot → IsSlot lines (place + 1) line (with_place slot place)
slot_here lines place line Free below at is = (let e = more_here lines place line below at in omega (arith, e, is), omega arith, at)
slot_here lines place line (Once k) below at is = let e = more_here lines place line below at in omega (arith, e, is.0)
slot_here lines place line Twice below at is = let e = more_here lines place line below at in omega (arith, e, is)

pub slots_none : (lines : List ℕ) (total : ℕ) (slots : List Slot) → slots ≡ replicate total Free → AreSlots lines 0 slots
slots_none lines total slots is line d below =
    let long : length slots ≡ total = ap (λ (xs : List Slot). length xs) is ∙ length-replicate total Free in
    let free : get_or slots line d ≡ Free = ap (λ (xs : List Slot). get_or xs line d) is ∙ get_or-replicate total line Free d (omega (arith, long, below)) in
    subst (IsSlot lines 0 line) (sym free) refl

pub slots_skip : (lines : List ℕ) (place : ℕ) (slots : List Slot) → place < length lines → length slots ≤ get_or lines place 0 → AreSlots lines place slots → AreSlots lines (place + 1) slots
slots_skip lines place slots below past are line d within =
    slot_elsewhere lines place line (get_or slots line d) below (λ same. omega (arith, same, past, within)) (are line d within)

pub slots_more : (lines : List ℕ) (place at : ℕ) (slot : Slot) (slots : List Slot) → place < length lines → at ≡ get_or lines place 0 → at < length slots → slot ≡ get_or slots at slot → AreSlots lines place slots
    → AreSlots lines (place + 1) (set slots at (with_place slot place))
slots_more lines place at slot slots below is within slot_is are line d inside =
    let long : length (set slots at (with_place slot place)) ≡ length slots = length-set slots at (with_place slot place) in
    by (cases_eq at line) (omega (arith, long, inside))
  where
    by : (at ≡ line) ⊎ (at ≡ line → ⊥) → line < length slots → IsSlot lines (place + 1) line (get_or (set slots at (with_place slot place)) line d)
    by (inl same) lt =
        let new : get_or (set slots at (with_place slot place)) line d ≡ with_place slot place =
        ap (λ (x : ℕ). get_or (set slots at (with_place slot place)) x d) (sym same) ∙ get_or-set_same slots at (with_place slot place) d within in
        let old : IsSlot lines place line slot = subst (IsSlot lines place line) (ap (λ (x : ℕ). get_or slots x slot) (sym same) ∙ sym slot_is) (are line slot lt) in
        subst (IsSlot lines (place + 1) line) (sym new) (slot_here lines place line slot below (sym is ∙ same) old)
    by (inr ne) lt =
        let other : line ≢ at = λ e. ne (sym e) in
        let kept : get_or (set slots at (with_place slot place)) line d ≡ get_or slots line d = get_or-set_other slots at line (with_place slot place) d other in
        subst (IsSlot lines (place + 1) line) (sym kept) (slot_elsewhere lines place line (get_or slots line d) below (λ same. ne (is ∙ same)) (are line d lt))

-- what a slot says of all lines
once_times : (lines : List ℕ) (line : ℕ) (slot : Slot) → IsSlot lines (length lines) line slot → is_once slot ≡ true → (times lines line ≡ 1) × (place_of slot < length lines) × (get_or lines (place_of slot) 0 ≡ line)
once_times lines line Free is is_so = absurd (let h : false ≡ true = is_so in cc)
once_times lines line Twice is is_so = absurd (let h : false ≡ true = is_so in cc)
once_times lines line (Once k) is is_so = (ap (λ (xs : List ℕ). times xs line) (sym (take_all (length lines) lines (omega arith))) ∙ is.0, is.1, is.2)

not_once_times : (lines : List ℕ) (line : ℕ) (slot : Slot) → IsSlot lines (length lines) line slot → is_once slot ≡ false → (times lines line == 1) ≡ false
not_once_times lines line slot is isnt = ne_eqb (times lines line) 1 (by slot is isnt)
  where
    all : times (take (length lines) lines) line ≡ times lines line
    all = ap (λ (xs : List ℕ). times xs line) (take_all (length lines) lines (omega arith))

    by : (slot : Slot) → IsSlot lines (length lines) line slot → is_once slot ≡ false → times lines line ≡ 1 → ⊥
    by Free is isnt one = omega (arith, all, is, one)
    by Twice is isnt one = omega (arith, all, is, one)
    by (Once k) is isnt one = let h : true ≡ false = isnt in cc

pub slot_once : (lines : List ℕ) (slots : List Slot) → AreSlots lines (length lines) slots → (line : ℕ) (d : Slot) → line < length slots → is_once (get_or slots line d) ≡ true
    → (times lines line ≡ 1) × (place_of (get_or slots line d) < length lines) × (get_or lines (place_of (get_or slots line d)) 0 ≡ line)
slot_once lines slots are line d below is_so = once_times lines line (get_or slots line d) (are line d below) is_so

pub slot_not_once : (lines : List ℕ) (slots : List Slot) → AreSlots lines (length lines) slots → (line : ℕ) (d : Slot) → line < length slots → is_once (get_or slots line d) ≡ false → (times lines line == 1) ≡ false
slot_not_once lines slots are line d below isnt = not_once_times lines line (get_or slots line d) (are line d below) isnt

-- where each line is one of one part, its place leads to it
pub are_places : (lines : List ℕ) (slots : List Slot) → length slots ≡ length lines → AreSlots lines (length lines) slots → ((k : ℕ) (d : Slot) → k < length slots → is_once (get_or slots k d) ≡ true)
    → ArePlaces lines (length lines) (map place_of slots)
are_places lines slots long are once = record {
  len = length-map slots place_of ∙ long;
  each = λ line below.
      let within : line < length slots = omega (arith, long, below) in
      let here = slot_once lines slots are line Free within (once line Free within) in
      let place : get_or (map place_of slots) line 0 ≡ place_of (get_or slots line Free) = get_or-map place_of slots line Free 0 within in
      (omega (arith, place, here.1), ap (λ (x : ℕ). get_or lines x 0) place ∙ here.2);
}

-- where each line is one of one part, no line is the first that is not
pub none_of_slots : (strands : List Strand) (m : ℕ) → All (HasFewLines m) strands → lines_each strands ≡ m → (slots : List Slot) → length slots ≡ length strands * m → AreSlots (all_lines strands) (length strands * m) slots
    → ((k : ℕ) (d : Slot) → k < length slots → is_once (get_or slots k d) ≡ true) → first_not_once strands ≡ None
none_of_slots strands m few each slots long are once =
    let lines : List ℕ = all_lines strands in
    let many = many_lines m strands few in
    let total : length strands * lines_each strands ≡ length slots = ap (λ (x : ℕ). length strands * x) each ∙ sym long in
    let all : AreSlots lines (length lines) slots = subst (λ (x : ℕ). AreSlots lines x slots) (sym many) are in
    find_is_none (λ line. not (times lines line == 1)) (length strands * lines_each strands) 0
    (λ line from below.
    let within : line < length slots = omega (arith, below, total) in
    let one = slot_once lines slots all line Free within (once line Free within) in
    ap not (eq-eqb (times lines line) 1 one.0))

pub some_of_slots : (strands : List Strand) (m : ℕ) → All (HasFewLines m) strands → lines_each strands ≡ m → (slots : List Slot) → length slots ≡ length strands * m → AreSlots (all_lines strands) (length strands * m) slots
    → (line : ℕ) → line < length slots → ((d : Slot) → is_once (get_or slots line d) ≡ false) → ((k : ℕ) (d : Slot) → k < line → is_once (get_or slots k d) ≡ true) → first_not_once strands ≡ Some line
some_of_slots strands m few each slots long are line inside other once =
    let lines : List ℕ = all_lines strands in
    let many = many_lines m strands few in
    let total : length strands * lines_each strands ≡ length slots = ap (λ (x : ℕ). length strands * x) each ∙ sym long in
    let all : AreSlots lines (length lines) slots = subst (λ (x : ℕ). AreSlots lines x slots) (sym many) are in
    find_first (λ line. not (times lines line == 1)) (length strands * lines_each strands) 0 line (omega arith) (omega (arith, inside, total))
    (ap not (slot_not_once lines slots all line Free inside (other Free)))
    (λ k from before.
    let within : k < length slots = omega (arith, before, inside) in
    let one = slot_once lines slots all k Free within (once k Free before) in
    ap not (eq-eqb (times lines k) 1 one.0))

pub slots_until : (lines : List ℕ) (place total : ℕ) (slots : List Slot) → place ≡ total → AreSlots lines place slots → AreSlots lines total slots
slots_until lines place total slots is are = subst (λ (x : ℕ). AreSlots lines x slots) is are

-- a loop's step
pub slots_step : (lines : List ℕ) (total place : ℕ) (line : Option ℕ) (slots : List Slot) → place < length lines → length slots ≡ total → AreSlots lines place slots
    → MatchOption line (total ≤ get_or lines place 0) (λ at. (at ≡ get_or lines place 0) × (at < total)) → AreSlots lines (place + 1) (marked slots line place)
slots_step lines total place None slots below long are is = slots_skip lines place slots below (omega (arith, long, is)) are
slots_step lines total place (Some at) slots below long are is =
    let within : at < length slots = omega (arith, long, is.1) in
    slots_more lines place at (get_or slots at Free) slots below is.0 within (get_or_default slots at Free (get_or slots at Free) within) are

pub length_marked : (line : Option ℕ) (slots : List Slot) (place : ℕ) → length (marked slots line place) ≡ length slots
length_marked None slots place = refl
length_marked (Some at) slots place = length-set slots at (with_place (get_or slots at Free) place)
