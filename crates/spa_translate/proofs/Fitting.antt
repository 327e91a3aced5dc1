-- The parts of a usable region that pass the tests are laid out in periods.
use Rattle.std.proofs.Common.{◌≡◌, ℕ, zero, suc, ◌+◌, ◌*◌, ◌/◌, ◌%◌, ◌<◌, ◌≤◌, Bool, true, false, cond, List, [], ◌∷◌, Option, Some, None, length, get_or, refl, sym, ap, subst, ◌∙◌, arith, inl, inr}
use Rattle.std.specs.Prelude.{◌==◌, ◌||◌, ◌⊎◌, find, not, All}
use Rattle.std.specs.List.{list_any, range_with_len}
use Rattle.std.proofs.Math.Nat.{mul-div_cancel_left}
use Rattle.std.proofs.lemmas.List.Folds.{list_any_at}
use Rattle.std.proofs.lemmas.Bool.{cases_eq, eqb-true, not-false, or_parts}
use Rattle.spa_translate.specs.declared.strand.Strand.{Strand}
use Rattle.spa_translate.specs.Woven.{Woven}
use Rattle.spa_translate.specs.Faults.{all_lines, first_not_once, has_none, is_other, lines_differ, lines_each, offset_not_line, ragged, shapes_differ, times}
use Rattle.spa_translate.specs.Laid.{HasFewLines, IsFit, IsLaid, IsStrand, line_size_each, size_each}

-- each item fails a test that none passes
pub all_fail : {X : Type 0} (p : X → Bool) (xs : List X) → list_any p xs ≡ false → All (λ x. p x ≡ false) xs
all_fail p xs none k d below = by (p (get_or xs k d)) refl
  where
    by : (b : Bool) → p (get_or xs k d) ≡ b → b ≡ false
    by true is = let yes : list_any p xs ≡ true = list_any_at p xs k d below is in cc
    by false is = refl

equal_from : (a b : ℕ) → not (a == b) ≡ false → a ≡ b
equal_from a b fails = eqb-true a b (not-false (a == b) fails)

above_zero : (n : ℕ) → (n == 0) ≡ false → 0 < n
above_zero n fails = grind (arith, fails)

-- a search over numbers
cond_none : (b : Bool) (a : ℕ) (rest : Option ℕ) → cond b (Some a) rest ≡ None → (b ≡ false) × (rest ≡ None)
cond_none true a rest none = absurd (let h : Some a ≡ None = none in cc)
cond_none false a rest none = (refl, none)

below_from : (a b : ℕ) → a ≤ b → (a ≡ b → ⊥) → a + 1 ≤ b
below_from a b le ne = omega (arith, le, ne)

pub find_none : (p : ℕ → Bool) (n a line : ℕ) → find p (range_with_len a n) ≡ None → a ≤ line → line < a + n → p line ≡ false
find_none p zero a line none from below = absurd (omega (arith, from, below))
find_none p (suc n) a line none from below =
    let both = cond_none (p a) a (find p (range_with_len (a + 1) n)) none in
    by_place (cases_eq a line) both.0 (find_none p n (a + 1) line both.1)
  where
    by_place : (a ≡ line) ⊎ (a ≡ line → ⊥) → p a ≡ false → (a + 1 ≤ line → line < a + 1 + n → p line ≡ false) → p line ≡ false
    by_place (inl is) here rest = subst (λ (x : ℕ). p x ≡ false) is here
    by_place (inr ne) here rest = rest (below_from a line from ne) (omega (arith, below))

pub find_is_none : (p : ℕ → Bool) (n a : ℕ) → ((line : ℕ) → a ≤ line → line < a + n → p line ≡ false) → find p (range_with_len a n) ≡ None
find_is_none p zero a fails = refl
find_is_none p (suc n) a fails =
    let here = fails a (omega arith) (omega arith) in
    let rest = find_is_none p n (a + 1) (λ line from below. fails line (omega (arith, from)) (omega (arith, below))) in
    rw here rest

pub find_first : (p : ℕ → Bool) (n a line : ℕ) → a ≤ line → line < a + n → p line ≡ true → ((k : ℕ) → a ≤ k → k < line → p k ≡ false) → find p (range_with_len a n) ≡ Some line
find_first p zero a line from below here before = absurd (omega (arith, from, below))
find_first p (suc n) a line from below here before =
    by_place (cases_eq a line) (λ ne. find_first p n (a + 1) line (omega (arith, from, ne)) (omega (arith, below)) here (λ k le lt. before k (omega (arith, le)) lt))
  where
    by_place : (a ≡ line) ⊎ (a ≡ line → ⊥) → ((a ≡ line → ⊥) → find p (range_with_len (a + 1) n) ≡ Some line) → find p (range_with_len a (suc n)) ≡ Some line
    by_place (inl is) rest = let yes : p a ≡ true = subst (λ (x : ℕ). p x ≡ true) (sym is) here in rw yes (ap Some is)
    by_place (inr ne) rest =
        let no : p a ≡ false = before a (omega arith) (omega (arith, from, ne)) in
        rw no (rest ne)

cancel : (n a b c : ℕ) → 0 < n → n * a ≡ c → n * b ≡ c → a ≡ b
cancel n a b c some first second = sym (mul-div_cancel_left a some) ∙ ap (λ (x : ℕ). x / n) (first ∙ sym second) ∙ mul-div_cancel_left b some

positive : (n a c : ℕ) → n * a ≡ c → 0 < c → 0 < a
positive n zero c is some = omega (arith, is, some)
positive n (suc a) c is some = omega arith

-- what the tests say of a first part and another
laid_parts : (woven : Woven) (a : Strand) (rest : List Strand) → woven.strands ≡ a ∷ rest → IsFit woven → lines_differ woven.strands ≡ false → offset_not_line woven.strands ≡ false
    → All (IsStrand (length a.lines) a.line_size a.size) woven.strands
laid_parts woven a rest are fit same aligned k d below =
    let strands : List Strand = woven.strands in
    let x : Strand = get_or strands k d in
    let first : (e : Strand) → get_or strands 0 e ≡ a = λ e. ap (λ (l : List Strand). get_or l 0 e) are in
    let parts = or_parts (list_any (λ (a : Strand). list_any (λ (b : Strand). not (length b.lines == length a.lines) || not (b.line_size == a.line_size)) strands) strands) _ same in
    let at_first = all_fail (λ (a : Strand). list_any (λ (b : Strand). not (length b.lines == length a.lines) || not (b.line_size == a.line_size)) strands) strands parts.0 0 a fit.some in
    let with_a = subst (λ (a : Strand). list_any (λ (b : Strand). not (length b.lines == length a.lines) || not (b.line_size == a.line_size)) strands ≡ false) (first a) at_first in
    let at_x = or_parts (not (length x.lines == length a.lines)) _ (all_fail (λ (b : Strand). not (length b.lines == length a.lines) || not (b.line_size == a.line_size)) strands with_a k d below) in
    let line_size : x.line_size ≡ a.line_size = equal_from x.line_size a.line_size at_x.1 in
    let offset : x.offset % x.line_size ≡ 0 = equal_from (x.offset % x.line_size) 0 (all_fail (λ (b : Strand). not (b.offset % b.line_size == 0)) strands aligned k d below) in
    let capacity : length strands * a.size ≡ woven.len = subst (λ (b : Strand). length strands * b.size ≡ woven.len) (first a) (fit.capacity 0 a fit.some) in
    record {
      lines_are = equal_from (length x.lines) (length a.lines) at_x.0;
      line_size_is = line_size;
      size_is = cancel (length strands) x.size a.size woven.len fit.some (fit.capacity k d below) capacity;
      aligned = subst (λ (s : ℕ). x.offset % s ≡ 0) line_size offset;
      end = fit.ends k d below;
    }

laid_from : (woven : Woven) (a : Strand) (rest : List Strand) → woven.strands ≡ a ∷ rest → IsFit woven → lines_differ woven.strands ≡ false → offset_not_line woven.strands ≡ false → ragged woven.strands ≡ false
    → ((line : ℕ) → line < length woven.strands * length a.lines → times (all_lines woven.strands) line ≡ 1) → IsLaid (length a.lines) a.line_size a.size woven
laid_from woven a rest are fit same aligned whole once =
    let strands : List Strand = woven.strands in
    let first : get_or strands 0 a ≡ a = ap (λ (l : List Strand). get_or l 0 a) are in
    let parts = or_parts (list_any (λ (a : Strand). list_any (λ (b : Strand). not (length b.lines == length a.lines) || not (b.line_size == a.line_size)) strands) strands) _ same in
    let not_none = all_fail (λ (b : Strand). (length b.lines == 0) || (b.line_size == 0)) strands parts.1 0 a fit.some in
    let some = or_parts (length a.lines == 0) _ (subst (λ (b : Strand). ((length b.lines == 0) || (b.line_size == 0)) ≡ false) first not_none) in
    let periods = all_fail (λ (b : Strand). not (b.size % (length b.lines * b.line_size) == 0)) strands whole 0 a fit.some in
    let capacity : length strands * a.size ≡ woven.len = subst (λ (b : Strand). length strands * b.size ≡ woven.len) first (fit.capacity 0 a fit.some) in
    record {
      some = fit.some;
      few = fit.few;
      some_lines = above_zero (length a.lines) some.0;
      few_lines = subst (λ (b : Strand). length b.lines ≤ 4096) first (fit.few_lines 0 a fit.some);
      some_bytes = above_zero a.line_size some.1;
      not_empty = positive (length strands) a.size woven.len capacity fit.not_empty;
      each = laid_parts woven a rest are fit same aligned;
      periods = equal_from (a.size % (length a.lines * a.line_size)) 0 (subst (λ (b : Strand). not (b.size % (length b.lines * b.line_size) == 0) ≡ false) first periods);
      capacity = sym capacity;
      end = fit.end;
      modules = fit.modules;
      once = once;
    }

pub laid : (woven : Woven) → IsFit woven → lines_differ woven.strands ≡ false → offset_not_line woven.strands ≡ false → ragged woven.strands ≡ false → first_not_once woven.strands ≡ None
    → IsLaid (lines_each woven.strands) (line_size_each woven.strands) (size_each woven.strands) woven
laid woven fit same aligned whole none = by woven.strands refl
  where
    by : (strands : List Strand) → woven.strands ≡ strands → IsLaid (lines_each strands) (line_size_each strands) (size_each strands) woven
    by [] are = absurd (let h : length woven.strands ≡ 0 = ap (λ (l : List Strand). length l) are in omega (arith, h, fit.some))
    by (a ∷ rest) are = laid_from woven a rest are fit same aligned whole (λ line below.
        let each : length woven.strands * lines_each woven.strands ≡ length woven.strands * length a.lines = ap (λ (l : List Strand). length woven.strands * lines_each l) are in
        equal_from (times (all_lines woven.strands) line) 1
        (find_none (λ line. not (times (all_lines woven.strands) line == 1)) (length woven.strands * lines_each woven.strands) 0 line none (omega arith) (omega (arith, each, below))))

-- all parts have as many lines as the first, and these have bytes
pub parts_alike : (woven : Woven) → IsFit woven → lines_differ woven.strands ≡ false → All (HasFewLines (lines_each woven.strands)) woven.strands
parts_alike woven fit same = by woven.strands refl
  where
    by : (strands : List Strand) → woven.strands ≡ strands → All (HasFewLines (lines_each strands)) woven.strands
    by [] are = absurd (let h : length woven.strands ≡ 0 = ap (λ (l : List Strand). length l) are in omega (arith, h, fit.some))
    by (a ∷ rest) are = λ k d below.
        let strands : List Strand = woven.strands in
        let x : Strand = get_or strands k d in
        let first : get_or strands 0 a ≡ a = ap (λ (l : List Strand). get_or l 0 a) are in
        let parts = or_parts (shapes_differ strands) (has_none strands) same in
        let at_first : is_other strands (get_or strands 0 a) ≡ false = all_fail (λ (a : Strand). is_other strands a) strands parts.0 0 a fit.some in
        let with_a : is_other strands a ≡ false = subst (λ (b : Strand). is_other strands b ≡ false) first at_first in
        let at_x = or_parts (not (length x.lines == length a.lines)) (not (x.line_size == a.line_size)) (all_fail (λ (b : Strand). not (length b.lines == length a.lines) || not (b.line_size == a.line_size)) strands with_a k d below) in
        let not_none = or_parts (length x.lines == 0) (x.line_size == 0) (all_fail (λ (b : Strand). (length b.lines == 0) || (b.line_size == 0)) strands parts.1 k d below) in
        record { lines_are = equal_from (length x.lines) (length a.lines) at_x.0; some_bytes = above_zero x.line_size not_none.1 }
