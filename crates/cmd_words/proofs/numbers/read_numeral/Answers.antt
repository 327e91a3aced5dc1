use Rattle.std.proofs.Common.{◌≡◌, ℕ, ◌^◌, ◌<◌, ◌≤◌, true, List, [], ◌∷◌, Some, Result, Ok, Err, length, get_or, refl, subst, sym, ap, ◌∙◌, arith, rules, tests}
use Rattle.std.specs.Char.{digit_value, is_digit}
use Rattle.std.specs.List.{list_all}
use Rattle.std.specs.Result.{result_ok}
use Rattle.std.specs.Str.Parse.{AllDigits, ParsesUnsigned, digits_value}
use Rattle.std.proofs.lemmas.Bool.{and_parts, ltb-true, cond-true, cond-false, lt-ltb, le-ltb}
use Rattle.std.proofs.lemmas.Bool.Decides.{nat_tests}
use Rattle.std.proofs.lemmas.Iterator.Adapters.{YieldsList-from_bytes}
use Rattle.std.proofs.lemmas.Iterator.Search.{all_from_yields_List}
use Rattle.std.proofs.lemmas.Str.Parse.{without_leading_plus_none}
use Rattle.cmd_words.specs.Numbers.{below, numeral}
use Rattle.cmd_words.proofs.numbers.read_numeral.Goals as goal

AllDigits-from_list_all : (base : ℕ) (text : List ℕ) → list_all (λ c. is_digit c base) text ≡ true → AllDigits base text
AllDigits-from_list_all base [] all = tt
AllDigits-from_list_all base (c ∷ cs) all =
    let parts = and_parts _ _ all in
    (ltb-true _ _ parts.0, AllDigits-from_list_all base cs parts.1)

-- a plus, 43, is no digit of a base up to 16
first_no_plus : (base : ℕ) (text : List ℕ) → base ≤ 16 → AllDigits base text → get_or text 0 0 ≡ 43 → ⊥
first_no_plus base [] high are e = omega arith
first_no_plus base (c ∷ cs) high are e =
    let plus : digit_value 43 < base = subst (λ (x : ℕ). digit_value x < base) e are.0 in
    omega arith

numeral_is : (base most : ℕ) (text : List ℕ) → 0 < length text → length text ≤ most → list_all (λ c. is_digit c base) text ≡ true → numeral base most text ≡ Some (digits_value base text)
numeral_is base most text some short all = grind (arith, nat_tests)

numeral_parsed : {E : Type 0} (base most : ℕ) (text : List ℕ) (r : Result ℕ E) → ParsesUnsigned 64 base text r → base ≤ 16 → length text ≤ most → list_all (λ c. is_digit c base) text ≡ true → result_ok r ≡ below (2 ^ 64) (numeral base most text)
numeral_parsed base most text (Ok n) parses high short all =
    let plain = without_leading_plus_none text (first_no_plus base text high (AllDigits-from_list_all base text all)) in
    let h = rw plain at parses in
    let is : numeral base most text ≡ Some n = numeral_is base most text h.0.0.0 short all ∙ ap Some (sym h.1) in
    let small : n < 2 ^ 64 = omega (arith, h.0.1, h.1) in
    sym (ap (below (2 ^ 64)) is ∙ cond-true _ _ _ (lt-ltb _ _ small))
numeral_parsed base most [] (Err e) parses high short all = refl
numeral_parsed base most (c ∷ cs) (Err e) parses high short all =
    let are = AllDigits-from_list_all base (c ∷ cs) all in
    let plain = without_leading_plus_none (c ∷ cs) (first_no_plus base (c ∷ cs) high are) in
    let h = rw plain at parses in
    let is = numeral_is base most (c ∷ cs) (omega arith) short all in
    let not_small : digits_value base (c ∷ cs) < 2 ^ 64 → ⊥ = λ small. h ((omega arith, are), small) in
    let over : 2 ^ 64 ≤ digits_value base (c ∷ cs) = omega (arith, not_small) in
    sym (ap (below (2 ^ 64)) is ∙ cond-false _ _ _ (le-ltb _ _ over))

pub returns : goal.returns
returns c =
    let all = all_from_yields_List (λ d. is_digit d c.args.base) _ _ _ c.all.ensures.ran (YieldsList-from_bytes c.args.digits.now cc) (λ x b q k. search (rules, tests)) in
    c.ok.ensures.value ∙ numeral_parsed c.args.base c.args.most c.args.digits.now _ c.from_str_radix.ensures.value c.requires.high c.if-digits-most.false (sym all ∙ c.if-not-all.false)
