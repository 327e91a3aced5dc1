-- Where no name stands twice, going over the names finds none that was an earlier one.
use Rattle.std.proofs.Common.{◌≡◌, ℕ, false, List, [], ◌∷◌, None, refl, ◌∙◌, arith}
use Rattle.std.specs.List.{list_any}
use Rattle.std.proofs.lemmas.Bool.{or_parts, or_from, cond-false}
use Rattle.std.proofs.lemmas.Bool.Decides.{nat_tests}
use Rattle.nfit_tables.specs.Proper.{is_same_name, AllDiffer}
use Rattle.nfit_tables.specs.Reading.{twice_behind}

is_same_name-sym : (a b : ℕ × ℕ) → is_same_name a b ≡ is_same_name b a
is_same_name-sym a b = grind (arith, nat_tests)

-- none of the names is an earlier one
abbrev AllNew : List (ℕ × ℕ) → List (ℕ × ℕ) → Type 0
AllNew earlier [] = Unit {0}
AllNew earlier (name ∷ names) = (list_any (is_same_name name) earlier ≡ false) × AllNew earlier names

-- still so with one more earlier name, which is none of them
AllNew-more : (name : ℕ × ℕ) (earlier names : List (ℕ × ℕ)) → list_any (is_same_name name) names ≡ false → AllNew earlier names → AllNew (name ∷ earlier) names
AllNew-more name earlier [] other new = tt
AllNew-more name earlier (next ∷ names) other new =
    let apart = or_parts (is_same_name name next) (list_any (is_same_name name) names) other in
    (or_from (is_same_name next name) (list_any (is_same_name next) earlier) (is_same_name-sym next name ∙ apart.0) new.0, AllNew-more name earlier names apart.1 new.1)

none_twice : (earlier names : List (ℕ × ℕ)) → AllNew earlier names → AllDiffer names → twice_behind earlier names ≡ None
none_twice earlier [] new differ = refl
none_twice earlier (name ∷ names) new differ =
    cond-false (list_any (is_same_name name) earlier) _ (twice_behind (name ∷ earlier) names) new.0 ∙ none_twice (name ∷ earlier) names (AllNew-more name earlier names differ.0 new.1) differ.1

AllNew-none : (names : List (ℕ × ℕ)) → AllNew [] names
AllNew-none [] = tt
AllNew-none (name ∷ names) = (refl, AllNew-none names)

pub twice_behind-none : (names : List (ℕ × ℕ)) → AllDiffer names → twice_behind [] names ≡ None
twice_behind-none names differ = none_twice [] names (AllNew-none names) differ
