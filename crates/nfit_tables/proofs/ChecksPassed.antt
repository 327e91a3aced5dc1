-- What the checks of a table that is read tell: no name twice, and no more than there may be.
use Rattle.std.proofs.Common.{◌≡◌, ℕ, ◌≤◌, Bool, true, false, cond, eqb, ltb, ◌&&◌, List, [], ◌∷◌, Option, Some, None, Result, Ok, Err, refl, sym, ap₂, ◌∙◌, inl, inr}
use Rattle.std.specs.List.{list_any, AllByRecursion}
use Rattle.std.proofs.lemmas.Bool.{ltb-false, or_parts, or_from, cases_eq, eq-eqb, ne_eqb}
use Rattle.nfit_tables.specs.declared.fault.NfitFault.{NfitFault}
use Rattle.nfit_tables.specs.declared.fault.NfitFault.TheVariants.{TooMany}
use Rattle.nfit_tables.specs.declared.pieces.Nfit.{Nfit}
use Rattle.nfit_tables.specs.Proper.{is_same_name, names, AllDiffer, region_count, module_count}
use Rattle.nfit_tables.specs.Reading.{twice_behind, first_twice, counted, named_once, checked}
use Rattle.nfit_tables.proofs.PiecesSpelled.{ok_is}

eqb_comm : (a b : ℕ) → eqb a b ≡ eqb b a
eqb_comm a b =
    elim (cases_eq a b) [
      | inl e ↦ eq-eqb a b e ∙ sym (eq-eqb b a (sym e))
      | inr ne ↦ ne_eqb a b ne ∙ sym (ne_eqb b a (λ e. ne (sym e)))
    ]

is_same_name_comm : (a b : ℕ × ℕ) → is_same_name a b ≡ is_same_name b a
is_same_name_comm a b = ap₂ (λ (x y : Bool). x && y) (eqb_comm a.0 b.0) (eqb_comm a.1 b.1)

-- none of the earlier names stands among the others
abbrev NoneAmong : List (ℕ × ℕ) → List (ℕ × ℕ) → Type 0
NoneAmong others earlier = AllByRecursion (λ (name : ℕ × ℕ). list_any (is_same_name name) others ≡ false) earlier

none_among_none : (earlier : List (ℕ × ℕ)) → NoneAmong [] earlier
none_among_none [] = tt
none_among_none (name ∷ earlier) = (refl, none_among_none earlier)

none_among_more : (name : ℕ × ℕ) (others earlier : List (ℕ × ℕ)) → list_any (is_same_name name) earlier ≡ false → NoneAmong others earlier → NoneAmong (name ∷ others) earlier
none_among_more name others [] new none = tt
none_among_more name others (first ∷ earlier) new none =
    let parts = or_parts (is_same_name name first) (list_any (is_same_name name) earlier) new in
    (or_from (is_same_name first name) (list_any (is_same_name first) others) (is_same_name_comm first name ∙ parts.0) none.0, none_among_more name others earlier parts.1 none.1)

guard_passed : {A : Type 0} (b : Bool) (x : A) (o : Option A) → cond b (Some x) o ≡ None → (b ≡ false) × (o ≡ None)
guard_passed true x o e = absurd cc
guard_passed false x o e = (refl, e)

-- names that are walked through behind earlier ones, with none found twice
differ_behind : (earlier others : List (ℕ × ℕ)) → twice_behind earlier others ≡ None → AllDiffer others × NoneAmong others earlier
differ_behind earlier [] e = (tt, none_among_none earlier)
differ_behind earlier (name ∷ others) e =
    let g = guard_passed (list_any (is_same_name name) earlier) name (twice_behind (name ∷ earlier) others) e in
    let more = differ_behind (name ∷ earlier) others g.1 in
    ((more.1.0, more.0), none_among_more name others earlier g.0 more.1.1)

-- a test that must not hold, and what was read then
pub guard_ok : {A : Type 0} (b : Bool) (d : NfitFault) (r : Result A NfitFault) (y : A) → cond b (Err d) r ≡ Ok y → (b ≡ false) × (r ≡ Ok y)
guard_ok true d r y e = absurd cc
guard_ok false d r y e = (refl, e)

named_once_ok : (twice : Option (ℕ × ℕ)) (n m : Nfit) → named_once twice n ≡ Ok m → (twice ≡ None) × (counted n ≡ Ok m)
named_once_ok (Some name) n m e = absurd cc
named_once_ok None n m e = (refl, e)

-- what the checks tell of a table
pub record Passes (n : Nfit) : Type 0 where
  pub differ : AllDiffer (names n.pieces)
  pub regions : region_count n.pieces ≤ 64
  pub modules : module_count n.pieces ≤ 64

pub checks_passed : (n m : Nfit) → checked n ≡ Ok m → Passes n × (n ≡ m)
checks_passed n m e =
    let once = named_once_ok (first_twice n.pieces) n m e in
    let regions = guard_ok (ltb 64 (region_count n.pieces)) (TooMany 0) (cond (ltb 64 (module_count n.pieces)) (Err (TooMany 1)) (Ok n)) m once.1 in
    let modules = guard_ok (ltb 64 (module_count n.pieces)) (TooMany 1) (Ok n) m regions.1 in
    (record { differ = (differ_behind [] (names n.pieces) once.0).0; regions = ltb-false _ _ regions.0; modules = ltb-false _ _ modules.0 }, ok_is n m modules.1)
