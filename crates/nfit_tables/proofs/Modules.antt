-- How many different numbers a list has, counted from its front.
use Rattle.std.proofs.Common.{◌≡◌, ℕ, suc, ◌+◌, Bool, true, false, cond, List, [], ◌∷◌, ◌++◌, length, length-append, refl, sym, ap, ◌∙◌, arith}
use Rattle.std.specs.Prelude.{◌==◌, ◌&&◌, ◌||◌, filter, not}
use Rattle.std.specs.List.{list_any}
use Rattle.std.proofs.lemmas.List.Folds.{list_any-append}
use Rattle.std.proofs.lemmas.Bool.{eq-eqb, eqb-false, eqb-true, ne_eqb}
use Rattle.nfit_tables.specs.Proper.{distinct}
use Rattle.nfit_tables.specs.Marks.{with_new}

-- a number that is not among earlier ones
abbrev pub is_new : List ℕ → ℕ → Bool
is_new earlier n = not (list_any (λ e. e == n) earlier)

-- how many numbers of a list are not among earlier ones, each counted once
abbrev pub more_than : List ℕ → List ℕ → ℕ
more_than earlier ns = length (filter (is_new earlier) (distinct ns))

filtered_more : (p : ℕ → Bool) (n : ℕ) (ns rest : List ℕ) (q both : Bool) → both ≡ (q && p n) → filter p ns ≡ rest → filter p (cond q (n ∷ ns) ns) ≡ cond both (n ∷ rest) rest
filtered_more p n ns rest false both is same = rw is same
filtered_more p n ns rest true both is same = rw (is, same) refl

-- a filter of what another one left
filter_both : (p q both : ℕ → Bool) → ((n : ℕ) → both n ≡ (q n && p n)) → (ns : List ℕ) → filter p (filter q ns) ≡ filter both ns
filter_both p q both is [] = refl
filter_both p q both is (n ∷ ns) = filtered_more p n (filter q ns) (filter both ns) (q n) (both n) (is n) (filter_both p q both is ns)

-- a filter that keeps all
filter_all : (p : ℕ → Bool) → ((n : ℕ) → p n ≡ true) → (ns : List ℕ) → filter p ns ≡ ns
filter_all p all [] = refl
filter_all p all (n ∷ ns) = rw (all n, filter_all p all ns) refl

-- an earlier number is none of those that are new
still_new : (earlier : List ℕ) (n x : ℕ) (same : Bool) → (x == n) ≡ same → list_any (λ e. e == n) earlier ≡ true → is_new earlier x ≡ (not same && is_new earlier x)
still_new earlier n x false is among = refl
still_new earlier n x true is among = ap (is_new earlier) (eqb-true x n is) ∙ ap not among

-- a number that was there before adds nothing
pub seen_before : (earlier : List ℕ) (n : ℕ) (ns : List ℕ) → list_any (λ e. e == n) earlier ≡ true → more_than earlier (n ∷ ns) ≡ more_than earlier ns
seen_before earlier n ns among = rw among (ap length (filter_both (is_new earlier) (λ x. not (x == n)) (is_new earlier) (λ x. still_new earlier n x (x == n) refl among) (distinct ns)))

-- a number is new behind one more if it was new and isn't that one
new_with : (before last same all : Bool) → all ≡ (before || (last || false)) → last ≡ same → not all ≡ (not same && not before)
new_with before last false all is is_last = rw (is, is_last) (kept before)
  where
    kept : (b : Bool) → not (b || false) ≡ not b
    kept true = refl
    kept false = refl
new_with before last true all is is_last = rw (is, is_last) (gone before)
  where
    gone : (b : Bool) → not (b || true) ≡ false
    gone true = refl
    gone false = refl

-- the test of two numbers, the other way round
back : (x n : ℕ) (same : Bool) → (x == n) ≡ same → (n == x) ≡ same
back x n true is = eq-eqb n x (sym (eqb-true x n is))
back x n false is = ne_eqb n x (λ e. eqb-false x n is (sym e))

new_then : (earlier : List ℕ) (n x : ℕ) → is_new (earlier ++ n ∷ []) x ≡ (not (x == n) && is_new earlier x)
new_then earlier n x = new_with (list_any (λ e. e == x) earlier) (n == x) (x == n) _ (list_any-append (λ e. e == x) earlier (n ∷ [])) (back x n (x == n) refl)

-- one that was not adds itself
pub new_one : (earlier : List ℕ) (n : ℕ) (ns : List ℕ) → list_any (λ e. e == n) earlier ≡ false → more_than earlier (n ∷ ns) ≡ suc (more_than (earlier ++ n ∷ []) ns)
new_one earlier n ns none = rw none (ap (λ (xs : List ℕ). suc (length xs)) (filter_both (is_new earlier) (λ x. not (x == n)) (is_new (earlier ++ n ∷ [])) (new_then earlier n) (distinct ns)))

-- with none before, each number counts once
pub none_before : (ns : List ℕ) → more_than [] ns ≡ length (distinct ns)
none_before ns = ap length (filter_all (is_new []) (λ n. refl) (distinct ns))

-- with the next number the count stays the same
chosen : (earlier : List ℕ) (n : ℕ) (ns : List ℕ) (among : Bool) → list_any (λ e. e == n) earlier ≡ among
    → length (cond among earlier (earlier ++ n ∷ [])) + more_than (cond among earlier (earlier ++ n ∷ [])) ns ≡ length earlier + more_than earlier (n ∷ ns)
chosen earlier n ns true is = ap (λ (k : ℕ). length earlier + k) (sym (seen_before earlier n ns is))
chosen earlier n ns false is = omega (arith, new_one earlier n ns is, length-append earlier (n ∷ []))

pub added : (earlier : List ℕ) (n : ℕ) (ns : List ℕ) → length (with_new earlier n) + more_than (with_new earlier n) ns ≡ length earlier + more_than earlier (n ∷ ns)
added earlier n ns = chosen earlier n ns (list_any (λ e. e == n) earlier) refl
