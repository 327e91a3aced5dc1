-- A list whose items are changed one after another.
use Rattle.std.proofs.Common.{◌≡◌, inl, inr, ℕ, suc, ◌+◌, ◌<◌, ◌≤◌, List, [], ◌∷◌, length, get_or, refl, sym, subst, ◌∙◌, arith}
use Rattle.std.specs.List.{All, AllZip}
use Rattle.std.proofs.Math.ListN.{length-set, set}
use Rattle.std.proofs.lemmas.Bool.{cases_eq}
use Rattle.std.proofs.lemmas.List.{get_or-set_other, get_or-set_same, get_or_default}
use Rattle.std.proofs.lemmas.List.Elements.{All-cons, All-nil, AllZip-get_or, length_all_zip}

-- the items below a place have changed
pub record AreChanged {X : Type 0} (R : X → X → Type 0) (old : List X) (place : ℕ) (now : List X) : Type 0 where
  pub each : length now ≡ length old
  pub done : (k : ℕ) (d : X) → k < place → R (get_or old k d) (get_or now k d)
  pub ahead : (k : ℕ) (d : X) → place ≤ k → get_or now k d ≡ get_or old k d

module _ {X : Type 0} (R : X → X → Type 0) where
  pub changed-none : (old : List X) → AreChanged R old 0 old
  changed-none old = record {
    each = refl;
    done = λ k d lt. absurd (omega arith);
    ahead = λ k d le. refl;
  }

  pub changed-next : (old now : List X) (place : ℕ) (new : X) → place < length old → AreChanged R old place now
      → (e : X) → R (get_or now place e) new → AreChanged R old (place + 1) (set now place new)
  changed-next old now place new lt changed e here = record {
    each = length-set now place new ∙ changed.each;
    done = done;
    ahead = λ k d le. get_or-set_other now place k new d (omega arith) ∙ changed.ahead k d (omega arith);
  }
    where
      within : place < length now
      within = subst (λ n. place < n) (sym changed.each) lt

      done : (k : ℕ) (d : X) → k < place + 1 → R (get_or old k d) (get_or (set now place new) k d)
      done k d below = elim (cases_eq k place) [
        | inl is ↦ subst (λ p. R (get_or old p d) (get_or (set now place new) p d)) (sym is)
            (subst (λ x. R x (get_or (set now place new) place d)) (changed.ahead place d (omega arith))
            (subst (λ y. R (get_or now place d) y) (sym (get_or-set_same now place new d within))
            (subst (λ x. R x new) (get_or_default now place e d within) here)))
        | inr differ ↦ subst (λ y. R (get_or old k d) y) (sym (get_or-set_other now place k new d differ))
            (changed.done k d (omega arith))
      ]

  pub zip-by : (old now : List X) → length now ≡ length old
      → ((k : ℕ) (d : X) → k < length old → R (get_or old k d) (get_or now k d)) → AllZip R old now
  zip-by [] [] e all = tt
  zip-by [] (y ∷ ys) e all = absurd (omega arith)
  zip-by (x ∷ xs) [] e all = absurd (omega arith)
  zip-by (x ∷ xs) (y ∷ ys) e all =
      (all 0 x (omega arith), zip-by xs ys (omega arith) (λ k d lt. all (suc k) d (omega arith)))

  pub changed-all : (old now : List X) → AreChanged R old (length old) now → AllZip R old now
  changed-all old now changed = zip-by old now changed.each changed.done

pub zip-weaker : {X : Type 0} (R S : X → X → Type 0) → ((x y : X) → R x y → S x y) → (xs ys : List X)
    → AllZip R xs ys → AllZip S xs ys
zip-weaker R S weaker [] [] all = tt
zip-weaker R S weaker [] (y ∷ ys) all = absurd all
zip-weaker R S weaker (x ∷ xs) [] all = absurd all
zip-weaker R S weaker (x ∷ xs) (y ∷ ys) all = (weaker x y all.0, zip-weaker R S weaker xs ys all.1)

pub zip-right : {X : Type 0} (R : X → X → Type 0) (P : X → Type 0) → ((x y : X) → R x y → P y) → (xs ys : List X)
    → AllZip R xs ys → All P ys
zip-right R P gives [] [] all = All-nil P
zip-right R P gives [] (y ∷ ys) all = absurd all
zip-right R P gives (x ∷ xs) [] all = absurd all
zip-right R P gives (x ∷ xs) (y ∷ ys) all = All-cons P y ys (gives x y all.0) (zip-right R P gives xs ys all.1)

pub zip-carry : {X : Type 0} (R : X → X → Type 0) (P Q : X → Type 0) → ((x y : X) → R x y → P x → Q y)
    → (xs ys : List X) → AllZip R xs ys → All P xs → All Q ys
zip-carry R P Q carry xs ys zip all = λ k d lt.
    let e : length xs ≡ length ys = length_all_zip R xs ys zip in
    let below : k < length xs = omega arith in
    carry (get_or xs k d) (get_or ys k d) (AllZip-get_or R xs ys k d d zip below) (all k d below)

pub only : {X : Type 0} (P : X → Type 0) (x : X) → P x → All P (x ∷ [])
only P x here = All-cons P x [] here (All-nil P)
