-- Namespaces in their order, and the first of those that pass a test.
use Rattle.std.proofs.Common.{◌≡◌, inl, inr, ⊎_elim, Bool, true, false, cond, List, [], ◌∷◌, ◌++◌, Option, Some, None, map, refl, sym, ap, subst, ◌∙◌}
use Rattle.std.specs.Prelude.{find}
use Rattle.std.specs.List.{Contains}
use Rattle.std.proofs.lemmas.List.Elements.{Contains-append_left, Contains-push, Contains-push_cases}
use Rattle.view_types.specs.declared.namespaces.Namespace.{Namespace}
use Rattle.label_codec.specs.ModuleLabels.{Labels}
use Rattle.region_map.specs.declared.platform.Region.{Region}
use Rattle.label_table.specs.Namespaces.{namespaces}
use Rattle.label_table.specs.Spaces.{Space}
use Rattle.label_table.proofs.Listed.{namespaces-ascends}
use Rattle.label_table.proofs.ListTests.{Contains-cases, Contains-here, Contains-none, Contains-there, both, never}
use Rattle.label_table.proofs.Order.{Ascends, before-asym, before-trans}
use Rattle.region_labels.specs.Marks.{listed_in}
use Rattle.region_labels.specs.Statuses.{space_in}
use Rattle.region_labels.specs.ListedSpaces.{is_before, listed_spaces}
use Rattle.region_labels.specs.Tallies.{IsFirst, IsFirstSuch}

pub not-itself : (a : Namespace) → is_before a a ≡ false
not-itself a = elim (both (is_before a a)) [
  | inr n ↦ n
  | inl e ↦ before-asym (space_in a) (space_in a) e e
]

-- each stands before all that follow
abbrev pub Rises : List Namespace → Type 0
Rises [] = Unit {0}
Rises (n ∷ ns) = ((t : Namespace) → Contains ns t → is_before n t ≡ true) × Rises ns

module _ (L : Labels) (r : Region) where
  listed-from : (ss : List Space) (t : Namespace) → Contains (map (listed_in L r) ss) t → Contains ss (space_in t)
  listed-from [] t c = Contains-none t c
  listed-from (s ∷ ss) t c = ⊎_elim (λ is. subst (λ y. Contains (s ∷ ss) (space_in y)) (sym is) (Contains-here s ss)) (λ there. Contains-there s ss (space_in t) (listed-from ss t there)) (Contains-cases (listed_in L r s) (map (listed_in L r) ss) t c)

  rises : (ss : List Space) → Ascends ss → Rises (map (listed_in L r) ss)
  rises [] a = tt
  rises (s ∷ ss) a = (λ t c. a.0 (space_in t) (listed-from ss t c), rises ss a.1)

  pub listed-rises : Rises (listed_spaces L r)
  listed-rises = rises (namespaces L r) (namespaces-ascends L r)

-- One namespace more, of those that pass a test.
module _ (p : Namespace → Bool) (ns : List Namespace) (n : Namespace) where
  pub first-new : (f : Namespace) → IsFirstSuch p ns f → p n ≡ true → is_before n f ≡ true → IsFirstSuch p (ns ++ n ∷ []) n
  first-new f first passes before = record {
    listed = Contains-push ns n;
    passes = passes;
    least = λ t c e. ⊎_elim (λ there. elim (both (is_before t n)) [
      | inr f ↦ f
      | inl b ↦ never (is_before t f) (before-trans (space_in t) (space_in n) (space_in f) b before) (first.least t there e)
    ]) (λ is. subst (λ y. is_before y n ≡ false) is (not-itself n)) (Contains-push_cases ns n t c);
  }

  pub first-old : (f : Namespace) → IsFirstSuch p ns f → is_before n f ≡ false → IsFirstSuch p (ns ++ n ∷ []) f
  first-old f first not_before = record {
    listed = Contains-append_left ns (n ∷ []) f first.listed;
    passes = first.passes;
    least = λ t c e. ⊎_elim (λ there. first.least t there e) (λ is. subst (λ y. is_before y f ≡ false) is not_before) (Contains-push_cases ns n t c);
  }

  pub first-only : IsFirst p ns None → p n ≡ true → IsFirstSuch p (ns ++ n ∷ []) n
  first-only none passes = record {
    listed = Contains-push ns n;
    passes = passes;
    least = λ t c e. ⊎_elim (λ there. never (p t) e (none t there)) (λ is. subst (λ y. is_before y n ≡ false) is (not-itself n)) (Contains-push_cases ns n t c);
  }

  pub first-stays : (o : Option Namespace) → IsFirst p ns o → p n ≡ false → IsFirst p (ns ++ n ∷ []) o
  first-stays None none fails = λ t c. ⊎_elim (λ there. none t there) (λ is. ap p (sym is) ∙ fails) (Contains-push_cases ns n t c)
  first-stays (Some f) first fails = record {
    listed = Contains-append_left ns (n ∷ []) f first.listed;
    passes = first.passes;
    least = λ t c e. ⊎_elim (λ there. first.least t there e) (λ is. never (p n) (ap p is ∙ e) fails) (Contains-push_cases ns n t c);
  }

-- It depends on what the list has, and not on its order.
pub first-same : (p : Namespace → Bool) (ns ms : List Namespace) (o : Option Namespace) → ((t : Namespace) → Contains ns t → Contains ms t) → ((t : Namespace) → Contains ms t → Contains ns t) → IsFirst p ns o → IsFirst p ms o
first-same p ns ms None to from none = λ t c. none t (from t c)
first-same p ns ms (Some f) to from first = record { listed = to f first.listed; passes = first.passes; least = λ t c e. first.least t (from t c) e }

-- In a list in order it stands before the others that pass.
pub first-found : (p : Namespace → Bool) (ns : List Namespace) (o : Option Namespace) → Rises ns → IsFirst p ns o → o ≡ find p ns
first-found p [] None up none = refl
first-found p [] (Some f) up first = Contains-none f first.listed
first-found p (n ∷ ns) None up none = by (p n) (none n (Contains-here n ns)) (first-found p ns None up.1 (λ t c. none t (Contains-there n ns t c)))
  where
    by : (b : Bool) → b ≡ false → None ≡ find p ns → None ≡ cond b (Some n) (find p ns)
    by true e rest = absurd cc
    by false e rest = rest
first-found p (n ∷ ns) (Some f) up first = by (p n) refl (λ inner. first-found p ns (Some f) up.1 inner)
  where
    by : (b : Bool) → p n ≡ b → (IsFirst p ns (Some f) → Some f ≡ find p ns) → Some f ≡ cond b (Some n) (find p ns)
    by true e rest = ⊎_elim (λ is. ap Some is) (λ there. never (is_before n f) (up.0 f there) (first.least n (Contains-here n ns) e)) (Contains-cases n ns f first.listed)
    by false e rest = rest (record {
      listed = ⊎_elim (λ is. never (p n) (ap p (sym is) ∙ first.passes) e) (λ there. there) (Contains-cases n ns f first.listed);
      passes = first.passes;
      least = λ t c passes. first.least t (Contains-there n ns t c) passes;
    })
