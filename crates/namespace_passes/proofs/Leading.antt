-- The label of position 0, and the labels of a namespace by the members of its region.
use Rattle.std.proofs.Common.{◌≡◌, ◌⊎◌, inl, inr, ℕ, zero, suc, ◌<◌, Bool, true, false, cond, List, [], ◌∷◌, length, get_or, drop, Option, Some, None, refl, sym, ap, subst, ◌∙◌, arith}
use Rattle.std.specs.Prelude.{◌==◌, nat_lt}
use Rattle.std.specs.List.{Contains}
use Rattle.label_codec.specs.declared.label.Label.{Label}
use Rattle.label_codec.specs.Flags.{is_read_only}
use Rattle.label_codec.specs.ModuleLabels.{IsBounded, Labels, first, first_below, has, label_if, number, of_uuid}
use Rattle.label_codec.proofs.Counting.{IsFirst, count-one, first_below-cases}
use Rattle.region_map.specs.declared.platform.Member.{Member}
use Rattle.region_map.specs.declared.platform.Region.{Region}
use Rattle.label_table.specs.Belonging.{member_at, no_member}
use Rattle.label_table.specs.Flips.{EachLabel}
use Rattle.label_table.specs.Plain.{HasOnly, IsOnly}
use Rattle.label_table.specs.Wholes.{any_label, any_read_only, is_whole, labels_with, leading_among, leading_label}
use Rattle.label_table.proofs.Confined.{whole-count}
use Rattle.label_table.proofs.Leaving.{label_if-passes, within}
use Rattle.label_table.proofs.ListTests.{list_any-none, none_some, some_is}
use Rattle.label_table.proofs.OnlyLabels.{only-first}

-- the first of some members
pub first-is : (ms : List Member) → 0 < length ms → ms ≡ get_or ms 0 no_member ∷ drop 1 ms
first-is [] lt = absurd (omega arith)
first-is (x ∷ xs) lt = refl

pub leading-first : (r : Region) (N : Labels) → 0 < length r.members → leading_label r N ≡ first (N (member_at r 0).handle)
leading-first r N lt = λ i. leading_among (first-is r.members lt i) N

-- a member stands at its position
get-any : {X : Type 0} (xs : List X) (k : ℕ) (d e : X) → k < length xs → get_or xs k d ≡ get_or xs k e
get-any [] k d e lt = absurd (omega arith)
get-any (x ∷ xs) zero d e lt = refl
get-any (x ∷ xs) (suc k) d e lt = get-any xs k d e (omega arith)

pub member-named : (r : Region) (y : Member) (in_r : Contains r.members y) → member_at r in_r.0 ≡ y
member-named r y in_r = get-any r.members in_r.0 no_member y in_r.1 ∙ in_r.2

-- the only label of a whole uuid in a member's module is the first
pub only-of : (r : Region) (u : List ℕ) (L : Labels) (x : Member) (l : Label) → is_whole L r u ≡ true → Contains r.members x → first (of_uuid u (L x.handle)) ≡ Some l → HasOnly u (L x.handle) l
only-of r u L x l whole in_r is = subst (λ o. IsOnly u (L x.handle) o) is (only-first u (L x.handle) (whole-count r u L x whole in_r))

-- and there is one
pub the-only : (r : Region) (u : List ℕ) (L : Labels) (x : Member) → is_whole L r u ≡ true → Contains r.members x → (l : Label) × HasOnly u (L x.handle) l
the-only r u L x whole in_r = by (first (of_uuid u (L x.handle))) (only-first u (L x.handle) count)
  where
    count : number any_label (of_uuid u (L x.handle)) ≡ 1
    count = whole-count r u L x whole in_r

    by : (o : Option Label) → IsOnly u (L x.handle) o → (l : Label) × HasOnly u (L x.handle) l
    by None not_one = absurd (let clash : true ≡ false = sym (ap (λ n. n == 1) count) ∙ not_one in cc)
    by (Some l) is = (l, is)

-- which is not read-only where none is
pub only-writable : (r : Region) (u : List ℕ) (L : Labels) (x : Member) (l : Label) → any_read_only r (labels_with u L) ≡ false → Contains r.members x → HasOnly u (L x.handle) l → is_read_only l ≡ false
only-writable r u L x l writable in_r only = by (is_read_only l) (only.passes is_read_only) (list_any-none _ r.members x writable in_r)
  where
    by : (b : Bool) → number is_read_only (of_uuid u (L x.handle)) ≡ cond b 1 0 → nat_lt 0 (number is_read_only (of_uuid u (L x.handle))) ≡ false → b ≡ false
    by true e f = absurd (let clash : false ≡ true = sym f ∙ ap (nat_lt 0) e in cc)
    by false e f = refl

-- what holds of the label at each position holds of each label
pub each-label : (r : Region) (u : List ℕ) (L : Labels) → IsBounded L → is_whole L r u ≡ true → (fact : Label → Type 0)
    → ((position : ℕ) → position < length r.members → (l : Label) → first (of_uuid u (L (member_at r position).handle)) ≡ Some l → fact l) → EachLabel r u L (λ member label. fact label)
each-label r u L bounded whole fact holds y slot l in_r at h =
    let one = the-only r u L y whole in_r in
    let there : IsFirst (of_uuid u (L y.handle)).at (L y.handle).slots one.0 = found (first_below-cases (of_uuid u (L y.handle)).at (L y.handle).slots) one.0 one.1.first_is in
    let e : slot ≡ there.slot = count-one any_label (of_uuid u (L y.handle)).at (L y.handle).slots (omega (arith, one.1.once)) slot there.slot l one.0 (within L bounded y.handle slot l at) there.within here there.is refl refl in
    let same : one.0 ≡ l = some_is (sym there.is ∙ sym (ap (of_uuid u (L y.handle)).at e) ∙ here) in
    subst fact same (holds in_r.0 in_r.1 one.0 (ap (λ (m : Member). first (of_uuid u (L m.handle))) (member-named r y in_r) ∙ one.1.first_is))
  where
    here : label_if (has u) ((L y.handle).at slot) ≡ Some l
    here = label_if-passes (has u) ((L y.handle).at slot) l at h

    found : ((first_below (of_uuid u (L y.handle)).at (L y.handle).slots ≡ None) × ((k : ℕ) → k < (L y.handle).slots → label_if (has u) ((L y.handle).at k) ≡ None))
        ⊎ ((a : Label) × (first_below (of_uuid u (L y.handle)).at (L y.handle).slots ≡ Some a) × IsFirst (of_uuid u (L y.handle)).at (L y.handle).slots a)
        → (b : Label) → first (of_uuid u (L y.handle)) ≡ Some b → IsFirst (of_uuid u (L y.handle)).at (L y.handle).slots b
    found (inl none) b is = none_some (first (of_uuid u (L y.handle))) none.0 is
    found (inr there) b is = subst (λ a. IsFirst (of_uuid u (L y.handle)).at (L y.handle).slots a) (some_is (sym there.1 ∙ is)) there.2
