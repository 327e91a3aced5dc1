-- The held labels of a module have one list: it is in order, and has each as often as the table tells.
use Rattle.std.proofs.Common.{◌≡◌, ◌⊎◌, ⊎_elim, ℕ, zero, suc, ◌+◌, ◌<◌, ◌≤◌, Bool, true, false, List, [], ◌∷◌, length, get_or, Option, Some, None, refl, sym, ap, subst, ◌∙◌, arith}
use Rattle.std.specs.Prelude.{◌&&◌, if◌then◌else◌}
use Rattle.std.specs.Cmp.{IsTotalOrder}
use Rattle.std.specs.FinMap.{nat_cmp-IsAntisymmetric, slice_cmp-IsAntisymmetric}
use Rattle.std.specs.List.{Contains, sum_by}
use Rattle.std.specs.Cmp.Lexicographic.{options_total, slice_cmp}
use Rattle.std.specs.Option.{option_cmp, option_to_list}
use Rattle.std.specs.Ordering.{bool_cmp, is_eq, is_lt, nat_cmp, ordering_reverse, ordering_then}
use Rattle.std.specs.declared.cmp.Ordering.{Ordering}
use Rattle.std.specs.declared.cmp.Ordering.TheVariants.{Equal, Greater, Less}
use Rattle.std.specs.Cmp.{bool_cmp_total}
use Rattle.std.proofs.lemmas.Cmp.{nat_cmp_total, nat_list_cmp_total, on_total, then_total}
use Rattle.std.proofs.lemmas.List.Sorted.{ranks_by, sorted_far, sum_by-IsPermutation}
use Rattle.std.proofs.lemmas.List.Sums.{sum_by-append, sum_by-cons}
use Rattle.view_types.specs.declared.namespaces.Held.{Held}
use Rattle.label_codec.specs.declared.label.Label.{Label}
use Rattle.label_codec.specs.ModuleLabels.{Labels, count, one}
use Rattle.region_map.specs.declared.platform.Platform.{Platform}
use Rattle.label_table.specs.Fates.{held_count, is_held, without_slot}
use Rattle.label_table.specs.Tables.{State, state}
use Rattle.label_table.proofs.ListTests.{Contains-cases, Contains-here, Contains-there}
use Rattle.region_labels.specs.Held.{held_at, held_below, held_key, held_of, key_cmp}
use Rattle.namespace_commands.specs.Lists.{AreHeldOf}

-- Two lists in one order are the same where they have each element as often.
module _ {X : Type 0} (cmp : X → X → Ordering) (total : IsTotalOrder cmp) (tied : (x y : X) → cmp x y ≡ Equal → x ≡ y) where
  abbrev pub often : X → X → ℕ
  often x y = if is_eq (cmp x y) then 1 else 0

  abbrev pub Rises : List X → Type 0
  Rises [] = Unit {0}
  Rises (x ∷ xs) = ((t : X) → Contains xs t → is_lt (cmp t x) ≡ false) × Rises xs

  own : (x : X) → cmp x x ≡ Equal
  own x = by (cmp x x) (total.antisymm x x)
    where
      by : (o : Ordering) → o ≡ ordering_reverse o → o ≡ Equal
      by Less e = absurd cc
      by Equal e = refl
      by Greater e = absurd cc

  neither : (x y : X) → is_lt (cmp x y) ≡ false → is_lt (cmp y x) ≡ false → x ≡ y
  neither x y one other = tied x y (by (cmp x y) (cmp y x) (total.antisymm y x) one other)
    where
      by : (o p : Ordering) → p ≡ ordering_reverse o → is_lt o ≡ false → is_lt p ≡ false → o ≡ Equal
      by Less p e one other = absurd (let differ : true ≡ false = one in cc)
      by Equal p e one other = refl
      by Greater p e one other = absurd (let differ : true ≡ false = ap is_lt (sym e) ∙ other in cc)

  once : (x : X) → often x x ≡ 1
  once x = ap (λ (o : Ordering). if is_eq o then 1 else 0) (own x)

  there : (v : X) (xs : List X) → 0 < sum_by (often v) xs → Contains xs v
  there v [] some = absurd (omega (arith, some))
  there v (x ∷ xs) some = by (there v xs) (cmp v x) refl
    where
      sums : sum_by (often v) (x ∷ xs) ≡ often v x + sum_by (often v) xs
      sums = sum_by-cons (often v) x xs

      by : (0 < sum_by (often v) xs → Contains xs v) → (o : Ordering) → cmp v x ≡ o → Contains (x ∷ xs) v
      by behind Equal e = subst (Contains (x ∷ xs)) (sym (tied v x e)) (Contains-here x xs)
      by behind Less e = Contains-there x xs v (behind (let none : often v x ≡ 0 = ap (λ (o : Ordering). if is_eq o then 1 else 0) e in omega (arith, none, sums, some)))
      by behind Greater e = Contains-there x xs v (behind (let none : often v x ≡ 0 = ap (λ (o : Ordering). if is_eq o then 1 else 0) e in omega (arith, none, sums, some)))

  -- the first of a list is not above one of its elements
  least : (x : X) (xs : List X) → Rises (x ∷ xs) → (v : X) → Contains (x ∷ xs) v → is_lt (cmp v x) ≡ false
  least x xs up v has = ⊎_elim (λ is. ap is_lt (ap (λ (w : X). cmp w x) is ∙ own x)) (λ behind. up.0 v behind) (Contains-cases x xs v has)

  pub one-order : (xs ys : List X) → Rises xs → Rises ys → ((v : X) → sum_by (often v) xs ≡ sum_by (often v) ys) → xs ≡ ys
  one-order [] [] up down same = refl
  one-order [] (y ∷ ys) up down same =
      absurd (let none : 0 ≡ sum_by (often y) (y ∷ ys) = same y in let sums = sum_by-cons (often y) y ys in let is = once y in omega (arith, none, sums, is))
  one-order (x ∷ xs) [] up down same =
      absurd (let none : sum_by (often x) (x ∷ xs) ≡ 0 = same x in let sums = sum_by-cons (often x) x xs in let is = once x in omega (arith, none, sums, is))
  one-order (x ∷ xs) (y ∷ ys) up down same = λ i. first i ∷ one-order xs ys up.1 down.1 behind i
    where
      x_there : Contains (y ∷ ys) x
      x_there = there x (y ∷ ys) (let sums = sum_by-cons (often x) x xs in let is = once x in let e = same x in omega (arith, sums, is, e))

      y_there : Contains (x ∷ xs) y
      y_there = there y (x ∷ xs) (let sums = sum_by-cons (often y) y ys in let is = once y in let e = same y in omega (arith, sums, is, e))

      first : x ≡ y
      first = neither x y (least y ys down x x_there) (least x xs up y y_there)

      behind : (v : X) → sum_by (often v) xs ≡ sum_by (often v) ys
      behind v =
          let e = same v in
          let one = sum_by-cons (often v) x xs in
          let other = sum_by-cons (often v) y ys in
          let heads : often v x ≡ often v y = ap (often v) first in
          omega (arith, e, one, other, heads)

-- no element is less than one before it
rises : {X : Type 0} (cmp : X → X → Ordering) (total : IsTotalOrder cmp) (tied : (x y : X) → cmp x y ≡ Equal → x ≡ y)
    → (xs : List X) → ((i j : ℕ) (d : X) → i ≤ j → j < length xs → is_lt (cmp (get_or xs j d) (get_or xs i d)) ≡ false) → Rises cmp total tied xs
rises cmp total tied [] far = tt
rises cmp total tied (x ∷ xs) far = (
  λ t c. subst (λ y. is_lt (cmp y x) ≡ false) c.2 (far 0 (suc c.0) t (omega arith) (let lt = c.1 in omega (arith, lt))),
  rises cmp total tied xs (λ i j d le lt. far (suc i) (suc j) d (omega arith) (omega arith)),
)

-- The order of held labels.
abbrev held_cmp : Held → Held → Ordering
held_cmp a b = key_cmp (held_key a) (held_key b)

held_total : IsTotalOrder held_cmp
held_total =
    then_total (on_total (λ (h : Held). h.dpa) nat_cmp_total) (then_total (on_total (λ (h : Held). h.size) nat_cmp_total)
    (then_total (on_total (λ (h : Held). h.uuid) nat_list_cmp_total) (then_total (on_total (λ (h : Held). h.local) bool_cmp_total)
    (then_total (on_total (λ (h : Held). h.read_only) bool_cmp_total) (then_total (on_total (λ (h : Held). h.updating) bool_cmp_total)
    (on_total (λ (h : Held). h.region) (options_total nat_cmp_total)))))))

then_both : (o p : Ordering) → ordering_then o p ≡ Equal → (o ≡ Equal) × (p ≡ Equal)
then_both Less p e = absurd cc
then_both Equal p e = (refl, e)
then_both Greater p e = absurd cc

bool_tied : (a b : Bool) → bool_cmp a b ≡ Equal → a ≡ b
bool_tied true true e = refl
bool_tied true false e = absurd cc
bool_tied false true e = absurd cc
bool_tied false false e = refl

option_tied : (a b : Option ℕ) → option_cmp nat_cmp a b ≡ Equal → a ≡ b
option_tied None None e = refl
option_tied None (Some y) e = absurd cc
option_tied (Some x) None e = absurd cc
option_tied (Some x) (Some y) e = ap Some (nat_cmp-IsAntisymmetric x y e)

held_tied : (a b : Held) → held_cmp a b ≡ Equal → a ≡ b
held_tied a b e =
    let one = then_both (nat_cmp a.dpa b.dpa) _ e in
    let two = then_both (nat_cmp a.size b.size) _ one.1 in
    let three = then_both (slice_cmp nat_cmp a.uuid b.uuid) _ two.1 in
    let four = then_both (bool_cmp a.local b.local) _ three.1 in
    let five = then_both (bool_cmp a.read_only b.read_only) _ four.1 in
    let six = then_both (bool_cmp a.updating b.updating) _ five.1 in
    let dpas = nat_cmp-IsAntisymmetric a.dpa b.dpa one.0 in
    let sizes = nat_cmp-IsAntisymmetric a.size b.size two.0 in
    let uuids = slice_cmp-IsAntisymmetric nat_cmp-IsAntisymmetric a.uuid b.uuid three.0 in
    let locals = bool_tied a.local b.local four.0 in
    let read_onlys = bool_tied a.read_only b.read_only five.0 in
    let updatings = bool_tied a.updating b.updating six.0 in
    let regions = option_tied a.region b.region six.1 in
    λ i. record {
      uuid = uuids i;
      dpa = dpas i;
      size = sizes i;
      local = locals i;
      read_only = read_onlys i;
      updating = updatings i;
      region = regions i;
    }

-- how often one of the held labels is this one, by the labels
module _ (P : Platform) (L : Labels) (h : ℕ) (p : Held → Bool) where
  abbrev held_so : Label → Bool
  held_so l = is_held P L h l && p (held_of P h (without_slot l))

  abbrev passes : Held → ℕ
  passes x = if p x then 1 else 0

  below-summed : (at : ℕ → Option Label) (n : ℕ) → sum_by passes (held_below P L h at n) ≡ count held_so at n
  below-summed at zero = refl
  below-summed at (suc n) = sum_by-append passes (held_below P L h at n) (option_to_list (held_at P L h (at n))) ∙ by (at n) (below-summed at n)
    where
      before : ℕ
      before = sum_by passes (held_below P L h at n)

      by : (o : Option Label) → before ≡ count held_so at n → before + sum_by passes (option_to_list (held_at P L h o)) ≡ one held_so o + count held_so at n
      by None rest = omega (arith, rest)
      by (Some l) rest = here (is_held P L h l)
        where
          here : (b : Bool) → before + sum_by passes (option_to_list (if b then Some (held_of P h l) else None)) ≡ (if b && p (held_of P h (without_slot l)) then 1 else 0) + count held_so at n
          here false = omega (arith, rest)
          here true = omega (arith, rest)

  pub held-summed : (held : List Held) → AreHeldOf P L h held → sum_by passes held ≡ held_count P L h (λ label. p (held_of P h label))
  held-summed held are = sum_by-IsPermutation passes (held_below P L h (L h).at (L h).slots) held are.same ∙ below-summed (L h).at (L h).slots

held-rises : (P : Platform) (L : Labels) (h : ℕ) (held : List Held) → AreHeldOf P L h held → Rises held_cmp held_total held_tied held
held-rises P L h held are = rises held_cmp held_total held_tied held (λ i j d le lt. sorted_far (λ a b. is_lt (held_cmp a b)) (ranks_by held_total (λ (h : Held). h)) held are.order i j d le lt)

pub held-one : (P : Platform) (L M : Labels) → state P M ≡ state P L → (h : ℕ) (held other : List Held) → AreHeldOf P L h held → AreHeldOf P M h other → held ≡ other
held-one P L M same h held other are too =
    one-order held_cmp held_total held_tied held other (held-rises P L h held are) (held-rises P M h other too) (λ v.
    let p : Held → Bool = λ x. is_eq (held_cmp v x) in
    held-summed P L h p held are ∙ ap (λ (s : State). s.table.held h (λ label. p (held_of P h label))) (sym same) ∙ sym (held-summed P M h p other too))
