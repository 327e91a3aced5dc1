-- What an accepted release does.
use Rattle.std.proofs.Common.{◌≡◌, ◌≢◌, inl, inr, ℕ, ◌+◌, ◌≤◌, Bool, true, false, not, ◌&&◌, cond, List, refl, sym, ap, subst, ◌∙◌, arith}
use Rattle.std.specs.Prelude.{◌==◌, ◌||◌}
use Rattle.std.proofs.lemmas.Bool.{and_right, cases_eq}
use Rattle.view_types.specs.declared.reply.Reply.{Reply}
use Rattle.label_codec.specs.declared.label.Label.{Label}
use Rattle.label_codec.specs.ModuleLabels.{IsBounded, Labels, has}
use Rattle.region_map.specs.declared.platform.Platform.{Platform}
use Rattle.label_table.specs.Belonging.{IsDisjoint, region_of}
use Rattle.label_table.specs.Fates.{held_count, is_held, is_stale, spare, without_slot}
use Rattle.label_table.specs.Settling as settling
use Rattle.label_table.specs.Settling.{is_given_up, settled, vanishes, without_held}
use Rattle.label_table.specs.Spaces.{is_pending}
use Rattle.label_table.specs.Tables.{State, Table, pending_at, state, table}
use Rattle.label_table.proofs.Confined.{number-none, number-same}
use Rattle.label_table.proofs.Equations.{by_index-same}
use Rattle.label_table.proofs.ListTests.{eq_other, eq_same}
use Rattle.label_table.proofs.Releasing.{release-pending, release-table}
use Rattle.label_table.proofs.Settled.{number-either}
use Rattle.table_steps.specs.Release.{IsReleased, released}

and_false : (a : Bool) → (a && false) ≡ false
and_false a = and_right a false refl

-- A held label that passes a test vanishes or stays,
in_two : (h v p : Bool) → cond {A = ℕ} (h && p) 1 0 ≡ cond {A = ℕ} (h && (not v && p)) 1 0 + cond {A = ℕ} (h && (v && p)) 1 0
in_two false v p = refl
in_two true false true = refl
in_two true false false = refl
in_two true true true = refl
in_two true true false = refl

-- or is released.
in_three : (h u v p : Bool) → cond {A = ℕ} (h && p) 1 0 ≡ cond {A = ℕ} (h && (not u && (not v && p))) 1 0 + cond {A = ℕ} (h && ((u || v) && p)) 1 0
in_three false u v p = refl
in_three true true v true = refl
in_three true true v false = refl
in_three true false v p = in_two true v p

module _ (P : Platform) (L : Labels) (dimm : ℕ) (u : List ℕ) (reply : Reply) (after : State) (d : IsReleased P L dimm u reply after) where
  -- the table without the labels
  abbrev T : Table
  T = without_held dimm u (table P L)

  here : (dimm == dimm) ≡ true
  here = eq_same dimm dimm refl

  pub kinds : after.table.kind ≡ (table P L).kind
  kinds = ap (λ (s : State). s.table.kind) d.after_is

  pub spaces : after.table.space ≡ (table P L).space
  spaces = ap (λ (s : State). s.table.space) d.after_is

  pub marks : after.pending ≡ pending_at P L
  marks = ap (λ (s : State). s.pending) d.after_is

  -- what is held afterwards of the module, and of others
  held_here : (p : Label → Bool) → after.table.held dimm p ≡ held_count P L dimm (λ l. not (has u l) && (not (vanishes P T dimm l) && p l))
  held_here p = ap (λ (s : State). s.table.held dimm p) d.after_is
      ∙ (λ i. cond (here i) (held_count P L dimm (λ l. not (has u l) && (not (vanishes P T dimm l) && p l))) (held_count P L dimm (λ l. not (vanishes P T dimm l) && p l)))

  held_there : (m : ℕ) (p : Label → Bool) → m ≢ dimm → after.table.held m p ≡ held_count P L m (λ l. not (vanishes P T m l) && p l)
  held_there m p other =
      let away : (m == dimm) ≡ false = eq_other m dimm other in
      ap (λ (s : State). s.table.held m p) d.after_is
      ∙ (λ i. cond (away i) (held_count P L m (λ l. not (has u l) && (not (vanishes P T m l) && p l))) (held_count P L m (λ l. not (vanishes P T m l) && p l)))

  -- The module holds none of them.
  pub none_left : after.table.held dimm (has u) ≡ 0
  none_left = held_here (has u) ∙ number-none (λ l. is_held P L dimm l && (not (has u l) && (not (vanishes P T dimm l) && has u l))) (L dimm) (λ k l is. none l (has u l) refl)
    where
      none : (l : Label) (b : Bool) → has u l ≡ b → (is_held P L dimm l && (not (has u l) && (not (vanishes P T dimm (without_slot l)) && has u l))) ≡ false
      none l true e = (λ i. is_held P L dimm l && (not (e i) && (not (vanishes P T dimm (without_slot l)) && has u l))) ∙ and_false (is_held P L dimm l)
      none l false e =
          (λ i. is_held P L dimm l && (not (e i) && (not (vanishes P T dimm (without_slot l)) && e i)))
          ∙ (λ i. is_held P L dimm l && and_false (not (vanishes P T dimm (without_slot l))) i) ∙ and_false (is_held P L dimm l)

  -- No module holds more of any kind.
  pub fewer : (m : ℕ) (p : Label → Bool) → after.table.held m p ≤ held_count P L m p
  fewer m p = elim (cases_eq m dimm) [
    | inl is ↦ subst (λ k. after.table.held k p ≤ held_count P L k p) (sym is) at_dimm
    | inr other ↦
        let split : held_count P L m p ≡ held_count P L m (λ l. not (vanishes P T m l) && p l) + held_count P L m (λ l. vanishes P T m l && p l) =
        number-either (λ l. is_held P L m l && p (without_slot l)) (λ l. is_held P L m l && (not (vanishes P T m (without_slot l)) && p (without_slot l))) (λ l. is_held P L m l && (vanishes P T m (without_slot l) && p (without_slot l))) (L m)
        (λ k l is. in_two (is_held P L m l) (vanishes P T m (without_slot l)) (p (without_slot l))) in
        let kept : after.table.held m p ≡ held_count P L m (λ l. not (vanishes P T m l) && p l) = held_there m p other in
        omega (arith, split, kept)
  ]
    where
      at_dimm : after.table.held dimm p ≤ held_count P L dimm p
      at_dimm =
          let split : held_count P L dimm p ≡ held_count P L dimm (λ l. not (has u l) && (not (vanishes P T dimm l) && p l)) + held_count P L dimm (λ l. (has u l || vanishes P T dimm l) && p l) =
          number-either (λ l. is_held P L dimm l && p (without_slot l)) (λ l. is_held P L dimm l && (not (has u l) && (not (vanishes P T dimm (without_slot l)) && p (without_slot l))))
          (λ l. is_held P L dimm l && ((has u l || vanishes P T dimm (without_slot l)) && p (without_slot l))) (L dimm)
          (λ k l is. in_three (is_held P L dimm l) (has u l) (vanishes P T dimm (without_slot l)) (p (without_slot l))) in
          let kept = held_here p in
          omega (arith, split, kept)

  -- A label that is not stale does not vanish.
  stays : (m : ℕ) (l : Label) → is_stale P m l ≡ false → vanishes P T m l ≡ false
  stays m l n = λ i. n i && is_given_up T l.uuid (region_of P m l)

  -- What a module holds of labels that are neither stale nor released it holds still.
  pub others_stay : (m : ℕ) (p : Label → Bool) → ((l : Label) → p l ≡ true → is_stale P m l ≡ false) → (m ≡ dimm → (l : Label) → p l ≡ true → has u l ≡ false) → after.table.held m p ≡ held_count P L m p
  others_stay m p fresh other = elim (cases_eq m dimm) [
    | inl is ↦ subst (λ k. ((l : Label) → p l ≡ true → is_stale P k l ≡ false) → after.table.held k p ≡ held_count P L k p) (sym is) (λ calm. at_dimm calm (other is)) fresh
    | inr away ↦ held_there m p away ∙ number-same (λ l. is_held P L m l && (not (vanishes P T m (without_slot l)) && p (without_slot l))) (λ l. is_held P L m l && p (without_slot l)) (L m)
        (λ k l is. kept m l (without_slot l) fresh (p (without_slot l)) refl)
  ]
    where
      kept : (y : ℕ) (l shown : Label) → ((a : Label) → p a ≡ true → is_stale P y a ≡ false) → (b : Bool) → p shown ≡ b → (is_held P L y l && (not (vanishes P T y shown) && p shown)) ≡ (is_held P L y l && p shown)
      kept y l shown calm true e = let n = stays y shown (calm shown e) in λ i. is_held P L y l && (not (n i) && p shown)
      kept y l shown calm false e =
          (λ i. is_held P L y l && (not (vanishes P T y shown) && e i)) ∙ (λ i. is_held P L y l && and_false (not (vanishes P T y shown)) i) ∙ sym (λ i. is_held P L y l && e i)

      kept_here : (l shown : Label) → ((a : Label) → p a ≡ true → is_stale P dimm a ≡ false) → ((a : Label) → p a ≡ true → has u a ≡ false) → (b : Bool) → p shown ≡ b
          → (is_held P L dimm l && (not (has u shown) && (not (vanishes P T dimm shown) && p shown))) ≡ (is_held P L dimm l && p shown)
      kept_here l shown calm differ true e =
          let n = stays dimm shown (calm shown e) in
          let h = differ shown e in
          λ i. is_held P L dimm l && (not (h i) && (not (n i) && p shown))
      kept_here l shown calm differ false e =
          (λ i. is_held P L dimm l && (not (has u shown) && (not (vanishes P T dimm shown) && e i)))
          ∙ (λ i. is_held P L dimm l && (not (has u shown) && and_false (not (vanishes P T dimm shown)) i))
          ∙ (λ i. is_held P L dimm l && and_false (not (has u shown)) i) ∙ sym (λ i. is_held P L dimm l && e i)

      at_dimm : ((l : Label) → p l ≡ true → is_stale P dimm l ≡ false) → ((l : Label) → p l ≡ true → has u l ≡ false) → after.table.held dimm p ≡ held_count P L dimm p
      at_dimm calm differ = held_here p ∙ number-same (λ l. is_held P L dimm l && (not (has u l) && (not (vanishes P T dimm (without_slot l)) && p (without_slot l)))) (λ l. is_held P L dimm l && p (without_slot l)) (L dimm)
          (λ k l is. kept_here l (without_slot l) calm differ (p (without_slot l)) refl)

  -- The module has a spare slot more for each of them, at least,
  pub spares : spare P L dimm + held_count P L dimm (has u) ≤ after.table.spare dimm
  spares =
      let is : after.table.spare dimm ≡ (spare P L dimm + held_count P L dimm (has u)) + T.held dimm (vanishes P T dimm) =
      ap (λ (s : State). s.table.spare dimm) d.after_is ∙ (λ i. cond (here i) (spare P L dimm + held_count P L dimm (has u)) (spare P L dimm) + T.held dimm (vanishes P T dimm)) in
      omega (arith, is)

  -- and no module has fewer.
  pub more_spare : (m : ℕ) → spare P L m ≤ after.table.spare m
  more_spare m = elim (cases_eq m dimm) [
    | inl is ↦ subst (λ k. spare P L k ≤ after.table.spare k) (sym is) (let le = spares in omega (arith, le))
    | inr other ↦
        let away : (m == dimm) ≡ false = eq_other m dimm other in
        let is : after.table.spare m ≡ spare P L m + T.held m (vanishes P T m) =
        ap (λ (s : State). s.table.spare m) d.after_is ∙ (λ i. cond (away i) (spare P L m + held_count P L m (has u)) (spare P L m) + T.held m (vanishes P T m)) in
        omega (arith, is)
  ]

-- It is the state of the labels without them.
pub released-stands : (P : Platform) → IsDisjoint P → (L M : Labels) → IsBounded L → (dimm : ℕ) (u : List ℕ) → settling.IsReleased P dimm u L M → state P M ≡ released P dimm u (state P L)
released-stands P disjoint L M bounded dimm u release =
    let tables : table P M ≡ settled P (without_held dimm u (table P L)) = release-table P disjoint L M bounded dimm u release in
    let marks : (i : ℕ) (v : List ℕ) → pending_at P M i v ≡ pending_at P L i v =
    by_index-same P false (is_pending M) (is_pending L) (λ r v in_P. release-pending P disjoint L M bounded dimm u release r v in_P) in
    λ i. record { table = tables i; pending = λ n v. marks n v i }
