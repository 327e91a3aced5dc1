-- What holds where nothing refuses a release.
use Rattle.std.proofs.Common.{◌≡◌, ◌⊎◌, inl, inr, ℕ, zero, suc, ◌≤◌, ◌<◌, Bool, true, false, not, ◌&&◌, cond, List, [], ◌∷◌, Option, Some, None, find, length, refl, sym, ap, ◌∙◌, arith}
use Rattle.std.specs.Prelude.{◌==◌, ◌||◌, nat_lt}
use Rattle.std.specs.List.{Contains, list_all, list_any}
use Rattle.std.specs.Option.{option_and_then}
use Rattle.std.proofs.lemmas.Bool.{and_from, and_parts, cases_lt}
use Rattle.view_types.specs.declared.refusal.Refusal.TheVariants.{NotHeld, ReadOnly, UnknownDimm}
use Rattle.view_types.specs.declared.rule.Rule.{Rule}
use Rattle.label_codec.specs.declared.label.Label.{Label}
use Rattle.label_codec.specs.Flags.{is_local, is_read_only}
use Rattle.label_codec.specs.declared.kind.AreaKind.{AreaKind}
use Rattle.label_codec.specs.declared.kind.AreaKind.TheVariants.{Foreign, Missing, Ready, Uninit, WrongSize}
use Rattle.label_codec.specs.ModuleLabels.{IsBounded, Labels, has, is_ready, one}
use Rattle.label_codec.proofs.Counting.{count-cases, count-least, one-some}
use Rattle.region_map.specs.declared.platform.Member.{Member}
use Rattle.region_map.specs.declared.platform.Platform.{Platform}
use Rattle.region_map.specs.declared.platform.Region.{Region}
use Rattle.region_map.specs.Platforms.{IsSound}
use Rattle.region_map.proofs.Disjoint.{unusable_region}
use Rattle.label_table.specs.Belonging.{belongs}
use Rattle.label_table.specs.Fates.{held_count, is_held, without_slot}
use Rattle.label_table.specs.Namespaces.{namespaces}
use Rattle.label_table.specs.Spaces.{Space}
use Rattle.label_table.specs.Statuses.{first_not_ready, status, status_by, status_by_area}
use Rattle.label_table.specs.Wholes.{all_ready}
use Rattle.label_table.proofs.ListTests.{both, find-some, lt_from, lt_true, never, not_true}
use Rattle.label_table.proofs.WholeUuids.{IsInside, inside}
use Rattle.table_steps.specs.Refusals.{area_by, first_of, not_ready_by}
use Rattle.table_steps.specs.Release.{MayBeReleased, holds_of, is_fixed, lacks_area, release_refusals}
use Rattle.table_steps.proofs.Lists.{AreNone, find-none, first-none, not-false, or-false, unapplied}

-- The areas of a region are Ready where none is the first that is not.
pub areas-ready : (L : Labels) (ms : List Member) → first_not_ready (λ m. (L m).kind) ms ≡ None → list_all (λ (x : Member). is_ready (L x.handle).kind) ms ≡ true
areas-ready L [] none = refl
areas-ready L (x ∷ xs) none = by (is_ready (L x.handle).kind) none (λ later. areas-ready L xs later)
  where
    by : (b : Bool) → cond b (first_not_ready (λ m. (L m).kind) xs) (Some x.handle) ≡ None → (first_not_ready (λ m. (L m).kind) xs ≡ None → list_all (λ (y : Member). is_ready (L y.handle).kind) xs ≡ true)
        → (b && list_all (λ (y : Member). is_ready (L y.handle).kind) xs) ≡ true
    by true later rest = rest later
    by false none rest = absurd cc

-- the refusal by an area that is not Ready
by-area : (L : Labels) (spaces : List Space) (o : Option ℕ) → not_ready_by (status_by_area (λ m. (L m).kind) spaces o) ≡ None → o ≡ None
by-area L spaces None e = refl
by-area L spaces (Some m) e = absurd cc

-- A region that can be used, and is not refused as not Ready, has all its areas.
has-areas : (L : Labels) (r : Region) → r.rule ≡ None → not_ready_by (status L r) ≡ None → all_ready r L ≡ true
has-areas L r usable none = areas-ready L r.members
    (by-area L (namespaces L r) (first_not_ready (λ m. (L m).kind) r.members) (sym (ap (λ o. not_ready_by (status_by (λ m. (L m).kind) (namespaces L r) r o)) usable) ∙ none))

area-is : (dimm : ℕ) (kind : AreaKind) → area_by dimm kind ≡ None → kind ≡ Ready
area-is dimm Ready e = refl
area-is dimm Missing e = absurd cc
area-is dimm WrongSize e = absurd cc
area-is dimm Uninit e = absurd cc
area-is dimm Foreign e = absurd cc

-- A label that a module holds is counted.
pub held-counted : (P : Platform) (L : Labels) (m : ℕ) (p : Label → Bool) → IsBounded L → (k : ℕ) (l : Label) → (L m).at k ≡ Some l → is_held P L m l ≡ true → p (without_slot l) ≡ true → nat_lt 0 (held_count P L m p) ≡ true
held-counted P L m p bounded k l is h t = by (cases_lt k (L m).slots)
  where
    by : (k < (L m).slots) ⊎ ((L m).slots ≤ k) → nat_lt 0 (held_count P L m p) ≡ true
    by (inr past) = absurd (none_past ((L m).at k) (bounded.past m k past) is)
      where
        none_past : (o : Option Label) → o ≡ None → o ≡ Some l → ⊥
        none_past o none some = absurd cc
    by (inl within) =
        let here : one (λ a. is_held P L m a && p (without_slot a)) ((L m).at k) ≡ 1 = one-some (λ a. is_held P L m a && p (without_slot a)) ((L m).at k) l is (and_from (is_held P L m l) (p (without_slot l)) h t) in
        let least : one (λ a. is_held P L m a && p (without_slot a)) ((L m).at k) ≤ held_count P L m p = count-least (λ a. is_held P L m a && p (without_slot a)) (L m).at k (L m).slots within in
        lt_from 0 (held_count P L m p) (omega (arith, here, least))

-- what a module with a label of a region tells of it
usable-of : (P : Platform) → IsSound P → (L : Labels) (dimm : ℕ) (u : List ℕ) (r : Region) → Contains P.regions r → holds_of P L dimm u r ≡ true → r.rule ≡ None
usable-of P sound L dimm u r in_P holds = by r.rule refl
  where
    by : (o : Option Rule) → r.rule ≡ o → o ≡ None
    by None e = refl
    by (Some rule) e = elim (count-cases (λ l. is_held P L dimm l && (has u l && belongs r dimm (without_slot l))) (L dimm).at (L dimm).slots) [
      | inl none ↦ absurd (let some : 0 < held_count P L dimm (λ l. has u l && belongs r dimm l) = lt_true 0 (held_count P L dimm (λ l. has u l && belongs r dimm l)) holds in omega (arith, none, some))
      | inr there ↦
          let parts = and_parts (is_held P L dimm there.label) _ there.passes in
          let at : IsInside r dimm (without_slot there.label) = inside r dimm (without_slot there.label) (and_parts (has u there.label) _ parts.1).1 in
          let none : length r.members ≡ 0 = ap length (unusable_region P r rule sound in_P e).members in
          let some : there.label.position < length r.members = at.position in
          absurd (omega (arith, none, some))
    ]

pub unrefused-release : (P : Platform) → IsSound P → (L : Labels) (dimm : ℕ) (u : List ℕ) → first_of (release_refusals P L dimm u) ≡ None → MayBeReleased P L dimm u
unrefused-release P sound L dimm u none = record {
  known = not-false (list_any (λ handle. handle == dimm) P.modules) (unapplied (not (list_any (λ handle. handle == dimm) P.modules)) (UnknownDimm dimm) all.0);
  ready = area-is dimm (L dimm).kind all.1.0;
  some = positive (held_count P L dimm (has u)) (unapplied (held_count P L dimm (has u) == 0) NotHeld all.1.1.0);
  loose = zero-of (held_count P L dimm (is_fixed u)) (unapplied (nat_lt 0 (held_count P L dimm (is_fixed u))) (ReadOnly u) all.1.1.1.1.0);
  areas = areas;
}
  where
    all : AreNone (release_refusals P L dimm u)
    all = first-none (release_refusals P L dimm u) none

    positive : (n : ℕ) → (n == 0) ≡ false → 0 < n
    positive zero n = absurd cc
    positive (suc n) e = omega arith

    zero-of : (n : ℕ) → nat_lt 0 n ≡ false → n ≡ 0
    zero-of zero e = refl
    zero-of (suc n) e = absurd (never (nat_lt 0 (suc n)) (lt_from 0 (suc n) (omega arith)) e)

    none_lacks : find (lacks_area P L dimm u) P.regions ≡ None
    none_lacks = by (find (lacks_area P L dimm u) P.regions) refl all.1.1.1.0
      where
        by : (o : Option Region) → find (lacks_area P L dimm u) P.regions ≡ o → option_and_then (λ (r : Region). not_ready_by (status L r)) o ≡ None → o ≡ None
        by None e n = refl
        by (Some r) e n =
            let found = find-some (lacks_area P L dimm u) P.regions r e in
            let parts = and_parts (holds_of P L dimm u r) (not (all_ready r L)) found.1 in
            never (all_ready r L) (has-areas L r (usable-of P sound L dimm u r found.0 parts.0) n) (not_true (all_ready r L) parts.1)

    areas : (r : Region) → Contains P.regions r → holds_of P L dimm u r ≡ true → all_ready r L ≡ true
    areas r in_P holds = elim (both (all_ready r L)) [
      | inl t ↦ t
      | inr f ↦ never (lacks_area P L dimm u r) (and_from (holds_of P L dimm u r) (not (all_ready r L)) holds (ap not f)) (find-none (lacks_area P L dimm u) P.regions none_lacks r in_P)
    ]

-- Each of the labels that are released is neither read-only nor local, and the regions that it belongs to have all their areas.
module _ (P : Platform) (L : Labels) (dimm : ℕ) (u : List ℕ) (bounded : IsBounded L) (free : MayBeReleased P L dimm u) (k : ℕ) (l : Label) (is : (L dimm).at k ≡ Some l) (h : is_held P L dimm l ≡ true) (named : has u l ≡ true) where
  pub label-loose : (is_read_only l ≡ false) × (is_local l ≡ false)
  label-loose = or-false (is_read_only l) (is_local l) (elim (both (is_read_only l || is_local l)) [
    | inr n ↦ n
    | inl t ↦
        let some : 0 < held_count P L dimm (is_fixed u) = lt_true 0 (held_count P L dimm (is_fixed u)) (held-counted P L dimm (is_fixed u) bounded k l is h (and_from (has u l) (is_read_only l || is_local l) named t)) in
        let none = free.loose in
        absurd (omega (arith, some, none))
  ])

  pub label-areas : (r : Region) → Contains P.regions r → belongs r dimm l ≡ true → all_ready r L ≡ true
  label-areas r in_P b = free.areas r in_P (held-counted P L dimm (λ a. has u a && belongs r dimm a) bounded k l is h (and_from (has u l) (belongs r dimm l) named b))
