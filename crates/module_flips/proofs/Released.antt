-- A module gives up its held labels with a uuid, and its dead labels go with them.
use Rattle.std.proofs.Common.{◌≡◌, ◌≢◌, inl, inr, ℕ, ◌<◌, ◌≤◌, Bool, true, false, cond, not, ◌&&◌, List, Option, Some, None, refl, sym, ap, ◌∙◌, arith}
use Rattle.std.specs.Prelude.{◌||◌, nat_lt}
use Rattle.std.specs.Option.{option_map_or}
use Rattle.std.proofs.lemmas.Bool.{and_parts, and_right, cases_lt}
use Rattle.label_codec.specs.declared.label.Label.{Label}
use Rattle.label_codec.specs.ModuleLabels.{IsBounded, Labels, Module, has, label_if, number}
use Rattle.label_codec.proofs.Counting.{IsAt, count-cases, count-one}
use Rattle.region_map.specs.declared.platform.Platform.{Platform}
use Rattle.region_map.specs.declared.platform.Region.{Region}
use Rattle.label_table.specs.Belonging.{IsDisjoint, region_of}
use Rattle.label_table.specs.Fates.{held_count, is_dead, is_held, is_stale, is_unfinished, without_slot}
use Rattle.label_table.specs.Flips.{HasNone, IsConfined, other_labels}
use Rattle.label_table.specs.Settling.{IsReleased, settled, without_held}
use Rattle.label_table.specs.Spaces.{is_pending}
use Rattle.label_table.specs.Tables.{state, table}
use Rattle.label_table.specs.Wholes.{all_ready, any_label, is_doubled, is_whole, label_count, labels_with}
use Rattle.label_table.proofs.Confined.{number-same, other-same, ready-any}
use Rattle.label_table.proofs.Equations.{by_index-same}
use Rattle.label_table.proofs.Leaving.{held-kept, label_if-passes, within}
use Rattle.label_table.proofs.ListTests.{both, list_any-same, some_is, uuid_other}
use Rattle.label_table.proofs.Releasing.{release-pending, release-table}
use Rattle.label_table.proofs.Settled.{all-held}
use Rattle.label_table.proofs.WholeUuids.{same_module, whole-same}
use Rattle.module_flips.specs.Releases.{released_state}
use Rattle.module_flips.proofs.Freeing.{at-there, left-by, none-by, rest, rest-elsewhere, same-part}
use Rattle.module_flips.proofs.Unwanted.{bounded-left, dead-as-before, leaves-dead, state-kept}

pub or_neither : (a b : Bool) → (a || b) ≡ false → (a ≡ false) × (b ≡ false)
or_neither true b e = absurd cc
or_neither false b e = (refl, e)

module _ (P : Platform) (L : Labels) (bounded : IsBounded L) (m : ℕ) (u : List ℕ) (some : 0 < held_count P L m (has u)) where
  -- where a module holds a label with the uuid, it holds all that it has
  pub each-held : (k : ℕ) (l : Label) → (L m).at k ≡ Some l → has u l ≡ true → is_held P L m l ≡ true
  each-held k l is h = elim (cases_lt 1 (label_count (labels_with u L) m)) [
    | inl twice ↦ all-held P L bounded u m twice k l is h
    | inr few ↦ elim (count-cases (λ a. is_held P L m a && has u (without_slot a)) (L m).at (L m).slots) [
      | inl none ↦ absurd (omega (arith, some, none))
      | inr there ↦ only few there
    ]
  ]
    where
      only : label_count (labels_with u L) m ≤ 1 → IsAt (λ a. is_held P L m a && has u (without_slot a)) (L m).at (L m).slots → is_held P L m l ≡ true
      only few there =
          let passes = and_parts (is_held P L m there.label) (has u (without_slot there.label)) there.passes in
          let slot : there.slot ≡ k = count-one any_label (labels_with u L m).at (L m).slots few there.slot k there.label l there.within (within L bounded m k l is)
          (label_if-passes (has u) ((L m).at there.slot) there.label there.is passes.1) (label_if-passes (has u) ((L m).at k) l is h) refl refl in
          let same : there.label ≡ l = some_is (sym there.is ∙ ap (L m).at slot ∙ is) in
          sym (ap (is_held P L m) same) ∙ passes.0

  -- and they are counted
  pub count-held : number (has u) (L m) ≡ held_count P L m (has u)
  count-held = sym (number-same (λ a. is_held P L m a && has u (without_slot a)) (has u) (L m) (λ k l is. elim (both (has u l)) [
    | inl h ↦ (λ i. each-held k l is h i && h i) ∙ sym h
    | inr n ↦ (λ i. is_held P L m l && n i) ∙ and_right (is_held P L m l) false refl ∙ sym n
  ]))

  -- The slots of the module are freed that have a label with the uuid, or a dead one, and no others with a label.
  module _ (disjoint : IsDisjoint P) (freed : ℕ → Bool) (each : (k : ℕ) (l : Label) → (L m).at k ≡ Some l → freed k ≡ (has u l || is_dead P L m l)) where
    abbrev gone : ℕ → Bool
    gone k = option_map_or (is_dead P L m) ((L m).at k) true

    -- the labels once the dead ones are gone
    abbrev mid : Labels
    mid = rest L m gone

    abbrev pub now : Labels
    now = rest L m freed

    abbrev dead_alone : (k : ℕ) → gone k ≡ true → gone k ≡ true
    dead_alone k e = e

    same-rest : (k : ℕ) → label_if (λ a. not (has u a)) ((now m).at k) ≡ label_if (λ a. not (has u a)) ((mid m).at k)
    same-rest k =
        ap (label_if (λ a. not (has u a))) (at-there L m freed k) ∙ by ((L m).at k) refl ∙ sym (ap (label_if (λ a. not (has u a))) (at-there L m gone k))
      where
        core : (l : Label) (h d : Bool) → has u l ≡ h → label_if (λ a. not (has u a)) (cond (h || d) None (Some l)) ≡ label_if (λ a. not (has u a)) (cond d None (Some l))
        core l true true e = refl
        core l true false e = sym (ap (λ b. cond (not b) (Some l) None) e)
        core l false d e = refl

        by : (o : Option Label) → (L m).at k ≡ o → label_if (λ a. not (has u a)) (cond (freed k) None o) ≡ label_if (λ a. not (has u a)) (cond (option_map_or (is_dead P L m) o true) None o)
        by None e = ap (label_if (λ a. not (has u a))) (none-by (freed k))
        by (Some l) e = ap (λ b. label_if (λ a. not (has u a)) (cond b None (Some l))) (each k l e) ∙ core l (has u l) (is_dead P L m l) refl

    confined : IsConfined u m mid now
    confined = record {
      others = λ other differ. rest-elsewhere L m freed other differ ∙ sym (rest-elsewhere L m gone other differ);
      rest = same_module (other_labels u (now m)) (other_labels u (mid m))
          (same-part L m freed (λ N. N.kind) refl m ∙ sym (same-part L m gone (λ N. N.kind) refl m))
          (same-part L m freed (λ N. N.slots) refl m ∙ sym (same-part L m gone (λ N. N.slots) refl m))
          same-rest;
    }

    none-left : HasNone u (now m)
    none-left k l at =
        let was = left-by (freed k) ((L m).at k) l (sym (at-there L m freed k) ∙ at) in
        (or_neither (has u l) (is_dead P L m l) (sym (each k l was.1) ∙ was.0)).0

    is-released : IsReleased P m u mid now
    is-released = record {
      confined = confined;
      none = none-left;
      held = λ k l at h.
          let was = left-by (gone k) ((L m).at k) l (sym (at-there L m gone k) ∙ at) in
          held-kept P L mid (leaves-dead P L m gone dead_alone disjoint bounded) m l ∙ each-held k l was.1 h;
    }

    -- the state is that without the labels
    pub state-released : state P now ≡ released_state P m u (state P L)
    state-released =
        let after_sweep : IsBounded mid = bounded-left P L m gone dead_alone disjoint bounded in
        let tables : table P now ≡ settled P (without_held m u (table P mid)) = release-table P disjoint mid now after_sweep m u is-released in
        let marks : (state P now).pending ≡ (state P mid).pending = λ i n v. by_index-same P false (is_pending now) (is_pending mid) (release-pending P disjoint mid now after_sweep m u is-released) n v i in
        (λ i. record { table = tables i; pending = marks i }) ∙ ap (released_state P m u) (state-kept P L m gone dead_alone disjoint bounded)

    -- no label that has another uuid is dead by that
    pub dead-otherwise : (h : ℕ) (l : Label) → has u l ≡ false → is_dead P now h l ≡ is_dead P L h l
    dead-otherwise h l n = ap (λ t. is_stale P h l && t) (by (region_of P h l)) ∙ dead-as-before P L m gone dead_alone disjoint bounded h l
      where
        other : l.uuid ≢ u
        other = uuid_other u l.uuid n

        by : (o : Option Region) → is_unfinished now l.uuid o ≡ is_unfinished mid l.uuid o
        by None = refl
        by (Some r) =
            let a : all_ready r now ≡ all_ready r mid = ready-any u m mid now confined r in
            let b : is_whole now r l.uuid ≡ is_whole mid r l.uuid = whole-same r (labels_with l.uuid mid) (labels_with l.uuid now) (λ x in_x. other-same u m mid now confined l.uuid x.handle other) in
            let c : is_doubled now r l.uuid ≡ is_doubled mid r l.uuid = list_any-same _ _ r.members (λ x in_x. ap (λ (N : Module). nat_lt 1 (number any_label N)) (other-same u m mid now confined l.uuid x.handle other)) in
            λ i. a i && (not (b i) && not (c i))
