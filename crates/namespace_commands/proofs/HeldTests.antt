-- Tests of the held labels of a module as they are listed are tests of its labels.
use Rattle.std.proofs.Common.{◌≡◌, inl, inr, ℕ, zero, suc, ◌+◌, Bool, true, false, not, List, Option, Some, None, refl, sym, ap, ◌∙◌, arith}
use Rattle.std.specs.Prelude.{◌==◌, ◌&&◌, ◌||◌, if◌then◌else◌, nat_lt}
use Rattle.std.specs.List.{Contains, list_any}
use Rattle.std.specs.Option.{option_to_list}
use Rattle.std.specs.Str.{bytes_eq}
use Rattle.std.proofs.Math.Bool.{or-false, or-true}
use Rattle.std.proofs.lemmas.List.Folds.{list_any-append}
use Rattle.std.proofs.lemmas.List.Sorted.{list_any-IsPermutation}
use Rattle.view_types.specs.declared.namespaces.Held.{Held}
use Rattle.label_codec.specs.declared.label.Label.{Label}
use Rattle.label_codec.specs.ModuleLabels.{Labels, count, has, one}
use Rattle.region_map.specs.declared.platform.Platform.{Platform}
use Rattle.region_map.specs.declared.platform.Region.{Region}
use Rattle.region_map.specs.Platforms.{region_at}
use Rattle.label_table.specs.Belonging.{IsDisjoint, belongs, region_of}
use Rattle.label_table.specs.Fates.{held_count, is_held, without_slot}
use Rattle.label_table.specs.Wholes.{all_ready}
use Rattle.label_table.proofs.ListTests.{both, eq_same, eq_true, find-some, lt_from, some_is}
use Rattle.label_table.proofs.WholeUuids.{region_of-belongs}
use Rattle.region_labels.specs.Held.{held_at, held_below, held_of, region_index}
use Rattle.table_steps.specs.Release.{holds_of, is_fixed}
use Rattle.table_steps.specs.Release as table
use Rattle.namespace_commands.specs.Lists.{AreHeldOf}
use Rattle.namespace_commands.specs.Releases.{is_fixed_with, is_index, is_with, is_with_in, lacks_area}

module _ (P : Platform) (L : Labels) (h : ℕ) where
  -- a test of held labels that is told by one of labels
  abbrev Agree : (Held → Bool) → (Label → Bool) → Type 0
  Agree p q = (l : Label) → p (held_of P h l) ≡ q (without_slot l)

  module _ (p : Held → Bool) (q : Label → Bool) (agree : Agree p q) where
    abbrev holds : Label → Bool
    holds l = is_held P L h l && q (without_slot l)

    below-told : (at : ℕ → Option Label) (n : ℕ) → list_any p (held_below P L h at n) ≡ nat_lt 0 (count holds at n)
    below-told at zero = refl
    below-told at (suc n) = list_any-append p (held_below P L h at n) (option_to_list (held_at P L h (at n))) ∙ by (at n) (below-told at n)
      where
        any : Bool
        any = list_any p (held_below P L h at n)

        by : (o : Option Label) → any ≡ nat_lt 0 (count holds at n) → (any || list_any p (option_to_list (held_at P L h o))) ≡ nat_lt 0 (one holds o + count holds at n)
        by None rest = or-false any ∙ rest ∙ ap (nat_lt 0) (let same : count holds at n ≡ 0 + count holds at n = omega arith in same)
        by (Some l) rest = here (is_held P L h l)
          where
            two : (k : Bool) → (any || (k || false)) ≡ nat_lt 0 ((if k then 1 else 0) + count holds at n)
            two true = or-true any ∙ sym (lt_from 0 (1 + count holds at n) (omega arith))
            two false = or-false any ∙ rest ∙ ap (nat_lt 0) (let same : count holds at n ≡ 0 + count holds at n = omega arith in same)

            here : (b : Bool) → (any || list_any p (option_to_list (if b then Some (held_of P h l) else None))) ≡ nat_lt 0 ((if b && q (without_slot l) then 1 else 0) + count holds at n)
            here false = or-false any ∙ rest ∙ ap (nat_lt 0) (let same : count holds at n ≡ 0 + count holds at n = omega arith in same)
            here true = ap (λ k. any || (k || false)) (agree l) ∙ two (q (without_slot l))

    -- one of those that are listed passes where one of the module's does
    pub held-told : (held : List Held) → AreHeldOf P L h held → list_any p held ≡ nat_lt 0 (held_count P L h q)
    held-told held are =
        sym (list_any-IsPermutation p (held_below P L h (L h).at (L h).slots) held are.same) ∙ below-told (L h).at (L h).slots

  module _ (held : List Held) (are : AreHeldOf P L h held) (u : List ℕ) where
    pub with-told : list_any (is_with u) held ≡ nat_lt 0 (held_count P L h (has u))
    with-told = held-told (is_with u) (has u) (λ l. refl) held are

    pub fixed-told : list_any (is_fixed_with u) held ≡ nat_lt 0 (held_count P L h (is_fixed u))
    fixed-told = held-told (is_fixed_with u) (is_fixed u) (λ l. refl) held are

    module _ (disjoint : IsDisjoint P) (r : Region) (in_P : Contains P.regions r) where
      -- at most one region has a label
      region-told : (l : Label) → is_index r.index (region_index (region_of P h l)) ≡ belongs r h l
      region-told l = elim (both (belongs r h l)) [
        | inl mine ↦ ap (λ o. is_index r.index (region_index o)) (region_of-belongs P disjoint r h l in_P mine) ∙ eq_same r.index r.index refl ∙ sym mine
        | inr n ↦ by (region_of P h l) refl n ∙ sym n
      ]
        where
          by : (o : Option Region) → region_of P h l ≡ o → belongs r h l ≡ false → is_index r.index (region_index o) ≡ false
          by None e n = refl
          by (Some q) e n = elim (both (q.index == r.index)) [
            | inr m ↦ m
            | inl same ↦
                let found = find-some (λ (x : Region). belongs x h l) P.regions q e in
                let one : q ≡ r = some_is (sym (disjoint.indexes q found.0) ∙ (λ i. region_at P (eq_true q.index r.index same i)) ∙ disjoint.indexes r in_P) in
                absurd (let yes : belongs r h l ≡ true = ap (λ (x : Region). belongs x h l) (sym one) ∙ found.1 in cc)
          ]

      pub holds-told : list_any (is_with_in u r.index) held ≡ holds_of P L h u r
      holds-told = held-told (is_with_in u r.index) (λ label. has u label && belongs r h label) (λ l. ap (λ b. bytes_eq u l.uuid && b) (region-told l)) held are

      pub lacks-told : lacks_area L held u r ≡ table.lacks_area P L h u r
      lacks-told = ap (λ b. b && not (all_ready r L)) holds-told
