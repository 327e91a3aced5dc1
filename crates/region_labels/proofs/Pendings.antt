-- Where no namespace of the list is pending, none of the region is.
use Rattle.std.proofs.Common.{◌≡◌, inl, inr, ℕ, ◌≤◌, Bool, true, false, cond, List, [], ◌∷◌, Option, Some, None, map, refl, sym, ap, ◌∙◌, arith}
use Rattle.std.specs.Prelude.{◌&&◌, find, nat_lt, not}
use Rattle.std.specs.List.{Contains}
use Rattle.std.proofs.lemmas.Bool.{ltb-false}
use Rattle.label_codec.specs.Flags.{is_updating}
use Rattle.label_codec.specs.ModuleLabels.{Labels, number, of_uuid}
use Rattle.region_map.specs.declared.platform.Member.{Member}
use Rattle.region_map.specs.declared.platform.Region.{Region}
use Rattle.label_table.specs.Namespaces.{namespaces}
use Rattle.label_table.specs.Spaces.{Space, is_pending, space}
use Rattle.label_table.specs.Wholes.{any_read_only, any_updating, is_whole, labels_with}
use Rattle.label_table.proofs.Confined.{number-split}
use Rattle.label_table.proofs.Listed.{namespaces-to}
use Rattle.label_table.proofs.ListTests.{Contains-cases, Contains-none, both, list_any-never, list_any-none, lt_not, none_some}
use Rattle.label_table.proofs.Order.{space-uuid}
use Rattle.label_table.proofs.WholeUuids.{whole-led}
use Rattle.region_labels.specs.Marks.{listed_in}
use Rattle.region_labels.specs.ListedSpaces.{listed_spaces, shows_pending}

module _ (L : Labels) (r : Region) where
  none-listed : (ss : List Space) → None ≡ find shows_pending (map (listed_in L r) ss) → (s : Space) → Contains ss s → is_pending L r s.uuid ≡ false
  none-listed [] e s c = Contains-none s c
  none-listed (x ∷ xs) e s c = by (is_pending L r x.uuid) refl e (λ rest there. none-listed xs rest s there)
    where
      by : (b : Bool) → is_pending L r x.uuid ≡ b → None ≡ cond b (Some (listed_in L r x)) (find shows_pending (map (listed_in L r) xs)) → (None ≡ find shows_pending (map (listed_in L r) xs) → Contains xs s → is_pending L r s.uuid ≡ false) → is_pending L r s.uuid ≡ false
      by true is f rest = absurd cc
      by false is f rest = elim (Contains-cases x xs s c) [
        | inl same ↦ ap (λ (y : Space). is_pending L r y.uuid) same ∙ is
        | inr there ↦ rest f there
      ]

  pub none-pending : None ≡ find shows_pending (listed_spaces L r) → (u : List ℕ) → is_pending L r u ≡ false
  none-pending e u = by (space L r u) refl
    where
      by : (o : Option Space) → space L r u ≡ o → is_pending L r u ≡ false
      by None is = elim (both (is_whole L r u)) [
        | inl w ↦ none_some (space L r u) is (whole-led r (labels_with u L) w).space_is
        | inr n ↦ λ i. n i && (not (any_read_only r (labels_with u L)) && any_updating r (labels_with u L))
      ]
      by (Some s) is = sym (ap (is_pending L r) (space-uuid L r u s is)) ∙ none-listed (namespaces L r) e s (namespaces-to L r u s is)

-- Where no label of the region's modules is marked, no namespace is pending.
module _ (L : Labels) (r : Region) (calm : any_updating r L ≡ false) where
  none-updating : (u : List ℕ) (x : Member) → Contains r.members x → nat_lt 0 (number is_updating (of_uuid u (L x.handle))) ≡ false
  none-updating u x here =
      let split = number-split u is_updating (L x.handle) in
      let none : number is_updating (L x.handle) ≤ 0 = ltb-false 0 (number is_updating (L x.handle)) (list_any-none (λ (m : Member). nat_lt 0 (number is_updating (L m.handle))) r.members x calm here) in
      lt_not 0 (number is_updating (of_uuid u (L x.handle))) (omega arith)

  pub not_pending : (u : List ℕ) → is_pending L r u ≡ false
  not_pending u =
      let own = labels_with u L in
      let none : any_updating r own ≡ false = list_any-never (λ (m : Member). nat_lt 0 (number is_updating (own m.handle))) r.members (none-updating u) in
      ap (λ b. is_whole L r u && (not (any_read_only r own) && b)) none ∙ all_false (is_whole L r u) (not (any_read_only r own))
    where
      all_false : (a b : Bool) → (a && (b && false)) ≡ false
      all_false true true = refl
      all_false true false = refl
      all_false false b = refl

  pub none-found : None ≡ find shows_pending (listed_spaces L r)
  none-found = among (namespaces L r)
    where
      among : (ss : List Space) → None ≡ find shows_pending (map (listed_in L r) ss)
      among [] = refl
      among (s ∷ ss) = among ss ∙ sym (ap (λ b. cond b (Some (listed_in L r s)) (find shows_pending (map (listed_in L r) ss))) (not_pending s.uuid))
