-- The labels of a new namespace belong to its region, and are being changed.
use Rattle.std.proofs.Common.{◌≡◌, inl, inr, ℕ, ◌+◌, ◌≤◌, ◌<◌, true, false, List, [], ◌∷◌, length, get_or, Some, refl, sym, ap, subst, ◌∙◌, arith}
use Rattle.std.specs.Prelude.{nat_lt}
use Rattle.std.specs.List.{All}
use Rattle.std.proofs.lemmas.Bool.{and_from, cases_lt}
use Rattle.view_types.specs.declared.namespaces.Namespace.{Namespace}
use Rattle.view_types.specs.Guids.{persistent_memory}
use Rattle.label_codec.specs.declared.label.Label.{Label}
use Rattle.label_codec.specs.Flags.{is_read_only, is_updating}
use Rattle.label_codec.specs.ModuleLabels.{Labels, has, number}
use Rattle.region_map.specs.declared.platform.Member.{Member}
use Rattle.region_map.specs.declared.platform.Region.{Region}
use Rattle.label_area.specs.Flips.{at_slot}
use Rattle.label_table.specs.Belonging.{belongs, member_at, no_member, offset_in}
use Rattle.label_table.specs.Division.{part_size}
use Rattle.label_table.specs.Flips.{AllStale, AreAligned, AtMostOne, EachLabel, ExactlyOne, HasNone}
use Rattle.label_table.specs.Spaces.{space, space_of}
use Rattle.label_table.specs.Wholes.{all_ready, any_label, any_read_only, is_whole, label_count, labels_with}
use Rattle.label_table.proofs.Confined.{number-none, whole-count}
use Rattle.label_table.proofs.Leaving.{label_if-some}
use Rattle.label_table.proofs.Listed.{IsLeading, leading}
use Rattle.label_table.proofs.ListTests.{both, eq_same, le_from, list_any-never, lt_from, never, uuid_same}
use Rattle.label_table.proofs.Staging.{whole-aligned}
use Rattle.label_table.proofs.WholeUuids.{IsLed, whole-led}
use Rattle.namespace_passes.specs.Staged.{IsStagedAt, new_space, staged_label}
use Rattle.namespace_passes.proofs.Members.{HasPlace, at-member, member-in, place-of}

-- a module with none of the uuid has no label of it to count
pub none-counted : (u : List ℕ) (L : Labels) (h : ℕ) → HasNone u (L h) → label_count (labels_with u L) h ≡ 0
none-counted u L h none = number-none any_label (labels_with u L h) (λ k l is.
    let at = label_if-some (has u) ((L h).at k) l is in
    never (has u l) at.1 (none k l at.0))

module _ (r : Region) (s : Namespace) (sizes : All (λ (m : Member). m.size ≡ part_size r) r.members) (fits : s.offset + s.length ≤ part_size r) (long : 0 < s.length) where
  -- the staged label of a position, in any slot
  abbrev pub label-at : ℕ → ℕ → Label
  label-at k slot = at_slot slot (staged_label r s k)

  pub staged-belongs : (k slot : ℕ) → k < length r.members → belongs r (member_at r k).handle (label-at k slot) ≡ true
  staged-belongs k slot lt =
      let size : (member_at r k).size ≡ part_size r = at-member r (λ m. m.size ≡ part_size r) sizes k lt in
      let low : (member_at r k).dpa_base ≤ (member_at r k).dpa_base + s.offset = omega arith in
      let high : (member_at r k).dpa_base + s.offset + s.length ≤ (member_at r k).dpa_base + (member_at r k).size = omega (arith, size, fits) in
      and_from _ _ (lt_from k (length r.members) lt)
      (and_from _ _ (and_from _ _ (eq_same _ _ refl) (and_from _ _ (eq_same r.cookie r.cookie refl) (eq_same (length r.members) (length r.members) refl)))
      (and_from _ _ (and_from _ _ (uuid_same persistent_memory) (lt_from 0 s.length long))
      (and_from _ _ (le_from (member_at r k).dpa_base ((member_at r k).dpa_base + s.offset) low) (le_from ((member_at r k).dpa_base + s.offset + s.length) ((member_at r k).dpa_base + (member_at r k).size) high))))

  pub staged-offset : (k slot : ℕ) → offset_in r (label-at k slot) ≡ s.offset
  staged-offset k slot = omega arith

  -- Labels of which those of the uuid are the staged ones of the positions below one.
  module _ (position : ℕ) (M : Labels)
      (are : (k slot : ℕ) (l : Label) → k < length r.members → (M (member_at r k).handle).at slot ≡ Some l → has s.uuid l ≡ true → IsStagedAt r s position k slot l) where
    each-staged : (fact : Member → Label → Type 0) → ((k slot : ℕ) → k < length r.members → fact (member_at r k) (label-at k slot)) → EachLabel r s.uuid M fact
    each-staged fact holds x slot l in_x is h =
        let at : HasPlace r x = place-of r x in_x in
        let it : IsStagedAt r s position at.place slot l = are at.place slot l at.within (subst (λ (y : Member). (M y.handle).at slot ≡ Some l) (sym at.is) is) h in
        subst (λ (a : Label). fact x a) (sym it.is) (subst (λ (y : Member). fact y (label-at at.place slot)) at.is (holds at.place slot at.within))

    pub all-mine : EachLabel r s.uuid M (λ x l. belongs r x.handle l ≡ true)
    all-mine = each-staged (λ x l. belongs r x.handle l ≡ true) (λ k slot lt. staged-belongs k slot lt)

    pub all-stale : AllStale r s.uuid M
    all-stale = each-staged (λ x l. (is_updating l ≡ true) × (is_read_only l ≡ false)) (λ k slot lt. (refl, refl))

    all-aligned : AreAligned r s.uuid s.offset s.length M
    all-aligned = each-staged (λ x l. (belongs r x.handle l ≡ true) × (offset_in r l ≡ s.offset) × (l.raw_size ≡ s.length)) (λ k slot lt. (staged-belongs k slot lt, staged-offset k slot, refl))

    -- the modules from the position on have none
    pub none-behind : (k : ℕ) → k < length r.members → position ≤ k → HasNone s.uuid (M (member_at r k).handle)
    none-behind k lt behind slot l is = elim (both (has s.uuid l)) [
      | inl h ↦ absurd (let below : k < position = (are k slot l lt is h).below in omega arith)
      | inr n ↦ n
    ]

    pub none-counted-behind : (k : ℕ) → k < length r.members → position ≤ k → label_count (labels_with s.uuid M) (member_at r k).handle ≡ 0
    none-counted-behind k lt behind = none-counted s.uuid M (member_at r k).handle (none-behind k lt behind)

    pub not-whole : position < length r.members → is_whole M r s.uuid ≡ false
    not-whole lt = elim (both (is_whole M r s.uuid)) [
      | inl w ↦
          let one : label_count (labels_with s.uuid M) (member_at r position).handle ≡ 1 = whole-count r s.uuid M (member_at r position) w (member-in r position lt) in
          let none : label_count (labels_with s.uuid M) (member_at r position).handle ≡ 0 = none-counted-behind position lt (omega arith) in
          absurd (omega arith)
      | inr n ↦ n
    ]

    module _ (one : (k : ℕ) → k < position → k < length r.members → label_count (labels_with s.uuid M) (member_at r k).handle ≡ 1) where
      pub at-most-one : AtMostOne r s.uuid M
      at-most-one x in_x =
          let at : HasPlace r x = place-of r x in_x in
          subst (λ (y : Member). label_count (labels_with s.uuid M) y.handle ≤ 1) at.is (elim (cases_lt at.place position) [
            | inl lt ↦ let e : label_count (labels_with s.uuid M) (member_at r at.place).handle ≡ 1 = one at.place lt at.within in omega arith
            | inr le ↦ let e : label_count (labels_with s.uuid M) (member_at r at.place).handle ≡ 0 = none-counted-behind at.place at.within le in omega arith
          ])

      exactly-one : length r.members ≤ position → ExactlyOne r s.uuid M
      exactly-one all x in_x =
          let at : HasPlace r x = place-of r x in_x in
          subst (λ (y : Member). label_count (labels_with s.uuid M) y.handle ≡ 1) at.is (one at.place (omega (arith, at.within, all)) at.within)

      writes : any_read_only r (labels_with s.uuid M) ≡ false
      writes = list_any-never _ r.members (λ x in_x.
          let none : number is_read_only (labels_with s.uuid M x.handle) ≡ 0 = number-none is_read_only (labels_with s.uuid M x.handle) (λ k l is. let at = label_if-some (has s.uuid) _ l is in (all-stale x k l in_x at.0 at.1).1) in
          ap (nat_lt 0) none)

      shown : (slot : ℕ) → space_of r false (label-at 0 slot) ≡ new_space s
      shown slot =
          let at : offset_in r (label-at 0 slot) ≡ s.offset = staged-offset 0 slot in
          λ i. record { uuid = s.uuid; name = s.name; abstraction = s.abstraction; sector = s.sector; offset = at i; length = s.length; read_only = false }

      -- once all modules have theirs the namespace stands
      pub stands : length r.members ≤ position → 0 < length r.members → all_ready r M ≡ true → space M r s.uuid ≡ Some (new_space s)
      stands all some ready = by r.members refl
        where
          by : (ms : List Member) → r.members ≡ ms → space M r s.uuid ≡ Some (new_space s)
          by [] e = absurd (let none : length r.members ≡ 0 = ap length e in omega arith)
          by (x ∷ xs) e =
              let w : is_whole M r s.uuid ≡ true = whole-aligned r s.uuid s.offset s.length M ready all-aligned (exactly-one all) x xs e in
              let led : IsLed r (labels_with s.uuid M) = whole-led r (labels_with s.uuid M) w in
              let lead : IsLeading M r s.uuid (space_of r (any_read_only r (labels_with s.uuid M)) led.lead) x = leading M r s.uuid (space_of r (any_read_only r (labels_with s.uuid M)) led.lead) led.space_is x xs e in
              let first : member_at r 0 ≡ x = ap (λ ms. get_or ms 0 no_member) e in
              let it : IsStagedAt r s position 0 lead.slot lead.label = are 0 lead.slot lead.label some (subst (λ (y : Member). (M y.handle).at lead.slot ≡ Some lead.label) (sym first) lead.is) lead.has_u in
              led.space_is ∙ ap Some (sym lead.shows ∙ (λ i. space_of r (writes i) (it.is i)) ∙ shown lead.slot)
