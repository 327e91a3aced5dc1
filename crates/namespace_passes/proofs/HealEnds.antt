-- The labels of a namespace are healed one after the other, and then it is not pending.
use Rattle.std.proofs.Common.{◌≡◌, ◌≢◌, inl, inr, ℕ, zero, suc, ◌+◌, ◌<◌, ◌≤◌, true, false, not, ◌&&◌, cond, List, [], ◌∷◌, length, Option, Some, None, refl, sym, ap, subst, ◌∙◌, arith}
use Rattle.std.specs.Prelude.{◌==◌, nat_lt}
use Rattle.std.specs.List.{Contains}
use Rattle.std.specs.Option.{option_map, option_map_or}
use Rattle.std.proofs.lemmas.Bool.{and_parts, and_right, cases_eq}
use Rattle.label_codec.specs.declared.label.Label.{Label}
use Rattle.label_codec.specs.Flags.{is_updating}
use Rattle.label_codec.specs.ModuleLabels.{IsBounded, Labels, first, of_uuid}
use Rattle.region_map.specs.declared.platform.Member.{Member}
use Rattle.region_map.specs.declared.platform.Platform.{Platform}
use Rattle.region_map.specs.declared.platform.Region.{Region}
use Rattle.region_map.specs.Platforms.{region_at}
use Rattle.label_table.specs.Belonging.{IsDisjoint, member_at, no_member}
use Rattle.label_table.specs.Fates.{without_slot}
use Rattle.label_table.specs.Flips.{EachLabel, other_labels}
use Rattle.label_table.specs.Spaces.{is_pending}
use Rattle.label_table.specs.Tables.{changed_at, is_member, pending_at, state, table}
use Rattle.label_table.specs.Wholes.{all_ready, any_read_only, any_updating, is_whole, is_whole_after, labels_with, leading_among, leading_label}
use Rattle.label_table.proofs.Equations.{changed_at-same}
use Rattle.label_table.proofs.ListTests.{Contains-get_or, eq_same, list_any-at, list_any-never}
use Rattle.namespace_passes.specs.Labels.{healed, needs_healing}
use Rattle.namespace_passes.specs.Namespaces.{HasHeal, IsAlikeAt, IsHealedTo, IsOpen, IsTurned, label_at}
use Rattle.namespace_passes.proofs.Alike.{well}
use Rattle.namespace_passes.proofs.Leading.{each-label, leading-first, member-named, the-only}

-- before the first turn
pub healed-start : (P : Platform) (r : Region) (u : List ℕ) (lead : Label) (L : Labels) → IsOpen L r u → leading_label r (labels_with u L) ≡ Some lead → IsHealedTo P r u lead 1 L L
healed-start P r u lead L is_open leads = record {
  same_table = refl;
  same_marks = refl;
  stands = is_open;
  leads = leads;
  alike = λ position some below lt. absurd (omega (arith, some, below));
  heal = λ position some below lt. absurd (omega (arith, some, below));
  first = refl;
  left = λ position above lt. refl;
  others = λ handle. refl;
  elsewhere = λ handle away. refl;
}

-- once the position is the number of members
pub healed-all : (P : Platform) (r : Region) (u : List ℕ) (lead : Label) (i : ℕ) (start L : Labels) → length r.members ≤ i → IsHealedTo P r u lead i start L → IsHealedTo P r u lead (length r.members) start L
healed-all P r u lead i start L le to = record {
  same_table = to.same_table;
  same_marks = to.same_marks;
  stands = to.stands;
  leads = to.leads;
  alike = λ j some below lt. to.alike j some (omega (arith, below, le)) lt;
  heal = λ j some below lt. to.heal j some (omega (arith, below, le)) lt;
  first = to.first;
  left = λ j above lt. absurd (omega (arith, above, lt));
  others = to.others;
  elsewhere = to.elsewhere;
}

-- a region with a whole uuid has members
pub some-members : (r : Region) (u : List ℕ) (L : Labels) → is_whole L r u ≡ true → 0 < length r.members
some-members r u L whole = by r.members refl
  where
    by : (ms : List Member) → r.members ≡ ms → 0 < length r.members
    by [] none = absurd (led (leading_label r (labels_with u L)) (ap (λ ms. leading_among ms (labels_with u L)) none) (and_parts (all_ready r L) _ whole).1)
      where
        led : (o : Option Label) → o ≡ None → is_whole_after r (labels_with u L) o ≡ true → ⊥
        led None e t = cc
        led (Some l) e t = cc
    by (x ∷ xs) are = let e : length r.members ≡ suc (length xs) = ap length are in omega (arith, e)

module _ (P : Platform) (disjoint : IsDisjoint P) (r : Region) (r_in : Contains P.regions r) (u : List ℕ) (lead : Label) (start L M : Labels) where
  -- the label at another position stays
  away : (i j : ℕ) → i < length r.members → j < length r.members → j ≢ i → IsTurned P r u lead i L M → labels_with u M (member_at r j).handle ≡ labels_with u L (member_at r j).handle
  away i j i_lt j_lt differ turn = ap (of_uuid u) (turn.confined.others (member_at r j).handle (λ same. differ (disjoint.positions r j i r_in j_lt i_lt same)))

  member : (i : ℕ) → i < length r.members → is_member r (member_at r i).handle ≡ true
  member i lt = list_any-at (λ (y : Member). y.handle == (member_at r i).handle) r.members (member_at r i) (Contains-get_or r.members i no_member lt) (eq_same (member_at r i).handle (member_at r i).handle refl)

  apart : false ≡ true → ⊥
  apart e = cc

  -- all other labels stay
  rest-on : (i : ℕ) → IsTurned P r u lead i L M → (handle : ℕ) → other_labels u (M handle) ≡ other_labels u (L handle)
  rest-on i turn handle = elim (cases_eq handle (member_at r i).handle) [
    | inl e ↦ subst (λ h. other_labels u (M h) ≡ other_labels u (L h)) (sym e) turn.confined.rest
    | inr differ ↦ ap (other_labels u) (turn.confined.others handle differ)
  ]

  outside-on : (i : ℕ) → i < length r.members → IsTurned P r u lead i L M → (handle : ℕ) → is_member r handle ≡ false → M handle ≡ L handle
  outside-on i lt turn handle outside = turn.confined.others handle (λ same. absurd (apart (sym outside ∙ ap (is_member r) same ∙ member i lt)))

  -- a label that was healed, or as it was, then and before
  heal-on : (i j : ℕ) → label_at L r u j ≡ label_at start r u j → HasHeal r u lead j L M → HasHeal r u lead j start M
  heal-on i j same (inl kept) = inl (kept ∙ same)
  heal-on i j same (inr healed_there) = inr (healed_there ∙ ap (option_map (healed lead)) same)

  heal-still : (j : ℕ) → label_at M r u j ≡ label_at L r u j → HasHeal r u lead j start L → HasHeal r u lead j start M
  heal-still j same (inl kept) = inl (same ∙ kept)
  heal-still j same (inr healed_there) = inr (ap (option_map without_slot) same ∙ healed_there)

  -- one turn more
  pub healed-more : (i : ℕ) → 0 < i → i < length r.members → IsHealedTo P r u lead i start L → IsTurned P r u lead i L M → IsHealedTo P r u lead (i + 1) start M
  healed-more i some lt to turn = record {
    same_table = turn.same_table ∙ to.same_table;
    same_marks = turn.same_marks ∙ to.same_marks;
    stands = turn.stands;
    leads = leading-first r (labels_with u M) first_lt ∙ ap first (away i 0 lt first_lt (λ e. absurd (omega (arith, some, e))) turn) ∙ sym (leading-first r (labels_with u L) first_lt) ∙ to.leads;
    alike = λ j j_some below j_lt. elim (cases_eq j i) [
      | inl e ↦ subst (λ k. IsAlikeAt M r u lead k) (sym e) turn.alike
      | inr differ ↦ λ l at. to.alike j j_some (omega (arith, below, differ)) j_lt l (sym (ap first (away i j lt j_lt differ turn)) ∙ at)
    ];
    heal = λ j j_some below j_lt. elim (cases_eq j i) [
      | inl e ↦ subst (λ k. HasHeal r u lead k start M) (sym e) (heal-on i i (to.left i (omega arith) lt) turn.heal)
      | inr differ ↦ heal-still j (ap first (away i j lt j_lt differ turn)) (to.heal j j_some (omega (arith, below, differ)) j_lt)
    ];
    first = ap first (away i 0 lt first_lt (λ e. absurd (omega (arith, some, e))) turn) ∙ to.first;
    left = λ j above j_lt. ap first (away i j lt j_lt (λ e. absurd (omega (arith, above, e))) turn) ∙ to.left j (omega (arith, above)) j_lt;
    others = λ handle. rest-on i turn handle ∙ to.others handle;
    elsewhere = λ handle outside. outside-on i lt turn handle outside ∙ to.elsewhere handle outside;
  }
    where
      first_lt : 0 < length r.members
      first_lt = omega (arith, lt)

  -- after the last turn, that of position 0
  module _ (bounded : IsBounded M) (n : ℕ) (all : n ≡ length r.members) (some : 0 < length r.members) (to : IsHealedTo P r u lead n start L) (turn : IsTurned P r u lead 0 L M) where
    alike-at : (j : ℕ) → j < length r.members → IsAlikeAt M r u lead j
    alike-at zero j_lt = turn.alike
    alike-at (suc j) j_lt = λ l at.
        to.alike (suc j) (omega arith) (omega (arith, j_lt, all)) j_lt l (sym (ap first (away 0 (suc j) some j_lt (λ e. absurd (omega (arith, e))) turn)) ∙ at)

    pub all-alike : EachLabel r u M (λ member label. needs_healing lead label ≡ false)
    all-alike = each-label r u M bounded turn.stands.whole (λ l. needs_healing lead l ≡ false) alike-at

    none-updating : any_updating r (labels_with u M) ≡ false
    none-updating = list_any-never _ r.members (λ y in_r.
        let one = the-only r u M y turn.stands.whole in_r in
        let fine : needs_healing lead one.0 ≡ false = alike-at in_r.0 in_r.1 one.0 (ap (λ (m : Member). first (of_uuid u (M m.handle))) (member-named r y in_r) ∙ one.1.first_is) in
        let still : is_updating one.0 ≡ false = (well lead one.0 fine).still in
        ap (nat_lt 0) (one.1.passes is_updating ∙ (λ i. cond (still i) 1 0)))

    not-pending : is_pending M r u ≡ false
    not-pending =
        (λ i. is_whole M r u && (not (any_read_only r (labels_with u M)) && none-updating i))
        ∙ ap (λ b. is_whole M r u && b) (and_right (not (any_read_only r (labels_with u M))) false refl) ∙ and_right (is_whole M r u) false refl

    pub all-marks : (state P M).pending ≡ changed_at r u false (state P start).pending
    all-marks =
        let found : region_at P r.index ≡ Some r = disjoint.indexes r r_in in
        let here : pending_at P M r.index u ≡ false = (λ i. option_map_or (λ q. is_pending M q u) (found i) false) ∙ not-pending in
        sym (changed_at-same r u false (state P M).pending here) ∙ turn.same_marks ∙ to.same_marks

    pub all-heal : (j : ℕ) → j < length r.members → HasHeal r u lead j start M
    all-heal zero j_lt = heal-on 0 0 to.first turn.heal
    all-heal (suc j) j_lt = heal-still (suc j) (ap first (away 0 (suc j) some j_lt (λ e. absurd (omega (arith, e))) turn)) (to.heal (suc j) (omega arith) (omega (arith, j_lt, all)) j_lt)

    pub all-others : (handle : ℕ) → other_labels u (M handle) ≡ other_labels u (start handle)
    all-others handle = rest-on 0 turn handle ∙ to.others handle

    pub all-elsewhere : (handle : ℕ) → is_member r handle ≡ false → M handle ≡ start handle
    all-elsewhere handle outside = outside-on 0 some turn handle outside ∙ to.elsewhere handle outside

    pub all-table : table P M ≡ table P start
    all-table = turn.same_table ∙ to.same_table
