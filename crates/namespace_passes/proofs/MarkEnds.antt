-- The labels of a namespace are marked one after the other, and then it is pending.
use Rattle.std.proofs.Common.{◌≡◌, ◌≢◌, inl, inr, ℕ, ◌+◌, ◌<◌, ◌≤◌, true, false, not, ◌&&◌, cond, List, length, Option, Some, None, refl, sym, ap, subst, ◌∙◌, arith}
use Rattle.std.specs.Prelude.{◌==◌, nat_lt, option_map}
use Rattle.std.specs.List.{Contains}
use Rattle.std.specs.Option.{option_map_or}
use Rattle.std.proofs.lemmas.Bool.{cases_eq}
use Rattle.label_codec.specs.declared.label.Label.{Label}
use Rattle.label_codec.specs.Flags.{is_read_only, is_updating}
use Rattle.label_codec.specs.ModuleLabels.{IsBounded, Labels, first, of_uuid}
use Rattle.region_map.specs.declared.platform.Member.{Member}
use Rattle.region_map.specs.declared.platform.Platform.{Platform}
use Rattle.region_map.specs.declared.platform.Region.{Region}
use Rattle.region_map.specs.Platforms.{region_at}
use Rattle.label_table.specs.Belonging.{IsDisjoint, member_at, no_member}
use Rattle.label_table.specs.Fates.{without_slot}
use Rattle.label_table.specs.Flips.{AllStale, other_labels}
use Rattle.label_table.specs.Spaces.{is_pending}
use Rattle.label_table.specs.Tables.{changed_at, is_member, pending_at, state}
use Rattle.label_table.specs.Wholes.{any_updating, labels_with}
use Rattle.label_table.proofs.Equations.{changed_at-same, changed_at-twice}
use Rattle.label_table.proofs.ListTests.{Contains-get_or, eq_same, list_any-at, some_is}
use Rattle.namespace_passes.specs.Namespaces.{IsOpen, label_at}
use Rattle.namespace_passes.proofs.HealEnds.{some-members}
use Rattle.namespace_passes.proofs.Leading.{each-label, only-of, only-writable, the-only}
use Rattle.namespace_passes.specs.MarkedLabels.{marked}
use Rattle.namespace_passes.specs.Marking.{HasMark, IsMarkedAt, IsMarkedTo}
use Rattle.namespace_passes.proofs.Marks.{is-updating}

-- before the first turn
pub marked-start : (P : Platform) (r : Region) (u : List ℕ) (L : Labels) → IsOpen L r u → IsMarkedTo P r u 0 L L
marked-start P r u L is_open = record {
  same_table = refl;
  same_marks = refl;
  stands = is_open;
  mark = λ position below lt. absurd (omega (arith, below));
  left = λ position above lt. refl;
  others = λ handle. refl;
  elsewhere = λ handle away. refl;
}

module _ (P : Platform) (disjoint : IsDisjoint P) (r : Region) (r_in : Contains P.regions r) (u : List ℕ) (start L M : Labels) where
  -- one turn more
  pub marked-more : (i : ℕ) → i < length r.members → IsMarkedTo P r u i start L → IsMarkedAt P r u i L M → IsMarkedTo P r u (i + 1) start M
  marked-more i lt to turn = record {
    same_table = turn.same_table ∙ to.same_table;
    same_marks = turn.same_marks ∙ to.same_marks;
    stands = turn.stands;
    mark = λ j below j_lt. elim (cases_eq j i) [
      | inl e ↦ subst (λ k. HasMark r u k start M) (sym e) (turn.mark ∙ ap (option_map marked) (to.left i (omega arith) lt))
      | inr differ ↦ ap (option_map without_slot) (away j j_lt differ) ∙ to.mark j (omega (arith, below, differ)) j_lt
    ];
    left = λ j above j_lt. away j j_lt (λ e. absurd (omega (arith, above, e))) ∙ to.left j (omega (arith, above)) j_lt;
    others = λ handle. elim (cases_eq handle (member_at r i).handle) [
      | inl e ↦ subst (λ h. other_labels u (M h) ≡ other_labels u (L h)) (sym e) turn.confined.rest ∙ to.others handle
      | inr differ ↦ ap (other_labels u) (turn.confined.others handle differ) ∙ to.others handle
    ];
    elsewhere = λ handle outside. turn.confined.others handle (λ same. absurd (apart (sym outside ∙ ap (is_member r) same ∙ member))) ∙ to.elsewhere handle outside;
  }
    where
      apart : false ≡ true → ⊥
      apart e = cc

      member : is_member r (member_at r i).handle ≡ true
      member = list_any-at (λ (y : Member). y.handle == (member_at r i).handle) r.members (member_at r i) (Contains-get_or r.members i no_member lt) (eq_same (member_at r i).handle (member_at r i).handle refl)

      away : (j : ℕ) → j < length r.members → j ≢ i → label_at M r u j ≡ label_at L r u j
      away j j_lt differ = ap (λ N. first (of_uuid u N)) (turn.confined.others (member_at r j).handle (λ same. differ (disjoint.positions r j i r_in j_lt lt same)))

module _ (P : Platform) (disjoint : IsDisjoint P) (r : Region) (r_in : Contains P.regions r) (u : List ℕ) (start M : Labels) (bounded : IsBounded M) (end : ℕ) (all : length r.members ≤ end) (to : IsMarkedTo P r u end start M) where
  pub all-marked : (position : ℕ) → position < length r.members → HasMark r u position start M
  all-marked position lt = to.mark position (omega (arith, all, lt)) lt

  updating-at : (position : ℕ) → position < length r.members → (l : Label) → label_at M r u position ≡ Some l → is_updating l ≡ true
  updating-at position lt l at = by (label_at start r u position) (ap (option_map without_slot) (sym at) ∙ all-marked position lt)
    where
      by : (o : Option Label) → Some (without_slot l) ≡ option_map marked o → is_updating l ≡ true
      by None e = absurd cc
      by (Some own) e = ap is_updating (some_is e) ∙ is-updating own.name own

  pub all-stale : AllStale r u M
  all-stale = each-label r u M bounded to.stands.whole (λ l. (is_updating l ≡ true) × (is_read_only l ≡ false)) (λ position lt l at.
      let there = Contains-get_or r.members position no_member lt in
      (updating-at position lt l at, only-writable r u M (member_at r position) l to.stands.writable there (only-of r u M (member_at r position) l to.stands.whole there at)))

  any-updating : any_updating r (labels_with u M) ≡ true
  any-updating =
      let some = some-members r u M to.stands.whole in
      let first_in : Contains r.members (member_at r 0) = Contains-get_or r.members 0 no_member some in
      let one = the-only r u M (member_at r 0) to.stands.whole first_in in
      let up = updating-at 0 some one.0 one.1.first_is in
      list_any-at _ r.members (member_at r 0) first_in (ap (nat_lt 0) (one.1.passes is_updating ∙ (λ i. cond (up i) 1 0)))

  is-pending : is_pending M r u ≡ true
  is-pending = λ i. to.stands.whole i && (not (to.stands.writable i) && any-updating i)

  pub all-marks : (state P M).pending ≡ changed_at r u true (state P start).pending
  all-marks =
      let found : region_at P r.index ≡ Some r = disjoint.indexes r r_in in
      let here : pending_at P M r.index u ≡ true = (λ i. option_map_or (λ q. is_pending M q u) (found i) false) ∙ is-pending in
      sym (changed_at-same r u true (state P M).pending here)
      ∙ sym (changed_at-twice r u true false (state P M).pending)
      ∙ ap (changed_at r u true) to.same_marks
      ∙ changed_at-twice r u true false (state P start).pending
