-- A staged label comes into a free slot of the module at its position.
use Rattle.std.proofs.Common.{◌≡◌, ◌≢◌, inl, inr, ℕ, ◌+◌, ◌≤◌, ◌<◌, Bool, true, false, cond, [], length, Some, None, refl, sym, ap, subst, ◌∙◌, arith}
use Rattle.std.specs.Prelude.{◌==◌}
use Rattle.std.specs.List.{All, Contains}
use Rattle.std.proofs.lemmas.Bool.{cases_eq, cases_lt}
use Rattle.view_types.specs.declared.namespaces.Namespace.{Namespace}
use Rattle.label_codec.specs.declared.label.Label.{Label}
use Rattle.label_codec.specs.ModuleChanges.{with_label, with_module, without_slots}
use Rattle.label_codec.specs.ModuleLabels.{IsBounded, Labels, Module, has, label_if, of_uuid, one}
use Rattle.label_codec.proofs.Counting.{count-change, one-some}
use Rattle.region_map.specs.declared.platform.Member.{Member}
use Rattle.region_map.specs.declared.platform.Region.{Region}
use Rattle.region_map.specs.declared.platform.Platform.{Platform}
use Rattle.label_area.specs.Flips.{at_slot, is_among}
use Rattle.label_table.specs.Belonging.{IsDisjoint, member_at}
use Rattle.label_table.specs.Division.{part_size}
use Rattle.label_table.specs.Flips.{AddsOne, HasNone, IsConfined}
use Rattle.label_table.specs.Spaces.{space}
use Rattle.label_table.specs.Tables.{State, state, with_namespace}
use Rattle.label_table.specs.Wholes.{all_ready, any_label, label_count, labels_with}
use Rattle.label_table.proofs.Confined.{ready-any}
use Rattle.label_table.proofs.Leaving.{label_if-passes}
use Rattle.label_table.proofs.Listed.{space-whole}
use Rattle.label_table.proofs.ListTests.{eq_other, eq_same, eq_true, some_is, uuid_same}
use Rattle.label_table.proofs.OneFlip.{confined-by, put-other, with_label-bounded, with_module-bounded, with_module-here, with_module-other}
use Rattle.label_table.proofs.Staging.{staged-gains, staged-kept}
use Rattle.region_labels.proofs.FreeSpace.{completed}
use Rattle.namespace_passes.specs.Staged.{HasGained, IsBeforeOrWith, IsStagedAt, IsStagedTo, new_space, staged_label}
use Rattle.namespace_passes.proofs.Members.{handles-differ, member-in}
use Rattle.namespace_passes.proofs.StagedLabels.{all-mine, all-stale, at-most-one, none-behind, none-counted, not-whole, stands}

-- the state is that before, or with the namespace
pub fits-staged : (P : Platform) (r : Region) (s : Namespace) (start : Labels) (position : ℕ) (L : Labels) → IsStagedTo P r s start position L → IsBeforeOrWith P r (new_space s) start L
fits-staged P r s start position L st = elim (cases_lt position (length r.members)) [
  | inl lt ↦ inl (st.same lt)
  | inr le ↦ inr (st.gained le).state_is
]

-- before the first label
pub none-staged : (P : Platform) (r : Region) (s : Namespace) (start : Labels) → IsBounded start → all_ready r start ≡ true → 0 < length r.members
    → ((k : ℕ) → k < length r.members → HasNone s.uuid (start (member_at r k).handle)) → IsStagedTo P r s start 0 start
none-staged P r s start bounded ready some fresh = record {
  bounded = bounded;
  ready = ready;
  are = λ k slot l lt is h. absurd (apart (sym h ∙ fresh k lt slot l is));
  one = λ k lt in_r. absurd (omega arith);
  same = λ lt. refl;
  gained = λ le. absurd (omega arith);
}
  where
    apart : true ≡ false → ⊥
    apart e = cc

module _ (P : Platform) (disjoint : IsDisjoint P) (r : Region) (in_P : Contains P.regions r) (s : Namespace) (sizes : All (λ (m : Member). m.size ≡ part_size r) r.members) (fits : s.offset + s.length ≤ part_size r) (long : 0 < s.length)
    (start : Labels) (i : ℕ) (lt : i < length r.members) (L : Labels) (st : IsStagedTo P r s start i L) (slot : ℕ) (slot_lt : slot < (L (member_at r i).handle).slots) (was_free : (L (member_at r i).handle).at slot ≡ None) where
  abbrev here : ℕ
  here = (member_at r i).handle

  abbrev new : Label
  new = at_slot slot (staged_label r s i)

  abbrev between : Module
  between = without_slots (is_among []) (L here)

  abbrev area : Module
  area = with_label slot new between

  abbrev after : Labels
  after = with_module here area L

  at-here : after here ≡ area
  at-here = with_module-here here area L

  elsewhere : (h : ℕ) → h ≢ here → after h ≡ L h
  elsewhere h differ = with_module-other here area L h differ

  confined : IsConfined s.uuid here L after
  confined = confined-by s.uuid here area L (put-other s.uuid between slot new was_free (uuid_same s.uuid))

  none-here : HasNone s.uuid (L here)
  none-here = none-behind r s sizes fits long i L st.are i lt (omega arith)

  bounded : IsBounded after
  bounded = with_module-bounded L st.bounded here area (with_label-bounded between slot new slot_lt (st.bounded.past here))

  ready : all_ready r after ≡ true
  ready = ready-any s.uuid here L after confined r ∙ st.ready

  -- what stands in the slots of the module
  in-area : (k : ℕ) (l : Label) → area.at k ≡ Some l → has s.uuid l ≡ true → IsStagedAt r s (i + 1) i k l
  in-area k l is h = by (k == slot) refl is
    where
      by : (b : Bool) → (k == slot) ≡ b → cond b (Some new) (between.at k) ≡ Some l → IsStagedAt r s (i + 1) i k l
      by true e at = record { below = omega arith; is = sym (some_is at) ∙ ap (λ j. at_slot j (staged_label r s i)) (sym (eq_true k slot e)) }
      by false e at = absurd (let below : i < i = (st.are i k l lt at h).below in omega arith)

  are : (k at : ℕ) (l : Label) → k < length r.members → (after (member_at r k).handle).at at ≡ Some l → has s.uuid l ≡ true → IsStagedAt r s (i + 1) k at l
  are k at l k_lt is h = elim (cases_eq k i) [
    | inl e ↦ subst (λ j. IsStagedAt r s (i + 1) j at l) (sym e) (in-area at l (sym (ap (λ (m : Module). m.at at) at-here) ∙ subst (λ j. (after (member_at r j).handle).at at ≡ Some l) e is) h)
    | inr differ ↦
        let same : after (member_at r k).handle ≡ L (member_at r k).handle = elsewhere (member_at r k).handle (handles-differ P disjoint r in_P k i k_lt lt differ) in
        let it : IsStagedAt r s i k at l = st.are k at l k_lt (sym (ap (λ (m : Module). m.at at) same) ∙ is) h in
        record { below = (let less : k < i = it.below in omega arith); is = it.is }
  ]

  one-here : label_count (labels_with s.uuid after) here ≡ 1
  one-here =
      let change = count-change any_label any_label (of_uuid s.uuid (L here)).at (of_uuid s.uuid area).at slot (L here).slots slot_lt (λ k k_lt differ.
      let f : (k == slot) ≡ false = eq_other k slot differ in
      λ j. one any_label (label_if (has s.uuid) (cond (sym f j) (Some new) ((L here).at k)))) in
      let none : label_count (labels_with s.uuid L) here ≡ 0 = none-counted s.uuid L here none-here in
      let was : one any_label (label_if (has s.uuid) ((L here).at slot)) ≡ 0 = ap (λ o. one any_label (label_if (has s.uuid) o)) was_free in
      let there : area.at slot ≡ Some new = (λ j. cond (eq_same slot slot refl j) (Some new) (between.at slot)) in
      let now : one any_label (label_if (has s.uuid) (area.at slot)) ≡ 1 = one-some any_label (label_if (has s.uuid) (area.at slot)) new (label_if-passes (has s.uuid) (area.at slot) new there (uuid_same s.uuid)) refl in
      let counts : label_count (labels_with s.uuid after) here ≡ label_count (λ h. of_uuid s.uuid area) here = ap (λ (m : Module). label_count (λ h. of_uuid s.uuid m) here) at-here in
      omega (arith, change, none, was, now, counts)

  one-each : (k : ℕ) → k < i + 1 → k < length r.members → label_count (labels_with s.uuid after) (member_at r k).handle ≡ 1
  one-each k k_lt in_r = elim (cases_eq k i) [
    | inl e ↦ subst (λ j. label_count (labels_with s.uuid after) (member_at r j).handle ≡ 1) (sym e) one-here
    | inr differ ↦
        let same : after (member_at r k).handle ≡ L (member_at r k).handle = elsewhere (member_at r k).handle (handles-differ P disjoint r in_P k i in_r lt differ) in
        ap (λ (m : Module). label_count (λ h. of_uuid s.uuid m) here) same ∙ st.one k (omega arith) in_r
  ]

  adds : AddsOne P r s.uuid (member_at r i) L after
  adds = record {
    disjoint = disjoint;
    bounded = bounded;
    region_in = in_P;
    member_in = member-in r i lt;
    confined = confined;
    none = none-here;
    all_there = ready;
    stale = all-stale r s sizes fits long (i + 1) after are;
    mine = all-mine r s sizes fits long (i + 1) after are;
    few = at-most-one r s sizes fits long (i + 1) after are one-each;
  }

  gained : length r.members ≤ i + 1 → HasGained P r s start after
  gained all =
      let is : space after r s.uuid ≡ Some (new_space s) = stands r s sizes fits long (i + 1) after are one-each all (omega arith) ready in
      let so_far : state P L ≡ state P start = st.same lt in
      record {
        state_is = staged-gains P r s.uuid (member_at r i) L after adds (new_space s) (space-whole after r s.uuid (new_space s) is) refl is ∙ ap (with_namespace r (new_space s)) so_far;
        gains = completed P r s.uuid (member_at r i) start L after (new_space s) (ap (λ (t : State). t.table) so_far) adds is;
      }

  -- The labels up to the position are staged then.
  pub step : IsStagedTo P r s start (i + 1) after
  step = record {
    bounded = bounded;
    ready = ready;
    are = are;
    one = one-each;
    same = λ next. staged-kept P r s.uuid (member_at r i) L after adds (not-whole r s sizes fits long (i + 1) after are next) ∙ st.same lt;
    gained = gained;
  }
