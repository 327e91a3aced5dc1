-- The labels of a namespace are freed one after the other: by the first it is gone, and the others are dead then.
use Rattle.std.proofs.Common.{◌≡◌, ◌≢◌, inl, inr, ℕ, zero, suc, ◌+◌, ◌<◌, ◌≤◌, true, false, List, length, Some, refl, sym, ap, subst, ◌∙◌, arith}
use Rattle.std.specs.Prelude.{◌==◌}
use Rattle.std.specs.List.{Contains}
use Rattle.std.proofs.lemmas.Bool.{and_parts, cases_eq, cases_lt}
use Rattle.label_codec.specs.declared.label.Label.{Label}
use Rattle.label_codec.specs.ModuleLabels.{IsBounded, Labels, Module, has, number, of_uuid}
use Rattle.region_map.specs.declared.platform.Member.{Member}
use Rattle.region_map.specs.declared.platform.Platform.{Platform}
use Rattle.region_map.specs.declared.platform.Region.{Region}
use Rattle.label_table.specs.Belonging.{IsDisjoint, member_at, no_member}
use Rattle.label_table.specs.Flips.{AllStale, HasNone, IsConfined, other_labels}
use Rattle.label_table.specs.Tables.{is_member, state, without_namespace}
use Rattle.label_table.specs.Wholes.{all_ready, any_label, is_whole, label_count, labels_with}
use Rattle.label_table.proofs.Confined.{IsConfined-sym, number-none, ready-any, whole-count, whole-mine}
use Rattle.label_table.proofs.Leaving.{label_if-some}
use Rattle.label_table.proofs.ListTests.{Contains-get_or, both, eq_same, list_any-at, never}
use Rattle.label_table.proofs.Losing.{freed-state}
use Rattle.label_table.proofs.Staging.{staged-kept}
use Rattle.region_labels.specs.declared.modules.LoadedModule.{LoadedModule}
use Rattle.region_labels.specs.declared.region.RegionLabels.{RegionLabels}
use Rattle.region_labels.specs.Fates.{platform_of}
use Rattle.region_labels.specs.Modules.{labels_in}
use Rattle.namespace_passes.proofs.Leading.{member-named}
use Rattle.namespace_passes.specs.Dropping.{IsBeforeOrLost, IsBeforeOrWithout, IsKeptOrGone, LosesLabel}
use Rattle.namespace_passes.specs.Healing.{HasOneAt}

-- The modules at the positions below one have lost their labels of the namespace, and those from there on are as they
-- were, and so are all others.
pub record IsDroppedTo (P : Platform) (r : Region) (u : List ℕ) (end : ℕ) (before after : Labels) : Type 0 where
  pub start : end ≡ 0 → after ≡ before
  pub gone : 0 < end → state P after ≡ without_namespace r u (state P before)
  pub ready : all_ready r after ≡ true
  pub none : (k : ℕ) → k < end → k < length r.members → HasNone u (after (member_at r k).handle)
  pub left : (k : ℕ) → end ≤ k → k < length r.members → after (member_at r k).handle ≡ before (member_at r k).handle
  pub others : (handle : ℕ) → other_labels u (after handle) ≡ other_labels u (before handle)
  pub elsewhere : (handle : ℕ) → is_member r handle ≡ false → after handle ≡ before handle

-- before the first turn
pub dropped-start : (P : Platform) (r : Region) (u : List ℕ) (L : Labels) → is_whole L r u ≡ true → IsDroppedTo P r u 0 L L
dropped-start P r u L whole = record {
  start = λ e. refl;
  gone = λ some. absurd (omega (arith, some));
  ready = (and_parts _ _ whole).0;
  none = λ k below lt. absurd (omega (arith, below));
  left = λ k above lt. refl;
  others = λ handle. refl;
  elsewhere = λ handle away. refl;
}

-- at each moment the state is one of two
pub either-state : (P : Platform) (r : Region) (u : List ℕ) (end : ℕ) (start L : Labels) → IsDroppedTo P r u end start L → IsBeforeOrWithout P r u start L
either-state P r u zero start L to = inl (ap (state P) (to.start refl))
either-state P r u (suc end) start L to = inr (to.gone (omega arith))

-- a module without a label of the uuid has none to count
none-counted : (u : List ℕ) (L : Labels) (h : ℕ) → HasNone u (L h) → label_count (labels_with u L) h ≡ 0
none-counted u L h none = number-none any_label (of_uuid u (L h)) (λ k l is. let there = label_if-some (has u) ((L h).at k) l is in never (has u l) there.1 (none k l there.0))

module _ (P : Platform) (disjoint : IsDisjoint P) (r : Region) (r_in : Contains P.regions r) (u : List ℕ) (start : Labels) (bounded_start : IsBounded start) (whole : is_whole start r u ≡ true) (stale : AllStale r u start)
    (L : Labels) (bounded : IsBounded L) (i : ℕ) (lt : i < length r.members) (to : IsDroppedTo P r u i start L) where
  abbrev z : Member
  z = member_at r i

  z_in : Contains r.members z
  z_in = Contains-get_or r.members i no_member lt

  -- the module has its label still
  pub one-there : HasOneAt L r u i
  one-there = ap (λ (N : Module). number any_label (of_uuid u N)) (to.left i (omega arith) lt) ∙ whole-count r u start z whole z_in

  -- a label of the namespace that stands stood before
  stood : (y : Member) → Contains r.members y → (k : ℕ) (l : Label) → (L y.handle).at k ≡ Some l → has u l ≡ true → (start y.handle).at k ≡ Some l
  stood y y_in k l at h =
      let named : member_at r y_in.0 ≡ y = member-named r y y_in in
      elim (cases_lt y_in.0 i) [
        | inl below ↦ never (has u l) h (to.none y_in.0 below y_in.1 k l (ap (λ (m : Member). (L m.handle).at k) named ∙ at))
        | inr above ↦ sym (ap (λ (m : Member). (start m.handle).at k) named) ∙ sym (ap (λ (N : Module). N.at k) (to.left y_in.0 above y_in.1)) ∙ ap (λ (m : Member). (L m.handle).at k) named ∙ at
      ]

  few : (y : Member) → Contains r.members y → label_count (labels_with u L) y.handle ≤ 1
  few y y_in =
      let named : member_at r y_in.0 ≡ y = member-named r y y_in in
      elim (cases_lt y_in.0 i) [
        | inl below ↦
            let zero_there : label_count (labels_with u L) (member_at r y_in.0).handle ≡ 0 = none-counted u L (member_at r y_in.0).handle (to.none y_in.0 below y_in.1) in
            subst (λ (m : Member). label_count (labels_with u L) m.handle ≤ 1) named (omega (arith, zero_there))
        | inr above ↦
            let one : label_count (labels_with u start) y.handle ≡ 1 = whole-count r u start y whole y_in in
            let same : label_count (labels_with u L) (member_at r y_in.0).handle ≡ label_count (labels_with u start) (member_at r y_in.0).handle = ap (λ (N : Module). number any_label (of_uuid u N)) (to.left y_in.0 above y_in.1) in
            let here : label_count (labels_with u L) y.handle ≡ label_count (labels_with u start) y.handle = subst (λ (m : Member). label_count (labels_with u L) m.handle ≡ label_count (labels_with u start) m.handle) named same in
            omega (arith, one, here)
      ]

  -- behind the first it is not whole
  not_whole : 0 < i → is_whole L r u ≡ false
  not_whole some = elim (both (is_whole L r u)) [
    | inl w ↦
        let first_lt : 0 < length r.members = omega (arith, lt) in
        let one : label_count (labels_with u L) (member_at r 0).handle ≡ 1 = whole-count r u L (member_at r 0) w (Contains-get_or r.members 0 no_member first_lt) in
        let zero_there : label_count (labels_with u L) (member_at r 0).handle ≡ 0 = none-counted u L (member_at r 0).handle (to.none 0 some first_lt) in
        absurd (omega (arith, one, zero_there))
    | inr n ↦ n
  ]

  module _ (M : Labels) (lost : LosesLabel r u i L M) where
    -- by the first label the namespace is gone
    first-gone : L ≡ start → state P M ≡ without_namespace r u (state P start)
    first-gone same = freed-state P r u z start M (record {
      disjoint = disjoint;
      bounded = bounded_start;
      region_in = r_in;
      member_in = z_in;
      confined = subst (λ (N : Labels). IsConfined u z.handle N M) same lost.confined;
      whole = whole;
      stale = stale;
      none = lost.none;
    })

    -- and the others were dead
    next-gone : 0 < i → state P M ≡ without_namespace r u (state P start)
    next-gone some = sym (staged-kept P r u z M L (record {
      disjoint = disjoint;
      bounded = bounded;
      region_in = r_in;
      member_in = z_in;
      confined = IsConfined-sym u z.handle L M lost.confined;
      none = lost.none;
      all_there = to.ready;
      stale = λ y k l y_in at h. stale y k l y_in (stood y y_in k l at h) h;
      mine = λ y k l y_in at h. whole-mine r u start y whole y_in bounded_start k l (stood y y_in k l at h) h;
      few = few;
    }) (not_whole some)) ∙ to.gone some

    pub gone-next : state P M ≡ without_namespace r u (state P start)
    gone-next = elim (cases_lt 0 i) [
      | inl some ↦ next-gone some
      | inr none ↦ first-gone (to.start (omega (arith, none)))
    ]

    -- one turn more
    pub dropped-more : IsDroppedTo P r u (i + 1) start M
    dropped-more = record {
      start = λ e. absurd (omega (arith, e));
      gone = λ some. gone-next;
      ready = ready-any u z.handle L M lost.confined r ∙ to.ready;
      none = λ k below k_lt. elim (cases_eq k i) [
        | inl e ↦ subst (λ j. HasNone u (M (member_at r j).handle)) (sym e) lost.none
        | inr differ ↦ subst (HasNone u) (sym (away k k_lt differ)) (to.none k (omega (arith, below, differ)) k_lt)
      ];
      left = λ k above k_lt. away k k_lt (λ e. absurd (omega (arith, above, e))) ∙ to.left k (omega (arith, above)) k_lt;
      others = λ handle. elim (cases_eq handle z.handle) [
        | inl e ↦ subst (λ h. other_labels u (M h) ≡ other_labels u (L h)) (sym e) lost.confined.rest ∙ to.others handle
        | inr differ ↦ ap (other_labels u) (lost.confined.others handle differ) ∙ to.others handle
      ];
      elsewhere = λ handle outside. lost.confined.others handle (λ same. absurd (apart (sym outside ∙ ap (is_member r) same ∙ member))) ∙ to.elsewhere handle outside;
    }
      where
        apart : false ≡ true → ⊥
        apart e = cc

        member : is_member r z.handle ≡ true
        member = list_any-at (λ (y : Member). y.handle == z.handle) r.members z z_in (eq_same z.handle z.handle refl)

        away : (k : ℕ) → k < length r.members → k ≢ i → M (member_at r k).handle ≡ L (member_at r k).handle
        away k k_lt differ = lost.confined.others (member_at r k).handle (λ same. differ (disjoint.positions r k i r_in k_lt lt same))

  -- what a stop within the turn leaves
  pub turn-state : (M : Labels) → IsBeforeOrLost r u i L M → IsBeforeOrWithout P r u start M
  turn-state M (inl same) = subst (λ (N : Labels). IsBeforeOrWithout P r u start N) (sym same) (either-state P r u i start L to)
  turn-state M (inr lost) = inr (gone-next M lost)

-- once all have lost theirs
pub none-left : (P : Platform) (r : Region) (u : List ℕ) (end : ℕ) (start L : Labels) → length r.members ≤ end → IsDroppedTo P r u end start L → (y : Member) → Contains r.members y → HasNone u (L y.handle)
none-left P r u end start L all to y y_in =
    subst (λ (m : Member). HasNone u (L m.handle)) (member-named r y y_in) (to.none y_in.0 (omega (arith, all, y_in.1)) y_in.1)

-- where the turn fails, all is as it was, or the namespace is gone
pub kept-or-gone : (ms : List LoadedModule) (rs : List RegionLabels) (r : Region) (u : List ℕ) (i : ℕ) → i < length r.members → (mid now : List LoadedModule)
    → IsDroppedTo (platform_of rs) r u i (labels_in ms) (labels_in mid) → (i ≡ 0 → mid ≡ ms) → now ≡ mid → IsKeptOrGone ms rs r u now
kept-or-gone ms rs r u i lt mid now to start kept = elim (cases_lt 0 i) [
  | inl some ↦ inr (record {
    state_is = ap (λ (xs : List LoadedModule). state (platform_of rs) (labels_in xs)) kept ∙ to.gone some;
    first = subst (λ (xs : List LoadedModule). HasNone u (labels_in xs (member_at r 0).handle)) (sym kept) (to.none 0 some (omega (arith, lt)));
  })
  | inr none ↦ inl (kept ∙ start (omega (arith, none)))
]
