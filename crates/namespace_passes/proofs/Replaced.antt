-- A label of a namespace is replaced by one that belongs there at the same offset. The namespace stands where the sizes
-- agree, and the marks of all others are kept.
use Rattle.std.proofs.Common.{◌≡◌, ◌≢◌, inl, inr, ℕ, ◌<◌, Bool, true, false, not, ◌&&◌, cond, List, length, Some, None, refl, sym, ap, subst, ◌∙◌, arith}
use Rattle.std.specs.Prelude.{◌==◌, ◌||◌, nat_lt}
use Rattle.std.specs.List.{Contains, list_all}
use Rattle.std.proofs.lemmas.Bool.{and_parts, cases_eq}
use Rattle.label_codec.specs.declared.label.Label.{Label}
use Rattle.label_codec.specs.Flags.{is_read_only, is_updating}
use Rattle.label_codec.specs.ModuleChanges.{with_module}
use Rattle.label_codec.specs.ModuleLabels.{IsBounded, Labels, Module, first, has, is_ready, number, of_uuid}
use Rattle.region_map.specs.declared.platform.Member.{Member}
use Rattle.region_map.specs.declared.platform.Platform.{Platform}
use Rattle.region_map.specs.declared.platform.Region.{Region}
use Rattle.label_table.specs.Belonging.{IsDisjoint, belongs, member_at, no_member, offset_in}
use Rattle.label_table.specs.Flips.{IsConfined, ReplacesOne}
use Rattle.label_table.specs.Plain.{HasOnly}
use Rattle.label_table.specs.Spaces.{Space, is_pending, space, space_if, space_of}
use Rattle.label_table.specs.Tables.{State, changed_at, state}
use Rattle.label_table.specs.Wholes.{agrees, all_ready, any_label, any_read_only, has_one, has_size, is_whole, is_whole_after, labels_with, leading_label, sizes_agree}
use Rattle.label_table.proofs.Changing.{replaced-state}
use Rattle.label_table.proofs.Confined.{kind-same}
use Rattle.label_table.proofs.Equations.{changed_at-twice}
use Rattle.label_table.proofs.ListTests.{Contains-get_or, eq_true, list_all-at, list_all-from, list_all-same, list_any-never, list_any-none, some_is}
use Rattle.label_table.proofs.OneFlip.{confined-by, with_module-bounded, with_module-here, with_module-other}
use Rattle.label_table.proofs.OnlyLabels.{only-passes}
use Rattle.label_table.proofs.Order.{space-uuid}
use Rattle.namespace_passes.specs.Namespaces.{IsOpen}
use Rattle.namespace_passes.proofs.Leading.{leading-first, only-of, only-writable}
use Rattle.namespace_passes.proofs.Replacing as module_after

-- A namespace of a region that is not read-only, the label of position 0, and a position.
pub record IsLedAt (P : Platform) (r : Region) (u : List ℕ) (L : Labels) (lead : Label) (position : ℕ) : Type 0 where
  pub disjoint : IsDisjoint P
  pub region_in : Contains P.regions r
  pub bounded : IsBounded L
  pub stands : IsOpen L r u
  pub leads : leading_label r (labels_with u L) ≡ Some lead
  pub within : position < length r.members

-- Its label in a slot of the module there, and another slot that is free.
pub record HasPlaces (r : Region) (u : List ℕ) (L : Labels) (position old slot : ℕ) (own : Label) : Type 0 where
  pub within : old < (L (member_at r position).handle).slots
  pub is : (L (member_at r position).handle).at old ≡ Some own
  pub has_own : has u own ≡ true
  pub only : HasOnly u (L (member_at r position).handle) own
  pub slot_within : slot < (L (member_at r position).handle).slots
  pub free : (L (member_at r position).handle).at slot ≡ None

-- A label that may come there in its place.
pub record IsReplacedBy (r : Region) (u : List ℕ) (L : Labels) (position old slot : ℕ) (own new : Label) : Type 0 where
  pub places : HasPlaces r u L position old slot own
  pub has_new : has u new ≡ true
  pub offset : offset_in r new ≡ offset_in r own
  pub writable : is_read_only new ≡ is_read_only own

or-true : (a : Bool) → a || true ≡ true
or-true true = refl
or-true false = refl

or-false : (a : Bool) → a || false ≡ true → a ≡ true
or-false true e = refl
or-false false e = absurd cc

module _ (P : Platform) (r : Region) (u : List ℕ) (L : Labels) (lead : Label) (position : ℕ) (led : IsLedAt P r u L lead position) where
  pub some_members : 0 < length r.members
  some_members = let lt = led.within in omega (arith, lt)

  abbrev pub x : Member
  x = member_at r position

  abbrev pub x0 : Member
  x0 = member_at r 0

  pub x_in : Contains r.members x
  x_in = Contains-get_or r.members position no_member led.within

  pub x0_in : Contains r.members x0
  x0_in = Contains-get_or r.members 0 no_member some_members

  before-parts : (list_all (has_one r lead (labels_with u L)) r.members ≡ true) × (sizes_agree r lead (labels_with u L) ≡ true)
  before-parts =
      let after : is_whole_after r (labels_with u L) (leading_label r (labels_with u L)) ≡ true = (and_parts (all_ready r L) _ led.stands.whole).1 in
      and_parts (list_all (has_one r lead (labels_with u L)) r.members) _ (subst (λ o. is_whole_after r (labels_with u L) o ≡ true) led.leads after)

  one-before : (y : Member) → Contains r.members y → has_one r lead (labels_with u L) y ≡ true
  one-before y in_r = list_all-at (has_one r lead (labels_with u L)) r.members y before-parts.0 in_r

  agrees-before : (y : Member) (l : Label) → Contains r.members y → HasOnly u (L y.handle) l → agrees r lead y.handle l ≡ true
  agrees-before y l in_r only = sym (only-passes u (L y.handle) l (agrees r lead y.handle) only) ∙ one-before y in_r

  pub belongs-before : (y : Member) (l : Label) → Contains r.members y → HasOnly u (L y.handle) l → belongs r y.handle l ≡ true
  belongs-before y l in_r only = (and_parts (belongs r y.handle l) _ (agrees-before y l in_r only)).0

  pub offset-before : (y : Member) (l : Label) → Contains r.members y → HasOnly u (L y.handle) l → offset_in r l ≡ offset_in r lead
  offset-before y l in_r only = eq_true (offset_in r l) (offset_in r lead) (and_parts (belongs r y.handle l) _ (agrees-before y l in_r only)).1

  pub lead-first : first (labels_with u L x0.handle) ≡ Some lead
  lead-first = sym (leading-first r (labels_with u L) some_members) ∙ led.leads

  pub lead-only : HasOnly u (L x0.handle) lead
  lead-only = only-of r u L x0 lead led.stands.whole x0_in lead-first

  -- The label is replaced.
  module _ (old slot : ℕ) (own new : Label) (it : IsReplacedBy r u L position old slot own new) where
    abbrev pub area_after : Module
    area_after = module_after.replaced u (L x.handle) old slot own new it.places.within it.places.is it.places.has_own it.places.only it.places.slot_within it.places.free it.has_new

    abbrev pub M : Labels
    M = with_module x.handle area_after L

    here : M x.handle ≡ area_after
    here = with_module-here x.handle area_after L

    pub only_new : HasOnly u (M x.handle) new
    only_new = subst (λ N. HasOnly u N new) (sym here) (module_after.only-new u (L x.handle) old slot own new it.places.within it.places.is it.places.has_own it.places.only it.places.slot_within it.places.free it.has_new)

    pub confined : IsConfined u x.handle L M
    confined = confined-by u x.handle area_after L (module_after.others-kept u (L x.handle) old slot own new it.places.within it.places.is it.places.has_own it.places.only it.places.slot_within it.places.free it.has_new)

    bounded_after : IsBounded M
    bounded_after = with_module-bounded L led.bounded x.handle area_after (module_after.still-bounded u (L x.handle) old slot own new it.places.within it.places.is it.places.has_own it.places.only it.places.slot_within it.places.free it.has_new (led.bounded.past x.handle))

    pub elsewhere : (h : ℕ) → h ≢ x.handle → labels_with u M h ≡ labels_with u L h
    elsewhere h differ = ap (of_uuid u) (with_module-other x.handle area_after L h differ)

    -- a fact of the labels of a module, there or elsewhere
    by-handle : (h : ℕ) (fact : ℕ → Module → Type 0) → (h ≡ x.handle → fact x.handle (labels_with u M x.handle)) → (h ≢ x.handle → fact h (labels_with u L h)) → fact h (labels_with u M h)
    by-handle h fact there away = elim (cases_eq h x.handle) [
      | inl e ↦ subst (λ j. fact j (labels_with u M j)) (sym e) (there e)
      | inr differ ↦ subst (fact h) (sym (elsewhere h differ)) (away differ)
    ]

    writable_own : is_read_only own ≡ false
    writable_own = only-writable r u L x own led.stands.writable x_in it.places.only

    pub writable_after : any_read_only r (labels_with u M) ≡ false
    writable_after = list_any-never _ r.members (λ y in_r. by-handle y.handle (λ h N. nat_lt 0 (number is_read_only N) ≡ false)
        (λ e. ap (nat_lt 0) (only_new.passes is_read_only ∙ (λ i. cond ((it.writable ∙ writable_own) i) 1 0)))
        (λ differ. list_any-none _ r.members y led.stands.writable in_r))

    -- all have the size of a label, where that which comes has
    pub sizes_after : (now : Label) → (new.raw_size == now.raw_size) ≡ true → ((y : Member) → Contains r.members y → y.handle ≢ x.handle → has_size now (labels_with u L) y ≡ true) → list_all (has_size now (labels_with u M)) r.members ≡ true
    sizes_after now size each = list_all-from _ r.members (λ y in_r. by-handle y.handle (λ h N. (number (λ other. other.raw_size == now.raw_size) N == 1) ≡ true)
        (λ e. ap (λ n. n == 1) (only_new.passes (λ other. other.raw_size == now.raw_size) ∙ (λ i. cond (size i) 1 0)))
        (each y in_r))

    ready_after : all_ready r M ≡ true
    ready_after = list_all-same _ _ r.members (λ y in_r. ap is_ready (kind-same u x.handle L M confined y.handle)) ∙ (and_parts (all_ready r L) _ led.stands.whole).0

    -- The uuid stays whole under a leading label at the same offset.
    module _ (stays : belongs r x.handle new ≡ true) (now : Label) (offset : offset_in r now ≡ offset_in r lead) (leads_now : leading_label r (labels_with u M) ≡ Some now) (sizes : sizes_agree r now (labels_with u M) ≡ true) where
      agrees_new : agrees r lead x.handle new ≡ true
      agrees_new =
          let same = (and_parts (belongs r x.handle own) _ (agrees-before x own x_in it.places.only)).1 in
          (λ i. stays i && it.offset i == offset_in r lead) ∙ same

      ones_after : list_all (has_one r now (labels_with u M)) r.members ≡ true
      ones_after = list_all-from _ r.members (λ y in_r.
          (λ i. number any_label (labels_with u M y.handle) == 1 && number (λ other. belongs r y.handle other && offset_in r other == offset i) (labels_with u M y.handle) == 1)
          ∙ by-handle y.handle (λ h N. (number any_label N == 1 && number (agrees r lead h) N == 1) ≡ true)
          (λ e. only-passes u (M x.handle) new (agrees r lead x.handle) only_new ∙ agrees_new)
          (λ differ. one-before y in_r))

      whole_after : is_whole M r u ≡ true
      whole_after = λ i. ready_after i && whole_by i
        where
          whole_by : is_whole_after r (labels_with u M) (leading_label r (labels_with u M)) ≡ true
          whole_by = ap (is_whole_after r (labels_with u M)) leads_now ∙ (λ i. ones_after i && sizes i)

      pub open_after : IsOpen M r u
      open_after = record { whole = whole_after; writable = writable_after }

      pub replaces : ReplacesOne P r u x L M
      replaces = record {
        disjoint = led.disjoint;
        bounded = led.bounded;
        bounded_after = bounded_after;
        region_in = led.region_in;
        member_in = x_in;
        confined = confined;
        whole = led.stands.whole;
        whole_after = whole_after;
      }

      pub shows : space M r u ≡ Some (space_of r (any_read_only r (labels_with u M)) now)
      shows = λ i. space_if r (labels_with u M) (whole_after i) (leads_now i)

      pub marks : changed_at r u false (state P M).pending ≡ changed_at r u false (state P L).pending
      marks =
          let s : Space = space_of r (any_read_only r (labels_with u M)) now in
          let uuid_is : s.uuid ≡ u = space-uuid M r u s shows in
          ap (λ (t : State). changed_at r u false t.pending) (replaced-state P r u x L M replaces s uuid_is shows)
          ∙ (λ i. changed_at r u false (changed_at r (uuid_is i) (is_pending M r u) (state P L).pending))
          ∙ changed_at-twice r u false (is_pending M r u) (state P L).pending

    -- Behind position 0,
    module _ (behind : 0 < position) where
      pub away_from_first : x0.handle ≢ x.handle
      away_from_first e = let same : 0 ≡ position = led.disjoint.positions r 0 position led.region_in some_members led.within e in absurd (omega (arith, same, behind))

      pub leads_still : leading_label r (labels_with u M) ≡ Some lead
      leads_still = leading-first r (labels_with u M) some_members ∙ ap first (elsewhere x0.handle away_from_first) ∙ lead-first

      pub sizes_still : (list_all (has_size lead (labels_with u L)) r.members ≡ true → (new.raw_size == lead.raw_size) ≡ true) → sizes_agree r lead (labels_with u M) ≡ true
      sizes_still size = by (is_updating lead) refl before-parts.1
        where
          by : (b : Bool) → is_updating lead ≡ b → (list_all (has_size lead (labels_with u L)) r.members || (is_updating lead && not (any_read_only r (labels_with u L)))) ≡ true → sizes_agree r lead (labels_with u M) ≡ true
          by true up e = (λ i. list_all (has_size lead (labels_with u M)) r.members || (up i && not (writable_after i))) ∙ or-true (list_all (has_size lead (labels_with u M)) r.members)
          by false up e =
              let all : list_all (has_size lead (labels_with u L)) r.members ≡ true = or-false _ (subst (λ b. (list_all (has_size lead (labels_with u L)) r.members || (b && not (any_read_only r (labels_with u L)))) ≡ true) up e) in
              let all_after : list_all (has_size lead (labels_with u M)) r.members ≡ true = sizes_after lead (size all) (λ y in_r away. list_all-at (has_size lead (labels_with u L)) r.members y all in_r) in
              λ i. all_after i || (is_updating lead && not (any_read_only r (labels_with u M)))

    -- and at position 0
    module _ (first_is : position ≡ 0) where
      pub own-is : own ≡ lead
      own-is = some_is (sym it.places.only.first_is ∙ ap (λ (m : Member). first (of_uuid u (L m.handle))) (ap (member_at r) first_is) ∙ lead-first)

      pub leads_new : leading_label r (labels_with u M) ≡ Some new
      leads_new = leading-first r (labels_with u M) some_members ∙ ap (λ (m : Member). first (labels_with u M m.handle)) (ap (member_at r) (sym first_is)) ∙ only_new.first_is

      pub offset_new : offset_in r new ≡ offset_in r lead
      offset_new = it.offset ∙ ap (offset_in r) own-is
