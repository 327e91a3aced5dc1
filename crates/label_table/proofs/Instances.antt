-- The premises of each law can be met.
use Rattle.std.proofs.Common.{◌≡◌, ◌⊎◌, inl, inr, ⊎_elim, ℕ, zero, suc, ◌+◌, ◌≤◌, ◌<◌, Bool, true, false, not, cond, [], ◌∷◌, length, Some, None, refl, sym, subst, ◌∙◌, arith}
use Rattle.std.specs.Prelude.{◌==◌, ◌&&◌, ◌||◌, nat_le, nat_lt, replicate}
use Rattle.std.specs.List.{Contains}
use Rattle.std.proofs.lemmas.Bool.{cases_lt}
use Rattle.label_codec.specs.declared.label.Label.{Label}
use Rattle.label_codec.specs.Flags.{is_read_only, is_updating}
use Rattle.label_codec.specs.declared.kind.AreaKind.TheVariants.{Uninit}
use Rattle.label_codec.specs.ModuleChanges.{with_module, without_slots}
use Rattle.label_codec.specs.ModuleLabels.{IsBounded, Labels, Module, has, label_if}
use Rattle.region_map.specs.declared.platform.Member.{Member}
use Rattle.region_map.specs.declared.platform.Region.{Region}
use Rattle.label_table.specs.Belonging.{IsDisjoint, belongs, member_at}
use Rattle.region_map.specs.Platforms.{region_at}
use Rattle.label_table.specs.Division.{AreFreeExtents, IsOpen, Part}
use Rattle.label_table.specs.Fates.{is_dead, is_held}
use Rattle.label_table.specs.Flips.{AddsOne, AllStale, EachLabel, FreesOne, IsConfined, LeavesOutDead, ReplacesOne, other_labels}
use Rattle.label_table.specs.Settling.{IsInitialised, IsReleased, settled, with_ready_area, without_held}
use Rattle.label_table.specs.Spaces.{Space}
use Rattle.label_table.specs.Statuses.{RegionReady, status}
use Rattle.label_table.specs.Tables.{ChangesAt, state, table, with_namespace, without_namespace}
use Rattle.label_table.specs.Wholes.{label_count, labels_with}
use Rattle.label_table.proofs.Changing.{replaced-kept}
use Rattle.label_table.proofs.Examples.{region, platform, first_uuid, name_a, updating, label, member, part, no_label, at_first, ready_area, missing, two_modules}
use Rattle.label_table.proofs.Initialising.{init-table}
use Rattle.label_table.proofs.Losing.{freed-state}
use Rattle.label_table.proofs.OneFlip.{freed-dead}
use Rattle.label_table.proofs.Partition.{partition}
use Rattle.label_table.proofs.Releasing.{release-table}
use Rattle.label_table.proofs.Staging.{left-state, staged-gains, staged-kept}
use Rattle.label_table.proofs.StatusLaws.{ready-without}
use Rattle.label_table.proofs.ListTests.{Contains-cases, Contains-here, Contains-none, Contains-there, eq_other, le_from, lt_from, lt_not, some_is}
use Rattle.label_table.proofs.WholeUuids.{same_module}

first_member : Member
first_member = member 0x1 0

region_in : Contains platform.regions region
region_in = Contains-here region []

second_in : Contains region.members (member 0x101 4096)
second_in = Contains-there (member 0x1 0) (member 0x101 4096 ∷ []) (member 0x101 4096) (Contains-here (member 0x101 4096) [])

by_member : (fact : Member → Type 0) → fact (member 0x1 0) → fact (member 0x101 4096) → (x : Member) → Contains region.members x → fact x
by_member fact first second x in_x = ⊎_elim (λ is. subst fact (sym is) first)
    (λ later. ⊎_elim (λ is. subst fact (sym is) second) (λ none. Contains-none x none) (Contains-cases (member 0x101 4096) [] x later))
    (Contains-cases (member 0x1 0) (member 0x101 4096 ∷ []) x in_x)

by_region : (fact : Region → Type 0) → fact region → (r : Region) → Contains platform.regions r → fact r
by_region fact here r in_P = ⊎_elim (λ is. subst fact (sym is) here) (λ none. Contains-none r none) (Contains-cases region [] r in_P)

disjoint : IsDisjoint platform
disjoint = record {
  indexes = by_region (λ r. region_at platform r.index ≡ Some r) refl;
  positions = λ r i j in_P i_lt j_lt same. by_region (λ q. (a b : ℕ) → a < length q.members → b < length q.members → (member_at q a).handle ≡ (member_at q b).handle → a ≡ b) positions r in_P i j i_lt j_lt same;
  bytes = λ r q a b in_r in_q a_in b_in same. inl (by_region (λ p. q ≡ p) (by_region (λ p. p ≡ region) refl q in_q) r in_r);
}
  where
    positions : (a b : ℕ) → a < 2 → b < 2 → (member_at region a).handle ≡ (member_at region b).handle → a ≡ b
    positions zero zero a_lt b_lt e = refl
    positions zero (suc zero) a_lt b_lt e = absurd (let d : 1 ≡ 257 = e in omega arith)
    positions (suc zero) zero a_lt b_lt e = absurd (let d : 257 ≡ 1 = e in omega arith)
    positions (suc zero) (suc zero) a_lt b_lt e = refl
    positions (suc (suc a)) b a_lt b_lt e = absurd (omega arith)
    positions zero (suc (suc b)) a_lt b_lt e = absurd (omega arith)
    positions (suc zero) (suc (suc b)) a_lt b_lt e = absurd (omega arith)

bounded : (a b : Module) → ((k : ℕ) → a.slots ≤ k → a.at k ≡ None) → ((k : ℕ) → b.slots ≤ k → b.at k ≡ None) → IsBounded (two_modules a b)
bounded a b a_within b_within = record { past = λ handle k le. by (handle == 0x1) (handle == 0x101) k le }
  where
    by : (p q : Bool) (k : ℕ) → (cond p a (cond q b missing)).slots ≤ k → (cond p a (cond q b missing)).at k ≡ None
    by true q k le = a_within k le
    by false true k le = b_within k le
    by false false k le = refl

first_within : (l : Label) (k : ℕ) → 510 ≤ k → at_first l no_label k ≡ None
first_within l k le = let f : (k == 0) ≡ false = eq_other k 0 (λ e. omega arith) in λ i. cond (f i) (Some l) None

none_within : (k : ℕ) → 510 ≤ k → no_label k ≡ None
none_within k le = refl

from_first : (l : Label) (k : ℕ) (a : Label) → at_first l no_label k ≡ Some a → l ≡ a
from_first l k a is = by (k == 0) is
  where
    by : (b : Bool) → cond b (Some l) None ≡ Some a → l ≡ a
    by true e = some_is e
    by false e = absurd cc

abbrev first_label : Label
first_label = label first_uuid name_a updating 0 0 part

abbrev second_label : Label
second_label = label first_uuid name_a updating 1 0 part

abbrev healed_label : Label
healed_label = label first_uuid name_a 0 1 0 part

abbrev none : Labels
none = two_modules (ready_area no_label) (ready_area no_label)

abbrev one_label : Labels
one_label = two_modules (ready_area (at_first first_label no_label)) (ready_area no_label)

abbrev both_labels : Labels
both_labels = two_modules (ready_area (at_first first_label no_label)) (ready_area (at_first second_label no_label))

abbrev half_healed : Labels
half_healed = two_modules (ready_area (at_first first_label no_label)) (ready_area (at_first healed_label no_label))

abbrev half_uninit : Labels
half_uninit = two_modules (ready_area (at_first first_label no_label)) (record { kind = Uninit; slots = 0; at = no_label })

-- the second module changes, in a label of the first uuid alone
second_changes : (first second new : Module) → other_labels first_uuid new ≡ other_labels first_uuid second → IsConfined first_uuid 0x101 (two_modules first second) (two_modules first new)
second_changes first second new rest = record {
  others = λ handle differ. (let f : (handle == 0x101) ≡ false = eq_other handle 0x101 differ in λ i. cond (handle == 0x1) first (cond (f i) new missing)) ∙ sym (let f : (handle == 0x101) ≡ false = eq_other handle 0x101 differ in λ i. cond (handle == 0x1) first (cond (f i) second missing));
  rest = rest;
}

drops : (l : Label) → has first_uuid l ≡ true → other_labels first_uuid (ready_area (at_first l no_label)) ≡ other_labels first_uuid (ready_area no_label)
drops l h = same_module (other_labels first_uuid (ready_area (at_first l no_label))) (other_labels first_uuid (ready_area no_label)) refl refl (λ k. by (k == 0))
  where
    by : (b : Bool) → label_if (λ x. not (has first_uuid x)) (cond b (Some l) None) ≡ None
    by true = λ i. cond (not (h i)) (Some l) None
    by false = refl

-- a fact of the labels of two modules
each_label : (first second : Module) (fact : Member → Label → Type 0) → ((k : ℕ) (l : Label) → first.at k ≡ Some l → fact (member 0x1 0) l) → ((k : ℕ) (l : Label) → second.at k ≡ Some l → fact (member 0x101 4096) l)
    → EachLabel region first_uuid (two_modules first second) fact
each_label first second fact of_first of_second x k l in_x is h =
    by_member (λ y. (two_modules first second y.handle).at k ≡ Some l → fact y l) (λ at. of_first k l at) (λ at. of_second k l at) x in_x is

stale : AllStale region first_uuid both_labels
stale = each_label (ready_area (at_first first_label no_label)) (ready_area (at_first second_label no_label)) (λ x l. (is_updating l ≡ true) × (is_read_only l ≡ false))
    (λ k l is. subst (λ (a : Label). (is_updating a ≡ true) × (is_read_only a ≡ false)) (from_first first_label k l is) (refl, refl))
    (λ k l is. subst (λ (a : Label). (is_updating a ≡ true) × (is_read_only a ≡ false)) (from_first second_label k l is) (refl, refl))

abbrev shown : Space
shown = record { uuid = first_uuid; name = name_a; abstraction = replicate 16 0; sector = 512; offset = 0; length = part; read_only = false }

-- Of a namespace whose labels are both stale one is freed.
frees : FreesOne platform region first_uuid (member 0x101 4096) both_labels one_label
frees = record {
  disjoint = disjoint;
  bounded = bounded (ready_area (at_first first_label no_label)) (ready_area (at_first second_label no_label)) (first_within first_label) (first_within second_label);
  region_in = region_in;
  member_in = second_in;
  confined = second_changes (ready_area (at_first first_label no_label)) (ready_area (at_first second_label no_label)) (ready_area no_label) (sym (drops second_label refl));
  whole = refl;
  stale = stale;
  none = λ k l is. absurd cc;
}

freed : state platform one_label
    ≡ without_namespace region first_uuid (state platform both_labels)
freed = freed-state platform region first_uuid (member 0x101 4096) both_labels one_label frees

-- A first and a second stale label are added.
adds_first : AddsOne platform region first_uuid (member 0x1 0) none one_label
adds_first = record {
  disjoint = disjoint;
  bounded = bounded (ready_area (at_first first_label no_label)) (ready_area no_label) (first_within first_label) none_within;
  region_in = region_in;
  member_in = Contains-here (member 0x1 0) (member 0x101 4096 ∷ []);
  confined = record {
    others = λ handle differ. (let f : (handle == 0x1) ≡ false = eq_other handle 0x1 differ in λ i. cond (f i) (ready_area (at_first first_label no_label)) (cond (handle == 0x101) (ready_area no_label) missing))
        ∙ sym (let f : (handle == 0x1) ≡ false = eq_other handle 0x1 differ in λ i. cond (f i) (ready_area no_label) (cond (handle == 0x101) (ready_area no_label) missing));
    rest = drops first_label refl;
  };
  none = λ k l is. absurd cc;
  all_there = refl;
  stale = each_label (ready_area (at_first first_label no_label)) (ready_area no_label) (λ x l. (is_updating l ≡ true) × (is_read_only l ≡ false))
      (λ k l is. subst (λ (a : Label). (is_updating a ≡ true) × (is_read_only a ≡ false)) (from_first first_label k l is) (refl, refl)) (λ k l is. absurd cc);
  mine = each_label (ready_area (at_first first_label no_label)) (ready_area no_label) (λ x l. belongs region x.handle l ≡ true)
      (λ k l is. subst (λ (a : Label). belongs region 0x1 a ≡ true) (from_first first_label k l is) refl) (λ k l is. absurd cc);
  few = by_member (λ x. label_count (labels_with first_uuid one_label) x.handle ≤ 1) (omega arith) (omega arith);
}

staged : state platform one_label ≡ state platform none
staged = staged-kept platform region first_uuid (member 0x1 0) none one_label adds_first refl

adds_second : AddsOne platform region first_uuid (member 0x101 4096) one_label both_labels
adds_second = record {
  disjoint = disjoint;
  bounded = bounded (ready_area (at_first first_label no_label)) (ready_area (at_first second_label no_label)) (first_within first_label) (first_within second_label);
  region_in = region_in;
  member_in = second_in;
  confined = second_changes (ready_area (at_first first_label no_label)) (ready_area no_label) (ready_area (at_first second_label no_label)) (drops second_label refl);
  none = λ k l is. absurd cc;
  all_there = refl;
  stale = stale;
  mine = each_label (ready_area (at_first first_label no_label)) (ready_area (at_first second_label no_label)) (λ x l. belongs region x.handle l ≡ true)
      (λ k l is. subst (λ (a : Label). belongs region 0x1 a ≡ true) (from_first first_label k l is) refl)
      (λ k l is. subst (λ (a : Label). belongs region 0x101 a ≡ true) (from_first second_label k l is) refl);
  few = by_member (λ x. label_count (labels_with first_uuid both_labels) x.handle ≤ 1) (omega arith) (omega arith);
}

completed : state platform both_labels ≡ with_namespace region shown (state platform one_label)
completed = staged-gains platform region first_uuid (member 0x101 4096) one_label both_labels adds_second shown refl refl refl

-- The label behind position 0 is replaced by one without the mark.
replaces : ReplacesOne platform region first_uuid (member 0x101 4096) both_labels half_healed
replaces = record {
  disjoint = disjoint;
  bounded = bounded (ready_area (at_first first_label no_label)) (ready_area (at_first second_label no_label)) (first_within first_label) (first_within second_label);
  bounded_after = bounded (ready_area (at_first first_label no_label)) (ready_area (at_first healed_label no_label)) (first_within first_label) (first_within healed_label);
  region_in = region_in;
  member_in = second_in;
  confined = second_changes (ready_area (at_first first_label no_label)) (ready_area (at_first second_label no_label)) (ready_area (at_first healed_label no_label)) (drops healed_label refl ∙ sym (drops second_label refl));
  whole = refl;
  whole_after = refl;
}

kept : table platform half_healed ≡ table platform both_labels
kept = replaced-kept platform region first_uuid (member 0x101 4096) both_labels half_healed replaces refl

-- A dead label is left out.
leaves : LeavesOutDead platform one_label (with_module 0x1 (without_slots (λ k. true) (one_label 0x1)) one_label)
leaves = record {
  disjoint = disjoint;
  bounded = bounded (ready_area (at_first first_label no_label)) (ready_area no_label) (first_within first_label) none_within;
  leaves = freed-dead platform one_label 0x1 (λ k. true) (λ k l freed is. subst (λ (a : Label). is_dead platform one_label 0x1 a ≡ true) (from_first first_label k l is) refl);
}

swept : state platform (with_module 0x1 (without_slots (λ k. true) (one_label 0x1)) one_label) ≡ state platform one_label
swept = left-state platform one_label (with_module 0x1 (without_slots (λ k. true) (one_label 0x1)) one_label) leaves

-- An empty region has one free extent, and each of its offsets is free.
empty_region : AreFreeExtents platform none region (record { start = 0; len = 67108864 } ∷ [])
empty_region = record { ascend = (omega arith, omega arith, omega arith, tt); free_in = λ o. same o (cases_lt o 67108864) }
  where
    same : (o : ℕ) → (o < 67108864) ⊎ (67108864 ≤ o) → ((nat_le 0 o && nat_lt o (0 + 67108864)) || false) ≡ (nat_lt o 67108864 && true)
    same o (inl lt) = (let a : nat_le 0 o ≡ true = le_from 0 o (omega arith) in let b : nat_lt o 67108864 ≡ true = lt_from o 67108864 lt in λ i. (a i && b i) || false) ∙ sym (let b : nat_lt o 67108864 ≡ true = lt_from o 67108864 lt in λ i. b i && true)
    same o (inr le) = (let a : nat_le 0 o ≡ true = le_from 0 o (omega arith) in let b : nat_lt o 67108864 ≡ false = lt_not o 67108864 le in λ i. (a i && b i) || false) ∙ sym (let b : nat_lt o 67108864 ≡ false = lt_not o 67108864 le in λ i. b i && true)

offset_free : Part platform none region (record { start = 0; len = 67108864 } ∷ []) 0
offset_free = partition platform none region (record { start = 0; len = 67108864 } ∷ []) empty_region refl 0 (omega arith)

-- The table changes at one namespace.
changes : ChangesAt platform region first_uuid None both_labels one_label
changes = record { disjoint = disjoint; region_in = region_in; kinds = λ i. (freed i).table.kind; spaces = λ i. (freed i).table.space }

stays_ready : status one_label region ≡ RegionReady
stays_ready = ready-without platform region first_uuid both_labels one_label changes refl

-- A new namespace on the first bytes of an empty region.
open_range : IsOpen none region shown
open_range = λ o low high. inl refl

-- The second module's area is initialised, so that the label of the first is dead.
initialised : IsInitialised 0x101 510 half_uninit one_label
initialised = record {
  others = λ handle differ. (let f : (handle == 0x101) ≡ false = eq_other handle 0x101 differ in λ i. cond (handle == 0x1) (ready_area (at_first first_label no_label)) (cond (f i) (ready_area no_label) missing))
      ∙ sym (let f : (handle == 0x101) ≡ false = eq_other handle 0x101 differ in λ i. cond (handle == 0x1) (ready_area (at_first first_label no_label)) (cond (f i) (record { kind = Uninit; slots = 0; at = no_label }) missing));
  was_not_ready = refl;
  had_none = λ k. refl;
  is_now = refl;
  slots_are = refl;
  has_none = λ k. refl;
}

vanished : table platform one_label ≡ settled platform (with_ready_area 0x101 510 (table platform half_uninit))
vanished = init-table platform disjoint half_uninit one_label (bounded (ready_area (at_first first_label no_label)) (record { kind = Uninit; slots = 0; at = no_label }) (first_within first_label) (λ k le. refl)) 0x101 510 initialised

-- A label that is held, because the second module has none and it is not stale, is released.
abbrev held_label : Label
held_label = label first_uuid name_a 0 0 0 part

abbrev one_held : Labels
one_held = two_modules (ready_area (at_first (label first_uuid name_a 0 0 0 part) no_label)) (ready_area no_label)

releases : IsReleased platform 0x1 first_uuid one_held none
releases = record {
  confined = record {
    others = λ handle differ. (let f : (handle == 0x1) ≡ false = eq_other handle 0x1 differ in λ i. cond (f i) (ready_area no_label) (cond (handle == 0x101) (ready_area no_label) missing))
        ∙ sym (let f : (handle == 0x1) ≡ false = eq_other handle 0x1 differ in λ i. cond (f i) (ready_area (at_first held_label no_label)) (cond (handle == 0x101) (ready_area no_label) missing));
    rest = sym (drops held_label refl);
  };
  none = λ k l is. absurd cc;
  held = λ k l is h. subst (λ (a : Label). is_held platform one_held 0x1 a ≡ true) (from_first held_label k l is) refl;
}

released : table platform none ≡ settled platform (without_held 0x1 first_uuid (table platform one_held))
released = release-table platform disjoint one_held none (bounded (ready_area (at_first held_label no_label)) (ready_area no_label) (first_within held_label) none_within) 0x1 first_uuid releases
