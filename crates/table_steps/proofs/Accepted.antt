-- What holds where nothing refuses a create.
use Rattle.std.proofs.Common.{◌≡◌, ◌⊎◌, inl, inr, ℕ, zero, suc, ◌%◌, ◌≤◌, ◌<◌, true, false, not, List, Option, Some, None, length, refl, sym, ◌∙◌, arith}
use Rattle.std.specs.Prelude.{◌==◌, ◌||◌, nat_lt, option_map}
use Rattle.std.specs.List.{Contains}
use Rattle.std.specs.Option.{option_and_then}
use Rattle.std.proofs.lemmas.Bool.{cases_lt}
use Rattle.view_types.specs.declared.extents.Extent.{Extent}
use Rattle.view_types.specs.declared.refusal.Refusal.{Refusal}
use Rattle.view_types.specs.declared.refusal.Refusal.TheVariants as refusals
use Rattle.view_types.specs.declared.refusal.Refusal.TheVariants.{BadSize, NoSlots, NoSpace}
use Rattle.view_types.specs.declared.rule.Rule.{Rule}
use Rattle.label_codec.specs.ModuleLabels.{Labels}
use Rattle.region_map.specs.declared.platform.Member.{Member}
use Rattle.region_map.specs.declared.platform.Platform.{Platform}
use Rattle.region_map.specs.declared.platform.Region.{Region}
use Rattle.region_map.specs.Platforms.{region_at}
use Rattle.label_table.specs.Division.{largest}
use Rattle.label_table.specs.Fates.{spare}
use Rattle.label_table.specs.Namespaces.{first_clash, namespaces}
use Rattle.label_table.specs.Statuses.{RegionReady, first_not_ready, status, status_by, status_by_area, status_by_clash}
use Rattle.label_table.proofs.ListTests.{eq_true, lt_from, never}
use Rattle.table_steps.specs.declared.new_namespace.NewNamespace.{NewNamespace}
use Rattle.table_steps.specs.Create.{bad_size_in, create_refusals, name_in_use_in, no_space_in, size_unit, uuid_in_use}
use Rattle.table_steps.specs.Refusals.{by_region, first_below, first_of, no_slots_in, not_ready_by}
use Rattle.table_steps.proofs.Lists.{AreNone, find-none, first-none, map-none, not-false, or-false, unapplied}
use Rattle.table_steps.proofs.Sizes.{IsSized, sized}

-- a region that can be used, and is not refused as not Ready, is Ready
pub ready-unless : (L : Labels) (r : Region) → r.rule ≡ None → not_ready_by (status L r) ≡ None → status L r ≡ RegionReady
ready-unless L r usable none = by_rule r.rule usable none
  where
    by_clash : (o : Option (List ℕ × List ℕ)) → not_ready_by (status_by_clash o) ≡ None → status_by_clash o ≡ RegionReady
    by_clash None e = refl
    by_clash (Some clash) e = absurd cc

    by_area : (o : Option ℕ) → not_ready_by (status_by_area (λ m. (L m).kind) (namespaces L r) o) ≡ None → status_by_area (λ m. (L m).kind) (namespaces L r) o ≡ RegionReady
    by_area (Some m) e = absurd cc
    by_area None e = by_clash (first_clash (namespaces L r)) e

    by_rule : (o : Option Rule) → o ≡ None → not_ready_by (status_by (λ m. (L m).kind) (namespaces L r) r o) ≡ None → status_by (λ m. (L m).kind) (namespaces L r) r o ≡ RegionReady
    by_rule (Some rule) e none = absurd cc
    by_rule None e none = by_area (first_not_ready (λ m. (L m).kind) r.members) none

pub record IsUnrefused (P : Platform) (L : Labels) (free : List Extent) (a : NewNamespace) (r : Region) : Type 0 where
  pub ready : status L r ≡ RegionReady
  pub size : IsSized a.size (length r.members)
  pub name : name_in_use_in L a.name r ≡ None
  pub uuid : uuid_in_use P L a.uuid ≡ None
  pub space : a.size ≤ largest r free
  pub spares : (x : Member) → Contains r.members x → 2 ≤ spare P L x.handle

pub unrefused : (P : Platform) (L : Labels) (free : List Extent) (a : NewNamespace) (r : Region) → region_at P a.region ≡ Some r → first_of (create_refusals P L free a) ≡ None → IsUnrefused P L free a r
unrefused P L free a r found e = record {
  ready = ready-unless L r usable (here (λ q. not_ready_by (status L q)) all.1.1.0);
  size = sized a.size (length r.members) some (let u : (a.size % size_unit r == 0) ≡ true = not-false (a.size % size_unit r == 0) sizes.1 in eq_true (a.size % size_unit r) 0 u);
  name = here (name_in_use_in L a.name) all.1.1.1.1.1.0;
  uuid = all.1.1.1.1.1.1.0;
  space = by_lt (cases_lt (largest r free) a.size);
  spares = λ x in_r. at_least x (find-none (λ (y : Member). nat_lt (spare P L y.handle) 2) r.members
      (map-none (λ (y : Member). NoSlots y.handle (spare P L y.handle)) (first_below P L 2 r) (here (λ q. no_slots_in P L 2 q) all.1.1.1.1.1.1.1.1.0)) x in_r);
}
  where
    all : AreNone (create_refusals P L free a)
    all = first-none (create_refusals P L free a) e

    here : (f : Region → Option Refusal) → by_region P a.region f ≡ None → f r ≡ None
    here f none = sym (λ i. option_and_then f (found i)) ∙ none

    usable : r.rule ≡ None
    usable = map-none refusals.Unusable r.rule (here (λ q. option_map refusals.Unusable q.rule) all.1.0)

    sizes : ((a.size == 0) ≡ false) × (not (a.size % size_unit r == 0) ≡ false)
    sizes = or-false (a.size == 0) (not (a.size % size_unit r == 0))
        (unapplied ((a.size == 0) || not (a.size % size_unit r == 0)) (BadSize (size_unit r)) (here (bad_size_in a.size) all.1.1.1.1.0))

    some : 0 < a.size
    some = positive a.size sizes.0
      where
        positive : (n : ℕ) → (n == 0) ≡ false → 0 < n
        positive zero n = absurd cc
        positive (suc n) e = omega arith

    by_lt : (largest r free < a.size) ⊎ (a.size ≤ largest r free) → a.size ≤ largest r free
    by_lt (inl lt) = never (nat_lt (largest r free) a.size) (lt_from (largest r free) a.size lt)
        (unapplied (nat_lt (largest r free) a.size) (NoSpace (largest r free)) (here (no_space_in free a.size) all.1.1.1.1.1.1.1.0))
    by_lt (inr le) = le

    at_least : (x : Member) → nat_lt (spare P L x.handle) 2 ≡ false → 2 ≤ spare P L x.handle
    at_least x n = by (cases_lt (spare P L x.handle) 2)
      where
        by : (spare P L x.handle < 2) ⊎ (2 ≤ spare P L x.handle) → 2 ≤ spare P L x.handle
        by (inl lt) = never (nat_lt (spare P L x.handle) 2) (lt_from (spare P L x.handle) 2 lt) n
        by (inr le) = le
