-- Labels that stand for one state tell the same of each region: its namespaces, its status, and what refuses commands.
use Rattle.std.proofs.Common.{◌≡◌, ℕ, List, Option, Some, None, find, refl, ap}
use Rattle.std.specs.Prelude.{if◌then◌else◌, nat_lt, option_map, ◌==◌}
use Rattle.std.specs.List.{Contains, list_any}
use Rattle.std.specs.Option.{option_and_then}
use Rattle.view_types.specs.declared.refusal.Refusal.{Refusal}
use Rattle.view_types.specs.declared.refusal.Refusal.TheVariants.{NoSlots, Unhealed}
use Rattle.label_codec.specs.ModuleLabels.{Labels}
use Rattle.region_map.specs.declared.platform.Member.{Member}
use Rattle.region_map.specs.declared.platform.Platform.{Platform}
use Rattle.region_map.specs.declared.platform.Region.{Region}
use Rattle.region_map.specs.Platforms.{region_at}
use Rattle.label_table.specs.Belonging.{IsDisjoint}
use Rattle.label_table.specs.Division.{is_common_free}
use Rattle.label_table.specs.Namespaces.{namespaces}
use Rattle.label_table.specs.Spaces.{Space, is_pending}
use Rattle.label_table.specs.Statuses.{status}
use Rattle.label_table.specs.Tables.{State, state, table}
use Rattle.label_table.proofs.Equations.{pending-of_state}
use Rattle.label_table.proofs.ListTests.{find-some}
use Rattle.label_table.proofs.StatusLaws.{common_free-kept, namespaces-kept, status-kept}
use Rattle.table_steps.specs.Refusals.{any_pending, by_region, no_slots, no_slots_in, not_ready_by, region_not_ready, unhealed, unhealed_in}

-- a refusal by a region is told by the regions of the platform
pub by_region-same : (P : Platform) (index : ℕ) (f g : Region → Option Refusal) → ((q : Region) → Contains P.regions q → f q ≡ g q) → by_region P index f ≡ by_region P index g
by_region-same P index f g same = by (region_at P index) refl
  where
    by : (o : Option Region) → region_at P index ≡ o → option_and_then f o ≡ option_and_then g o
    by None e = refl
    by (Some q) e = same q (find-some (λ (r : Region). r.index == index) P.regions q e).0

module _ (P : Platform) (disjoint : IsDisjoint P) (L M : Labels) (same : state P M ≡ state P L) where
  tables : table P M ≡ table P L
  tables = ap (λ (s : State). s.table) same

  module _ (q : Region) (in_P : Contains P.regions q) where
    pub statuses : status M q ≡ status L q
    statuses = status-kept P disjoint L M tables q in_P

    pub lists : namespaces M q ≡ namespaces L q
    lists = namespaces-kept P disjoint L M tables q in_P

    pub free-same : is_common_free P M q ≡ is_common_free P L q
    free-same = common_free-kept P disjoint L M tables q in_P

    pending-same : any_pending M q ≡ any_pending L q
    pending-same =
        let marks : (v : List ℕ) → is_pending M q v ≡ is_pending L q v = λ v. pending-of_state P disjoint L M same q v in_P in
        λ i. list_any (λ (s : Space). marks s.uuid i) (lists i)

    unhealed_in-same : unhealed_in P M q ≡ unhealed_in P L q
    unhealed_in-same =
        λ i. if pending-same i then option_map (λ (x : Member). Unhealed x.handle) (find (λ (x : Member). nat_lt ((same i).table.spare x.handle) 1) q.members) else None

    slots_in-same : (least : ℕ) → no_slots_in P M least q ≡ no_slots_in P L least q
    slots_in-same least = λ i. option_map (λ (x : Member). NoSlots x.handle ((same i).table.spare x.handle)) (find (λ (x : Member). nat_lt ((same i).table.spare x.handle) least) q.members)

  module _ (index : ℕ) where
    pub not_ready-same : region_not_ready P M index ≡ region_not_ready P L index
    not_ready-same = by_region-same P index (λ q. not_ready_by (status M q)) (λ q. not_ready_by (status L q)) (λ q in_P. ap not_ready_by (statuses q in_P))

    pub unhealed-same : unhealed P M index ≡ unhealed P L index
    unhealed-same = by_region-same P index (unhealed_in P M) (unhealed_in P L) unhealed_in-same

    pub slots-same : (least : ℕ) → no_slots P M least index ≡ no_slots P L least index
    slots-same least = by_region-same P index (no_slots_in P M least) (no_slots_in P L least) (λ q in_P. slots_in-same q in_P least)
