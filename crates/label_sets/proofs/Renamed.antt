-- What is kept after the first label of a namespace got another name.
use Rattle.std.proofs.Common.{◌≡◌, inr, ℕ, Bool, List, map, Option, Some, None, Result, Ok, Err, refl, sym, ap, ◌∙◌}
use Rattle.std.specs.Prelude.{option_map}
use Rattle.std.specs.Option.{option_map_or}
use Rattle.std.specs.Result.{OnErr, OnOk}
use Rattle.std.proofs.lemmas.Option.{IfSome_then}
use Rattle.extent_alloc.specs.Free.{FreeSpace}
use Rattle.region_map.specs.declared.platform.Region.{Region}
use Rattle.label_table.specs.Belonging.{IsDisjoint}
use Rattle.label_table.specs.Spaces.{Space, space, space_of}
use Rattle.label_table.specs.Statuses.{RegionReady, status}
use Rattle.label_table.specs.Tables.{State, changed_at, space_at, table, with_changed_space}
use Rattle.label_table.specs.Wholes.{any_read_only, labels_with}
use Rattle.label_table.proofs.Clashes.{has_offset-from}
use Rattle.label_table.proofs.Listed.{space-not_empty}
use Rattle.label_table.proofs.Order.{space-uuid}
use Rattle.label_table.proofs.StatusLaws.{ready-with}
use Rattle.label_table.proofs.TableChanges.{changes-with_changed_space}
use Rattle.label_table.proofs.WholeUuids.{IsLed, whole-led}
use Rattle.region_labels.specs.declared.modules.LoadedModule.{LoadedModule}
use Rattle.region_labels.specs.declared.region.RegionLabels.{RegionLabels}
use Rattle.region_labels.specs.Fates.{platform_of, region_in}
use Rattle.region_labels.specs.Modules.{labels_in}
use Rattle.region_labels.specs.GainedSpaces.{ShowsNew}
use Rattle.region_labels.proofs.FreeSpace.{shown-all}
use Rattle.module_flips.specs.Together.{StaysTogether}
use Rattle.namespace_passes.specs.Healing.{CanHeal}
use Rattle.namespace_passes.proofs.Passing.{can-still}
use Rattle.namespace_passes.specs.Renaming.{IsRenamed, renamed_space}
use Rattle.label_sets.specs.Kept.{IsKnownFree}
use Rattle.label_sets.specs.Renaming.{IsRenamedIn}
use Rattle.label_sets.proofs.FreeAfter.{free-as, known-kept}

module _ (ms : List LoadedModule) (rs : List RegionLabels) (r : Region) (u name : List ℕ) (can : CanHeal ms rs r u) (now : List LoadedModule) (did : IsRenamed ms rs r u name now) where
  disjoint : IsDisjoint (platform_of rs)
  disjoint = can.together.disjoint

  led : IsLed r (labels_with u (labels_in ms))
  led = whole-led r (labels_with u (labels_in ms)) can.whole

  abbrev old : Space
  old = space_of r (any_read_only r (labels_with u (labels_in ms))) led.lead

  was : space (labels_in ms) r u ≡ Some old
  was = led.space_is

  uuid_is : old.uuid ≡ u
  uuid_is = space-uuid (labels_in ms) r u old was

  at : space_at (platform_of rs) (labels_in ms) r.index u ≡ Some old
  at = ap (λ (o : Option Region). option_map_or (λ q. space (labels_in ms) q u) o None) (disjoint.indexes r can.region_in) ∙ was

  shows : table (platform_of rs) (labels_in now) ≡ with_changed_space r (renamed_space name old) (table (platform_of rs) (labels_in ms))
  shows = ap (λ (s : State). s.table) did.has_name.state_is ∙ (λ i. record {
    kind = (table (platform_of rs) (labels_in ms)).kind;
    spare = (table (platform_of rs) (labels_in ms)).spare;
    held = (table (platform_of rs) (labels_in ms)).held;
    space = changed_at r (sym uuid_is i) (option_map (renamed_space name) (at i)) (table (platform_of rs) (labels_in ms)).space;
  })

  shows-new : ShowsNew (platform_of rs) r old (renamed_space name old) (labels_in ms) (labels_in now)
  shows-new = record { disjoint = disjoint; region_in = can.region_in; was = ap (space (labels_in ms) r) uuid_is ∙ was; place = refl; length = refl; shows = shows }

  -- the ranges of all namespaces are as before
  pub free-renamed : (regions_now : List RegionLabels) → map region_in regions_now ≡ map region_in rs → (free : Option (List FreeSpace)) → IsKnownFree ms rs free → IsKnownFree now regions_now free
  free-renamed regions_now same free known =
      IfSome_then free known (λ spaces all. free-as ms rs spaces all disjoint now regions_now same (shown-all (platform_of rs) r old (renamed_space name old) (labels_in ms) (labels_in now) shows-new))

  -- and so is the status
  pub ready-renamed : status (labels_in ms) r ≡ RegionReady → status (labels_in now) r ≡ RegionReady
  ready-renamed =
      ready-with (platform_of rs) r (renamed_space name old) (labels_in ms) (labels_in now) (changes-with_changed_space (platform_of rs) disjoint r can.region_in (labels_in ms) (labels_in now) (renamed_space name old) shows)
      (space-not_empty (labels_in ms) r u old was)
      (λ o low high. inr (record { own = old; is = ap (space (labels_in ms) r) uuid_is ∙ was; here = has_offset-from o old low high }))

  pub renamed-in : (regions_now : List RegionLabels) → StaysTogether ms rs now regions_now → (room : Bool) → status (labels_in ms) r ≡ RegionReady
      → IsRenamedIn (record { regions = map region_in rs; modules = ms; room = room }) (record { regions = map region_in rs; modules = now; room = room }) u name r
  renamed-in regions_now together room ready = record {
    state_is = did.has_name.state_is;
    can_heal = record {
      ready = ready-renamed ready;
      whole = did.has_name.stands.whole;
      writable = did.has_name.stands.writable;
      free = (can-still ms rs now regions_now r u can together did.same_free did.has_name.stands).free;
    };
    label = did.has_name.label;
    confined = did.has_name.confined;
    same_free = did.same_free;
  }

-- a flip that failed left all as it was
pub known-renamed : {T E : Type 0} (ms : List LoadedModule) (rs : List RegionLabels) (r : Region) (u name : List ℕ) → CanHeal ms rs r u → (now : List LoadedModule) (regions_now : List RegionLabels) → map region_in regions_now ≡ map region_in rs
    → (free : Option (List FreeSpace)) → IsKnownFree ms rs free → (result : Result T E) → OnOk result (IsRenamed ms rs r u name now) → OnErr result (now ≡ ms) → IsKnownFree now regions_now free
known-renamed ms rs r u name can now regions_now same free known (Ok value) did kept = free-renamed ms rs r u name can now did regions_now same free known
known-renamed ms rs r u name can now regions_now same free known (Err fault) did kept =
    known-kept ms rs can.together.disjoint now regions_now same free known (ap (λ (xs : List LoadedModule). table (platform_of rs) (labels_in xs)) kept)
