-- What changes of labels leave and change.
use Rattle.std.specs.Prelude.{◌≡◌, ◌≢◌, ◌⊎◌, ℕ, ◌≤◌, true, false, not, List, Some, None}
use Rattle.std.specs.List.{Contains}
use Rattle.label_codec.specs.declared.label.Label.{Label}
use Rattle.label_codec.specs.Flags.{is_read_only, is_updating}
use Rattle.label_codec.specs.ModuleLabels.{IsBounded, Labels, Module, has, with_only}
use Rattle.region_map.specs.declared.platform.Member.{Member}
use Rattle.region_map.specs.declared.platform.Region.{Region}
use Rattle.region_map.specs.declared.platform.Platform.{Platform}
use Rattle.label_table.specs.Belonging.{IsDisjoint, belongs, offset_in}
use Rattle.label_table.specs.Fates.{is_dead}
use Rattle.label_table.specs.Wholes.{all_ready, is_whole, label_count, labels_with}

-- a slot loses a dead label
pub record LosesDead (platform : Platform) (before after : Labels) (handle slot : ℕ) : Type 0 where
  pub label : Label
  pub was : (before handle).at slot ≡ Some label
  pub dead : is_dead platform before handle label ≡ true
  pub gone : (after handle).at slot ≡ None

-- all is as before, but that some dead labels are gone
pub record LeavesOut (platform : Platform) (before after : Labels) : Type 0 where
  pub kind : (handle : ℕ) → (after handle).kind ≡ (before handle).kind
  pub slots : (handle : ℕ) → (after handle).slots ≡ (before handle).slots
  pub each : (handle slot : ℕ) → ((after handle).at slot ≡ (before handle).at slot)
      ⊎ LosesDead platform before after handle slot

-- a module's labels of other uuids
abbrev pub other_labels : List ℕ → Module → Module
other_labels uuid area = with_only (λ label. not (has uuid label)) area

-- all is as before, but the labels of one uuid in one module
pub record IsConfined (uuid : List ℕ) (handle : ℕ) (before after : Labels) : Type 0 where
  pub others : (other : ℕ) → other ≢ handle → after other ≡ before other
  pub rest : other_labels uuid (after handle) ≡ other_labels uuid (before handle)

-- the module has no label with the uuid
abbrev pub HasNone : List ℕ → Module → Type 0
HasNone uuid area = (slot : ℕ) (label : Label) → area.at slot ≡ Some label → has uuid label ≡ false

-- a fact of each label with the uuid in the modules of a region
abbrev pub EachLabel : Region → List ℕ → Labels → (Member → Label → Type 0) → Type 0
EachLabel region uuid labels fact = (member : Member) (slot : ℕ) (label : Label) → Contains region.members member
    → (labels member.handle).at slot ≡ Some label → has uuid label ≡ true → fact member label

-- they are being changed, and may be
abbrev pub AllStale : Region → List ℕ → Labels → Type 0
AllStale region uuid labels =
    EachLabel region uuid labels (λ member label. (is_updating label ≡ true) × (is_read_only label ≡ false))

-- they belong to the region, with one offset and one length
abbrev pub AreAligned : Region → List ℕ → ℕ → ℕ → Labels → Type 0
AreAligned region uuid offset size labels = EachLabel region uuid labels (λ member label.
    (belongs region member.handle label ≡ true) × (offset_in region label ≡ offset) × (label.raw_size ≡ size))

-- each module of the region has at most one
abbrev pub AtMostOne : Region → List ℕ → Labels → Type 0
AtMostOne region uuid labels =
    (member : Member) → Contains region.members member → label_count (labels_with uuid labels) member.handle ≤ 1

-- each module of the region has exactly one
abbrev pub ExactlyOne : Region → List ℕ → Labels → Type 0
ExactlyOne region uuid labels =
    (member : Member) → Contains region.members member → label_count (labels_with uuid labels) member.handle ≡ 1

-- Some dead labels are left out, of any modules at once.
pub record LeavesOutDead (platform : Platform) (before after : Labels) : Type 0 where
  pub disjoint : IsDisjoint platform
  pub bounded : IsBounded before
  pub leaves : LeavesOut platform before after

-- A label with the uuid comes to a member's module, which had none. All labels with the uuid in the modules of the
-- region are stale labels of it then, at most one a module, and all modules are Ready.
pub record AddsOne (platform : Platform) (region : Region) (uuid : List ℕ) (member : Member)
    (before after : Labels) : Type 0 where
  pub disjoint : IsDisjoint platform
  pub bounded : IsBounded after
  pub region_in : Contains platform.regions region
  pub member_in : Contains region.members member
  pub confined : IsConfined uuid member.handle before after
  pub none : HasNone uuid (before member.handle)
  pub all_there : all_ready region after ≡ true
  pub stale : AllStale region uuid after
  pub mine : EachLabel region uuid after (λ other label. belongs region other.handle label ≡ true)
  pub few : AtMostOne region uuid after

-- In a member's module the label of a namespace is replaced: the uuid is whole before and after.
pub record ReplacesOne (platform : Platform) (region : Region) (uuid : List ℕ) (member : Member)
    (before after : Labels) : Type 0 where
  pub disjoint : IsDisjoint platform
  pub bounded : IsBounded before
  pub bounded_after : IsBounded after
  pub region_in : Contains platform.regions region
  pub member_in : Contains region.members member
  pub confined : IsConfined uuid member.handle before after
  pub whole : is_whole before region uuid ≡ true
  pub whole_after : is_whole after region uuid ≡ true

-- In a member's module the label of a namespace is freed, all of whose labels are stale.
pub record FreesOne (platform : Platform) (region : Region) (uuid : List ℕ) (member : Member)
    (before after : Labels) : Type 0 where
  pub disjoint : IsDisjoint platform
  pub bounded : IsBounded before
  pub region_in : Contains platform.regions region
  pub member_in : Contains region.members member
  pub confined : IsConfined uuid member.handle before after
  pub whole : is_whole before region uuid ≡ true
  pub stale : AllStale region uuid before
  pub none : HasNone uuid (after member.handle)
