-- The commands that list the state of the label storage areas: why each is refused, in order, and its reply where
-- nothing refuses it.
use Rattle.std.specs.Prelude.{◌≡◌, ℕ, ◌^◌, ◌-◌, List, [], ◌∷◌, ◌++◌, Option, Some, None, length, map, min}
use Rattle.std.specs.List.Sorted.{IsPermutation, IsSortedByKey}
use Rattle.view_types.specs.declared.extents.Extent.{Extent}
use Rattle.view_types.specs.declared.namespaces.Held.{Held}
use Rattle.view_types.specs.declared.namespaces.Listed.{Listed}
use Rattle.view_types.specs.declared.namespaces.Namespace.{Namespace}
use Rattle.view_types.specs.declared.refusal.Refusal.{Refusal}
use Rattle.view_types.specs.declared.refusal.Refusal.TheVariants as refusals
use Rattle.view_types.specs.declared.refusal.Refusal.TheVariants.{NotReady}
use Rattle.view_types.specs.declared.reply.Reply.{Reply}
use Rattle.view_types.specs.declared.reply.Reply.TheVariants.{Namespaces, Regions, Free, HeldList}
use Rattle.view_types.specs.declared.states.Status.{Status}
use Rattle.view_types.specs.declared.states.Status.TheVariants as shown
use Rattle.view_types.specs.declared.views.RegionView.{RegionView}
use Rattle.cmd_words.specs.declared.parts.Query.{Query}
use Rattle.cmd_words.specs.declared.parts.Query.TheVariants as queries
use Rattle.label_codec.specs.ModuleLabels.{Labels}
use Rattle.region_map.specs.declared.platform.Platform.{Platform}
use Rattle.region_map.specs.declared.platform.Region.{Region}
use Rattle.region_map.specs.Platforms.{region_at}
use Rattle.label_table.specs.Division.{AreFreeExtents, largest}
use Rattle.label_table.specs.Fates.{spare}
use Rattle.label_table.specs.Namespaces.{namespaces}
use Rattle.label_table.specs.Spaces.{Space}
use Rattle.label_table.specs.Statuses.{AreaNotReady, Clash, RegionReady, RegionStatus, Unusable, status}
use Rattle.region_labels.specs.Held.{held_below, held_key, key_cmp}
use Rattle.region_labels.specs.Marks.{listed_in}
use Rattle.region_labels.specs.Modules.{dimm_of}
use Rattle.region_labels.specs.Statuses.{shown_status}
use Rattle.label_sets.specs.Sets.{StoredSets}
use Rattle.label_sets.specs.Views.{IsRegionView}
use Rattle.table_steps.specs.Refusals.{IsReplyBy, area_not_ready, first_of, region_not_ready, unknown_dimm}
use Rattle.table_steps.specs.Refusals.{unknown_region, unusable}
use Rattle.namespace_commands.specs.declared.refusals.Unanswered.{Unanswered}
use Rattle.namespace_commands.specs.declared.refusals.Unanswered.TheVariants as unanswereds

-- the state is that of the platform's modules
pub record IsStateOf (platform : Platform) (sets : StoredSets) : Type 0 where
  pub regions : sets.regions ≡ platform.regions
  pub modules : map dimm_of sets.modules ≡ platform.modules

-- what a command asks of the region whose state it tells
abbrev pub unread : Platform → Labels → ℕ → List (Option Refusal)
unread platform labels index =
    unknown_region platform index ∷ unusable platform index ∷ region_not_ready platform labels index ∷ []

-- a namespace of a region with this index and so many members
abbrev pub listed_by : ℕ → ℕ → Namespace → Listed
listed_by index ways space = record { region = index; ways = ways; space = space }

-- a namespace of the region, as it is listed
abbrev pub listed_of : Labels → Region → Space → Listed
listed_of labels region space = listed_by region.index (length region.members) (listed_in labels region space)

-- the namespaces of a region, by offset and then by uuid
abbrev pub spaces_of : Labels → Region → List Listed
spaces_of labels region = map (listed_of labels region) (namespaces labels region)

-- they are listed where the region is Ready
abbrev pub spaces_by : RegionStatus → List Listed → List Listed
spaces_by RegionReady spaces = spaces
spaces_by (Unusable rule) spaces = []
spaces_by (AreaNotReady handle kind) spaces = []
spaces_by (Clash first second) spaces = []

-- the namespaces of those of some regions that are Ready
abbrev pub spaces_of_all : Labels → List Region → List Listed
spaces_of_all labels [] = []
spaces_of_all labels (region ∷ regions) =
    spaces_by (status labels region) (spaces_of labels region) ++ spaces_of_all labels regions

-- why nothing is told of a region with this status
abbrev pub refusal_by : Status → Option Refusal
refusal_by shown.Ready = None
refusal_by (shown.Unusable rule) = Some (refusals.Unusable rule)
refusal_by (shown.Area dimm state) = Some (NotReady (shown.Area dimm state))
refusal_by (shown.Clash first second) = Some (NotReady (shown.Clash first second))

-- why nothing is told of the region with this index, where the platform has it with this status
abbrev pub refusal_of : ℕ → Option Status → Option Refusal
refusal_of index None = Some (refusals.UnknownRegion index)
refusal_of index (Some status) = refusal_by status

-- the namespaces of a region's view
abbrev pub listed_in_view : RegionView → List Listed
listed_in_view view = map (listed_by view.index view.ways) view.namespaces

-- the region that a command tells the state of is Ready, and this is its view
pub record IsReadyView (platform : Platform) (labels : Labels) (index : ℕ) (view : RegionView) : Type 0 where
  pub region : Region
  pub found : region_at platform index ≡ Some region
  pub unrefused : first_of (unread platform labels index) ≡ None
  pub ready : status labels region ≡ RegionReady
  pub is_view : IsRegionView platform labels region view

-- why there is none; nothing tells why memory was refused
abbrev pub IsUnread : Platform → Labels → ℕ → Unanswered → Type 0
IsUnread platform labels index (unanswereds.Refused refusal) = first_of (unread platform labels index) ≡ Some refusal
IsUnread platform labels index unanswereds.Memory = Unit {0}

-- The namespaces of a region.
pub record AreSpacesOf (platform : Platform) (labels : Labels) (index : ℕ) (reply : Reply) : Type 0 where
  pub region : Region
  pub found : region_at platform index ≡ Some region
  pub reply_is : reply ≡ Namespaces (spaces_of labels region)

abbrev pub AreSpaces : Platform → Labels → Option ℕ → Reply → Type 0
AreSpaces platform labels None reply = reply ≡ Namespaces (spaces_of_all labels platform.regions)
AreSpaces platform labels (Some index) reply =
    IsReplyBy (first_of (unread platform labels index)) (AreSpacesOf platform labels index) reply

-- a region as it is listed, without its namespaces and its free extents
abbrev pub shown_region : Labels → Region → RegionView
shown_region labels region = record {
  index = region.index;
  spa = region.spa;
  length = region.length;
  ways = length region.members;
  cookie = region.cookie;
  status = shown_status (status labels region);
  namespaces = [];
  free = [];
}

-- all regions, by index
abbrev pub AreRegions : Platform → Labels → Reply → Type 0
AreRegions platform labels reply = reply ≡ Regions (map (shown_region labels) platform.regions)

-- The free extents of a region, and the size of the greatest namespace that they have room for. No size is told above
-- 2^64 - 1.
pub record IsFreeOf (platform : Platform) (labels : Labels) (index : ℕ) (reply : Reply) : Type 0 where
  pub region : Region
  pub found : region_at platform index ≡ Some region
  pub extents : List Extent
  pub extents_are : AreFreeExtents platform labels region extents
  pub reply_is : reply ≡ Free extents (min (largest region extents) (2 ^ 64 - 1))

abbrev pub IsFree : Platform → Labels → ℕ → Reply → Type 0
IsFree platform labels index reply =
    IsReplyBy (first_of (unread platform labels index)) (IsFreeOf platform labels index) reply

-- the held labels of a module, by address, size, uuid, flags and region
pub record AreHeldOf (platform : Platform) (labels : Labels) (dimm : ℕ) (held : List Held) : Type 0 where
  pub same : IsPermutation (held_below platform labels dimm (labels dimm).at (labels dimm).slots) held
  pub order : IsSortedByKey held_key key_cmp held

-- The held labels of a module, and its spare slots.
pub record IsHeldOf (platform : Platform) (labels : Labels) (dimm : ℕ) (reply : Reply) : Type 0 where
  pub held : List Held
  pub held_are : AreHeldOf platform labels dimm held
  pub reply_is : reply ≡ HeldList held (spare platform labels dimm)

abbrev pub IsHeld : Platform → Labels → ℕ → Reply → Type 0
IsHeld platform labels dimm reply =
    IsReplyBy (first_of (unknown_dimm platform dimm ∷ area_not_ready labels dimm ∷ []))
    (IsHeldOf platform labels dimm) reply

-- the reply to what is asked of the state
abbrev pub IsShown : Platform → Labels → Query → Reply → Type 0
IsShown platform labels (queries.Spaces region) reply = AreSpaces platform labels region reply
IsShown platform labels queries.Regions reply = AreRegions platform labels reply
IsShown platform labels (queries.Free region) reply = IsFree platform labels region reply
IsShown platform labels (queries.Held dimm) reply = IsHeld platform labels dimm reply
