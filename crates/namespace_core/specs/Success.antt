-- When a create is accepted.
use Rattle.std.specs.Prelude.{◌≡◌, ◌⊎◌, ℕ, ◌<◌, ◌≤◌, ◌%◌, true, false, List, Some}
use Rattle.std.specs.List.{Contains}
use Rattle.view_types.specs.declared.extents.Extent.{Extent}
use Rattle.view_types.specs.declared.reply.Reply.{Reply}
use Rattle.view_types.specs.declared.reply.Reply.TheVariants as replies
use Rattle.label_codec.specs.ModuleLabels.{Labels}
use Rattle.region_map.specs.declared.platform.Member.{Member}
use Rattle.region_map.specs.declared.platform.Platform.{Platform}
use Rattle.region_map.specs.declared.platform.Region.{Region}
use Rattle.region_map.specs.Platforms.{region_at}
use Rattle.label_table.specs.Division.{AreFreeExtents, largest}
use Rattle.label_table.specs.Fates.{spare}
use Rattle.label_table.specs.Namespaces.{namespaces}
use Rattle.label_table.specs.Spaces.{Space}
use Rattle.label_table.specs.Statuses.{RegionReady, status}
use Rattle.table_steps.specs.declared.new_namespace.NewNamespace.{NewNamespace}
use Rattle.table_steps.specs.Create.{asked_by, is_named, is_unnamed, keeps_uuid, size_unit}
use Rattle.cmd_words.specs.declared.parts.Part.{Part}
use Rattle.cmd_words.specs.declared.parts.Part.TheVariants.{Change}
use Rattle.cmd_words.specs.declared.parts.Change.TheVariants.{Create}

-- A region has room for a namespace: it is Ready, the size is above 0 and a multiple of 2 MiB of each member, the name
-- is empty or new in the region, no label that is not dead has the uuid, the free extents are large enough, and each
-- member has two spare slots.
pub record IsOpenFor (platform : Platform) (labels : Labels) (asked : NewNamespace) : Type 0 where
  pub region : Region
  pub found : region_at platform asked.region ≡ Some region
  pub ready : status labels region ≡ RegionReady
  pub some : 0 < asked.size
  pub whole : asked.size % size_unit region ≡ 0
  pub named : (is_unnamed asked.name ≡ true)
      ⊎ ((space : Space) → Contains (namespaces labels region) space → is_named asked.name space ≡ false)
  pub fresh : (handle : ℕ) → Contains platform.modules handle → keeps_uuid platform labels asked.uuid handle ≡ false
  pub large : (free : List Extent) → AreFreeExtents platform labels region free → asked.size ≤ largest region free
  pub spares : (member : Member) → Contains region.members member → 2 ≤ spare platform labels member.handle

-- the command is a create, and there is room for its namespace
abbrev pub CanCreate : Platform → Labels → Part → List ℕ → Type 0
CanCreate platform labels (Change (Create region size name abstraction sector uuid)) own =
    IsOpenFor platform labels (asked_by region size name abstraction sector uuid own)
CanCreate platform labels _ own = ⊥

-- a namespace was made
abbrev pub HasCreated : Reply → Type 0
HasCreated (replies.Created uuid region offset len size spare) = Unit {0}
HasCreated _ = ⊥
