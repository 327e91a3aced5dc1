-- What the first label of a namespace of one of the regions gives that gets another name.
use Rattle.std.specs.Prelude.{◌≡◌, ℕ, List, map, option_map}
use Rattle.label_table.specs.Belonging.{member_at}
use Rattle.label_table.specs.Fates.{without_slot}
use Rattle.label_table.specs.Flips.{IsConfined}
use Rattle.region_map.specs.declared.platform.Region.{Region}
use Rattle.module_flips.specs.Together.{free_slots}
use Rattle.namespace_passes.specs.Renaming.{with_renamed_namespace}
use Rattle.namespace_passes.specs.MarkedLabels.{renamed}
use Rattle.namespace_passes.specs.Namespaces.{label_at}
use Rattle.label_sets.specs.Sets.{StoredSets, labels_in, state_in}
use Rattle.label_sets.specs.Healing.{CanHealIn}

-- The namespace has the name and is pending, all else in the state is as before, and it can be healed. The numbers of
-- free slots are as before. The label of position 0 is the one from before with the name and the mark, wherever its slot
-- is, and all other labels are as before.
pub record IsRenamedIn (before after : StoredSets) (uuid name : List ℕ) (region : Region) : Type 0 where
  pub state_is : state_in after ≡ with_renamed_namespace region uuid name (state_in before)
  pub can_heal : CanHealIn after uuid region
  pub label : option_map without_slot (label_at (labels_in after) region uuid 0)
      ≡ option_map (renamed name) (label_at (labels_in before) region uuid 0)
  pub confined : IsConfined uuid (member_at region 0).handle (labels_in before) (labels_in after)
  pub same_free : map free_slots after.modules ≡ map free_slots before.modules
