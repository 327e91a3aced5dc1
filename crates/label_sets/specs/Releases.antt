-- A module of the state gives up its held labels with a uuid.
use Rattle.std.specs.Prelude.{◌≡◌, ◌<◌, ℕ, List, true}
use Rattle.label_codec.specs.ModuleLabels.{has, is_ready}
use Rattle.label_sets.specs.Sets.{StoredSets, labels_in, state_in}

-- The area of the module is Ready, and it holds a label with the uuid.
pub record CanReleaseIn (sets : StoredSets) (dimm : ℕ) (uuid : List ℕ) : Type 0 where
  pub ready : is_ready (labels_in sets dimm).kind ≡ true
  pub held : 0 < (state_in sets).table.held dimm (has uuid)
