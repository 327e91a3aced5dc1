-- The namespaces of a region that have a name.
use Rattle.std.specs.Prelude.{ℕ, List, [], ◌∷◌, length, filter}
use Rattle.view_types.specs.declared.namespaces.Namespace.{Namespace}
use Rattle.label_codec.specs.ModuleLabels.{Labels}
use Rattle.region_map.specs.declared.platform.Region.{Region}
use Rattle.region_labels.specs.declared.named.Named.{Named}
use Rattle.region_labels.specs.declared.named.Named.TheVariants.{None, One, Several}
use Rattle.region_labels.specs.ListedSpaces.{has_name, listed_spaces}

-- how many there are, and the first
abbrev pub named_among : List Namespace → Named
named_among [] = None
named_among (space ∷ []) = One space
named_among (first ∷ second ∷ others) = Several (length (first ∷ second ∷ others)) first

abbrev pub named_in : Labels → Region → List ℕ → Named
named_in labels region name = named_among (filter (has_name name) (listed_spaces labels region))
