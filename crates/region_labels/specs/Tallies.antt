-- How namespaces are counted, and the first of them kept, in any order.
use Rattle.std.specs.Prelude.{◌≡◌, ℕ, ◌<◌, Bool, true, false, List, Option, Some, None, count_by}
use Rattle.std.specs.List.{Contains}
use Rattle.view_types.specs.declared.namespaces.Namespace.{Namespace}
use Rattle.label_codec.specs.declared.label.Label.{Label}
use Rattle.label_codec.specs.ModuleLabels.{Labels, Module}
use Rattle.region_map.specs.declared.platform.Region.{Region}
use Rattle.label_table.specs.Belonging.{member_at}
use Rattle.region_labels.specs.declared.tallies.Sought.{Sought}
use Rattle.region_labels.specs.declared.tallies.Sought.TheVariants.{Named, NamedBeside, Pending}
use Rattle.region_labels.specs.declared.tallies.Tally.{Tally}
use Rattle.region_labels.specs.ListedSpaces.{is_before, is_name}

-- one that passes a test, and none that passes is before it
pub record IsFirstSuch (test : Namespace → Bool) (spaces : List Namespace) (first : Namespace) : Type 0 where
  pub listed : Contains spaces first
  pub passes : test first ≡ true
  pub least : (space : Namespace) → Contains spaces space → test space ≡ true → is_before space first ≡ false

abbrev pub IsFirst : (Namespace → Bool) → List Namespace → Option Namespace → Type 0
IsFirst test spaces None = (space : Namespace) → Contains spaces space → test space ≡ false
IsFirst test spaces (Some first) = IsFirstSuch test spaces first

-- those of some namespaces that pass a test: their number, and the first
pub record IsTally (test : Namespace → Bool) (spaces : List Namespace) (tally : Tally) : Type 0 where
  pub count : tally.count ≡ count_by test spaces
  pub first : IsFirst test spaces tally.first

-- a label of the module at position 0 of a region with members
pub record IsIn (area : Module) (label : Label) : Type 0 where
  pub slot : ℕ
  pub within : slot < area.slots
  pub is : area.at slot ≡ Some label

abbrev pub Leads : Labels → Region → Label → Type 0
Leads labels region label = IsIn (labels (member_at region 0).handle) label

-- the namespace whose label of position 0 this is may be looked for
abbrev pub may_lead : Sought → Label → Bool
may_lead (Named name) label = is_name name label.name
may_lead (NamedBeside name uuid) label = is_name name label.name
may_lead Pending label = true
