-- What becomes of the table when an area is initialised, and when held labels are released: held labels of other
-- modules may be dead now, and vanish.
use Rattle.std.specs.Prelude.{◌≡◌, ◌≢◌, ℕ, ◌+◌, ◌==◌, nat_lt, Bool, true, false, not, ◌&&◌, List, Option, Some, None}
use Rattle.std.specs.Prelude.{is_some, if◌then◌else◌}
use Rattle.std.specs.List.{list_all, list_any}
use Rattle.label_codec.specs.declared.label.Label.{Label}
use Rattle.label_codec.specs.declared.kind.AreaKind.TheVariants.{Ready}
use Rattle.label_codec.specs.ModuleLabels.{Labels, has, is_ready}
use Rattle.region_map.specs.declared.platform.Member.{Member}
use Rattle.region_map.specs.declared.platform.Region.{Region}
use Rattle.region_map.specs.declared.platform.Platform.{Platform}
use Rattle.label_table.specs.Belonging.{region_of}
use Rattle.label_table.specs.Fates.{is_held, is_stale}
use Rattle.label_table.specs.Flips.{HasNone, IsConfined}
use Rattle.label_table.specs.Tables.{Table}

-- all modules of the region are Ready
abbrev pub has_all_modules : Table → Region → Bool
has_all_modules table region = list_all (λ (member : Member). is_ready (table.kind member.handle)) region.members

-- Some module of the region holds two labels with the uuid or more. Where a module has a uuid so often, it holds all
-- of them.
abbrev pub is_held_twice : Table → List ℕ → Region → Bool
is_held_twice table uuid region =
    list_any (λ (member : Member). nat_lt 1 (table.held member.handle (has uuid))) region.members

abbrev pub is_given_up : Table → List ℕ → Option Region → Bool
is_given_up table uuid None = false
is_given_up table uuid (Some region) =
    has_all_modules table region
    && (not (is_some (table.space region.index uuid)) && not (is_held_twice table uuid region))

-- A held label that vanishes: it is stale, its region has all its modules, and its uuid is no namespace there and
-- stands in no module of it twice.
abbrev pub vanishes : Platform → Table → ℕ → Label → Bool
vanishes platform table handle label =
    is_stale platform handle label && is_given_up table label.uuid (region_of platform handle label)

-- the table without the held labels that vanish
abbrev pub settled : Platform → Table → Table
settled platform table = record {
  kind = table.kind;
  spare = λ handle. table.spare handle + table.held handle (vanishes platform table handle);
  held = λ handle test. table.held handle (λ label. not (vanishes platform table handle label) && test label);
  space = table.space;
}

-- the table with a Ready area of this many free slots
abbrev pub with_ready_area : ℕ → ℕ → Table → Table
with_ready_area new slots table = record {
  kind = λ handle. if handle == new then Ready else table.kind handle;
  spare = λ handle. if handle == new then slots else table.spare handle;
  held = table.held;
  space = table.space;
}

-- the table without the labels with one uuid that a module holds
abbrev pub without_held : ℕ → List ℕ → Table → Table
without_held from uuid table = record {
  kind = table.kind;
  spare = λ handle. if handle == from then table.spare handle + table.held handle (has uuid) else table.spare handle;
  held = λ handle test. if handle == from then table.held handle (λ label. not (has uuid label) && test label)
      else table.held handle test;
  space = table.space;
}

-- An area that was not Ready, and so had no labels, is Ready, with this many slots and no label.
pub record IsInitialised (handle slots : ℕ) (before after : Labels) : Type 0 where
  pub others : (other : ℕ) → other ≢ handle → after other ≡ before other
  pub was_not_ready : is_ready (before handle).kind ≡ false
  pub had_none : (slot : ℕ) → (before handle).at slot ≡ None
  pub is_now : (after handle).kind ≡ Ready
  pub slots_are : (after handle).slots ≡ slots
  pub has_none : (slot : ℕ) → (after handle).at slot ≡ None

-- A module loses its labels with one uuid, all of which it held.
pub record IsReleased (platform : Platform) (handle : ℕ) (uuid : List ℕ) (before after : Labels) : Type 0 where
  pub confined : IsConfined uuid handle before after
  pub none : HasNone uuid (after handle)
  pub held : (slot : ℕ) (label : Label) → (before handle).at slot ≡ Some label → has uuid label ≡ true
      → is_held platform before handle label ≡ true
