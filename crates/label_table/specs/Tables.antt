-- The table that the labels stand for, as one value, and the changes of it that commands make.
use Rattle.std.specs.Prelude.{◌≡◌, ℕ, ◌+◌, ◌-◌, ◌==◌, Bool, true, false, ◌&&◌, List, Option, Some, None, if◌then◌else◌}
use Rattle.std.specs.List.{Contains, list_any}
use Rattle.std.specs.Option.{option_map_or}
use Rattle.std.specs.Str.{bytes_eq}
use Rattle.label_codec.specs.declared.label.Label.{Label}
use Rattle.label_codec.specs.declared.kind.AreaKind.{AreaKind}
use Rattle.label_codec.specs.ModuleLabels.{Labels}
use Rattle.region_map.specs.declared.platform.Member.{Member}
use Rattle.region_map.specs.declared.platform.Region.{Region}
use Rattle.region_map.specs.declared.platform.Platform.{Platform}
use Rattle.label_table.specs.Belonging.{IsDisjoint}
use Rattle.region_map.specs.Platforms.{region_at}
use Rattle.label_table.specs.Fates.{held_count, spare}
use Rattle.label_table.specs.Spaces.{Space, is_pending, space}

-- The kind of each module's area, its spare slots, and how many of its held labels pass a test, by handle; and the
-- namespaces, by the index of their region and by uuid.
pub record Table : Type 0 where
  pub kind : ℕ → AreaKind
  pub spare : ℕ → ℕ
  pub held : ℕ → (Label → Bool) → ℕ
  pub space : ℕ → List ℕ → Option Space

-- the table, and which namespaces are pending
pub record State : Type 0 where
  pub table : Table
  pub pending : ℕ → List ℕ → Bool

abbrev pub space_at : Platform → Labels → ℕ → List ℕ → Option Space
space_at platform labels index uuid =
    option_map_or (λ region. space labels region uuid) (region_at platform index) None

abbrev pub pending_at : Platform → Labels → ℕ → List ℕ → Bool
pending_at platform labels index uuid =
    option_map_or (λ region. is_pending labels region uuid) (region_at platform index) false

abbrev pub table : Platform → Labels → Table
table platform labels = record {
  kind = λ handle. (labels handle).kind;
  spare = spare platform labels;
  held = held_count platform labels;
  space = space_at platform labels;
}

abbrev pub state : Platform → Labels → State
state platform labels = record { table = table platform labels; pending = pending_at platform labels }

-- a module of the region has this handle
abbrev pub is_member : Region → ℕ → Bool
is_member region handle = list_any (λ (member : Member). member.handle == handle) region.members

-- the namespace with this uuid in the region with this index
abbrev pub is_named : Region → List ℕ → ℕ → List ℕ → Bool
is_named region uuid index other = region.index == index && bytes_eq uuid other

-- the slot that a namespace of the region takes of a module
abbrev pub slot_of : Region → ℕ → ℕ
slot_of region handle = if is_member region handle then 1 else 0

-- values by the index of a region and by uuid, with another one for one namespace
abbrev pub changed_at : {A : Type 0} → Region → List ℕ → A → (ℕ → List ℕ → A) → ℕ → List ℕ → A
changed_at region uuid new values index other = if is_named region uuid index other then new else values index other

-- the table with a new namespace, for which each module of its region gives a slot
abbrev pub with_space : Region → Space → Table → Table
with_space region space table = record {
  kind = table.kind;
  spare = λ handle. table.spare handle - slot_of region handle;
  held = table.held;
  space = changed_at region space.uuid (Some space) table.space;
}

-- the table without a namespace, by which each module of its region gains a slot
abbrev pub without_space : Region → List ℕ → Table → Table
without_space region uuid table = record {
  kind = table.kind;
  spare = λ handle. table.spare handle + slot_of region handle;
  held = table.held;
  space = changed_at region uuid None table.space;
}

-- the table in which a namespace shows something else, as a new name or length
abbrev pub with_changed_space : Region → Space → Table → Table
with_changed_space region space table = record {
  kind = table.kind;
  spare = table.spare;
  held = table.held;
  space = changed_at region space.uuid (Some space) table.space;
}

-- the state with a new namespace, which is pending
abbrev pub with_namespace : Region → Space → State → State
with_namespace region space state = record {
  table = with_space region space state.table;
  pending = changed_at region space.uuid true state.pending;
}

-- the state without a namespace
abbrev pub without_namespace : Region → List ℕ → State → State
without_namespace region uuid state = record {
  table = without_space region uuid state.table;
  pending = changed_at region uuid false state.pending;
}

-- the state in which a namespace shows something else, and is pending or not
abbrev pub with_changed_namespace : Region → Space → Bool → State → State
with_changed_namespace region space mark state = record {
  table = with_changed_space region space state.table;
  pending = changed_at region space.uuid mark state.pending;
}

-- The table changes at one namespace of a region alone, and may change in spare slots and held labels.
pub record ChangesAt (platform : Platform) (region : Region) (uuid : List ℕ) (new : Option Space)
    (before after : Labels) : Type 0 where
  pub disjoint : IsDisjoint platform
  pub region_in : Contains platform.regions region
  pub kinds : (table platform after).kind ≡ (table platform before).kind
  pub spaces : (table platform after).space ≡ changed_at region uuid new (table platform before).space
