-- Which uuids are whole in a region, and which are doubled. A whole uuid is a namespace.
use Rattle.std.specs.Prelude.{ℕ, ◌==◌, nat_lt, Bool, true, false, not, ◌&&◌, ◌||◌, List, [], ◌∷◌, Option, Some, None}
use Rattle.std.specs.List.{list_all, list_any}
use Rattle.label_codec.specs.declared.label.Label.{Label}
use Rattle.label_codec.specs.Flags.{is_read_only, is_updating}
use Rattle.label_codec.specs.ModuleLabels.{Labels, first, is_ready, number, of_uuid}
use Rattle.region_map.specs.declared.platform.Member.{Member}
use Rattle.region_map.specs.declared.platform.Region.{Region}
use Rattle.label_table.specs.Belonging.{belongs, offset_in}

-- the areas of all modules of the region are Ready
abbrev pub all_ready : Region → Labels → Bool
all_ready region labels = list_all (λ (member : Member). is_ready (labels member.handle).kind) region.members

-- the labels of one uuid in all modules
abbrev pub labels_with : List ℕ → Labels → Labels
labels_with uuid labels handle = of_uuid uuid (labels handle)

abbrev pub any_label : Label → Bool
any_label label = true

-- how many live labels a module has
abbrev pub label_count : Labels → ℕ → ℕ
label_count labels handle = number any_label (labels handle)

-- In what follows `own` are the labels of one uuid.

-- a module of the region has two of them or more
abbrev pub is_doubled_by : Region → Labels → Bool
is_doubled_by region own = list_any (λ (member : Member). nat_lt 1 (label_count own member.handle)) region.members

-- one of them is read-only
abbrev pub any_read_only : Region → Labels → Bool
any_read_only region own =
    list_any (λ (member : Member). nat_lt 0 (number is_read_only (own member.handle))) region.members

-- one of them is being changed
abbrev pub any_updating : Region → Labels → Bool
any_updating region own =
    list_any (λ (member : Member). nat_lt 0 (number is_updating (own member.handle))) region.members

-- the label of the module at position 0
abbrev pub leading_among : List Member → Labels → Option Label
leading_among [] own = None
leading_among (member ∷ members) own = first (own member.handle)

abbrev pub leading_label : Region → Labels → Option Label
leading_label region own = leading_among region.members own

-- another label belongs to the region, at the same offset
abbrev pub agrees : Region → Label → ℕ → Label → Bool
agrees region label handle other = belongs region handle other && offset_in region other == offset_in region label

-- the module has one of them, and it agrees with a label
abbrev pub has_one : Region → Label → Labels → Member → Bool
has_one region label own member =
    label_count own member.handle == 1 && number (agrees region label member.handle) (own member.handle) == 1

-- one of the module has the length of a label
abbrev pub has_size : Label → Labels → Member → Bool
has_size label own member = number (λ other. other.raw_size == label.raw_size) (own member.handle) == 1

-- all have one length, or the label of position 0 is being changed
abbrev pub sizes_agree : Region → Label → Labels → Bool
sizes_agree region label own =
    list_all (has_size label own) region.members || (is_updating label && not (any_read_only region own))

abbrev pub is_whole_after : Region → Labels → Option Label → Bool
is_whole_after region own None = false
is_whole_after region own (Some label) =
    list_all (has_one region label own) region.members && sizes_agree region label own

abbrev pub is_whole_by : Region → Labels → Bool
is_whole_by region own = all_ready region own && is_whole_after region own (leading_label region own)

-- A module of the region has two live labels with the uuid or more.
abbrev pub is_doubled : Labels → Region → List ℕ → Bool
is_doubled labels region uuid = is_doubled_by region (labels_with uuid labels)

-- Every module of the region is Ready and has exactly one live label with the uuid. Each of these belongs to the
-- region, and all have one offset. All have one RawSize, or that of position 0 is being changed and none is read-only.
abbrev pub is_whole : Labels → Region → List ℕ → Bool
is_whole labels region uuid = is_whole_by region (labels_with uuid labels)
