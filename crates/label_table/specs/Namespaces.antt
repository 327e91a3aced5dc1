-- The namespaces of a region in their order, and which of them overlap.
use Rattle.std.specs.Prelude.{ℕ, zero, suc, ◌+◌, nat_lt, Bool, not, ◌&&◌, List, [], ◌∷◌, ◌++◌, filter, Option, Some}
use Rattle.std.specs.Prelude.{None, if◌then◌else◌}
use Rattle.std.specs.Cmp.Lexicographic.{slice_cmp}
use Rattle.std.specs.declared.cmp.Ordering.{Ordering}
use Rattle.std.specs.Option.{option_and_then, option_to_list}
use Rattle.std.specs.Ordering.{is_lt, nat_cmp, ordering_then}
use Rattle.std.specs.Str.{bytes_eq}
use Rattle.label_codec.specs.declared.label.Label.{Label}
use Rattle.label_codec.specs.ModuleLabels.{Labels}
use Rattle.region_map.specs.declared.platform.Member.{Member}
use Rattle.region_map.specs.declared.platform.Region.{Region}
use Rattle.label_table.specs.Spaces.{Space, space}

-- by offset, and then by the bytes of the uuid
abbrev pub space_cmp : Space → Space → Ordering
space_cmp a b = ordering_then (nat_cmp a.offset b.offset) (slice_cmp nat_cmp a.uuid b.uuid)

-- a namespace put in its place among others
abbrev pub insert_space : Space → List Space → List Space
insert_space new [] = new ∷ []
insert_space new (space ∷ spaces) =
    if is_lt (space_cmp new space) then new ∷ space ∷ spaces else space ∷ insert_space new spaces

abbrev pub in_order : List Space → List Space
in_order [] = []
in_order (space ∷ spaces) = insert_space space (in_order spaces)

-- the namespaces whose labels stand below a slot of position 0's module
abbrev pub spaces_below : Labels → Region → (ℕ → Option Label) → ℕ → List Space
spaces_below labels region at zero = []
spaces_below labels region at (suc slot) = spaces_below labels region at slot
    ++ option_to_list (option_and_then (λ (label : Label). space labels region label.uuid) (at slot))

abbrev pub spaces_among : Labels → Region → List Member → List Space
spaces_among labels region [] = []
spaces_among labels region (member ∷ members) =
    spaces_below labels region (labels member.handle).at (labels member.handle).slots

-- the namespaces of a region, in the order of position 0's slots
abbrev pub spaces_by_slot : Labels → Region → List Space
spaces_by_slot labels region = spaces_among labels region region.members

-- the namespaces of a region, by offset and then by uuid
abbrev pub namespaces : Labels → Region → List Space
namespaces labels region = in_order (spaces_by_slot labels region)

-- the namespaces with other uuids
abbrev pub without_uuid : List ℕ → List Space → List Space
without_uuid uuid spaces = filter (λ (space : Space). not (bytes_eq uuid space.uuid)) spaces

-- two ranges have an offset in common
abbrev pub overlaps : Space → Space → Bool
overlaps a b = nat_lt a.offset (b.offset + b.length) && nat_lt b.offset (a.offset + a.length)

abbrev pub first_clash_from : Space → List Space → Option (List ℕ × List ℕ)
first_clash_from space [] = None
first_clash_from space (next ∷ spaces) =
    if overlaps space next then Some (space.uuid, next.uuid) else first_clash_from next spaces

-- the uuids of the first two neighbours that overlap
abbrev pub first_clash : List Space → Option (List ℕ × List ℕ)
first_clash [] = None
first_clash (space ∷ spaces) = first_clash_from space spaces
