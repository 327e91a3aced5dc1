-- Platforms and labels by which the steps are tried out.
use Rattle.std.proofs.Common.{ℕ, cond, List, [], ◌∷◌, Option, Some, None}
use Rattle.std.specs.Prelude.{◌==◌, replicate, slice_get}
use Rattle.view_types.specs.Guids.{persistent_memory}
use Rattle.label_codec.specs.declared.label.Label.{Label}
use Rattle.label_codec.specs.declared.kind.AreaKind.{AreaKind}
use Rattle.label_codec.specs.declared.kind.AreaKind.TheVariants.{Ready, Uninit}
use Rattle.label_codec.specs.ModuleLabels.{Module, Labels}
use Rattle.region_map.specs.declared.platform.Member.{Member}
use Rattle.region_map.specs.declared.platform.Region.{Region}
use Rattle.region_map.specs.declared.platform.Platform.{Platform}
use Rattle.table_steps.specs.declared.new_namespace.NewNamespace.{NewNamespace}

-- the member with a handle, at a region offset, with so many bytes
abbrev pub member : ℕ → ℕ → ℕ → Member
member handle region_offset size = record {
  handle = handle;
  dpa_base = 0;
  size = size;
  region_offset = region_offset;
  interleave = 1;
  ways = 2;
  serial = 1;
  vendor = 0x1234;
  date = 0;
  location = 0;
}

-- two modules with so many bytes each
abbrev pub region_of_two : ℕ → Region
region_of_two size = record {
  index = 1;
  spa = 0x100000000;
  length = size;
  rule = None;
  members = member 0x1 0 size ∷ member 0x101 4096 size ∷ [];
  cookie = 0x0002e2420000346b;
}

abbrev pub platform_of : Region → Platform
platform_of region = record { regions = region ∷ []; modules = 0x1 ∷ 0x101 ∷ []; tables = [] }

-- one module of 64 MiB
abbrev pub single_region : Region
single_region = record {
  index = 1;
  spa = 0x100000000;
  length = 67108864;
  rule = None;
  members = member 0x1 0 67108864 ∷ [];
  cookie = 0x0000a3de00001235;
}

abbrev pub single : Platform
single = record { regions = single_region ∷ []; modules = 0x1 ∷ []; tables = [] }

-- 64 MiB and 64 GiB of each module
abbrev pub small : Platform
small = platform_of (region_of_two 67108864)

abbrev pub great : Platform
great = platform_of (region_of_two 68719476736)

abbrev pub region : Region
region = region_of_two 67108864

-- 0f6b1a52-7c3e-4d28-9a41-5be0c7d2e813, and the same with another last byte
abbrev pub uuid_with : ℕ → List ℕ
uuid_with last = 0x0f ∷ 0x6b ∷ 0x1a ∷ 0x52 ∷ 0x7c ∷ 0x3e ∷ 0x4d ∷ 0x28 ∷ 0x9a ∷ 0x41 ∷ 0x5b ∷ 0xe0 ∷ 0xc7 ∷ 0xd2 ∷ 0xe8 ∷ last ∷ []

abbrev pub first_uuid : List ℕ
first_uuid = uuid_with 0x13

abbrev pub second_uuid : List ℕ
second_uuid = uuid_with 0x14

abbrev pub third_uuid : List ℕ
third_uuid = uuid_with 0x15

abbrev pub no_name : List ℕ
no_name = replicate 64 0

-- `db0` and `db1`
abbrev pub name_with : ℕ → List ℕ
name_with last = 0x64 ∷ 0x62 ∷ last ∷ replicate 61 0

abbrev pub db0 : List ℕ
db0 = name_with 0x30

abbrev pub db1 : List ℕ
db1 = name_with 0x31

-- a create of so many bytes
abbrev pub asked : ℕ → List ℕ → List ℕ → NewNamespace
asked size name uuid = record { region = 1; size = size; name = name; abstraction = replicate 16 0; sector = 512; uuid = uuid }

-- the label of a namespace at a position
abbrev pub label : List ℕ → List ℕ → ℕ → ℕ → ℕ → ℕ → Label
label uuid name flags position dpa size = record {
  uuid = uuid;
  name = name;
  flags = flags;
  nlabel = 2;
  position = position;
  cookie = 0x0002e2420000346b;
  lba_size = 512;
  dpa = dpa;
  raw_size = size;
  slot = 0;
  alignment = 0;
  type_guid = persistent_memory;
  abstraction = replicate 16 0;
}

abbrev pub no_label : ℕ → Option Label
no_label slot = None

-- a label in the first slot alone
abbrev pub one_label : Label → ℕ → Option Label
one_label only slot = cond (slot == 0) (Some only) None

-- labels in the first slots
abbrev pub some_labels : List Label → ℕ → Option Label
some_labels labels slot = slice_get labels slot

abbrev pub ready_area : ℕ → (ℕ → Option Label) → Module
ready_area slots at = record { kind = Ready; slots = slots; at = at }

abbrev pub empty_area : AreaKind → Module
empty_area kind = record { kind = kind; slots = 0; at = no_label }

-- what the two modules have
abbrev pub two_modules : Module → Module → Labels
two_modules first second handle = cond (handle == 0x1) first (cond (handle == 0x101) second (empty_area Uninit))

-- two areas with so many slots and no labels
abbrev pub empty : ℕ → Labels
empty slots = two_modules (ready_area slots no_label) (ready_area slots no_label)

-- one namespace at offset 0: its name, its flags, and its length in each module
abbrev pub with_one : ℕ → List ℕ → ℕ → ℕ → Labels
with_one slots name flags length = two_modules (ready_area slots (one_label (label first_uuid name flags 0 0 length))) (ready_area slots (one_label (label first_uuid name flags 1 0 length)))

-- namespaces in both modules, each with a uuid, a name, flags and an offset, and with 2 MiB in each module
abbrev pub spaces_at : ℕ → List (List ℕ × List ℕ × ℕ × ℕ) → List Label
spaces_at position [] = []
spaces_at position (each ∷ others) = label each.0 each.1 each.2 position each.3 2097152 ∷ spaces_at position others

abbrev pub with_spaces : ℕ → List (List ℕ × List ℕ × ℕ × ℕ) → Labels
with_spaces slots spaces = two_modules (ready_area slots (some_labels (spaces_at 0 spaces))) (ready_area slots (some_labels (spaces_at 1 spaces)))
