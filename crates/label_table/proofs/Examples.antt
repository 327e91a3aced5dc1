-- A platform of two modules and a region of 128 MiB over both, by which the definitions are tried out.
use Rattle.std.proofs.Common.{ℕ, cond, List, [], ◌∷◌, Option, Some, None}
use Rattle.std.specs.Prelude.{◌==◌, replicate}
use Rattle.view_types.specs.Guids.{persistent_memory}
use Rattle.label_codec.specs.declared.label.Label.{Label}
use Rattle.label_codec.specs.declared.kind.AreaKind.TheVariants.{Missing, Ready}
use Rattle.label_codec.specs.ModuleLabels.{Module, Labels}
use Rattle.region_map.specs.declared.platform.Member.{Member}
use Rattle.region_map.specs.declared.platform.Region.{Region}
use Rattle.region_map.specs.declared.platform.Platform.{Platform}

-- the member with a handle, at a region offset
abbrev pub member : ℕ → ℕ → Member
member handle region_offset = record {
  handle = handle;
  dpa_base = 0;
  size = 67108864;
  region_offset = region_offset;
  interleave = 1;
  ways = 2;
  serial = 1;
  vendor = 0x1234;
  date = 0;
  location = 0;
}

abbrev pub region : Region
region = record {
  index = 1;
  spa = 0x100000000;
  length = 0x8000000;
  rule = None;
  members = member 0x1 0 ∷ member 0x101 4096 ∷ [];
  cookie = 0x0002e2420000346b;
}

abbrev pub platform : Platform
platform = record { regions = region ∷ []; modules = 0x1 ∷ 0x101 ∷ []; tables = [] }

-- 0f6b1a52-7c3e-4d28-9a41-5be0c7d2e813, and the same with another last byte
abbrev pub uuid_with : ℕ → List ℕ
uuid_with last = 0x0f ∷ 0x6b ∷ 0x1a ∷ 0x52 ∷ 0x7c ∷ 0x3e ∷ 0x4d ∷ 0x28 ∷ 0x9a ∷ 0x41 ∷ 0x5b ∷ 0xe0 ∷ 0xc7 ∷ 0xd2 ∷ 0xe8 ∷ last ∷ []

abbrev pub first_uuid : List ℕ
first_uuid = uuid_with 0x13

abbrev pub second_uuid : List ℕ
second_uuid = uuid_with 0x14

abbrev pub name_a : List ℕ
name_a = 0x61 ∷ replicate 63 0

abbrev pub name_b : List ℕ
name_b = 0x62 ∷ replicate 63 0

abbrev pub updating : ℕ
updating = 8

-- a label at a position of the region
abbrev pub label : List ℕ → List ℕ → ℕ → ℕ → ℕ → ℕ → Label
label uuid name flags position dpa size = record {
  uuid = uuid;
  name = name;
  flags = flags;
  nlabel = 2;
  position = position;
  cookie = 0x0002e2420000346b;
  lba_size = 512;
  dpa = dpa;
  raw_size = size;
  slot = 0;
  alignment = 0;
  type_guid = persistent_memory;
  abstraction = replicate 16 0;
}

-- 2 MiB of each module
abbrev pub part : ℕ
part = 2097152

abbrev pub no_label : ℕ → Option Label
no_label slot = None

-- a label in the first slot, and others from the second slot on
abbrev pub at_first : Label → (ℕ → Option Label) → ℕ → Option Label
at_first only others slot = cond (slot == 0) (Some only) (others slot)

abbrev pub at_second : Label → ℕ → Option Label
at_second only slot = cond (slot == 1) (Some only) None

abbrev pub ready_area : (ℕ → Option Label) → Module
ready_area at = record { kind = Ready; slots = 510; at = at }

abbrev pub missing : Module
missing = record { kind = Missing; slots = 0; at = no_label }

-- what the two modules have
abbrev pub two_modules : Module → Module → Labels
two_modules first second handle = cond (handle == 0x1) first (cond (handle == 0x101) second missing)
