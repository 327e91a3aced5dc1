-- The namespaces of a region that a command's key tells from the others.
use Rattle.std.specs.Prelude.{◌≡◌, nat_lt, Bool, true, false, List, [], ◌∷◌, Option, Some, None, filter, length}
use Rattle.std.specs.List.{Contains}
use Rattle.std.specs.Str.{bytes_eq}
use Rattle.view_types.specs.declared.refusal.Refusal.{Refusal}
use Rattle.view_types.specs.declared.refusal.Refusal.TheVariants.{Ambiguous, ReadOnly, UnknownNamespace}
use Rattle.cmd_words.specs.declared.name_keys.NameKey.{NameKey}
use Rattle.cmd_words.specs.declared.name_keys.NameKey.TheVariants.{Uuid, Name}
use Rattle.label_codec.specs.ModuleLabels.{Labels}
use Rattle.region_map.specs.declared.platform.Region.{Region}
use Rattle.label_table.specs.Namespaces.{namespaces}
use Rattle.label_table.specs.Spaces.{Space, space}
use Rattle.label_table.specs.Wholes.{any_read_only, is_whole, labels_with}
use Rattle.table_steps.specs.Create.{is_named, is_unnamed}
use Rattle.table_steps.specs.Refusals.{refused_if}

-- a namespace has the uuid, or the name up to the first zero byte of each
abbrev pub fits : NameKey → Space → Bool
fits (Uuid uuid) own = bytes_eq uuid own.uuid
fits (Name name) own = is_named name own

-- those of the region, by offset and then by uuid
abbrev pub fitting : Labels → Region → NameKey → List Space
fitting labels region key = filter (fits key) (namespaces labels region)

-- none fits
abbrev pub unknown_among : List Space → Option Refusal
unknown_among [] = Some UnknownNamespace
unknown_among (own ∷ spaces) = None

-- two or more fit
abbrev pub ambiguous_among : List Space → Option Refusal
ambiguous_among spaces = refused_if (nat_lt 1 (length spaces)) (Ambiguous (length spaces))

-- the one that fits is not to be changed
abbrev pub read_only_among : List Space → Option Refusal
read_only_among [] = None
read_only_among (own ∷ spaces) = refused_if own.read_only (ReadOnly own.uuid)

abbrev pub unknown_in : Labels → NameKey → Region → Option Refusal
unknown_in labels key region = unknown_among (fitting labels region key)

abbrev pub ambiguous_in : Labels → NameKey → Region → Option Refusal
ambiguous_in labels key region = ambiguous_among (fitting labels region key)

abbrev pub read_only_in : Labels → NameKey → Region → Option Refusal
read_only_in labels key region = read_only_among (fitting labels region key)

-- One namespace of the region fits the key. It stands, and none of its labels is read-only.
pub record IsOneToChange (labels : Labels) (region : Region) (key : NameKey) (own : Space) : Type 0 where
  pub only : fitting labels region key ≡ own ∷ []
  pub stands : space labels region own.uuid ≡ Some own
  pub whole : is_whole labels region own.uuid ≡ true
  pub writable : own.read_only ≡ false
  pub none_read_only : any_read_only region (labels_with own.uuid labels) ≡ false

-- No two namespaces of the region have the same name, unless it is empty.
abbrev pub HasDistinctNames : Labels → Region → Type 0
HasDistinctNames labels region = (one other : Space) → Contains (namespaces labels region) one
    → Contains (namespaces labels region) other → is_unnamed one.name ≡ false → is_named one.name other ≡ true
    → one ≡ other
