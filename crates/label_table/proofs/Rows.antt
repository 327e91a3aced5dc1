-- Worked rows, by computation.
use Rattle.std.proofs.Common.{◌≡◌, ℕ, Bool, true, false, ◌&&◌, List, [], ◌∷◌, refl}
use Rattle.std.specs.Prelude.{nat_lt, replicate}
use Rattle.label_codec.specs.declared.kind.AreaKind.TheVariants.{Missing}
use Rattle.label_codec.specs.ModuleLabels.{Labels, has}
use Rattle.label_codec.specs.Flags.{is_updating}
use Rattle.label_table.specs.Wholes.{any_label, is_whole}
use Rattle.label_table.specs.Spaces.{Space, is_pending}
use Rattle.label_table.specs.Fates.{held_count, spare}
use Rattle.label_table.specs.Namespaces.{namespaces}
use Rattle.label_table.specs.Statuses.{AreaNotReady, Clash, RegionReady, status}
use Rattle.label_table.specs.Division.{is_common_free, largest}
use Rattle.label_table.proofs.Examples.{region, platform, first_uuid, second_uuid, name_a, name_b, updating, label, part, no_label, at_first, at_second, ready_area, missing, two_modules}

-- what a namespace of the region shows
abbrev shown : List ℕ → List ℕ → ℕ → ℕ → Space
shown uuid name offset size = record { uuid = uuid; name = name; abstraction = replicate 16 0; sector = 512; offset = offset; length = size; read_only = false }

-- A create was stopped when the first module had its label: the table is that without the namespace.
abbrev one_label : Labels
one_label = two_modules (ready_area (at_first (label first_uuid name_a updating 0 0 part) no_label)) (ready_area no_label)

one_label-whole : is_whole one_label region first_uuid ≡ false
one_label-whole = refl

one_label-namespaces : namespaces one_label region ≡ []
one_label-namespaces = refl

one_label-held : held_count platform one_label 0x1 any_label ≡ 0
one_label-held = refl

one_label-spare : (spare platform one_label 0x1 ≡ 510) × (spare platform one_label 0x101 ≡ 510)
one_label-spare = (refl, refl)

one_label-free : (offset : ℕ) → is_common_free platform one_label region offset ≡ nat_lt offset 67108864
one_label-free offset = and_true (nat_lt offset 67108864)
  where
    and_true : (b : Bool) → (b && true) ≡ b
    and_true true = refl
    and_true false = refl

-- It was stopped when both had one: the namespace stands, and is pending.
abbrev both_labels : Labels
both_labels = two_modules (ready_area (at_first (label first_uuid name_a updating 0 0 part) no_label)) (ready_area (at_first (label first_uuid name_a updating 1 0 part) no_label))

both_labels-namespaces : namespaces both_labels region ≡ shown first_uuid name_a 0 part ∷ []
both_labels-namespaces = refl

both_labels-pending : is_pending both_labels region first_uuid ≡ true
both_labels-pending = refl

both_labels-spare : spare platform both_labels 0x101 ≡ 509
both_labels-spare = refl

-- A rename was stopped after its first label: the name is the new one, though the second module has the old one.
abbrev renamed : Labels
renamed = two_modules (ready_area (at_first (label first_uuid name_b updating 0 0 part) no_label)) (ready_area (at_first (label first_uuid name_a 0 1 0 part) no_label))

renamed-namespaces : (namespaces renamed region ≡ shown first_uuid name_b 0 part ∷ []) × (is_pending renamed region first_uuid ≡ true)
renamed-namespaces = (refl, refl)

-- A create was stopped when the first module had its label, and the second module's area is missing: the label is held.
abbrev half_missing : Labels
half_missing = two_modules (ready_area (at_first (label first_uuid name_a updating 0 0 part) no_label)) missing

half_missing-held : (held_count platform half_missing 0x1 any_label ≡ 1) × (held_count platform half_missing 0x1 is_updating ≡ 1)
half_missing-held = (refl, refl)

half_missing-spare : spare platform half_missing 0x1 ≡ 509
half_missing-spare = refl

half_missing-status : status half_missing region ≡ AreaNotReady 0x101 Missing
half_missing-status = refl

-- The second module's area was replaced by an empty one: the label of the first is held, and so is its range.
abbrev second_lost : Labels
second_lost = two_modules (ready_area (at_first (label first_uuid name_a 0 0 0 part) no_label)) (ready_area no_label)

second_lost-held : (held_count platform second_lost 0x1 (has first_uuid) ≡ 1) × (held_count platform second_lost 0x1 is_updating ≡ 0)
second_lost-held = (refl, refl)

second_lost-spare : (spare platform second_lost 0x1 ≡ 509) × (spare platform second_lost 0x101 ≡ 510)
second_lost-spare = (refl, refl)

second_lost-free : (is_common_free platform second_lost region 0 ≡ false) × (is_common_free platform second_lost region 2097151 ≡ false) × (is_common_free platform second_lost region 2097152 ≡ true)
second_lost-free = (refl, refl, refl)

second_lost-status : status second_lost region ≡ RegionReady
second_lost-status = refl

-- Two namespaces overlap. The labels of the second one stand in front.
abbrev overlap : Labels
overlap = two_modules
    (ready_area (at_first (label second_uuid name_b 0 0 2097152 part) (at_second (label first_uuid name_a 0 0 0 4194304))))
    (ready_area (at_first (label second_uuid name_b 0 1 2097152 part) (at_second (label first_uuid name_a 0 1 0 4194304))))

overlap-namespaces : namespaces overlap region ≡ shown first_uuid name_a 0 4194304 ∷ shown second_uuid name_b 2097152 part ∷ []
overlap-namespaces = refl

overlap-status : status overlap region ≡ Clash first_uuid second_uuid
overlap-status = refl

-- A resize was stopped after its first label: the length is the new one, though the second module's label has the old one.
abbrev resized : Labels
resized = two_modules (ready_area (at_first (label first_uuid name_a updating 0 0 4194304) no_label)) (ready_area (at_first (label first_uuid name_a 0 1 0 part) no_label))

resized-namespaces : (namespaces resized region ≡ shown first_uuid name_a 0 4194304 ∷ []) × (is_pending resized region first_uuid ≡ true)
resized-namespaces = (refl, refl)

-- The same lengths without the mark are no namespace.
abbrev uneven : Labels
uneven = two_modules (ready_area (at_first (label first_uuid name_a 0 0 0 4194304) no_label)) (ready_area (at_first (label first_uuid name_a 0 1 0 part) no_label))

uneven-whole : (is_whole uneven region first_uuid ≡ false) × (held_count platform uneven 0x1 any_label ≡ 1)
uneven-whole = (refl, refl)

-- The size of the greatest new namespace, in an empty region, beside a namespace of 4 MiB, and with no free extent.
largest-rows : (largest region (record { start = 0; len = 67108864 } ∷ []) ≡ 134217728) × (largest region (record { start = 2097152; len = 65011712 } ∷ []) ≡ 130023424)
    × (largest region (record { start = 10485760; len = 56623104 } ∷ []) ≡ 113246208) × (largest region [] ≡ 0)
largest-rows = (refl, refl, refl, refl)
