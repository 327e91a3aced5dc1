-- What becomes of a label: it is part of a namespace, or dead, or held.
use Rattle.std.specs.Prelude.{ℕ, ◌-◌, Bool, false, not, ◌&&◌, List, Option, Some, None, is_some}
use Rattle.label_codec.specs.declared.label.Label.{Label}
use Rattle.label_codec.specs.Flags.{is_read_only, is_updating}
use Rattle.label_codec.specs.ModuleLabels.{Labels, number}
use Rattle.region_map.specs.declared.platform.Region.{Region}
use Rattle.region_map.specs.declared.platform.Platform.{Platform}
use Rattle.label_table.specs.Belonging.{region_of}
use Rattle.label_table.specs.Wholes.{all_ready, is_doubled, is_whole}

-- A label of a region that is being changed, and may be. It may have been left by a command that was stopped.
abbrev pub is_stale : Platform → ℕ → Label → Bool
is_stale platform handle label =
    is_updating label && (not (is_read_only label) && is_some (region_of platform handle label))

-- all modules of the region are Ready, and the uuid is neither whole there nor doubled
abbrev pub is_unfinished : Labels → List ℕ → Option Region → Bool
is_unfinished labels uuid None = false
is_unfinished labels uuid (Some region) =
    all_ready region labels && (not (is_whole labels region uuid) && not (is_doubled labels region uuid))

abbrev pub is_whole_in : Labels → List ℕ → Option Region → Bool
is_whole_in labels uuid None = false
is_whole_in labels uuid (Some region) = is_whole labels region uuid

-- A stale label whose region has all its modules, and for whose uuid no namespace stands there, nor can one by it.
abbrev pub is_dead : Platform → Labels → ℕ → Label → Bool
is_dead platform labels handle label =
    is_stale platform handle label && is_unfinished labels label.uuid (region_of platform handle label)

-- One of the labels of a namespace.
abbrev pub is_of_namespace : Platform → Labels → ℕ → Label → Bool
is_of_namespace platform labels handle label = is_whole_in labels label.uuid (region_of platform handle label)

-- A label that is neither: it keeps its range.
abbrev pub is_held : Platform → Labels → ℕ → Label → Bool
is_held platform labels handle label =
    not (is_dead platform labels handle label) && not (is_of_namespace platform labels handle label)

-- how many live labels of a module are not dead
abbrev pub kept_count : Platform → Labels → ℕ → ℕ
kept_count platform labels handle = number (λ label. not (is_dead platform labels handle label)) (labels handle)

-- how many slots of a module are left for new labels
abbrev pub spare : Platform → Labels → ℕ → ℕ
spare platform labels handle = (labels handle).slots - kept_count platform labels handle

-- what a held label shows: all but its slot
abbrev pub without_slot : Label → Label
without_slot label = record label { slot = 0 }

-- how many held labels of a module pass a test: the held labels, in no order
abbrev pub held_count : Platform → Labels → ℕ → (Label → Bool) → ℕ
held_count platform labels handle test =
    number (λ label. is_held platform labels handle label && test (without_slot label)) (labels handle)
