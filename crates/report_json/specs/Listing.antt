-- The listing of an area. Each line ends with the byte 0x0A.
use Rattle.std.specs.Prelude.{ℕ, List, ◌++◌, codes, length}
use Rattle.std.specs.Fmt.{decimal}
use Rattle.std.specs.FinMap.{get}
use Rattle.std.specs.List.{filter_map, flat_map, range_with_len}
use Rattle.index_block.specs.declared.geometry.Place.{Place}
use Rattle.index_block.specs.declared.geometry.Place.TheVariants.{First, Second}
use Rattle.label_codec.specs.declared.label.Label.{Label}
use Rattle.label_codec.specs.Names.{printed_name}
use Rattle.label_area.specs.declared.blocks.Current.{Current}
use Rattle.label_area.specs.LoadedAreas.{LoadedArea}
use Rattle.label_codec.specs.declared.kind.AreaKind.TheVariants.{Ready}
use Rattle.label_codec.specs.ModuleLabels.{Module}
use Rattle.report_json.specs.Numbers.{address_text, handle_text, uuid_text}

-- the line of a live label: which it is, what it is in its set, and which part of the module it names
abbrev pub label_line : Label → List ℕ
label_line label = codes "  slot=" ++ decimal label.slot
    ++ codes " uuid=" ++ uuid_text label.uuid
    ++ codes " name=" ++ printed_name label.name
    ++ codes " flags=" ++ handle_text label.flags
    ++ codes " nlabel=" ++ decimal label.nlabel
    ++ codes " position=" ++ decimal label.position
    ++ codes " cookie=" ++ address_text label.cookie
    ++ codes " dpa=" ++ address_text label.dpa
    ++ codes " size=" ++ decimal label.raw_size
    ++ codes "\n"

-- 0 or 1
abbrev pub place_number : Place → ℕ
place_number First = 0
place_number Second = 1

abbrev pub last_line : ℕ → Current → List ℕ
last_line count current = codes "ok labels=" ++ decimal count
    ++ codes " slots=" ++ decimal current.geometry.slots
    ++ codes " seq=" ++ decimal current.seq
    ++ codes " place=" ++ decimal (place_number current.place)
    ++ codes "\n"

-- the live labels of a module, in the order of their slots
abbrev pub live_labels : Module → List Label
live_labels area = filter_map area.at (range_with_len 0 area.slots)

-- a line for each live label, in the order of the slots, and a last line
abbrev pub listing : Current → Module → List ℕ
listing current area = flat_map label_line (live_labels area) ++ last_line (length (live_labels area)) current

-- the listing of an area that was loaded
abbrev pub loaded_listing : LoadedArea → List ℕ
loaded_listing area = listing (record { geometry = area.geometry; place = area.place; seq = area.seq })
    (record { kind = Ready; slots = area.geometry.slots; at = get area.live })
