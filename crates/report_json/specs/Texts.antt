-- The texts of replies. Each line ends with the byte 0x0A, and the last one counts those before it.
use Rattle.std.specs.Prelude.{◌≡◌, ℕ, Bool, true, false, List, ◌++◌, codes, length}
use Rattle.std.specs.Fmt.{decimal}
use Rattle.std.specs.List.{flat_map}
use Rattle.view_types.specs.declared.reply.Reply.{Reply}
use Rattle.view_types.specs.declared.reply.Reply.TheVariants.{Initialised, Created, Destroyed, Renamed, Released}
use Rattle.view_types.specs.declared.reply.Reply.TheVariants.{Namespaces, Regions, Free, HeldList}
use Rattle.view_types.specs.declared.reply.Reply.TheVariants.{Module, Spa, Runs, Refused}
use Rattle.report_json.specs.Lines.{free_line, held_line, namespace_line, region_line, run_line}
use Rattle.label_codec.specs.Names.{printed_name}
use Rattle.report_json.specs.Numbers.{address_text, handle_text, uuid_text}
use Rattle.report_json.specs.Refusals.{refusal_line}

abbrev pub initialised_line : ℕ → ℕ → List ℕ
initialised_line dimm slots = codes "ok initialised dimm=" ++ handle_text dimm
    ++ codes " slots=" ++ decimal slots
    ++ codes "\n"

abbrev pub created_line : List ℕ → ℕ → ℕ → ℕ → ℕ → ℕ → List ℕ
created_line uuid region offset len size spare = codes "ok created uuid=" ++ uuid_text uuid
    ++ codes " region=" ++ decimal region
    ++ codes " offset=" ++ decimal offset
    ++ codes " length=" ++ decimal len
    ++ codes " size=" ++ decimal size
    ++ codes " spare=" ++ decimal spare
    ++ codes "\n"

abbrev pub destroyed_line : List ℕ → List ℕ
destroyed_line uuid = codes "ok destroyed uuid=" ++ uuid_text uuid ++ codes "\n"

abbrev pub renamed_line : List ℕ → List ℕ → List ℕ
renamed_line uuid name = codes "ok renamed uuid=" ++ uuid_text uuid ++ codes " name=" ++ printed_name name ++ codes "\n"

abbrev pub released_line : ℕ → List ℕ
released_line count = codes "ok released=" ++ decimal count ++ codes "\n"

abbrev pub module_line : ℕ → ℕ → List ℕ
module_line dimm dpa = codes "ok dimm=" ++ handle_text dimm ++ codes " dpa=" ++ address_text dpa ++ codes "\n"

abbrev pub spa_line : ℕ → List ℕ
spa_line spa = codes "ok spa=" ++ address_text spa ++ codes "\n"

-- the last lines of lists
abbrev pub namespaces_end : ℕ → List ℕ
namespaces_end count = codes "ok namespaces=" ++ decimal count ++ codes "\n"

abbrev pub regions_end : ℕ → List ℕ
regions_end count = codes "ok regions=" ++ decimal count ++ codes "\n"

abbrev pub free_end : ℕ → ℕ → List ℕ
free_end count largest = codes "ok free=" ++ decimal count ++ codes " largest=" ++ decimal largest ++ codes "\n"

abbrev pub held_end : ℕ → ℕ → List ℕ
held_end count spare = codes "ok held=" ++ decimal count ++ codes " spare=" ++ decimal spare ++ codes "\n"

abbrev pub runs_end : ℕ → List ℕ
runs_end count = codes "ok runs=" ++ decimal count ++ codes "\n"

-- the text of a reply
abbrev pub reply_text : Reply → List ℕ
reply_text (Initialised dimm slots) = initialised_line dimm slots
reply_text (Created uuid region offset len size spare) = created_line uuid region offset len size spare
reply_text (Destroyed uuid) = destroyed_line uuid
reply_text (Renamed uuid name) = renamed_line uuid name
reply_text (Released count) = released_line count
reply_text (Namespaces listed) = flat_map namespace_line listed ++ namespaces_end (length listed)
reply_text (Regions regions) = flat_map region_line regions ++ regions_end (length regions)
reply_text (Free extents largest) = flat_map free_line extents ++ free_end (length extents) largest
reply_text (HeldList held spare) = flat_map held_line held ++ held_end (length held) spare
reply_text (Module dimm dpa) = module_line dimm dpa
reply_text (Spa spa) = spa_line spa
reply_text (Runs runs) = flat_map run_line runs ++ runs_end (length runs)
reply_text (Refused refusal) = refusal_line refusal

-- the reply is no list
abbrev pub is_one_line : Reply → Bool
is_one_line (Initialised dimm slots) = true
is_one_line (Created uuid region offset len size spare) = true
is_one_line (Destroyed uuid) = true
is_one_line (Renamed uuid name) = true
is_one_line (Released count) = true
is_one_line (Namespaces listed) = false
is_one_line (Regions regions) = false
is_one_line (Free extents largest) = false
is_one_line (HeldList held spare) = false
is_one_line (Module dimm dpa) = true
is_one_line (Spa spa) = true
is_one_line (Runs runs) = false
is_one_line (Refused refusal) = true

-- the text ends with the end of a line
abbrev pub IsEnded : List ℕ → Type 0
IsEnded text = (front : List ℕ) × (text ≡ front ++ codes "\n")
