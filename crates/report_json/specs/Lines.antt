-- The lines of lists, one for each item.
use Rattle.std.specs.Prelude.{ℕ, ◌*◌, ◌-◌, ◌^◌, min, List, [], ◌++◌, codes}
use Rattle.std.specs.Fmt.{decimal}
use Rattle.label_codec.specs.Names.{printed_name}
use Rattle.view_types.specs.declared.extents.Extent.{Extent}
use Rattle.view_types.specs.declared.namespaces.Held.{Held}
use Rattle.view_types.specs.declared.namespaces.Listed.{Listed}
use Rattle.view_types.specs.declared.states.Status.{Status}
use Rattle.view_types.specs.declared.states.Status.TheVariants as statuses
use Rattle.view_types.specs.declared.translation.Run.{Run}
use Rattle.view_types.specs.declared.views.RegionView.{RegionView}
use Rattle.report_json.specs.Numbers.{address_text, handle_text, uuid_text}
use Rattle.report_json.specs.Refusals.{status_text}
use Rattle.report_json.specs.Words.{flag_word, mode_word}

-- the bytes of a namespace, in all its members; above 2^64 - 1 it is printed as that
abbrev pub size_of : Listed → ℕ
size_of listed = min (listed.ways * listed.space.length) (2 ^ 64 - 1)

abbrev pub namespace_line : Listed → List ℕ
namespace_line listed = codes "  namespace uuid=" ++ uuid_text listed.space.uuid
    ++ codes " name=" ++ printed_name listed.space.name
    ++ codes " region=" ++ decimal listed.region
    ++ codes " mode=" ++ mode_word listed.space.abstraction
    ++ codes " sector=" ++ decimal listed.space.sector
    ++ codes " offset=" ++ decimal listed.space.offset
    ++ codes " length=" ++ decimal listed.space.length
    ++ codes " size=" ++ decimal (size_of listed)
    ++ codes " pending=" ++ flag_word listed.space.pending
    ++ codes " read-only=" ++ flag_word listed.space.read_only
    ++ codes "\n"

-- the number of members and the cookie
abbrev pub set_text : ℕ → ℕ → List ℕ
set_text ways cookie = codes " ways=" ++ decimal ways ++ codes " cookie=" ++ address_text cookie

-- which only a region has that can be used
abbrev pub members_text : Status → ℕ → ℕ → List ℕ
members_text (statuses.Unusable rule) ways cookie = []
members_text (statuses.Area dimm state) ways cookie = set_text ways cookie
members_text (statuses.Clash first second) ways cookie = set_text ways cookie
members_text statuses.Ready ways cookie = set_text ways cookie

abbrev pub region_line : RegionView → List ℕ
region_line region = codes "  region index=" ++ decimal region.index
    ++ codes " spa=" ++ address_text region.spa
    ++ codes " size=" ++ decimal region.length
    ++ members_text region.status region.ways region.cookie
    ++ codes " status=" ++ status_text region.status
    ++ codes "\n"

abbrev pub free_line : Extent → List ℕ
free_line extent = codes "  free offset=" ++ decimal extent.start
    ++ codes " length=" ++ decimal extent.len
    ++ codes "\n"

abbrev pub held_line : Held → List ℕ
held_line held = codes "  held uuid=" ++ uuid_text held.uuid
    ++ codes " dpa=" ++ address_text held.dpa
    ++ codes " size=" ++ decimal held.size
    ++ codes " local=" ++ flag_word held.local
    ++ codes " read-only=" ++ flag_word held.read_only
    ++ codes " updating=" ++ flag_word held.updating
    ++ codes "\n"

abbrev pub run_line : Run → List ℕ
run_line run = codes "  run dimm=" ++ handle_text run.dimm
    ++ codes " dpa=" ++ address_text run.dpa
    ++ codes " length=" ++ decimal run.length
    ++ codes "\n"
