-- How the texts of replies end, and that none begins as the line of an error.
use Rattle.std.proofs.Common.{◌≡◌, ℕ, false, List, [], ◌∷◌, ◌++◌, codes, length, nat_eq, refl, sym, append_assoc}
use Rattle.std.specs.Fmt.{decimal}
use Rattle.std.specs.List.{flat_map, starts_with}
use Rattle.view_types.specs.declared.reply.Reply.{Reply}
use Rattle.view_types.specs.declared.reply.Reply.TheVariants.{Initialised, Created, Destroyed, Renamed, Released}
use Rattle.view_types.specs.declared.reply.Reply.TheVariants.{Namespaces, Regions, Free, HeldList}
use Rattle.view_types.specs.declared.reply.Reply.TheVariants.{Module, Spa, Runs, Refused}
use Rattle.report_json.specs.Lines.{free_line, held_line, namespace_line, region_line, run_line}
use Rattle.label_codec.specs.Names.{printed_name}
use Rattle.report_json.specs.Numbers.{address_text, handle_text, uuid_text}
use Rattle.report_json.specs.Refusals.{refusal_text}
use Rattle.report_json.specs.Texts.{IsEnded, reply_text}

-- an ended text behind another one
behind : (before front : List ℕ) → IsEnded (before ++ (front ++ codes "\n"))
behind before front = (before ++ front, sym (append_assoc before front (codes "\n")))

pub ended : (reply : Reply) → IsEnded (reply_text reply)
ended (Initialised dimm slots) =
    (codes "ok initialised dimm=" ++ handle_text dimm ++ codes " slots=" ++ decimal slots, refl)
ended (Created uuid region offset len size spare) = (
  codes "ok created uuid=" ++ uuid_text uuid
      ++ codes " region=" ++ decimal region
      ++ codes " offset=" ++ decimal offset
      ++ codes " length=" ++ decimal len
      ++ codes " size=" ++ decimal size
      ++ codes " spare=" ++ decimal spare,
  refl,
)
ended (Destroyed uuid) = (codes "ok destroyed uuid=" ++ uuid_text uuid, refl)
ended (Renamed uuid name) = (codes "ok renamed uuid=" ++ uuid_text uuid ++ codes " name=" ++ printed_name name, refl)
ended (Released count) = (codes "ok released=" ++ decimal count, refl)
ended (Namespaces listed) =
    behind (flat_map namespace_line listed) (codes "ok namespaces=" ++ decimal (length listed))
ended (Regions regions) = behind (flat_map region_line regions) (codes "ok regions=" ++ decimal (length regions))
ended (Free extents largest) =
    behind (flat_map free_line extents)
    (codes "ok free=" ++ decimal (length extents) ++ codes " largest=" ++ decimal largest)
ended (HeldList held spare) =
    behind (flat_map held_line held) (codes "ok held=" ++ decimal (length held) ++ codes " spare=" ++ decimal spare)
ended (Module dimm dpa) = (codes "ok dimm=" ++ handle_text dimm ++ codes " dpa=" ++ address_text dpa, refl)
ended (Spa spa) = (codes "ok spa=" ++ address_text spa, refl)
ended (Runs runs) = behind (flat_map run_line runs) (codes "ok runs=" ++ decimal (length runs))
ended (Refused refusal) = (codes "refused " ++ refusal_text refusal, refl)

pub no_error : (reply : Reply) → starts_with nat_eq (reply_text reply) (codes "error ") ≡ false
no_error (Initialised dimm slots) = refl
no_error (Created uuid region offset len size spare) = refl
no_error (Destroyed uuid) = refl
no_error (Renamed uuid name) = refl
no_error (Released count) = refl
no_error (Namespaces []) = refl
no_error (Namespaces (listed ∷ more)) = refl
no_error (Regions []) = refl
no_error (Regions (region ∷ more)) = refl
no_error (Free [] largest) = refl
no_error (Free (extent ∷ more) largest) = refl
no_error (HeldList [] spare) = refl
no_error (HeldList (held ∷ more) spare) = refl
no_error (Module dimm dpa) = refl
no_error (Spa spa) = refl
no_error (Runs []) = refl
no_error (Runs (run ∷ more)) = refl
no_error (Refused refusal) = refl
