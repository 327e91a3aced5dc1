-- What replies tell of what was done.
use Rattle.std.specs.Prelude.{Bool, false, true}
use Rattle.view_types.specs.declared.reply.Reply.{Reply}
use Rattle.view_types.specs.declared.reply.Reply.TheVariants.{Created, Destroyed, Free, HeldList, Initialised, Module}
use Rattle.view_types.specs.declared.reply.Reply.TheVariants.{Namespaces, Refused, Regions, Released, Renamed, Runs, Spa}
use Rattle.view_types.specs.declared.reply.ReplyKind.{ReplyKind}
use Rattle.view_types.specs.declared.reply.ReplyKind.TheVariants as kinds

-- of which kind a reply is
abbrev pub kind_of : Reply → ReplyKind
kind_of (Initialised dimm slots) = kinds.Change
kind_of (Created uuid region offset len size spare) = kinds.Change
kind_of (Destroyed uuid) = kinds.Change
kind_of (Renamed uuid name) = kinds.Change
kind_of (Released count) = kinds.Change
kind_of (Namespaces spaces) = kinds.Told
kind_of (Regions regions) = kinds.Told
kind_of (Free extents most) = kinds.Told
kind_of (HeldList held spare) = kinds.Told
kind_of (Module dimm dpa) = kinds.Told
kind_of (Spa spa) = kinds.Told
kind_of (Runs runs) = kinds.Told
kind_of (Refused refusal) = kinds.Refusal

-- the reply to a command that changed the state
abbrev pub is_change_kind : ReplyKind → Bool
is_change_kind kinds.Change = true
is_change_kind kinds.Told = false
is_change_kind kinds.Refusal = false

abbrev pub is_change : Reply → Bool
is_change reply = is_change_kind (kind_of reply)

-- the command was refused
abbrev pub is_refusal_kind : ReplyKind → Bool
is_refusal_kind kinds.Change = false
is_refusal_kind kinds.Told = false
is_refusal_kind kinds.Refusal = true

abbrev pub is_refusal : Reply → Bool
is_refusal reply = is_refusal_kind (kind_of reply)

-- a fact where the command was refused
abbrev pub WhereRefusal : Type 0 → ReplyKind → Type 0
WhereRefusal fact kinds.Change = Unit {0}
WhereRefusal fact kinds.Told = Unit {0}
WhereRefusal fact kinds.Refusal = fact

abbrev pub WhereRefused : Type 0 → Reply → Type 0
WhereRefused fact reply = WhereRefusal fact (kind_of reply)
