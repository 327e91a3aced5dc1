-- Why commands are refused: the tests that they share, each with its refusal where it applies, and the first of a
-- list.
use Rattle.std.specs.Prelude.{◌≡◌, ℕ, ◌==◌, nat_lt, Bool, not, List, [], ◌∷◌, Option, Some, None, if◌then◌else◌, find}
use Rattle.std.specs.Prelude.{is_none, option_map}
use Rattle.std.specs.List.{list_any}
use Rattle.std.specs.Option.{option_and_then, option_or}
use Rattle.view_types.specs.declared.refusal.Refusal.{Refusal}
use Rattle.view_types.specs.declared.refusal.Refusal.TheVariants as refusals
use Rattle.view_types.specs.declared.refusal.Refusal.TheVariants.{NoSlots, NotReady, Unhealed, UnknownDimm}
use Rattle.view_types.specs.declared.refusal.Refusal.TheVariants.{UnknownRegion}
use Rattle.view_types.specs.declared.reply.Reply.{Reply}
use Rattle.view_types.specs.declared.reply.Reply.TheVariants.{Refused}
use Rattle.view_types.specs.declared.states.Status.TheVariants as shown
use Rattle.label_codec.specs.declared.kind.AreaKind.{AreaKind}
use Rattle.label_codec.specs.declared.kind.AreaKind.TheVariants as kind
use Rattle.label_codec.specs.ModuleLabels.{Labels}
use Rattle.region_map.specs.declared.platform.Member.{Member}
use Rattle.region_map.specs.declared.platform.Platform.{Platform}
use Rattle.region_map.specs.declared.platform.Region.{Region}
use Rattle.region_map.specs.Platforms.{region_at}
use Rattle.label_table.specs.Fates.{spare}
use Rattle.label_table.specs.Namespaces.{namespaces}
use Rattle.label_table.specs.Spaces.{Space, is_pending}
use Rattle.label_table.specs.Statuses.{AreaNotReady, Clash, RegionReady, RegionStatus, Unusable, status}
use Rattle.region_labels.specs.Statuses.{unready_state}

abbrev pub refused_if : Bool → Refusal → Option Refusal
refused_if applies refusal = if applies then Some refusal else None

-- a refusal by the region with an index
abbrev pub by_region : Platform → ℕ → (Region → Option Refusal) → Option Refusal
by_region platform index refusal = option_and_then refusal (region_at platform index)

-- no region has the index
abbrev pub unknown_region : Platform → ℕ → Option Refusal
unknown_region platform index = refused_if (is_none (region_at platform index)) (UnknownRegion index)

-- the region cannot be used
abbrev pub unusable : Platform → ℕ → Option Refusal
unusable platform index = by_region platform index (λ region. option_map refusals.Unusable region.rule)

-- the cause for which a region that can be used is not Ready
abbrev pub not_ready_by : RegionStatus → Option Refusal
not_ready_by RegionReady = None
not_ready_by (Unusable rule) = None
not_ready_by (AreaNotReady handle kind) = Some (NotReady (shown.Area handle (unready_state kind)))
not_ready_by (Clash first second) = Some (NotReady (shown.Clash first second))

abbrev pub region_not_ready : Platform → Labels → ℕ → Option Refusal
region_not_ready platform labels index = by_region platform index (λ region. not_ready_by (status labels region))

-- no module has the handle
abbrev pub unknown_dimm : Platform → ℕ → Option Refusal
unknown_dimm platform dimm = refused_if (not (list_any (λ handle. handle == dimm) platform.modules)) (UnknownDimm dimm)

-- its area is not Ready
abbrev pub area_by : ℕ → AreaKind → Option Refusal
area_by dimm kind.Ready = None
area_by dimm kind.Missing = Some (NotReady (shown.Area dimm (unready_state kind.Missing)))
area_by dimm kind.WrongSize = Some (NotReady (shown.Area dimm (unready_state kind.WrongSize)))
area_by dimm kind.Uninit = Some (NotReady (shown.Area dimm (unready_state kind.Uninit)))
area_by dimm kind.Foreign = Some (NotReady (shown.Area dimm (unready_state kind.Foreign)))

abbrev pub area_not_ready : Labels → ℕ → Option Refusal
area_not_ready labels dimm = area_by dimm (labels dimm).kind

-- the first module of the region, by position, that has fewer spare slots
abbrev pub first_below : Platform → Labels → ℕ → Region → Option Member
first_below platform labels least region =
    find (λ (member : Member). nat_lt (spare platform labels member.handle) least) region.members

-- a namespace of the region is pending
abbrev pub any_pending : Labels → Region → Bool
any_pending labels region =
    list_any (λ (space : Space). is_pending labels region space.uuid) (namespaces labels region)

-- A namespace of the region is pending, and a module has no slot for the labels that recovery writes.
abbrev pub unhealed_in : Platform → Labels → Region → Option Refusal
unhealed_in platform labels region =
    if any_pending labels region
    then option_map (λ (member : Member). Unhealed member.handle) (first_below platform labels 1 region) else None

abbrev pub unhealed : Platform → Labels → ℕ → Option Refusal
unhealed platform labels index = by_region platform index (unhealed_in platform labels)

-- a module of the region has too few slots for the labels that the command writes
abbrev pub no_slots_in : Platform → Labels → ℕ → Region → Option Refusal
no_slots_in platform labels least region =
    option_map (λ (member : Member). NoSlots member.handle (spare platform labels member.handle))
    (first_below platform labels least region)

abbrev pub no_slots : Platform → Labels → ℕ → ℕ → Option Refusal
no_slots platform labels least index = by_region platform index (no_slots_in platform labels least)

-- the first of the refusals of a command that applies
abbrev pub first_of : List (Option Refusal) → Option Refusal
first_of [] = None
first_of (refusal ∷ refusals) = option_or refusal (first_of refusals)

-- a command is refused, or has an answer
abbrev pub IsReplyBy : Option Refusal → (Reply → Type 0) → Reply → Type 0
IsReplyBy (Some refusal) accepted reply = reply ≡ Refused refusal
IsReplyBy None accepted reply = accepted reply
