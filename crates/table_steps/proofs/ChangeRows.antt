-- Worked rows of a destroy, a rename and a release, by computation.
use Rattle.std.proofs.Common.{◌≡◌, ℕ, true, false, [], ◌∷◌, Some, None, refl}
use Rattle.std.specs.Prelude.{replicate}
use Rattle.view_types.specs.declared.refusal.Refusal.TheVariants.{Ambiguous, NameInUse, NoSlots, NotHeld, NotReady, ReadOnly, Unhealed, UnknownDimm, UnknownNamespace, UnknownRegion}
use Rattle.view_types.specs.declared.reply.Reply.TheVariants.{Destroyed, Released, Renamed}
use Rattle.view_types.specs.declared.states.AreaState.TheVariants as state
use Rattle.view_types.specs.declared.states.Status.TheVariants as shown
use Rattle.cmd_words.specs.declared.name_keys.NameKey.TheVariants.{Name, Uuid}
use Rattle.label_codec.specs.declared.kind.AreaKind.TheVariants.{Missing}
use Rattle.label_codec.specs.ModuleLabels.{Labels, has}
use Rattle.label_table.specs.Division.{is_common_free}
use Rattle.label_table.specs.Fates.{held_count}
use Rattle.label_table.specs.Spaces.{Space}
use Rattle.label_table.specs.Tables as tables
use Rattle.label_table.specs.Tables.{State}
use Rattle.table_steps.specs.Destroy.{IsDestroyed, destroy_refusals, with_destroyed}
use Rattle.table_steps.specs.Namespaces.{fitting}
use Rattle.table_steps.specs.Refusals.{first_of}
use Rattle.table_steps.specs.Release.{IsReleased, release_refusals, released}
use Rattle.table_steps.specs.Rename.{IsRenamed, rename_refusals, with_renamed}
use Rattle.table_steps.proofs.Examples.{db0, db1, empty_area, first_uuid, label, no_label, no_name, one_label, ready_area, region, second_uuid, small, third_uuid, two_modules, with_one, with_spaces}

-- Three namespaces stand one after the other. The one in the middle is destroyed, and its range is free.
abbrev three : Labels
three = with_spaces 510 ((first_uuid, no_name, 0, 0) ∷ (second_uuid, no_name, 0, 2097152) ∷ (third_uuid, no_name, 0, 4194304) ∷ [])

abbrev two_left : Labels
two_left = with_spaces 510 ((first_uuid, no_name, 0, 0) ∷ (third_uuid, no_name, 0, 4194304) ∷ [])

abbrev behind : State
behind = with_destroyed region second_uuid (tables.state small three)

destroy-rows : (first_of (destroy_refusals small three 1 (Uuid second_uuid)) ≡ None)
    × (behind.table.space 1 first_uuid ≡ (tables.state small three).table.space 1 first_uuid)
    × (behind.table.space 1 second_uuid ≡ None)
    × (behind.table.space 1 third_uuid ≡ (tables.state small three).table.space 1 third_uuid)
    × (behind.table.spare 0x1 ≡ 508)
    × (behind.table.spare 0x101 ≡ 508)
    × ((tables.state small two_left).table.spare 0x101 ≡ 508)
    × (behind.pending 1 first_uuid ≡ false)
destroy-rows = (refl, refl, refl, refl, refl, refl, refl, refl)

freed-rows : (is_common_free small three region 2097152 ≡ false)
    × (is_common_free small two_left region 2097151 ≡ false)
    × (is_common_free small two_left region 2097152 ≡ true)
    × (is_common_free small two_left region 4194303 ≡ true)
    × (is_common_free small two_left region 4194304 ≡ false)
freed-rows = (refl, refl, refl, refl, refl)

-- Areas of two slots: the one slot that is left is enough to rename the namespace, and to destroy it. With none it is not.
slot-rows : (first_of (rename_refusals small (with_one 2 no_name 0 2097152) 1 (Uuid first_uuid) db0) ≡ None)
    × (first_of (destroy_refusals small (with_one 2 no_name 0 2097152) 1 (Uuid first_uuid)) ≡ None)
    × (first_of (rename_refusals small (with_one 1 no_name 0 2097152) 1 (Uuid first_uuid) db0) ≡ Some (NoSlots 0x1 0))
    × (first_of (destroy_refusals small (with_one 1 no_name 0 2097152) 1 (Uuid first_uuid)) ≡ Some (NoSlots 0x1 0))
slot-rows = (refl, refl, refl, refl)

-- A namespace keeps its own name. None has another name, and there is no other region.
abbrev named : Labels
named = with_one 510 db0 0 2097152

abbrev own : Space
own = record { uuid = first_uuid; name = db0; abstraction = replicate 16 0; sector = 512; offset = 0; length = 2097152; read_only = false }

name-rows : (first_of (rename_refusals small named 1 (Name db0) db0) ≡ None)
    × (fitting named region (Name db0) ≡ own ∷ [])
    × ((with_renamed region db1 own (tables.state small named)).table.space 1 first_uuid ≡ Some (record own { name = db1 }))
    × ((with_renamed region db1 own (tables.state small named)).table.spare 0x1 ≡ 509)
    × (first_of (destroy_refusals small named 1 (Name db1)) ≡ Some UnknownNamespace)
    × (first_of (destroy_refusals small named 2 (Name db0)) ≡ Some (UnknownRegion 2))
    × (first_of (rename_refusals small named 2 (Name db0) db1) ≡ Some (UnknownRegion 2))
name-rows = (refl, refl, refl, refl, refl, refl, refl)

-- Two have one name: by their uuids they may be told apart, and each may get another name.
abbrev same_names : Labels
same_names = with_spaces 510 ((first_uuid, db0, 0, 0) ∷ (second_uuid, db0, 0, 2097152) ∷ [])

abbrev two_names : Labels
two_names = with_spaces 510 ((first_uuid, db0, 0, 0) ∷ (second_uuid, db1, 0, 2097152) ∷ [])

ambiguous-rows : (first_of (destroy_refusals small same_names 1 (Name db0)) ≡ Some (Ambiguous 2))
    × (first_of (rename_refusals small same_names 1 (Name db0) db1) ≡ Some (Ambiguous 2))
    × (first_of (destroy_refusals small same_names 1 (Uuid second_uuid)) ≡ None)
    × (first_of (rename_refusals small same_names 1 (Uuid second_uuid) db1) ≡ None)
    × (first_of (rename_refusals small same_names 1 (Uuid second_uuid) db0) ≡ Some (NameInUse first_uuid))
    × (first_of (rename_refusals small two_names 1 (Name db1) db0) ≡ Some (NameInUse first_uuid))
    × (first_of (rename_refusals small two_names 1 (Name db1) no_name) ≡ None)
ambiguous-rows = (refl, refl, refl, refl, refl, refl, refl)

-- A read-only one stays as it is.
read_only-rows : (first_of (destroy_refusals small (with_one 510 db0 1 2097152) 1 (Name db0)) ≡ Some (ReadOnly first_uuid))
    × (first_of (rename_refusals small (with_one 510 db0 1 2097152) 1 (Name db0) db1) ≡ Some (ReadOnly first_uuid))
read_only-rows = (refl, refl)

-- A pending namespace is pending no more behind a destroy of another one or behind a rename, which need a slot of each module first.
abbrev one_pending : ℕ → Labels
one_pending slots = with_spaces slots ((first_uuid, db0, 8, 0) ∷ (second_uuid, db1, 0, 2097152) ∷ [])

pending-rows : ((tables.state small (one_pending 510)).pending 1 first_uuid ≡ true)
    × ((with_destroyed region second_uuid (tables.state small (one_pending 510))).pending 1 first_uuid ≡ false)
    × (first_of (destroy_refusals small (one_pending 510) 1 (Name db1)) ≡ None)
    × (first_of (destroy_refusals small (one_pending 2) 1 (Name db1)) ≡ Some (Unhealed 0x1))
    × (first_of (rename_refusals small (one_pending 2) 1 (Name db1) db0) ≡ Some (Unhealed 0x1))
pending-rows = (refl, refl, refl, refl, refl)

-- The label of a namespace in the first module alone: it is held, and is released once.
abbrev held : ℕ → Labels
held flags = two_modules (ready_area 510 (one_label (label first_uuid no_name flags 0 0 2097152))) (ready_area 510 no_label)

release-rows : (first_of (release_refusals small (held 0) 0x1 first_uuid) ≡ None)
    × (held_count small (held 0) 0x1 (has first_uuid) ≡ 1)
    × ((tables.state small (held 0)).table.spare 0x1 ≡ 509)
    × ((released small 0x1 first_uuid (tables.state small (held 0))).table.spare 0x1 ≡ 510)
    × ((released small 0x1 first_uuid (tables.state small (held 0))).table.held 0x1 (has first_uuid) ≡ 0)
    × (first_of (release_refusals small (held 0) 0x101 first_uuid) ≡ Some NotHeld)
    × (first_of (release_refusals small (held 0) 0x1 second_uuid) ≡ Some NotHeld)
    × (first_of (release_refusals small (held 0) 0x2 first_uuid) ≡ Some (UnknownDimm 0x2))
    × (first_of (release_refusals small (held 1) 0x1 first_uuid) ≡ Some (ReadOnly first_uuid))
    × (first_of (release_refusals small (held 2) 0x1 first_uuid) ≡ Some (ReadOnly first_uuid))
release-rows = (refl, refl, refl, refl, refl, refl, refl, refl, refl, refl)

-- It is held too where the other module is missing, and not released.
missing-rows : (first_of (release_refusals small (two_modules (held 8 0x1) (empty_area Missing)) 0x1 first_uuid) ≡ Some (NotReady (shown.Area 0x101 state.Missing)))
    × (first_of (release_refusals small (two_modules (held 8 0x1) (empty_area Missing)) 0x101 first_uuid) ≡ Some (NotReady (shown.Area 0x101 state.Missing)))
missing-rows = (refl, refl)

-- The steps themselves.
abbrev middle : Space
middle = record { uuid = second_uuid; name = no_name; abstraction = replicate 16 0; sector = 512; offset = 2097152; length = 2097152; read_only = false }

destroyed-row : IsDestroyed small three 1 (Uuid second_uuid) (Destroyed second_uuid) behind
destroyed-row = record { region = region; found = refl; space = middle; only = refl; after_is = refl; reply_is = refl }

renamed-row : IsRenamed small named 1 (Name db0) db0 (Renamed first_uuid db0) (with_renamed region db0 own (tables.state small named))
renamed-row = record { region = region; found = refl; space = own; only = refl; after_is = refl; reply_is = refl }

released-row : IsReleased small (held 0) 0x1 first_uuid (Released 1) (released small 0x1 first_uuid (tables.state small (held 0)))
released-row = record { after_is = refl; reply_is = refl }
