-- Worked rows, by computation.
use Rattle.std.proofs.Common.{◌≡◌, ℕ, ◌<◌, true, false, ◌&&◌, List, [], ◌∷◌, Some, None, refl, arith}
use Rattle.std.specs.Prelude.{nat_lt}
use Rattle.view_types.specs.declared.extents.Extent.{Extent}
use Rattle.view_types.specs.declared.refusal.Refusal.TheVariants.{AlreadyReady, BadSize, NameInUse, NoSlots, NoSpace, NotReady, Unhealed, UnknownDimm, UnknownRegion, UuidInUse}
use Rattle.view_types.specs.declared.reply.Reply.TheVariants.{Created}
use Rattle.view_types.specs.declared.states.AreaState.TheVariants as state
use Rattle.view_types.specs.declared.states.Status.TheVariants as shown
use Rattle.view_types.specs.Intervals.{IsFirstFit}
use Rattle.label_codec.specs.declared.kind.AreaKind.TheVariants.{Foreign, Missing, Ready, Uninit}
use Rattle.label_codec.specs.ModuleLabels.{Labels}
use Rattle.label_table.specs.Division.{alignment, is_common_free}
use Rattle.label_table.specs.Tables as tables
use Rattle.label_table.proofs.ListTests.{lt_from}
use Rattle.table_steps.specs.Create.{create_refusals, created, part_length, with_made}
use Rattle.table_steps.specs.Initialise.{initialise_refusals, initialised}
use Rattle.table_steps.specs.Refusals.{first_of}
use Rattle.table_steps.proofs.Examples.{asked, db0, db1, empty, empty_area, first_uuid, great, no_label, no_name, ready_area, region, region_of_two, second_uuid, single, single_region, small, two_modules, with_one}

-- the free extents of an empty region
abbrev all_of : ℕ → List Extent
all_of size = record { start = 0; len = size } ∷ []

-- 16 GiB of two times 64 GiB: nothing refuses it, and 509 slots are left in each module.
great-accepted : first_of (create_refusals great (empty 510) (all_of 68719476736) (asked 17179869184 db0 first_uuid)) ≡ None
great-accepted = refl

great-reply : created (asked 17179869184 db0 first_uuid) (region_of_two 68719476736) 0 (with_made (asked 17179869184 db0 first_uuid) (region_of_two 68719476736) 0 (tables.state great (empty 510)))
    ≡ Created first_uuid 1 0 8589934592 17179869184 509
great-reply = refl

-- It stands at the start of the region.
all-free : (n o : ℕ) → o < n → (nat_lt o n && true) ≡ true
all-free n o lt = let t : nat_lt o n ≡ true = lt_from o n lt in λ i. t i && true

great-fits : IsFirstFit (is_common_free great (empty 510) (region_of_two 68719476736)) (part_length (asked 17179869184 db0 first_uuid) (region_of_two 68719476736)) alignment 0
great-fits = record { multiple = refl; free_from = λ o ge lt. all-free 68719476736 o (omega arith); least = λ p multiple free. omega arith }

-- A region of one module, in whose area two labels have room.
single-rows : (first_of (create_refusals single (empty 2) (all_of 67108864) (asked 4194304 db0 first_uuid)) ≡ None)
    × (created (asked 4194304 db0 first_uuid) single_region 0 (with_made (asked 4194304 db0 first_uuid) single_region 0 (tables.state single (empty 2))) ≡ Created first_uuid 1 0 4194304 4194304 1)
single-rows = (refl, refl)

-- All of a region, and then no more.
small-accepted : first_of (create_refusals small (empty 510) (all_of 67108864) (asked 134217728 no_name first_uuid)) ≡ None
small-accepted = refl

small-full : first_of (create_refusals small (with_one 510 no_name 0 67108864) [] (asked 4194304 no_name second_uuid)) ≡ Some (NoSpace 0)
small-full = refl

-- Sizes that are none.
size-rows : (first_of (create_refusals small (empty 510) (all_of 67108864) (asked 3145728 no_name first_uuid)) ≡ Some (BadSize 4194304))
    × (first_of (create_refusals small (empty 510) (all_of 67108864) (asked 0 no_name first_uuid)) ≡ Some (BadSize 4194304))
    × (first_of (create_refusals small (empty 510) (all_of 67108864) (asked 4194304 no_name first_uuid)) ≡ None)
size-rows = (refl, refl, refl)

-- Areas of two slots: the second create finds one.
abbrev behind : List Extent
behind = record { start = 2097152; len = 65011712 } ∷ []

slot-rows : (first_of (create_refusals small (empty 2) (all_of 67108864) (asked 4194304 no_name first_uuid)) ≡ None)
    × (created (asked 4194304 no_name first_uuid) region 0 (with_made (asked 4194304 no_name first_uuid) region 0 (tables.state small (empty 2))) ≡ Created first_uuid 1 0 2097152 4194304 1)
    × (first_of (create_refusals small (with_one 2 no_name 0 2097152) behind (asked 4194304 no_name second_uuid)) ≡ Some (NoSlots 0x1 1))
slot-rows = (refl, refl, refl)

-- A name and a uuid that stand; and names that are empty.
name-rows : (first_of (create_refusals small (with_one 510 db0 0 2097152) behind (asked 4194304 db0 second_uuid)) ≡ Some (NameInUse first_uuid))
    × (first_of (create_refusals small (with_one 510 db0 0 2097152) behind (asked 4194304 db1 first_uuid)) ≡ Some (UuidInUse 0x1))
    × (first_of (create_refusals small (with_one 510 no_name 0 2097152) behind (asked 4194304 no_name second_uuid)) ≡ None)
name-rows = (refl, refl, refl)

-- No such region; and one with a module whose area is missing.
region-rows : (first_of (create_refusals small (empty 510) [] (record (asked 4194304 db0 first_uuid) { region = 2 })) ≡ Some (UnknownRegion 2))
    × (first_of (create_refusals small (two_modules (ready_area 510 no_label) (empty_area Missing)) [] (asked 4194304 db0 first_uuid)) ≡ Some (NotReady (shown.Area 0x101 state.Missing)))
region-rows = (refl, refl)

-- A create was stopped when both labels stood: its namespace is pending until the next create, which needs a slot of each
-- module first.
abbrev pending : ℕ → Labels
pending slots = with_one slots db0 8 2097152

pending-rows : ((tables.state small (pending 510)).pending 1 first_uuid ≡ true)
    × (first_of (create_refusals small (pending 510) behind (asked 4194304 db1 second_uuid)) ≡ None)
    × ((with_made (asked 4194304 db1 second_uuid) region 2097152 (tables.state small (pending 510))).pending 1 first_uuid ≡ false)
    × (first_of (create_refusals small (pending 1) behind (asked 3 db1 second_uuid)) ≡ Some (Unhealed 0x1))
pending-rows = (refl, refl, refl, refl)

-- One module has a held label at offset 0 more than the other: the fewest spare slots are told.
held-reply : created (asked 4194304 no_name second_uuid) region 2097152
    (with_made (asked 4194304 no_name second_uuid) region 2097152 (tables.state small (two_modules (with_one 510 no_name 0 2097152 0x1) (ready_area 510 no_label))))
    ≡ Created second_uuid 1 2097152 2097152 4194304 508
held-reply = refl

-- An area is initialised, and is Ready then.
initialise-rows : (first_of (initialise_refusals small (two_modules (empty_area Uninit) (ready_area 2 no_label)) 0x1) ≡ None)
    × ((initialised small 0x1 2 (tables.state small (two_modules (empty_area Uninit) (ready_area 2 no_label)))).table.kind 0x1 ≡ Ready)
    × ((initialised small 0x1 2 (tables.state small (two_modules (empty_area Uninit) (ready_area 2 no_label)))).table.spare 0x1 ≡ 2)
    × (first_of (initialise_refusals small (empty 2) 0x1) ≡ Some (AlreadyReady 0x1))
    × (first_of (initialise_refusals small (empty 2) 0x2) ≡ Some (UnknownDimm 0x2))
    × (first_of (initialise_refusals small (two_modules (empty_area Foreign) (ready_area 2 no_label)) 0x1) ≡ Some (NotReady (shown.Area 0x1 state.Foreign)))
initialise-rows = (refl, refl, refl, refl, refl, refl)
