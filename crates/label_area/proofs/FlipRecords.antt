-- What a stop at any moment of a flip leaves, and that the area that is kept then is the one that is stored.
use Rattle.std.proofs.Common.{◌≡◌, ◌⊎◌, inl, inr, ℕ, ◌+◌, ◌*◌, ◌<◌, ◌≤◌, false, ◌&&◌, List, length, Option, Some, None, Result, Ok, Err, refl, sym, ap, ◌∙◌, subst}
use Rattle.std.specs.Prelude.{if◌then◌else◌, nat_lt, not, IsTrue}
use Rattle.std.specs.FinMap.{get}
use Rattle.std.specs.Option.{option_and_then}
use Rattle.byte_ranges.specs.Ranges.{patched}
use Rattle.rig_trait.specs.declared.rig.Failed.{Failed}
use Rattle.rig_trait.specs.Areas.{Areas, OthersKept, written}
use Rattle.rig_trait.specs.Records.{CrashRecord, IsTorn, IsWhole, LeftByWrite, Writes, torn_write}
use Rattle.rig_trait.proofs.WrittenAreas.{get-written_other, writes_all}
use Rattle.index_block.specs.declared.geometry.Geometry.{Geometry}
use Rattle.index_block.specs.declared.geometry.Place.{Place}
use Rattle.index_block.specs.declared.geometry.Place.TheVariants.{First, Second}
use Rattle.index_block.specs.Bitmap.{is_free_in}
use Rattle.index_block.specs.Blocks.{is_signed}
use Rattle.index_block.specs.Current.{IsSeq, current_place, is_followed_by}
use Rattle.index_block.specs.Geometry.{geometry_of, other_place, place_offset}
use Rattle.index_block.specs.Written.{block_text}
use Rattle.index_block.proofs.Sizes.{HasSizes, sizes_of}
use Rattle.label_codec.specs.ModuleLabels.{Module}
use Rattle.label_codec.specs.declared.kind.AreaKind.TheVariants.{Ready}
use Rattle.label_area.specs.declared.blocks.Current.{Current}
use Rattle.label_area.specs.Blocks.{current_in, kind_at, place_window, seq_in, window_at}
use Rattle.label_area.specs.Flips.{FailedFlip, LeftByFlip, Standing, standing_at, standing_of}
use Rattle.label_area.specs.LoadedAreas.{IsSound, LoadedArea}
use Rattle.label_area.specs.Loads.{IsShown}
use Rattle.label_area.specs.Slots.{label_at}
use Rattle.label_area.proofs.AreaKinds.{kind_of-unsigned}
use Rattle.label_area.proofs.BlocksWritten.{IsLeftAt}
use Rattle.label_area.proofs.Initialised.{get-patched, get-torn, others-torn, torn_block}
use Rattle.label_area.proofs.SlotsWritten.{block_labels, block_size_kept, next_holds, next_long, place_fits, unusable_holds}
use Rattle.label_area.proofs.Standings.{Holds, current_with, holds_standing, standing_same, standing_with}

-- nothing was written yet
pub left_before : (areas : Areas) (said : List ℕ) (dimm : ℕ) (after : Standing) (c : CrashRecord) → c.areas ≡ areas → c.said ≡ said → LeftByFlip areas said dimm after c
left_before areas said dimm after c same said_is = record {
  said_is = said_is;
  others = λ q other. ap (λ x. get x q) same;
  flip = λ fair. inl (ap (λ x. standing_at x dimm) same);
}

-- a current block tells the geometry in which it is one
current_geometry : (g : Geometry) (bytes : List ℕ) (c : Current) → current_in g bytes ≡ Some c → c.geometry ≡ g
current_geometry g bytes c is = by (current_place (seq_in (kind_at g bytes First)) (seq_in (kind_at g bytes Second))) is
  where
    some : {a b : Current} → Some a ≡ Some b → a ≡ b
    some e = cc

    at : (place : Place) (number : Option ℕ) → option_and_then (λ seq. Some (current_with g place seq)) number ≡ Some c → c.geometry ≡ g
    at place None e = absurd cc
    at place (Some n) e = let same : current_with g place n ≡ c = some e in sym (ap (λ (c : Current). c.geometry) same)

    by : (place : Option Place) → option_and_then (λ p. option_and_then (λ seq. Some (current_with g p seq)) (seq_in (kind_at g bytes p))) place ≡ Some c → c.geometry ≡ g
    by None e = absurd cc
    by (Some place) e = at place (seq_in (kind_at g bytes place)) e

found_there : (bytes : List ℕ) (c : Current) (layout : Option Geometry) → geometry_of (length bytes) 256 ≡ layout → option_and_then (λ g. current_in g bytes) layout ≡ Some c
    → (geometry_of (length bytes) 256 ≡ Some c.geometry) × (current_in c.geometry bytes ≡ Some c)
found_there bytes c None found is = absurd cc
found_there bytes c (Some g) found is =
    let same : c.geometry ≡ g = current_geometry g bytes c is in
    (found ∙ ap (λ (g : Geometry). Some g) (sym same), subst (λ (g : Geometry). current_in g bytes ≡ Some c) (sym same) is)

module _ (a : LoadedArea) (sound : IsSound a) (areas : Areas) (shown : IsShown a areas) where
  abbrev g : Geometry
  g = a.geometry

  there : (geometry_of (length shown.bytes) 256 ≡ Some g) × (current_in g shown.bytes ≡ Some (current_with g a.place a.seq))
  there = found_there shown.bytes (current_with g a.place a.seq) (geometry_of (length shown.bytes) 256) refl shown.current_is

  sizes : HasSizes g
  sizes = sizes_of g sound.geometry

  -- what the area holds
  pub holds : Holds shown.bytes g a.place a.seq (is_free_in a.free)
  holds = record { found = there.0; current = there.1; bits = λ k below. sym (shown.free_is k below) }

  pub before_is : standing_at areas a.dimm ≡ standing_with g (is_free_in a.free) (label_at g shown.bytes)
  before_is = ap standing_of shown.is_area ∙ holds_standing shown.bytes g a.place a.seq (is_free_in a.free) holds

  -- its live labels are those in its slots in use
  pub live_is : (k : ℕ) → get a.live k ≡ (if nat_lt k g.slots && not (is_free_in a.free k) then label_at g shown.bytes k else None)
  live_is k = ap (λ (m : Module). m.at k) (sym shown.module_is) ∙ ap (λ (s : Standing). s.labels.at k) before_is

  -- The block with the next sequence number is written into areas in which it holds the same, and stands for the same.
  module _ (mid_areas : Areas) (mid : List ℕ) (stored : get mid_areas a.dimm ≡ Some mid) (mid_holds : Holds mid g a.place a.seq (is_free_in a.free)) (same_size : length mid ≡ length shown.bytes)
      (mid_is : standing_of (Some mid) ≡ standing_at areas a.dimm) (kept : OthersKept a.dimm areas mid_areas)
      (next : ℕ) (next_numbered : IsSeq next) (follows : IsTrue (is_followed_by a.seq next)) (map : List ℕ) (enough : g.slots ≤ 8 * length map)
      (after : Standing) (after_is : standing_with g (is_free_in map) (label_at g mid) ≡ after) where
    abbrev at : ℕ
    at = place_offset g (other_place a.place)

    abbrev block : List ℕ
    block = block_text (other_place a.place) next g map

    long : length block ≡ g.block
    long = next_long g sound.label sizes mid a.place a.seq (is_free_in a.free) mid_holds sound.seq next next_numbered follows map enough

    fits : at + g.block ≤ length mid
    fits = place_fits g sound.label sizes mid (same_size ∙ shown.size_is) (other_place a.place)

    -- that block tells which slots are free then
    now : Holds (patched mid at block) g (other_place a.place) next (is_free_in map)
    now = next_holds g sound.label sizes mid a.place a.seq (is_free_in a.free) mid_holds sound.seq next next_numbered follows map enough fits

    -- with that block it stands for what is after the flip
    next_is : standing_of (Some (patched mid at block)) ≡ after
    next_is =
        holds_standing (patched mid at block) g (other_place a.place) next (is_free_in map)
        now
        ∙ standing_same g (is_free_in map) (is_free_in map) (label_at g (patched mid at block)) (label_at g mid) (λ k below. refl)
        (λ k below used. block_labels g sound.label sizes mid a.place a.seq (is_free_in a.free) mid_holds block long fits k)
        ∙ after_is

    -- with bytes that are no signed block it stands for what it stood for
    unsigned_is : (garbage : List ℕ) → length garbage ≡ g.block → is_signed (window_at (patched mid at garbage) at) ≡ false → standing_of (Some (patched mid at garbage)) ≡ standing_at areas a.dimm
    unsigned_is garbage garbage_long unsigned =
        holds_standing (patched mid at garbage) g a.place a.seq (is_free_in a.free)
        (unusable_holds g sound.label sizes mid a.place a.seq (is_free_in a.free) mid_holds garbage garbage_long fits
        (ap seq_in (kind_of-unsigned (other_place a.place) g (place_window g (patched mid at garbage) (other_place a.place)) unsigned)))
        ∙ standing_same g (is_free_in a.free) (is_free_in a.free) (label_at g (patched mid at garbage)) (label_at g mid) (λ k below. refl)
        (λ k below used. block_labels g sound.label sizes mid a.place a.seq (is_free_in a.free) mid_holds garbage garbage_long fits k)
        ∙ sym (holds_standing mid g a.place a.seq (is_free_in a.free) mid_holds)
        ∙ mid_is

    torn_is : (garbage : List ℕ) → length garbage ≡ g.block → IsLeftAt mid at block garbage
        → (standing_of (Some (patched mid at garbage)) ≡ standing_at areas a.dimm) ⊎ (standing_of (Some (patched mid at garbage)) ≡ after)
    torn_is garbage garbage_long left = elim left [
      | inl same ↦ inl (ap (λ b. standing_of (Some b)) same ∙ mid_is)
      | inr (inl new) ↦ inr (ap (λ put. standing_of (Some (patched mid at put))) new ∙ next_is)
      | inr (inr unsigned) ↦ inl (unsigned_is garbage garbage_long unsigned)
    ]

    place_is : (at ≡ 0) ⊎ (at ≡ g.block)
    place_is = by a.place
      where
        by : (p : Place) → (place_offset g (other_place p) ≡ 0) ⊎ (place_offset g (other_place p) ≡ g.block)
        by First = inr refl
        by Second = inl refl

    -- what is left where the block was not written yet
    left_mid : (said : List ℕ) (c : CrashRecord) → c.areas ≡ mid_areas → c.said ≡ said → LeftByFlip areas said a.dimm after c
    left_mid said c same said_is = record {
      said_is = said_is;
      others = λ q other. ap (λ x. get x q) same ∙ kept q other;
      flip = λ fair. inl (ap standing_of (ap (λ x. get x a.dimm) same ∙ stored) ∙ mid_is);
    }

    -- where its write was torn
    left_torn : (said : List ℕ) (c : CrashRecord) → IsTorn mid_areas said a.dimm at block c → LeftByFlip areas said a.dimm after c
    left_torn said c torn = record {
      said_is = torn.said_is;
      others = λ q other. others-torn mid_areas a.dimm mid stored said at block c torn q other ∙ kept q other;
      flip = λ fair.
          let left = torn_block mid_areas a.dimm mid stored said at block c torn g mid_holds.found long place_is fits fair in
          let now = get-torn mid_areas a.dimm mid stored said at block c torn in
          elim (torn_is torn.garbage (torn.same_length ∙ long) left) [
            | inl same ↦ inl (ap standing_of now ∙ same)
            | inr new ↦ inr (ap standing_of now ∙ new)
          ];
    }

    -- and where it was whole
    stored_now : (new : Areas) → new ≡ written mid_areas a.dimm at block → get new a.dimm ≡ Some (patched mid at block)
    stored_now new new_is = ap (λ x. get x a.dimm) new_is ∙ get-patched mid_areas a.dimm mid stored at block

    left_whole : (said : List ℕ) (c : CrashRecord) → IsWhole (written mid_areas a.dimm at block) said c → LeftByFlip areas said a.dimm after c
    left_whole said c whole = record {
      said_is = whole.said_is;
      others = λ q other. ap (λ x. get x q) whole.areas_are ∙ get-written_other mid_areas a.dimm at block q other ∙ kept q other;
      flip = λ fair. inr (ap standing_of (stored_now c.areas whole.areas_are) ∙ next_is);
    }

    -- before the write of the block, within it, or after it
    pub left_behind : (said : List ℕ) (c : CrashRecord) → ((c.areas ≡ mid_areas) × (c.said ≡ said)) ⊎ (IsTorn mid_areas said a.dimm at block c ⊎ IsWhole (written mid_areas a.dimm at block) said c)
        → LeftByFlip areas said a.dimm after c
    left_behind said c (inl before) = left_mid said c before.0 before.1
    left_behind said c (inr (inl torn)) = left_torn said c torn
    left_behind said c (inr (inr whole)) = left_whole said c whole

    -- where it failed, also in a rig that tells no records
    pub left_failed : (said : List ℕ) {T : Type 0} (new : Areas) (result : Result T Failed) → Writes mid_areas new a.dimm at block result → FailedFlip areas new said a.dimm after
    left_failed said new result writes =
        let left : CrashRecord = record { areas = new; said = said; torn = Some (torn_write mid_areas a.dimm at block) } in
        let torn : IsTorn mid_areas said a.dimm at block left = record { garbage = writes.garbage; same_length = writes.same_length; areas_are = writes.areas_are; said_is = refl; torn_is = refl } in
        record {
          mid = mid_areas;
          at = at;
          put = block;
          left = left;
          is_now = refl;
          is_torn = torn;
          before = ap standing_of stored ∙ mid_is;
          behind = inr (ap standing_of (stored_now (written mid_areas a.dimm at block) refl) ∙ next_is);
          flip = left_torn said left torn;
        }

    -- by the write of the block alone
    pub left_by_write : {T : Type 0} (said : List ℕ) (new : Areas) (result : Result T Failed) → Writes mid_areas new a.dimm at block result → (c : CrashRecord)
        → LeftByWrite mid_areas new said a.dimm at block result c → LeftByFlip areas said a.dimm after c
    left_by_write said new result writes c (inl torn) = left_torn said c torn
    left_by_write said new (Err failed) writes c (inr whole) = left_mid said c (whole.0.areas_are ∙ whole.1) whole.0.said_is
    left_by_write said new (Ok value) writes c (inr whole) =
        left_whole said c (record { areas_are = whole.0.areas_are ∙ writes_all mid_areas new a.dimm at block value writes; said_is = whole.0.said_is; torn_is = whole.0.torn_is })

    -- an area that keeps that block, these bits and these labels is the one that is stored then
    pub kept_shown : (b : LoadedArea) → b ≡ record a { place = other_place a.place; seq = next; free = b.free; live = b.live }
        → ((k : ℕ) → k < g.slots → is_free_in b.free k ≡ is_free_in map k) → ((k : ℕ) → get b.live k ≡ after.labels.at k) → (new : Areas) → new ≡ written mid_areas a.dimm at block → IsShown b new
    kept_shown b rest bits live new new_is = subst (λ (x : LoadedArea). IsShown x new) (sym rest) (record {
      bytes = patched mid at block;
      is_area = stored_now new new_is;
      size_is = block_size_kept g sound.label sizes mid a.place a.seq (is_free_in a.free) mid_holds block long fits ∙ same_size ∙ shown.size_is;
      current_is = ap (option_and_then (λ h. current_in h (patched mid at block))) now.found ∙ now.current;
      free_is = λ k below. bits k below ∙ sym (now.bits k below);
      module_is = ap (λ (s : Standing). s.labels) (ap standing_of (stored_now new new_is) ∙ next_is) ∙ sym (ap (λ (s : Standing). s.labels) after_is)
          ∙ (λ i. record { kind = Ready; slots = g.slots; at = λ k. sym (live k ∙ sym (ap (λ (s : Standing). s.labels.at k) after_is)) i });
    })
