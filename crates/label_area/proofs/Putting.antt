-- What a flip that puts a label leaves, and shows.
use Rattle.std.proofs.Common.{◌≡◌, ◌≢◌, ◌⊎◌, inl, inr, ℕ, zero, suc, ◌+◌, ◌*◌, ◌<◌, ◌≤◌, Bool, true, false, ◌&&◌, ◌||◌, cond, eqb, List, length, Option, Some, None, Result, Ok, Err, refl, sym, ap, ◌∙◌, subst, eq-eqb, eqb-true, arith}
use Rattle.std.specs.Prelude.{if◌then◌else◌, nat_lt, not, IfSome, IsSome, OnErr, OnOk, ◌==◌}
use Rattle.std.specs.FinMap.{get}
use Rattle.std.specs.List.{All}
use Rattle.std.proofs.lemmas.Bool.{and_right, cases_lt, false≢true}
use Rattle.std.proofs.lemmas.Bool.Decides.{nat_tests}
use Rattle.byte_ranges.specs.Ranges.{patched}
use Rattle.rig_trait.specs.declared.rig.Failed.{Failed}
use Rattle.rig_trait.specs.declared.shown.Shown.{Ghosts}
use Rattle.rig_trait.specs.Areas.{Areas, OthersKept, written}
use Rattle.rig_trait.specs.Frames.{LeavesOnly}
use Rattle.rig_trait.specs.Records.{CrashRecord, IsTorn, IsWhole, Writes, torn_write}
use Rattle.rig_trait.specs.TwoWrites.{IsInTurn, LeftByTwo, neither, first_torn, first_whole, second_torn, both, with_both}
use Rattle.rig_trait.proofs.Moments.{weakened}
use Rattle.rig_trait.proofs.WrittenAreas.{get-written_other}
use Rattle.index_block.specs.declared.geometry.Geometry.{Geometry}
use Rattle.index_block.specs.declared.geometry.Place.{Place}
use Rattle.index_block.specs.Bitmap.{is_free_in}
use Rattle.index_block.specs.Geometry.{other_place, place_offset, slot_offset}
use Rattle.index_block.specs.Written.{block_text}
use Rattle.index_block.proofs.Sizes.{HasSizes, sizes_of}
use Rattle.label_codec.specs.declared.label.Label.{Label}
use Rattle.label_codec.specs.Labels.{label_of}
use Rattle.label_codec.specs.declared.kind.AreaKind.TheVariants.{Ready}
use Rattle.label_area.specs.declared.flip_writes.Next.{Next}
use Rattle.label_area.specs.FlipWrites.{Flips, IsKeptAfter, IsNext, with_bits}
use Rattle.label_area.specs.Flips.{FailedFlip, LeftByFlip, Standing, after_free, at_slot, is_among, replaced, shown_by, standing_at, standing_of, with_label}
use Rattle.label_area.specs.LoadedAreas.{IsSound, LoadedArea, is_used}
use Rattle.label_area.specs.Loads.{IsShown}
use Rattle.label_area.specs.Slots.{is_in_use, label_at}
use Rattle.label_area.proofs.FirstSlot.{none_unused}
use Rattle.label_area.proofs.FlipRecords.{before_is, holds, kept_shown, left_before, left_behind, left_failed, live_is}
use Rattle.label_area.proofs.Freeing.{in_use_below, used_before, used_below}
use Rattle.label_area.proofs.Initialised.{get-patched, get-torn, others-torn}
use Rattle.label_area.proofs.Sizes.{bits_enough}
use Rattle.label_area.proofs.SlotsWritten.{slot_fits, slot_holds, slot_new, slot_other, slot_size}
use Rattle.label_area.proofs.Standings.{Holds, holds_standing, standing_same, standing_with}

-- the slots in use after a label was put into one, and some were freed
pub used_put : (n slot : ℕ) (gone free now : ℕ → Bool) → slot < n → ((k : ℕ) → k < n → now k ≡ (if k == slot then false else (gone k || free k))) → (k : ℕ)
    → (nat_lt k n && not (now k)) ≡ ((k == slot) || (not (gone k) && (nat_lt k n && not (free k))))
used_put n slot gone free now within bits k = elim (cases_lt k n) [
  | inl below ↦
      let is : nat_lt k n ≡ true = grind (arith, nat_tests) in
      (λ i. is i && not (bits k below i)) ∙ by (eqb k slot) (gone k) (free k) ∙ sym (λ i. (k == slot) || (not (gone k) && (is i && not (free k))))
  | inr behind ↦
      let past : nat_lt k n ≡ false = grind (arith, nat_tests) in
      let other : (k == slot) ≡ false = grind (arith, nat_tests) in
      (λ i. past i && not (now k)) ∙ sym ((λ i. other i || (not (gone k) && (past i && not (free k)))) ∙ and_right (not (gone k)) false refl)
]
  where
    by : (s r f : Bool) → not (cond s false (r || f)) ≡ (s || (not r && not f))
    by true r f = refl
    by false true f = refl
    by false false f = refl

-- what is kept after it shows what it made
pub put_shows : (a b : LoadedArea) (label : Label) (freed : List ℕ) (slot : ℕ) → slot < a.geometry.slots → b.geometry ≡ a.geometry
    → ((k : ℕ) → k < a.geometry.slots → is_free_in b.free k ≡ (if k == slot then false else (is_among freed k || is_free_in a.free k)))
    → ((k : ℕ) → get b.live k ≡ (if k == slot then Some (at_slot slot label) else (if is_among freed k then None else get a.live k)))
    → shown_by b ≡ with_label slot label (after_free a freed)
put_shows a b label freed slot within g_is bits live =
    (λ i. record { labels = record { kind = Ready; slots = (g_is i).slots; at = λ k. live k i }; used = λ k. nat_lt k (g_is i).slots && not (is_free_in b.free k) })
    ∙ (λ i. record {
      labels = record { kind = Ready; slots = a.geometry.slots; at = λ k. if k == slot then Some (at_slot slot label) else (if is_among freed k then None else get a.live k) };
      used = λ k. used_put a.geometry.slots slot (is_among freed) (is_free_in a.free) (is_free_in b.free) within bits k i;
    })

module _ (a : LoadedArea) (sound : IsSound a) (next : Next) (label : Label) (slot : ℕ) (freed : List ℕ) (within : slot < a.geometry.slots)
    (bits : (k : ℕ) → k < a.geometry.slots → is_free_in next.free k ≡ (if k == slot then false else (is_among freed k || is_free_in a.free k))) where
  used_now : (k : ℕ) → is_in_use next.free a.geometry.slots k ≡ ((k == slot) || (not (is_among freed k) && is_used a k))
  used_now = used_put a.geometry.slots slot (is_among freed) (is_free_in a.free) (is_free_in next.free) within bits

  put_label : (k : ℕ) → (if k == slot then Some (at_slot slot label) else (if is_in_use next.free a.geometry.slots k then get a.live k else None))
      ≡ (if k == slot then Some (at_slot slot label) else (if is_among freed k then None else get a.live k))
  put_label k = (λ i. cond (k == slot) (Some (at_slot slot label)) (cond (used_now k i) (get a.live k) None)) ∙ by (k == slot) (is_among freed k) (is_used a k) refl
    where
      by : (same gone used : Bool) → is_used a k ≡ used
          → cond same (Some (at_slot slot label)) (cond (same || (not gone && used)) (get a.live k) None) ≡ cond same (Some (at_slot slot label)) (cond gone None (get a.live k))
      by true gone used e = refl
      by false true used e = refl
      by false false true e = refl
      by false false false e = sym (none_unused a sound k e)

  -- with the bits of a flip that puts a label it stands for what it does after that
  pub with_bits-put : with_label slot label (with_bits a next) ≡ with_label slot label (after_free a freed)
  with_bits-put = λ i. record {
    labels = record { kind = Ready; slots = a.geometry.slots; at = λ k. put_label k i };
    used = λ k. ((λ i. (k == slot) || used_now k i) ∙ by (k == slot) (not (is_among freed k) && is_used a k)) i;
  }
    where
      by : (same used : Bool) → (same || (same || used)) ≡ (same || used)
      by true used = refl
      by false used = refl

-- a slot that isn't free is in use
pub in_use_there : (map : List ℕ) (n slot : ℕ) → slot < n → is_free_in map slot ≡ false → is_in_use map n slot ≡ true
in_use_there map n slot below used =
    let is : nat_lt slot n ≡ true = grind (arith, nat_tests) in
    λ i. is i && not (used i)

-- the writes of a flip that puts a label into a free slot
module _ {R : Type 0} (m : Ghosts R) (old new : R) (a : LoadedArea) (sound : IsSound a) (shown : IsShown a (m.areas old)) (next : Next) (is_next : IsNext a next)
    (label : Label) (within : label.slot < a.geometry.slots) (was_free : is_free_in a.free label.slot ≡ true) (now_used : is_free_in next.free label.slot ≡ false)
    (still : (k : ℕ) → k < a.geometry.slots → k ≢ label.slot → is_free_in a.free k ≡ true → is_free_in next.free k ≡ true)
    (text : List ℕ) (text_long : length text ≡ 256) (is_label : label_of text label.slot ≡ Some label) where
  abbrev areas : Areas
  areas = m.areas old

  abbrev after : Standing
  after = with_label label.slot label (with_bits a next)

  abbrev slot_at : ℕ
  slot_at = slot_offset a.geometry label.slot

  sizes : HasSizes a.geometry
  sizes = sizes_of a.geometry sound.geometry

  here : Holds shown.bytes a.geometry a.place a.seq (is_free_in a.free)
  here = holds a sound areas shown

  fits : slot_at + a.geometry.label ≤ length shown.bytes
  fits = slot_fits a.geometry sound.label sizes shown.bytes shown.size_is label.slot within

  is_long : (put : List ℕ) → length put ≡ 256 → length put ≡ a.geometry.label
  is_long put long = long ∙ sym sound.label

  -- any bytes in the slot leave what the area stands for
  slot_is : (put : List ℕ) → length put ≡ 256 → standing_of (Some (patched shown.bytes slot_at put)) ≡ standing_at areas a.dimm
  slot_is put long =
      holds_standing (patched shown.bytes slot_at put) a.geometry a.place a.seq (is_free_in a.free)
      (slot_holds a.geometry sound.label sizes shown.bytes a.place a.seq (is_free_in a.free) here label.slot put (is_long put long) fits)
      ∙ standing_same a.geometry (is_free_in a.free) (is_free_in a.free) (label_at a.geometry (patched shown.bytes slot_at put)) (label_at a.geometry shown.bytes) (λ k below. refl)
      (λ k below used. slot_other a.geometry sound.label sizes shown.bytes a.place a.seq (is_free_in a.free) here label.slot put (is_long put long) fits k
      (λ same. false≢true (sym used ∙ ap (is_free_in a.free) same ∙ was_free)))
      ∙ sym (before_is a sound areas shown)

  abbrev mid : List ℕ
  mid = patched shown.bytes slot_at text

  slot_used : is_in_use next.free a.geometry.slots label.slot ≡ true
  slot_used = in_use_there next.free a.geometry.slots label.slot within now_used

  put_there : (k : ℕ) → (if is_in_use next.free a.geometry.slots k then label_at a.geometry mid k else None)
      ≡ (if k == label.slot then Some (at_slot label.slot label) else (if is_in_use next.free a.geometry.slots k then get a.live k else None))
  put_there k = by (eqb k label.slot) (is_in_use next.free a.geometry.slots k) refl refl
    where
      here_is : label_at a.geometry mid label.slot ≡ Some (at_slot label.slot label)
      here_is = slot_new a.geometry sound.label sizes shown.bytes a.place a.seq (is_free_in a.free) here label.slot text (is_long text text_long) fits ∙ is_label

      by : (same used : Bool) → eqb k label.slot ≡ same → is_in_use next.free a.geometry.slots k ≡ used
          → cond used (label_at a.geometry mid k) None ≡ cond same (Some (at_slot label.slot label)) (cond used (get a.live k) None)
      by true used e u =
          let same : k ≡ label.slot = eqb-true k label.slot e in
          let is : used ≡ true = sym u ∙ ap (is_in_use next.free a.geometry.slots) same ∙ slot_used in
          (λ i. cond (is i) (label_at a.geometry mid (same i)) None) ∙ here_is
      by false true e u =
          let other : k ≢ label.slot = λ same. false≢true (sym e ∙ eq-eqb k label.slot same) in
          let below = in_use_below next.free a.geometry.slots k u in
          slot_other a.geometry sound.label sizes shown.bytes a.place a.seq (is_free_in a.free) here label.slot text (is_long text text_long) fits k other
          ∙ sym (live_is a sound areas shown k ∙ (λ i. cond (used_before a sound next k (still k below other) u i) (label_at a.geometry shown.bytes k) None))
      by false false e u = refl

  used_there : (k : ℕ) → is_in_use next.free a.geometry.slots k ≡ ((k == label.slot) || is_in_use next.free a.geometry.slots k)
  used_there k = by (eqb k label.slot) refl
    where
      by : (same : Bool) → eqb k label.slot ≡ same → is_in_use next.free a.geometry.slots k ≡ (same || is_in_use next.free a.geometry.slots k)
      by true e = ap (is_in_use next.free a.geometry.slots) (eqb-true k label.slot e) ∙ slot_used
      by false e = refl

  put_is : standing_with a.geometry (is_free_in next.free) (label_at a.geometry mid) ≡ after
  put_is = λ i. record { labels = record { kind = Ready; slots = a.geometry.slots; at = λ k. put_there k i }; used = λ k. used_there k i }

  abbrev mid_areas : Areas
  mid_areas = written areas a.dimm slot_at text

  mid_stored : get mid_areas a.dimm ≡ Some mid
  mid_stored = get-patched areas a.dimm shown.bytes shown.is_area slot_at text

  mid_holds : Holds mid a.geometry a.place a.seq (is_free_in a.free)
  mid_holds = slot_holds a.geometry sound.label sizes shown.bytes a.place a.seq (is_free_in a.free) here label.slot text (is_long text text_long) fits

  mid_size : length mid ≡ length shown.bytes
  mid_size = slot_size a.geometry sound.label sizes shown.bytes a.place a.seq (is_free_in a.free) here label.slot text (is_long text text_long) fits

  mid_others : OthersKept a.dimm areas mid_areas
  mid_others q other = get-written_other areas a.dimm slot_at text q other

  enough : a.geometry.slots ≤ 8 * length next.free
  enough = bits_enough a sound next.free is_next.bits

  abbrev block_at : ℕ
  block_at = place_offset a.geometry (other_place a.place)

  abbrev block : List ℕ
  block = block_text (other_place a.place) next.seq a.geometry next.free

  behind : (said : List ℕ) (c : CrashRecord) → ((c.areas ≡ mid_areas) × (c.said ≡ said)) ⊎ (IsTorn mid_areas said a.dimm block_at block c ⊎ IsWhole (written mid_areas a.dimm block_at block) said c)
      → LeftByFlip areas said a.dimm after c
  behind said c left =
      left_behind a sound areas shown mid_areas mid mid_stored mid_holds mid_size (slot_is text text_long) mid_others next.seq is_next.numbered is_next.follows next.free enough after put_is said c left

  -- what a stop within it leaves
  put_leaves : (said : List ℕ) (c : CrashRecord) → LeftByTwo areas said a.dimm slot_at text block_at block c → LeftByFlip areas said a.dimm after c
  put_leaves said c (neither same said_is) = left_before areas said a.dimm after c same said_is
  put_leaves said c (first_torn torn) = record {
    said_is = torn.said_is;
    others = others-torn areas a.dimm shown.bytes shown.is_area said slot_at text c torn;
    flip = λ fair. inl (ap standing_of (get-torn areas a.dimm shown.bytes shown.is_area said slot_at text c torn) ∙ slot_is torn.garbage (torn.same_length ∙ text_long));
  }
  put_leaves said c (first_whole whole) = behind said c (inl (whole.areas_are, whole.said_is))
  put_leaves said c (second_torn torn) = behind said c (inr (inl torn))
  put_leaves said c (both whole) = behind said c (inr (inr whole))

  -- the write of the label failed
  label_failed : {T : Type 0} (result : Result T Failed) → Writes areas (m.areas new) a.dimm slot_at text result → FailedFlip areas (m.areas new) (m.said old) a.dimm after
  label_failed result writes =
      let left : CrashRecord = record { areas = m.areas new; said = m.said old; torn = Some (torn_write areas a.dimm slot_at text) } in
      let torn : IsTorn areas (m.said old) a.dimm slot_at text left =
      record { garbage = writes.garbage; same_length = writes.same_length; areas_are = writes.areas_are; said_is = refl; torn_is = refl } in
      record {
        mid = areas;
        at = slot_at;
        put = text;
        left = left;
        is_now = refl;
        is_torn = torn;
        before = refl;
        behind = inl (ap standing_of mid_stored ∙ slot_is text text_long);
        flip = put_leaves (m.said old) left (first_torn torn);
      }

  -- what is written, by the module, the layout and the place
  abbrev raw : {T : Type 0} → Result T Failed → ℕ → Geometry → Place → Type 0
  raw result dimm g place = IsInTurn areas (m.areas new) dimm (slot_offset g label.slot) text (place_offset g place) (block_text place next.seq g next.free) result
      × (LeavesOnly m old new (LeftByTwo areas (m.said old) dimm (slot_offset g label.slot) text (place_offset g place) (block_text place next.seq g next.free))
      × OnOk result (m.areas new ≡ with_both areas dimm (slot_offset g label.slot) text (place_offset g place) (block_text place next.seq g next.free)))

  fails : {T : Type 0} (result : Result T Failed) → IsInTurn areas (m.areas new) a.dimm slot_at text block_at block result → OnErr result (FailedFlip areas (m.areas new) (m.said old) a.dimm after)
  fails (Ok value) turns = tt
  fails (Err failed) turns = elim turns [
    | inl first ↦ label_failed (Err failed) first.1
    | inr second ↦
        left_failed a sound areas shown mid_areas mid mid_stored mid_holds mid_size (slot_is text text_long) mid_others next.seq is_next.numbered is_next.follows next.free enough after put_is
        (m.said old) (m.areas new) (Err failed) second
  ]

  shows : {T : Type 0} (result : Result T Failed) → OnOk result (m.areas new ≡ with_both areas a.dimm slot_at text block_at block)
      → OnOk result ((kept : LoadedArea) → IsKeptAfter a next after kept → IsShown kept (m.areas new))
  shows (Err failed) is = tt
  shows (Ok value) is = λ kept after_it.
      kept_shown a sound areas shown mid_areas mid mid_stored mid_holds mid_size (slot_is text text_long) mid_others next.seq is_next.numbered is_next.follows next.free enough after put_is
      kept (after_it.rest ∙ (λ i. record a { place = is_next.place_is i; seq = next.seq; free = kept.free; live = kept.live })) after_it.bits after_it.live (m.areas new) is

  pub flips_with : (dimm : ℕ) → dimm ≡ a.dimm → (g : Geometry) → g ≡ a.geometry → {T : Type 0} (result : Result T Failed) → raw result dimm g next.place → Flips m old new a next after result
  flips_with dimm dimm_is g g_is result given =
      let there =
      subst (λ (p : Place). raw result a.dimm a.geometry p) is_next.place_is
      (subst (λ (h : Geometry). raw result a.dimm h next.place) g_is
      (subst (λ (d : ℕ). raw result d g next.place) dimm_is given)) in
      record {
        any_moment = weakened (LeftByTwo areas (m.said old) a.dimm slot_at text block_at block) (LeftByFlip areas (m.said old) a.dimm after) (put_leaves (m.said old)) there.1.0;
        failed = fails result there.0;
        shown = shows result there.1.1;
      }

-- the bits of a flip that puts a label into a slot
pub put_bits : (map bits : List ℕ) (slot : ℕ) (among free : ℕ → Bool) → is_free_in map slot ≡ false → ((n : ℕ) → n ≢ slot → is_free_in map n ≡ is_free_in bits n)
    → (k : ℕ) → is_free_in bits k ≡ (among k || free k) → is_free_in map k ≡ (if k == slot then false else (among k || free k))
put_bits map bits slot among free used others k is = by (eqb k slot) refl
  where
    by : (same : Bool) → eqb k slot ≡ same → is_free_in map k ≡ cond same false (among k || free k)
    by true e = ap (is_free_in map) (eqb-true k slot e) ∙ used
    by false e = others k (λ same. false≢true (sym e ∙ eq-eqb k slot same)) ∙ is

-- a slot that was in use and is not freed is in use still
pub put_keeps : (map : List ℕ) (slot : ℕ) (among free : ℕ → Bool) (k : ℕ) → is_free_in map k ≡ (if k == slot then false else (among k || free k)) → among k ≡ false → free k ≡ false → is_free_in map k ≡ false
put_keeps map slot among free k is kept was = is ∙ by (k == slot)
  where
    by : (same : Bool) → cond same false (among k || free k) ≡ false
    by true = refl
    by false = rw (kept, was) refl

-- a slot that was free and isn't the label's is free still
pub put_frees : (map : List ℕ) (slot : ℕ) (among free : ℕ → Bool) (k : ℕ) → is_free_in map k ≡ (if k == slot then false else (among k || free k)) → k ≢ slot → free k ≡ true → is_free_in map k ≡ true
put_frees map slot among free k is other was = is ∙ by (eqb k slot) (among k) refl
  where
    by : (same gone : Bool) → eqb k slot ≡ same → cond same false (gone || free k) ≡ true
    by true gone e = absurd (other (eqb-true k slot e))
    by false true e = refl
    by false false e = was

-- the slot of a label that is replaced is one of the area's
pub replaced_below : (a : LoadedArea) → IsSound a → (replaces : Option ℕ) → IfSome replaces (λ slot. IsSome (get a.live slot)) → All (λ slot. slot < a.geometry.slots) (replaced replaces)
replaced_below a sound None live k d within = absurd (omega arith)
replaced_below a sound (Some slot) live zero d within = used_below a slot (sound.live_in_use slot live)
replaced_below a sound (Some slot) live (suc k) d within = absurd (omega arith)
