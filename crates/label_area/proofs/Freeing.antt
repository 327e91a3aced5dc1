-- What a flip that frees slots leaves, and shows.
use Rattle.std.proofs.Common.{◌≡◌, inl, inr, ℕ, ◌*◌, ◌<◌, ◌≤◌, Bool, true, false, ◌&&◌, ◌||◌, cond, List, length, None, Ok, Err, Result, refl, sym, ap, ◌∙◌, subst, arith}
use Rattle.std.specs.Prelude.{if◌then◌else◌, nat_lt, not, IsTrue, OnErr, OnOk}
use Rattle.std.specs.FinMap.{get}
use Rattle.std.proofs.lemmas.Bool.{and_parts, and_right, cases_lt, true≢false}
use Rattle.std.proofs.lemmas.Bool.Decides.{nat_tests}
use Rattle.rig_trait.specs.declared.rig.Failed.{Failed}
use Rattle.rig_trait.specs.declared.shown.Shown.{Ghosts}
use Rattle.rig_trait.specs.Frames.{Elapses}
use Rattle.rig_trait.specs.Records.{LeftByWrite, Writes}
use Rattle.rig_trait.proofs.Moments.{a_call}
use Rattle.rig_trait.proofs.WrittenAreas.{writes_all}
use Rattle.index_block.specs.declared.geometry.Geometry.{Geometry}
use Rattle.index_block.specs.declared.geometry.Place.{Place}
use Rattle.index_block.specs.Bitmap.{is_free_in}
use Rattle.index_block.specs.Geometry.{other_place, place_offset}
use Rattle.index_block.specs.Written.{block_text}
use Rattle.label_codec.specs.declared.kind.AreaKind.TheVariants.{Ready}
use Rattle.label_area.specs.declared.flip_writes.Next.{Next}
use Rattle.label_area.specs.FlipWrites.{Flips, IsKeptAfter, IsNext, with_bits}
use Rattle.label_area.specs.Flips.{FailedFlip, LeftByFlip, Standing, after_free, is_among, shown_by, standing_of}
use Rattle.label_area.specs.LoadedAreas.{IsSound, LoadedArea, is_used}
use Rattle.label_area.specs.Loads.{IsShown}
use Rattle.label_area.specs.Slots.{is_in_use, label_at}
use Rattle.label_area.proofs.FirstSlot.{none_unused}
use Rattle.label_area.proofs.FlipRecords.{holds, kept_shown, left_before, left_by_write, left_failed, live_is}
use Rattle.label_area.proofs.Sizes.{bits_enough}
use Rattle.label_area.proofs.Standings.{standing_with}

-- what holds whatever the answer holds at a failure
pub on_err : {T E P : Type 0} (result : Result T E) → P → OnErr result P
on_err (Ok value) holds = tt
on_err (Err fault) holds = holds

-- the slots in use after some were freed
pub used_freed : (n : ℕ) (gone free now : ℕ → Bool) → ((k : ℕ) → k < n → now k ≡ (gone k || free k)) → (k : ℕ) → (nat_lt k n && not (now k)) ≡ (not (gone k) && (nat_lt k n && not (free k)))
used_freed n gone free now bits k = elim (cases_lt k n) [
  | inl below ↦
      let is : nat_lt k n ≡ true = grind (arith, nat_tests) in
      (λ i. is i && not (bits k below i)) ∙ by (gone k) (free k) ∙ sym (λ i. not (gone k) && (is i && not (free k)))
  | inr behind ↦
      let past : nat_lt k n ≡ false = grind (arith, nat_tests) in
      (λ i. past i && not (now k)) ∙ sym ((λ i. not (gone k) && (past i && not (free k))) ∙ and_right (not (gone k)) false refl)
]
  where
    by : (r f : Bool) → not (r || f) ≡ (not r && not f)
    by true f = refl
    by false f = refl

-- what is kept after it shows what it made
pub free_shows : (a b : LoadedArea) (slots : List ℕ) → b.geometry ≡ a.geometry → ((k : ℕ) → k < a.geometry.slots → is_free_in b.free k ≡ (is_among slots k || is_free_in a.free k))
    → ((k : ℕ) → get b.live k ≡ (if is_among slots k then None else get a.live k)) → shown_by b ≡ after_free a slots
free_shows a b slots g_is bits live =
    (λ i. record { labels = record { kind = Ready; slots = (g_is i).slots; at = λ k. live k i }; used = λ k. nat_lt k (g_is i).slots && not (is_free_in b.free k) })
    ∙ (λ i. record {
      labels = record { kind = Ready; slots = a.geometry.slots; at = λ k. if is_among slots k then None else get a.live k };
      used = λ k. used_freed a.geometry.slots (is_among slots) (is_free_in a.free) (is_free_in b.free) bits k i;
    })

-- a slot in use is one of the area's
pub in_use_below : (map : List ℕ) (n slot : ℕ) → is_in_use map n slot ≡ true → slot < n
in_use_below map n slot used = below (and_parts (nat_lt slot n) (not (is_free_in map slot)) used).0
  where
    below : nat_lt slot n ≡ true → slot < n
    below is = grind (arith, nat_tests)

pub used_below : (a : LoadedArea) (slot : ℕ) → IsTrue (is_used a slot) → slot < a.geometry.slots
used_below a slot used = in_use_below a.free a.geometry.slots slot used

-- what was free is free still, where slots are freed
pub still_free : (map : List ℕ) (gone free : ℕ → Bool) (k : ℕ) → is_free_in map k ≡ (gone k || free k) → free k ≡ true → is_free_in map k ≡ true
still_free map gone free k is was = is ∙ (λ i. gone k || was i) ∙ by (gone k)
  where
    by : (r : Bool) → (r || true) ≡ true
    by true = refl
    by false = refl

module _ (a : LoadedArea) (sound : IsSound a) (next : Next) where
  -- with the bits of the slots that are freed it stands for what it does after that
  module _ (slots : List ℕ) (bits : (k : ℕ) → k < a.geometry.slots → is_free_in next.free k ≡ (is_among slots k || is_free_in a.free k)) where
    freed_label : (k : ℕ) → (if is_in_use next.free a.geometry.slots k then get a.live k else None) ≡ (if is_among slots k then None else get a.live k)
    freed_label k =
        (λ i. cond (used_freed a.geometry.slots (is_among slots) (is_free_in a.free) (is_free_in next.free) bits k i) (get a.live k) None)
        ∙ by (is_among slots k) (is_used a k) refl
      where
        by : (gone used : Bool) → is_used a k ≡ used → cond (not gone && used) (get a.live k) None ≡ cond gone None (get a.live k)
        by true used e = refl
        by false true e = refl
        by false false e = sym (none_unused a sound k e)

    pub with_bits-freed : with_bits a next ≡ after_free a slots
    with_bits-freed = λ i. record {
      labels = record { kind = Ready; slots = a.geometry.slots; at = λ k. freed_label k i };
      used = λ k. used_freed a.geometry.slots (is_among slots) (is_free_in a.free) (is_free_in next.free) bits k i;
    }

  -- a slot in use by those bits was in use, where what was free is free still
  pub used_before : (k : ℕ) → (is_free_in a.free k ≡ true → is_free_in next.free k ≡ true) → is_in_use next.free a.geometry.slots k ≡ true → is_used a k ≡ true
  used_before k still used =
      let parts = and_parts (nat_lt k a.geometry.slots) (not (is_free_in next.free k)) used in
      by (is_free_in a.free k) refl parts.0 parts.1
    where
      by : (was : Bool) → is_free_in a.free k ≡ was → nat_lt k a.geometry.slots ≡ true → not (is_free_in next.free k) ≡ true → is_used a k ≡ true
      by true e below now = absurd (true≢false (sym now ∙ ap not (still e)))
      by false e below now = λ i. below i && not (e i)

-- the writes of a flip of the bits alone
module _ {R : Type 0} (m : Ghosts R) (old new : R) (a : LoadedArea) (sound : IsSound a) (shown : IsShown a (m.areas old)) (next : Next) (is_next : IsNext a next)
    (still : (k : ℕ) → k < a.geometry.slots → is_free_in a.free k ≡ true → is_free_in next.free k ≡ true) where
  abbrev after : Standing
  after = with_bits a next

  kept_label : (k : ℕ) → (if is_in_use next.free a.geometry.slots k then label_at a.geometry shown.bytes k else None) ≡ (if is_in_use next.free a.geometry.slots k then get a.live k else None)
  kept_label k = by (is_in_use next.free a.geometry.slots k) refl
    where
      by : (used : Bool) → is_in_use next.free a.geometry.slots k ≡ used → cond used (label_at a.geometry shown.bytes k) None ≡ cond used (get a.live k) None
      by true e =
          let below = in_use_below next.free a.geometry.slots k e in
          sym (live_is a sound (m.areas old) shown k ∙ (λ i. cond (used_before a sound next k (still k below) e i) (label_at a.geometry shown.bytes k) None))
      by false e = refl

  bits_are : standing_with a.geometry (is_free_in next.free) (label_at a.geometry shown.bytes) ≡ after
  bits_are = λ i. record { labels = record { kind = Ready; slots = a.geometry.slots; at = λ k. kept_label k i }; used = is_in_use next.free a.geometry.slots }

  -- what is written, by the module, the layout and the place
  abbrev raw : {T : Type 0} → Result T Failed → ℕ → Geometry → Place → Type 0
  raw result dimm g place = Writes (m.areas old) (m.areas new) dimm (place_offset g place) (block_text place next.seq g next.free) result
      × Elapses m old new (LeftByWrite (m.areas old) (m.areas new) (m.said old) dimm (place_offset g place) (block_text place next.seq g next.free) result)

  enough : a.geometry.slots ≤ 8 * length next.free
  enough = bits_enough a sound next.free is_next.bits

  module _ {T : Type 0} (result : Result T Failed) (given : raw result a.dimm a.geometry (other_place a.place)) where
    fails : (result : Result T Failed) → Writes (m.areas old) (m.areas new) a.dimm (place_offset a.geometry (other_place a.place)) (block_text (other_place a.place) next.seq a.geometry next.free) result
        → OnErr result (FailedFlip (m.areas old) (m.areas new) (m.said old) a.dimm after)
    fails (Ok value) writes = tt
    fails (Err failed) writes =
        left_failed a sound (m.areas old) shown (m.areas old) shown.bytes shown.is_area (holds a sound (m.areas old) shown) refl (ap (λ o. standing_of o) (sym shown.is_area)) (λ q other. refl)
        next.seq is_next.numbered is_next.follows next.free enough after bits_are (m.said old) (m.areas new) (Err failed) writes

    shows : (result : Result T Failed) → Writes (m.areas old) (m.areas new) a.dimm (place_offset a.geometry (other_place a.place)) (block_text (other_place a.place) next.seq a.geometry next.free) result
        → OnOk result ((kept : LoadedArea) → IsKeptAfter a next after kept → IsShown kept (m.areas new))
    shows (Err failed) writes = tt
    shows (Ok value) writes = λ kept is.
        kept_shown a sound (m.areas old) shown (m.areas old) shown.bytes shown.is_area (holds a sound (m.areas old) shown) refl (ap (λ o. standing_of o) (sym shown.is_area)) (λ q other. refl)
        next.seq is_next.numbered is_next.follows next.free enough after bits_are kept (is.rest ∙ (λ i. record a { place = is_next.place_is i; seq = next.seq; free = kept.free; live = kept.live }))
        is.bits is.live (m.areas new)
        (writes_all (m.areas old) (m.areas new) a.dimm (place_offset a.geometry (other_place a.place)) (block_text (other_place a.place) next.seq a.geometry next.free) value writes)

    flips_there : Flips m old new a next after result
    flips_there = record {
      any_moment =
          a_call (LeftByFlip (m.areas old) (m.said old) a.dimm after) _
          (λ r left. let is = m.now_is old r left in left_before (m.areas old) (m.said old) a.dimm after r is.0 is.1) given.1
          (λ c left. left_by_write a sound (m.areas old) shown (m.areas old) shown.bytes shown.is_area (holds a sound (m.areas old) shown) refl (ap (λ o. standing_of o) (sym shown.is_area)) (λ q other. refl)
          next.seq is_next.numbered is_next.follows next.free enough after bits_are (m.said old) (m.areas new) result given.0 c left);
      failed = fails result given.0;
      shown = shows result given.0;
    }

  pub flips : (dimm : ℕ) → dimm ≡ a.dimm → (g : Geometry) → g ≡ a.geometry → {T : Type 0} (result : Result T Failed) → raw result dimm g next.place → Flips m old new a next after result
  flips dimm dimm_is g g_is result given =
      flips_there result
      (subst (λ (p : Place). raw result a.dimm a.geometry p) is_next.place_is
      (subst (λ (h : Geometry). raw result a.dimm h next.place) g_is
      (subst (λ (d : ℕ). raw result d g next.place) dimm_is given)))
