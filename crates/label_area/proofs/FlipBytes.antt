-- Which bytes a flip changes.
use Rattle.std.proofs.Common.{◌≡◌, inl, inr, ℕ, ◌+◌, ◌<◌, ◌≤◌, List, [], length, Option, Some, None, Result, refl, sym, ap, ◌∙◌, subst, arith}
use Rattle.std.specs.Prelude.{IfSome, IsSome, unwrap_or}
use Rattle.std.specs.FinMap.{get}
use Rattle.std.specs.Option.{option_map}
use Rattle.byte_ranges.specs.Ranges.{patched, range}
use Rattle.byte_ranges.proofs.Patched.{range-patched_after, range-patched_before}
use Rattle.rig_trait.specs.declared.rig.Failed.{Failed}
use Rattle.rig_trait.specs.declared.shown.Shown.{Ghosts}
use Rattle.rig_trait.specs.Areas.{Areas, IsWithin, area, bytes_in, written}
use Rattle.rig_trait.specs.Frames.{Elapses, LeavesOnly}
use Rattle.rig_trait.specs.Records.{CrashRecord, LeftByWrite, Writes}
use Rattle.rig_trait.specs.TwoWrites.{IsInTurn, LeftByTwo, neither, first_torn, first_whole, second_torn, both}
use Rattle.rig_trait.proofs.Moments.{a_call, weakened}
use Rattle.rig_trait.proofs.WrittenAreas.{SizesKept-written, get-written, get-written_other}
use Rattle.index_block.specs.declared.geometry.Geometry.{Geometry}
use Rattle.index_block.specs.Geometry.{other_place, place_offset, slot_offset}
use Rattle.index_block.specs.Written.{block_text}
use Rattle.index_block.proofs.Sizes.{HasSizes, sizes_of}
use Rattle.index_block.proofs.Usable.{length-block}
use Rattle.label_area.specs.declared.flip_writes.Next.{Next}
use Rattle.label_area.specs.FlipBytes.{AreApart, ChangesFlipAlone, WritesFlipAlone}
use Rattle.label_area.specs.FlipWrites.{IsNext}
use Rattle.label_area.specs.Flips.{IsSized}
use Rattle.label_area.specs.LoadedAreas.{IsSound, LoadedArea, size_of}
use Rattle.label_area.proofs.Sizes.{bits_enough}
use Rattle.label_area.proofs.SlotsWritten.{place_fits, slot_fits}

-- bytes that are put somewhere leave those that are apart from them
apart_kept : (areas : Areas) (dimm at : ℕ) (put : List ℕ) (from n : ℕ) → IsWithin areas dimm at (length put) → AreApart from n at (length put) → bytes_in (written areas dimm at put) dimm from n ≡ bytes_in areas dimm from n
apart_kept areas dimm at put from n within apart = ap (λ (o : Option (List ℕ)). range (unwrap_or o []) from n) (get-written areas dimm at put) ∙ by apart
  where
    by : AreApart from n at (length put) → range (patched (area areas dimm) at put) from n ≡ range (area areas dimm) from n
    by (inl before) = range-patched_before (area areas dimm) put at within.fits from n before
    by (inr behind) = range-patched_after (area areas dimm) put at within.fits from n behind

area_size : (o : Option (List ℕ)) (size : ℕ) → option_map length o ≡ Some size → IsSome o × (length (unwrap_or o []) ≡ size)
area_size None size is = absurd cc
area_size (Some bytes) size is = (refl, cc)

module _ (a : LoadedArea) (sound : IsSound a) (old : Areas) (sized : IsSized a old) (slot : Option ℕ) where
  abbrev g : Geometry
  g = a.geometry

  sizes : HasSizes g
  sizes = sizes_of g sound.geometry

  there : IsSome (get old a.dimm) × (length (area old a.dimm) ≡ size_of a)
  there = area_size (get old a.dimm) (size_of a) sized

  unchanged : (new : Areas) → new ≡ old → ChangesFlipAlone a slot old new
  unchanged new same = subst (ChangesFlipAlone a slot old) (sym same) (record { others = λ q other. refl; size = refl; bytes = λ from n block put. refl })

  -- bytes are put into one of the ranges, behind others
  put_alone : (at len : ℕ) → at + len ≤ size_of a
      → ((from n : ℕ) → AreApart from n (place_offset g (other_place a.place)) g.block → IfSome slot (λ s. AreApart from n (slot_offset g s) g.label) → AreApart from n at len)
      → (mid : Areas) → ChangesFlipAlone a slot old mid → (put : List ℕ) → length put ≡ len → (new : Areas) → new ≡ written mid a.dimm at put → ChangesFlipAlone a slot old new
  put_alone at len fits apart mid was put long new new_is =
      let mid_there : IsSome (get mid a.dimm) × (length (area mid a.dimm) ≡ size_of a) = area_size (get mid a.dimm) (size_of a) (was.size ∙ sized) in
      let within : IsWithin mid a.dimm at (length put) = record { is_area = mid_there.0; fits = omega (arith, mid_there.1, fits, long) } in
      subst (ChangesFlipAlone a slot old) (sym new_is) (record {
        others = λ q other. get-written_other mid a.dimm at put q other ∙ was.others q other;
        size = SizesKept-written mid a.dimm at put within a.dimm ∙ was.size;
        bytes = λ from n block in_slot.
            apart_kept mid a.dimm at put from n within (subst (AreApart from n at) (sym long) (apart from n block in_slot)) ∙ was.bytes from n block in_slot;
      })

  module _ (next : Next) (is_next : IsNext a next) where
    abbrev block_at : ℕ
    block_at = place_offset g next.place

    abbrev block : List ℕ
    block = block_text next.place next.seq g next.free

    block_alone : (mid : Areas) → ChangesFlipAlone a slot old mid → (put : List ℕ) → length put ≡ length block → (new : Areas) → new ≡ written mid a.dimm block_at put → ChangesFlipAlone a slot old new
    block_alone mid was put long =
        put_alone block_at g.block
        (subst (λ n. block_at + g.block ≤ n) there.1 (place_fits g sound.label sizes (area old a.dimm) there.1 next.place))
        (λ from n apart in_slot. subst (λ p. AreApart from n (place_offset g p) g.block) (sym is_next.place_is) apart)
        mid was put (long ∙ length-block next.place next.seq g next.free sizes is_next.numbered (bits_enough a sound next.free is_next.bits))

-- a flip that puts no label
pub block_written_alone : {R : Type 0} (m : Ghosts R) (old new : R) (a : LoadedArea) → IsSound a → IsSized a (m.areas old) → (next : Next) → IsNext a next
    → (dimm : ℕ) → dimm ≡ a.dimm → (g : Geometry) → g ≡ a.geometry → {T : Type 0} (result : Result T Failed)
    → Writes (m.areas old) (m.areas new) dimm (place_offset g next.place) (block_text next.place next.seq g next.free) result
    → Elapses m old new (LeftByWrite (m.areas old) (m.areas new) (m.said old) dimm (place_offset g next.place) (block_text next.place next.seq g next.free) result)
    → WritesFlipAlone m old new a None
block_written_alone m old new a sound sized next is_next dimm dimm_is g g_is result writes time =
    there (subst (λ (h : Geometry). Raw a.dimm h) g_is (subst (λ (d : ℕ). Raw d g) dimm_is (writes, time)))
  where
    Raw : ℕ → Geometry → Type 0
    Raw d h = Writes (m.areas old) (m.areas new) d (place_offset h next.place) (block_text next.place next.seq h next.free) result
        × Elapses m old new (LeftByWrite (m.areas old) (m.areas new) (m.said old) d (place_offset h next.place) (block_text next.place next.seq h next.free) result)

    same : ChangesFlipAlone a None (m.areas old) (m.areas old)
    same = unchanged a sound (m.areas old) sized None (m.areas old) refl

    alone : (put : List ℕ) → length put ≡ length (block_text next.place next.seq a.geometry next.free) → (now : Areas) → now ≡ written (m.areas old) a.dimm (place_offset a.geometry next.place) put
        → ChangesFlipAlone a None (m.areas old) now
    alone = block_alone a sound (m.areas old) sized None next is_next (m.areas old) same

    there : Raw a.dimm a.geometry → WritesFlipAlone m old new a None
    there given =
        let now : ChangesFlipAlone a None (m.areas old) (m.areas new) = alone given.0.garbage given.0.same_length (m.areas new) given.0.areas_are in
        record {
          now = now;
          any_moment = a_call (λ c. ChangesFlipAlone a None (m.areas old) c.areas) _
              (λ c left. unchanged a sound (m.areas old) sized None c.areas (m.now_is old c left).0) given.1
              (λ c left. elim left [
                | inl torn ↦ alone torn.garbage torn.same_length c.areas torn.areas_are
                | inr whole ↦ subst (ChangesFlipAlone a None (m.areas old)) (sym whole.0.areas_are) now
              ]);
        }

-- a flip that puts a label
pub put_and_block_alone : {R : Type 0} (m : Ghosts R) (old new : R) (a : LoadedArea) → IsSound a → IsSized a (m.areas old) → (next : Next) → IsNext a next
    → (slot : ℕ) → slot < a.geometry.slots → (text : List ℕ) → length text ≡ 256
    → (dimm : ℕ) → dimm ≡ a.dimm → (g : Geometry) → g ≡ a.geometry → {T : Type 0} (result : Result T Failed)
    → IsInTurn (m.areas old) (m.areas new) dimm (slot_offset g slot) text (place_offset g next.place) (block_text next.place next.seq g next.free) result
    → LeavesOnly m old new (LeftByTwo (m.areas old) (m.said old) dimm (slot_offset g slot) text (place_offset g next.place) (block_text next.place next.seq g next.free))
    → WritesFlipAlone m old new a (Some slot)
put_and_block_alone m old new a sound sized next is_next slot within text long dimm dimm_is g g_is result turns run =
    there (subst (λ (h : Geometry). Raw a.dimm h) g_is (subst (λ (d : ℕ). Raw d g) dimm_is (turns, run)))
  where
    Raw : ℕ → Geometry → Type 0
    Raw d h = IsInTurn (m.areas old) (m.areas new) d (slot_offset h slot) text (place_offset h next.place) (block_text next.place next.seq h next.free) result
        × LeavesOnly m old new (LeftByTwo (m.areas old) (m.said old) d (slot_offset h slot) text (place_offset h next.place) (block_text next.place next.seq h next.free))

    areas : Areas
    areas = m.areas old

    size : length (area areas a.dimm) ≡ size_of a
    size = (area_size (get areas a.dimm) (size_of a) sized).1

    in_slot : (put : List ℕ) → length put ≡ length text → (now : Areas) → now ≡ written areas a.dimm (slot_offset a.geometry slot) put → ChangesFlipAlone a (Some slot) areas now
    in_slot put same =
        put_alone a sound areas sized (Some slot) (slot_offset a.geometry slot) a.geometry.label
        (subst (λ n. slot_offset a.geometry slot + a.geometry.label ≤ n) size (slot_fits a.geometry sound.label (sizes_of a.geometry sound.geometry) (area areas a.dimm) size slot within))
        (λ from n apart behind. behind) areas (unchanged a sound areas sized (Some slot) areas refl) put (same ∙ long ∙ sym sound.label)

    mid : Areas
    mid = written areas a.dimm (slot_offset a.geometry slot) text

    in_block : (put : List ℕ) → length put ≡ length (block_text next.place next.seq a.geometry next.free) → (now : Areas) → now ≡ written mid a.dimm (place_offset a.geometry next.place) put
        → ChangesFlipAlone a (Some slot) areas now
    in_block = block_alone a sound areas sized (Some slot) next is_next mid (in_slot text refl mid refl)

    each : (c : CrashRecord) → LeftByTwo areas (m.said old) a.dimm (slot_offset a.geometry slot) text (place_offset a.geometry next.place) (block_text next.place next.seq a.geometry next.free) c
        → ChangesFlipAlone a (Some slot) areas c.areas
    each c (neither same said_is) = unchanged a sound areas sized (Some slot) c.areas same
    each c (first_torn torn) = in_slot torn.garbage torn.same_length c.areas torn.areas_are
    each c (first_whole whole) = in_slot text refl c.areas whole.areas_are
    each c (second_torn torn) = in_block torn.garbage torn.same_length c.areas torn.areas_are
    each c (both whole) = in_block (block_text next.place next.seq a.geometry next.free) refl c.areas whole.areas_are

    there : Raw a.dimm a.geometry → WritesFlipAlone m old new a (Some slot)
    there given = record {
      now = elim given.0 [
        | inl first ↦ in_slot first.1.garbage first.1.same_length (m.areas new) first.1.areas_are
        | inr second ↦ in_block second.garbage second.same_length (m.areas new) second.areas_are
      ];
      any_moment = weakened _ (λ c. ChangesFlipAlone a (Some slot) areas c.areas) each given.1;
    }
