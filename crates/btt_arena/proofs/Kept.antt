-- Completing lanes keeps an arena sound, and what each sector holds.
use Rattle.std.proofs.Common.{◌≡◌, ◌⊎◌, inl, inr, ℕ, suc, ◌+◌, ◌-◌, ◌*◌, ◌^◌, ◌<◌, ◌≤◌, Bool, true, false, List, length, Option, Some, None, refl, sym, ap, subst, ◌∙◌, arith}
use Rattle.std.specs.Prelude.{if◌then◌else◌, ◌==◌, ◌&&◌, nat_lt, IfSome}
use Rattle.std.proofs.lemmas.Bool.{ltb-true}
use Rattle.std.proofs.Math.Nat.{mul-le-mul_left}
use Rattle.byte_ranges.specs.Ranges.{range}
use Rattle.btt_arena.specs.declared.halves.Half.{Half}
use Rattle.btt_arena.specs.declared.layout.Layout.{Layout}
use Rattle.btt_arena.specs.Arena.{AreEachOnce, HasNewer, IsFit, IsKept, IsSound, bad, block_at, block_bytes, held_by, holds, zeros}
use Rattle.btt_arena.specs.Completing.{HasMap, IsCompleted, IsHereOrThere, IsPartly}
use Rattle.btt_arena.specs.Formatting.{ChangesOnly}
use Rattle.btt_arena.specs.Info.{arena_in}
use Rattle.btt_arena.specs.Layout.{IsLayout}
use Rattle.btt_arena.specs.Opening.{IsOpened, IsOpening, is_lane_right, newer_of_log}
use Rattle.btt_arena.specs.Tables.{Map, block_in, block_named, completed, completed_by, free_block, is_open, map_in, mark_of, newer_half, with_entry, with_half, with_lane}
use Rattle.btt_arena.specs.Words.{IsEither, with_word}
use Rattle.btt_arena.proofs.Changes.{changes_on, same_bytes, wider}
use Rattle.btt_arena.proofs.EntryWords.{entry_put, newer_kept, word_changes}
use Rattle.btt_arena.proofs.Folding.{at_sector, closed_behind, completed_again, completed_alike, completed_none, completed_one_more, free_of}
use Rattle.btt_arena.proofs.LaneBytes.{newer_same}
use Rattle.btt_arena.proofs.Layouts.{Fits, fits_of}
use Rattle.btt_arena.proofs.Stages.{same_arena}

-- a block lies between the first info block and the map
pub block_inside : (a : Layout) → Fits a → (block : ℕ) → block < a.blocks → 4096 + block * a.sector + a.sector ≤ a.map_at
block_inside a fits block below = inside block a.blocks a.sector a.map_at below fits.room
  where
    inside : (block blocks size map_at : ℕ) → block < blocks → 4096 + blocks * size ≤ map_at → 4096 + block * size + size ≤ map_at
    inside block blocks size map_at below room =
        let le : suc block ≤ blocks = omega arith in
        let more : size * suc block ≤ size * blocks = mul-le-mul_left size le in
        omega (arith, more, room)

-- what a sector holds, by its word and the bytes of its block
pub held_same : (a : Layout) (bytes before : List ℕ) (word sector : ℕ) → block_bytes a bytes (block_named word sector) ≡ block_bytes a before (block_named word sector)
    → held_by a bytes word sector ≡ held_by a before word sector
held_same a bytes before word sector same =
    ap (λ (xs : List ℕ). if mark_of word == 2 then zeros else if mark_of word == 1 then bad else holds xs) same

pub with_same_map : (a : Layout) (bytes before : List ℕ) → bytes ≡ before → HasMap a (map_in a before) before bytes
with_same_map a bytes before same = record { changes = same_bytes _ _ before bytes same; entries = ap (map_in a) same }

pub map_on : (a : Layout) (map other : Map) (before mid bytes : List ℕ) → HasMap a map before mid → HasMap a other mid bytes → HasMap a other before bytes
map_on a map other before mid bytes first second = record { changes = changes_on _ _ before mid bytes first.changes second.changes; entries = second.entries }

pub not_yet : (a : Layout) (halves : ℕ → Option Half) (bytes before : List ℕ) → bytes ≡ before → IsCompleted a halves before 0 bytes
not_yet a halves bytes before same = record { changes = same_bytes _ _ before bytes same; entries = ap (map_in a) same ∙ sym (completed_none halves (map_in a before)) }

-- a lane that is closed has nothing to complete
pub stays_closed : (a : Layout) (old mid : List ℕ) → mid ≡ old → (half : Half) (newer : Option Half) → newer ≡ Some half → is_open half (map_in a old) ≡ false → HasMap a (with_lane newer (map_in a old)) old mid
stays_closed a old mid same half newer is shut =
    let taken : with_half half (map_in a old) ≡ map_in a old = rw shut refl in
    record { changes = same_bytes _ _ old mid same; entries = ap (map_in a) same ∙ sym taken ∙ ap (λ (o : Option Half). with_lane o (map_in a old)) (sym is) }

-- a lane that is open is completed by one word
module _ (a : Layout) (fits : Fits a) (old mid : List ℕ) (same : mid ≡ old) (long : length old ≡ a.size) (half : Half) (newer : Option Half) (is : newer ≡ Some half) (below : half.lba < a.sectors) (small : half.new < 2 ^ 32)
    (opened : is_open half (map_in a old) ≡ true) where
  completes : HasMap a (with_lane (Some half) (map_in a old)) old (with_word old (a.map_at + 4 * half.lba) half.new)
  completes =
      let inside : a.map_at + 4 * half.lba + 4 ≤ length old = omega (arith, long, below, fits.map, fits.log, fits.info) in
      let taken : with_half half (map_in a old) ≡ with_entry (map_in a old) half.lba half.new = rw opened refl in
      record {
        changes = wider (a.map_at + 4 * half.lba) 4 a.map_at (a.log_at - a.map_at) old (with_word old (a.map_at + 4 * half.lba) half.new) (omega arith) (omega (arith, below, fits.map)) (word_changes old (a.map_at + 4 * half.lba) half.new inside);
        entries = entry_put a old half.lba half.new inside small ∙ sym taken;
      }

  module _ (at : ℕ) (place : at ≡ a.map_at + 4 * half.lba) (bytes : List ℕ) where
    pub completes_by : bytes ≡ with_word mid at half.new → HasMap a (with_lane newer (map_in a old)) old bytes
    completes_by put =
        let bytes_are : bytes ≡ with_word old (a.map_at + 4 * half.lba) half.new = put ∙ (λ i. with_word (same i) (place i) half.new) in
        subst (λ (b : List ℕ). HasMap a (with_lane newer (map_in a old)) old b) (sym bytes_are)
        (subst (λ (o : Option Half). HasMap a (with_lane o (map_in a old)) old (with_word old (a.map_at + 4 * half.lba) half.new)) (sym is) completes)

    pub here_or_completed : IsEither mid (with_word mid at half.new) bytes → IsHereOrThere a newer old bytes
    here_or_completed (inl stays) = inl (with_same_map a bytes old (stays ∙ same))
    here_or_completed (inr put) = inr (completes_by put)

-- a lane that is right notes a sector
pub right_sector : (a : Layout) (newer : Option Half) → is_lane_right a newer ≡ true → IfSome newer (λ half. half.lba < a.sectors)
right_sector a None right = tt
right_sector a (Some half) right = ltb-true half.lba a.sectors (first_of (nat_lt half.lba a.sectors) (nat_lt (block_in half.old) a.blocks) (nat_lt (block_in half.new) a.blocks) right)
  where
    first_of : (x y z : Bool) → (x && y && z) ≡ true → x ≡ true
    first_of true y z all = refl
    first_of false y z all = all

-- one lane more
module _ (a : Layout) (halves : ℕ → Option Half) (before mid bytes : List ℕ) (lane next : ℕ) (is_next : next ≡ lane + 1) (done : IsCompleted a halves before lane mid) where
  pub one_more : HasMap a (with_lane (halves lane) (map_in a mid)) mid bytes → IsCompleted a halves before next bytes
  one_more step = record {
    changes = changes_on _ _ before mid bytes done.changes step.changes;
    entries = step.entries ∙ ap (with_lane (halves lane)) done.entries ∙ sym (completed_one_more halves lane next (map_in a before) is_next);
  }

  pub here_or_more : lane < 256 → IsHereOrThere a (halves lane) mid bytes → IsPartly a halves before bytes
  here_or_more below (inl here) = (lane, omega (arith, below), record { changes = changes_on _ _ before mid bytes done.changes here.changes; entries = here.entries ∙ done.entries })
  here_or_more below (inr there) = (next, omega (arith, below, is_next), one_more there)

module _ (a : Layout) (layout : IsLayout a) (before bytes : List ℕ) (long : length before ≡ a.size) (sound : IsSound a before) where
  pub kept_completing : (lanes : ℕ) → lanes ≤ 256 → IsCompleted a (newer_half a before) before lanes bytes → IsKept a before bytes
  kept_completing lanes le done =
      let fits : Fits a = fits_of a layout in
      let newer : newer_half a bytes ≡ newer_half a before = newer_kept a before bytes (omega (arith, fits.map)) done.changes in
      let map_same : completed a bytes ≡ completed a before =
      ap (λ (halves : ℕ → Option Half). completed_by halves 256 (map_in a bytes)) newer ∙ ap (completed_by (newer_half a before) 256) done.entries
      ∙ completed_again a (newer_half a before) (map_in a before) fits.count sound.lanes sound.once lanes le in
      let free : free_block a bytes ≡ free_block a before = ap (λ (halves : ℕ → Option Half). free_of halves) newer in
      record {
        sound = record {
          info = same_arena a layout before long a.map_at (a.log_at - a.map_at) bytes (omega (arith, fits.room)) (omega (arith, fits.map, fits.log)) done.changes ∙ sound.info;
          lanes = λ lane below. subst (HasNewer a) (ap (λ (halves : ℕ → Option Half). halves lane) (sym newer)) (sound.lanes lane below);
          once = subst (λ (m : Map). AreEachOnce a.blocks (block_at a m (free_block a bytes))) (sym map_same)
              (subst (λ (f : ℕ → ℕ). AreEachOnce a.blocks (block_at a (completed a before) f)) (sym free) sound.once);
        };
        same = λ sector below.
            let word = completed a before sector in
            let named : block_named word sector < a.blocks =
            subst (λ (k : ℕ). k < a.blocks) (at_sector a (completed a before) (free_block a before) sector below) (sound.once.below sector (omega (arith, fits.count, below))) in
            ap (λ (m : Map). held_by a bytes (m sector) sector) map_same
            ∙ held_same a bytes before word sector (done.changes.others (4096 + block_named word sector * a.sector) a.sector (inl (block_inside a fits (block_named word sector) named)));
      }

  pub fit_completed : IsCompleted a (newer_half a before) before 256 bytes → IsFit a bytes
  fit_completed done =
      let fits : Fits a = fits_of a layout in
      let newer : newer_half a bytes ≡ newer_half a before = newer_kept a before bytes (omega (arith, fits.map)) done.changes in
      record {
        sound = (kept_completing 256 (omega arith) done).sound;
        closed = λ lane below half is.
            ap (is_open half) done.entries
            ∙ closed_behind a (newer_half a before) (map_in a before) fits.count sound.lanes sound.once 256 (omega arith) lane below half (ap (λ (halves : ℕ → Option Half). halves lane) (sym newer) ∙ is);
      }

-- by the lanes' bytes
pub completed_by_log : (a : Layout) (before bytes log : List ℕ) (lanes : ℕ) → log ≡ range before a.log_at 16384 → lanes ≤ 256 → IsCompleted a (newer_of_log log) before lanes bytes → IsCompleted a (newer_half a before) before lanes bytes
completed_by_log a before bytes log lanes log_is le done = record {
  changes = done.changes;
  entries = done.entries
      ∙ completed_alike (newer_of_log log) (newer_half a before) lanes (map_in a before) (λ lane below. ap (λ (l : List ℕ). newer_of_log l lane) log_is ∙ newer_same a before lane (omega (arith, below, le)));
}

pub opening_same : (before bytes : List ℕ) → bytes ≡ before → IsOpening before bytes
opening_same before bytes same = record {
  in_order = inl same;
  kept = λ a sound. subst (λ (b : List ℕ). IsKept a before b) (sym same) (record { sound = sound; same = λ sector below. refl });
}

same_layout : (x y : Layout) → Some x ≡ Some y → x ≡ y
same_layout x y same = cc

pub opening_partly : (a : Layout) (before bytes : List ℕ) → IsLayout a → length before ≡ a.size → arena_in before ≡ Some a → IsPartly a (newer_half a before) before bytes → IsOpening before bytes
opening_partly a before bytes layout long is partly = record {
  in_order = inr (a, is, partly);
  kept = λ b sound.
      let e : a ≡ b = same_layout a b (sym is ∙ sound.info) in
      subst (λ (x : Layout). IsKept x before bytes) e (kept_completing a layout before bytes long (subst (λ (x : Layout). IsSound x before) (sym e) sound) partly.0 partly.1 partly.2);
}

pub opened_of : (a : Layout) (before bytes : List ℕ) → IsLayout a → length before ≡ a.size → IsCompleted a (newer_half a before) before 256 bytes → IsOpened a before bytes
opened_of a before bytes layout long done = record { completed = done; fit = λ sound. fit_completed a layout before bytes long sound done }

-- what stands while lanes are completed by their bytes, and then
module _ (a : Layout) (layout : IsLayout a) (before mid bytes log : List ℕ) (same : mid ≡ before) (long : length before ≡ a.size) (log_is : log ≡ range before a.log_at 16384) where
  pub opening_by_log : arena_in before ≡ Some a → IsPartly a (newer_of_log log) mid bytes → IsOpening before bytes
  opening_by_log is partly =
      let here : IsPartly a (newer_of_log log) before bytes = subst (λ (b : List ℕ). IsPartly a (newer_of_log log) b bytes) same partly in
      opening_partly a before bytes layout long is (here.0, here.1, completed_by_log a before bytes log here.0 log_is here.1 here.2)

  pub opened_by_log : IsCompleted a (newer_of_log log) mid 256 bytes → IsOpened a before bytes
  opened_by_log done =
      let here : IsCompleted a (newer_of_log log) before 256 bytes = subst (λ (b : List ℕ). IsCompleted a (newer_of_log log) b 256 bytes) same done in
      opened_of a before bytes layout long (completed_by_log a before bytes log 256 log_is (omega arith) here)
