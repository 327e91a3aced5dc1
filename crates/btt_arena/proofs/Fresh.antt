-- An arena that was just made is sound, and each sector holds the bytes of its own block.
use Rattle.std.proofs.Common.{◌≡◌, ℕ, zero, suc, ◌+◌, ◌-◌, ◌*◌, ◌^◌, ◌<◌, ◌≤◌, true, false, List, ◌++◌, length, take, drop, Option, Some, refl, sym, ap, subst, ◌∙◌, inl, inr, arith, eq-eqb}
use Rattle.std.specs.Prelude.{replicate, nat_lt}
use Rattle.std.specs.Option.{option_map_or}
use Rattle.std.proofs.lemmas.Bool.{cases_lt}
use Rattle.std.proofs.lemmas.Bool.Decides.{nat_tests}
use Rattle.std.proofs.lemmas.List.{drop-drop, drop-take, drop-replicate, take-take}
use Rattle.std.proofs.Math.Nat.{mul-le-mul_left}
use Rattle.byteorder.specs.Numbers.{little_number-reads_back}
use Rattle.byteorder.specs.Endian.{little_bytes}
use Rattle.byte_ranges.specs.Ranges.{range, number_at, patched}
use Rattle.byte_ranges.proofs.Patched.{range-patched_before, range-patched_in}
use Rattle.byte_ranges.proofs.Numbers.{number_at-take}
use Rattle.btt_arena.specs.declared.layout.Layout.{Layout}
use Rattle.btt_arena.specs.Arena.{AreEachOnce, IsSound, block_at, held_by, holds}
use Rattle.btt_arena.specs.Formatting.{HasFreshLog, HasFreshMap, IsFresh, fresh_lane}
use Rattle.btt_arena.specs.Info.{arena_in}
use Rattle.btt_arena.specs.Layout.{IsLayout}
use Rattle.btt_arena.specs.declared.halves.Half.{Half}
use Rattle.btt_arena.specs.Tables.{Map, block_in, block_named, completed, completed_by, free_block, half_at, half_in, map_in, newer_half, newer_of, normal, with_half, with_lane}
use Rattle.btt_arena.proofs.Layouts.{Fits, fits_of}

-- a word of a range
pub word_of_range : (bytes : List ℕ) (from n k : ℕ) → k + 4 ≤ n → number_at 4 bytes (from + k) ≡ number_at 4 (range bytes from n) k
word_of_range bytes from n k fits = rw (number_at-take 4 k n (drop from bytes) fits, drop-drop k from bytes) refl

zero_word : (n k : ℕ) → k + 4 ≤ n → number_at 4 (replicate n 0) k ≡ 0
zero_word n k fits =
    let e : n - k ≡ suc (suc (suc (suc (n - (k + 4))))) = omega arith in
    rw (drop-replicate k n zero, e) refl

pub fresh_entry : (a : Layout) (bytes : List ℕ) → Fits a → HasFreshMap a bytes → (sector : ℕ) → sector < a.sectors → map_in a bytes sector ≡ 0
fresh_entry a bytes fits fresh sector below =
    let n = a.log_at - a.map_at in
    let within : 4 * sector + 4 ≤ n = omega (arith, fits.map) in
    word_of_range bytes a.map_at n (4 * sector) within ∙ ap (λ (xs : List ℕ). number_at 4 xs (4 * sector)) fresh ∙ zero_word n (4 * sector) within

newer_first : (first second : Half) → first.seq ≡ 1 → second.seq ≡ 0 → newer_of first second ≡ Some first
newer_first first second one none = rw (one, none) refl

module _ (a : Layout) (bytes : List ℕ) (fits : Fits a) (log : HasFreshLog a bytes) (lane : ℕ) (below : lane < 256) where
  at_lane : (k : ℕ) → k + 4 ≤ 64 → number_at 4 bytes (a.log_at + 64 * lane + k) ≡ number_at 4 (fresh_lane a.sectors lane) k
  at_lane k inside = word_of_range bytes (a.log_at + 64 * lane) 64 k inside ∙ ap (λ (xs : List ℕ). number_at 4 xs k) (log lane below)

  fresh_lba : (half_in a bytes lane 0).lba ≡ lane
  fresh_lba =
      let e : half_at a lane 0 ≡ a.log_at + 64 * lane + 0 = omega arith in
      ap (number_at 4 bytes) e ∙ at_lane 0 (omega arith) ∙ little_number-reads_back 4 lane (drop 4 (fresh_lane a.sectors lane)) (omega arith)

  fresh_old : (half_in a bytes lane 0).old ≡ normal (a.sectors + lane)
  fresh_old =
      let e : half_at a lane 0 + 4 ≡ a.log_at + 64 * lane + 4 = omega arith in
      ap (number_at 4 bytes) e ∙ at_lane 4 (omega arith) ∙ little_number-reads_back 4 (normal (a.sectors + lane)) (drop 8 (fresh_lane a.sectors lane)) (omega (arith, fits.few, fits.count))

  fresh_new : (half_in a bytes lane 0).new ≡ normal (a.sectors + lane)
  fresh_new =
      let e : half_at a lane 0 + 8 ≡ a.log_at + 64 * lane + 8 = omega arith in
      ap (number_at 4 bytes) e ∙ at_lane 8 (omega arith) ∙ little_number-reads_back 4 (normal (a.sectors + lane)) (drop 12 (fresh_lane a.sectors lane)) (omega (arith, fits.few, fits.count))

  fresh_seq : (half_in a bytes lane 0).seq ≡ 1
  fresh_seq =
      let e : half_at a lane 0 + 12 ≡ a.log_at + 64 * lane + 12 = omega arith in
      ap (number_at 4 bytes) e ∙ at_lane 12 (omega arith) ∙ little_number-reads_back 4 1 (drop 16 (fresh_lane a.sectors lane)) (omega arith)

  fresh_other : (half_in a bytes lane 1).seq ≡ 0
  fresh_other =
      let e : half_at a lane 1 + 12 ≡ a.log_at + 64 * lane + 28 = omega arith in
      ap (number_at 4 bytes) e ∙ at_lane 28 (omega arith)

  pub fresh_newer : newer_half a bytes lane ≡ Some (half_in a bytes lane 0)
  fresh_newer = newer_first (half_in a bytes lane 0) (half_in a bytes lane 1) fresh_seq fresh_other

  pub fresh_free : free_block a bytes lane ≡ a.sectors + lane
  fresh_free =
      ap (λ (o : Option Half). option_map_or (λ (h : Half). block_in h.old) o 0) fresh_newer
      ∙ ap block_in fresh_old ∙ low_bits (a.sectors + lane) (omega (arith, fits.few, fits.count))
    where
      low_bits : (block : ℕ) → block < 2 ^ 30 → block_in (normal block) ≡ block
      low_bits block small = omega arith

  pub fresh_closed : (half_in a bytes lane 0).old ≡ (half_in a bytes lane 0).new
  fresh_closed = fresh_old ∙ sym fresh_new

-- a lane whose blocks are one and the same is not completed
closed : (half : Half) (map : Map) → half.old ≡ half.new → with_half half map ≡ map
closed half map same =
    let e = eq-eqb (block_in half.old) (block_in half.new) (ap block_in same) in
    rw e refl

pub all_closed : (halves : ℕ → Option Half) (count : ℕ) (map : Map) → ((lane : ℕ) → lane < count → (half : Half) × (halves lane ≡ Some half) × (half.old ≡ half.new)) → completed_by halves count map ≡ map
unfolding completed_by
all_closed halves zero map each = refl
all_closed halves (suc count) map each =
    let this = each count (omega arith) in
    ap (with_lane (halves count)) (all_closed halves count map (λ lane lt. each lane (omega arith)))
    ∙ ap (λ (o : Option Half). with_lane o map) this.1 ∙ closed this.0 map this.2

module _ (a : Layout) (bytes : List ℕ) (fits : Fits a) (map : HasFreshMap a bytes) (log : HasFreshLog a bytes) where
  fresh_completed : completed a bytes ≡ map_in a bytes
  fresh_completed = all_closed (newer_half a bytes) 256 (map_in a bytes) (λ lane below. (half_in a bytes lane 0, fresh_newer a bytes fits log lane below, fresh_closed a bytes fits log lane below))

  fresh_word : (sector : ℕ) → sector < a.sectors → completed a bytes sector ≡ 0
  fresh_word sector below = ap (λ (m : Map). m sector) fresh_completed ∙ fresh_entry a bytes fits map sector below

  position_is : (position : ℕ) → position < a.blocks → block_at a (completed a bytes) (free_block a bytes) position ≡ position
  position_is position below = elim (cases_lt position a.sectors) [
    | inl mapped ↦
        let e : nat_lt position a.sectors ≡ true = grind (arith, nat_tests) in
        rw e (ap (λ (word : ℕ). block_named word position) (fresh_word position mapped))
    | inr free ↦
        let e : nat_lt position a.sectors ≡ false = grind (arith, nat_tests) in
        let lane : position - a.sectors < 256 = omega (arith, fits.count) in
        rw e (fresh_free a bytes fits log (position - a.sectors) lane ∙ omega arith)
  ]

  fresh_once : AreEachOnce a.blocks (block_at a (completed a bytes) (free_block a bytes))
  fresh_once = record {
    below = λ position lt. rw (position_is position lt) lt;
    distinct = λ p q p_lt q_lt same. sym (position_is p p_lt) ∙ same ∙ position_is q q_lt;
    each_stands = λ number lt. (number, lt, position_is number lt);
  }

  fresh_sound : arena_in bytes ≡ Some a → IsSound a bytes
  fresh_sound info = record {
    info = info;
    lanes = λ lane below. (half_in a bytes lane 0, fresh_newer a bytes fits log lane below, rw (fresh_lba a bytes fits log lane below) (omega (arith, fits.few_lanes, below)));
    once = fresh_once;
  }

-- a range within a range
pub range-range : (bytes : List ℕ) (from n k m : ℕ) → k + m ≤ n → range (range bytes from n) k m ≡ range bytes (from + k) m
range-range bytes from n k m fits =
    let e : k + (n - k) ≡ n = omega arith in
    let cut = subst (λ (l : ℕ). drop k (take l (drop from bytes)) ≡ take (n - k) (drop k (drop from bytes))) e (drop-take k (n - k) (drop from bytes)) in
    let less : m ≤ n - k = omega arith in
    ap (take m) (cut ∙ ap (take (n - k)) (drop-drop k from bytes)) ∙ take-take m (n - k) (drop (from + k) bytes) less

pub fresh_of : (a : Layout) (before bytes : List ℕ) → IsLayout a → HasFreshMap a bytes → HasFreshLog a bytes → arena_in bytes ≡ Some a
    → range bytes 4096 (a.map_at - 4096) ≡ range before 4096 (a.map_at - 4096) → IsFresh a before bytes
fresh_of a before bytes layout map log info stays =
    let fits = fits_of a layout in
    record {
      map = map;
      lanes = log;
      sound = fresh_sound a bytes fits map log info;
      holds_old = λ sector below.
          let within : sector * a.sector + a.sector ≤ a.map_at - 4096 = one_inside sector a.sectors a.blocks a.sector a.map_at below (omega (arith, fits.count)) fits.room in
          ap (λ (word : ℕ). held_by a bytes word sector) (fresh_word a bytes fits map log sector below)
          ∙ ap holds (sym (range-range bytes 4096 (a.map_at - 4096) (sector * a.sector) a.sector within)
          ∙ ap (λ (xs : List ℕ). range xs (sector * a.sector) a.sector) stays
          ∙ range-range before 4096 (a.map_at - 4096) (sector * a.sector) a.sector within);
    }
  where
    one_inside : (sector sectors blocks size map_at : ℕ) → sector < sectors → sectors ≤ blocks → 4096 + blocks * size ≤ map_at → sector * size + size ≤ map_at - 4096
    one_inside sector sectors blocks size map_at below less room =
        let le : suc sector ≤ blocks = omega arith in
        let more : size * suc sector ≤ size * blocks = mul-le-mul_left size le in
        omega (arith, more)

-- a lane, put into zeros word by word
pub lane_put : (lane block : ℕ) → patched (patched (patched (patched (replicate 64 0) 0 (little_bytes 4 lane)) 4 (little_bytes 4 block)) 8 (little_bytes 4 block)) 12 (little_bytes 4 1)
    ≡ little_bytes 4 lane ++ little_bytes 4 block ++ little_bytes 4 block ++ little_bytes 4 1 ++ replicate 48 0
unfolding patched
lane_put lane block = refl

-- one lane more
pub lane_more : (log log' text : List ℕ) (sectors count : ℕ) → 64 * count + 64 ≤ length log → length text ≡ 64 → ((lane : ℕ) → lane < count → range log (64 * lane) 64 ≡ fresh_lane sectors lane)
    → log' ≡ patched log (64 * count) text → text ≡ fresh_lane sectors count → (lane : ℕ) → lane < count + 1 → range log' (64 * lane) 64 ≡ fresh_lane sectors lane
lane_more log log' text sectors count inside long before is text_is lane below = elim (cases_lt lane count) [
  | inl earlier ↦
      ap (λ (b : List ℕ). range b (64 * lane) 64) is
      ∙ range-patched_before log text (64 * count) (omega arith) (64 * lane) 64 (omega arith) ∙ before lane earlier
  | inr last ↦
      let same : lane ≡ count = omega arith in
      ap (λ (b : List ℕ). range b (64 * lane) 64) is
      ∙ (λ i. range (patched log (64 * count) text) (64 * same i) (sym long i))
      ∙ range-patched_in log text (64 * count) (omega arith) ∙ text_is ∙ ap (fresh_lane sectors) (sym same)
]
