-- A sector that is written: its old block and its lane's free block exchange their places.
use Rattle.std.proofs.Common.{◌≡◌, inl, inr, ℕ, zero, suc, ◌+◌, ◌-◌, ◌^◌, ◌<◌, ◌≤◌, true, false, Bool, List, Option, Some, refl, sym, ap, subst, ◌∙◌, arith}
use Rattle.std.specs.Option.{option_map_or}
use Rattle.std.specs.Prelude.{not, ◌==◌}
use Rattle.std.proofs.lemmas.Bool.{and_from, and_right, cases_eq, cases_lt, eq-eqb, ne_eqb, not_from_false}
use Rattle.btt_arena.specs.declared.halves.Half.{Half}
use Rattle.btt_arena.specs.declared.layout.Layout.{Layout}
use Rattle.btt_arena.specs.Arena.{AreEachOnce, HasNewer, IsFit, IsKept, IsSound, block_at, block_bytes, content, held_by, holds}
use Rattle.btt_arena.specs.Info.{arena_in}
use Rattle.btt_arena.specs.Sectors.{IsRewritten}
use Rattle.btt_arena.specs.Tables.{Map, block_in, block_named, completed, completed_by, free_block, is_open, is_open_by, map_in, mark_of, newer_half, normal, with_entry, with_half, with_lane}
use Rattle.btt_arena.proofs.Exchange.{exchange, exchange_back, exchange_first, exchange_other, exchange_second, exchange_within, once_by}
use Rattle.btt_arena.proofs.Folding.{all_closed_same, at_lane, at_sector, free_is, same_half, with_lane_closed}
use Rattle.btt_arena.proofs.Kept.{held_same}
use Rattle.btt_arena.proofs.Layouts.{Fits}
use Rattle.btt_arena.proofs.Reading.{completed_fit, named_below}

-- one lane alone is open, and none is once it is completed
module _ (halves : ℕ → Option Half) (map : Map) (lane : ℕ) (half : Half) (is : halves lane ≡ Some half)
    (before : (k : ℕ) → k < lane → (other : Half) → halves k ≡ Some other → is_open other map ≡ false)
    (behind : (k : ℕ) → lane < k → k < 256 → (other : Half) → halves k ≡ Some other → is_open other (with_half half map) ≡ false) where
  one_open : (n : ℕ) → lane < n → n ≤ 256 → completed_by halves n map ≡ with_half half map
  unfolding completed_by
  one_open zero less few = absurd (omega (arith, less))
  one_open (suc n) less few = elim (cases_eq n lane) [
    | inl last ↦
        ap (with_lane (halves n)) (all_closed_same halves n map (λ k lt. before k (omega (arith, last, lt))))
        ∙ ap (λ (k : ℕ). with_lane (halves k) map) last ∙ ap (λ (o : Option Half). with_lane o map) is
    | inr more ↦
        ap (with_lane (halves n)) (one_open n (omega (arith, less, more)) (omega (arith, few)))
        ∙ with_lane_closed (halves n) (with_half half map) (behind n (omega (arith, less, more)) (omega (arith, few)))
  ]

pub normal_block : (block : ℕ) → block < 2 ^ 30 → block_in (normal block) ≡ block
normal_block block small = omega arith

normal_mark : (block : ℕ) → block < 2 ^ 30 → mark_of (normal block) ≡ 3
normal_mark block small = omega arith

normal_named : (block sector : ℕ) → block < 2 ^ 30 → block_named (normal block) sector ≡ block
normal_named block sector small =
    let mark = normal_mark block small in
    rw mark (normal_block block small)

held_normal : (a : Layout) (bytes : List ℕ) (block sector : ℕ) → block < 2 ^ 30 → held_by a bytes (normal block) sector ≡ holds (block_bytes a bytes block)
held_normal a bytes block sector small =
    let mark = normal_mark block small in
    rw mark (ap (λ (k : ℕ). holds (block_bytes a bytes k)) (normal_block block small))

pub with_here : (map : Map) (sector word s : ℕ) → s ≡ sector → with_entry map sector word s ≡ word
with_here map sector word s same = rw (eq-eqb s sector same) refl

pub with_there : (map : Map) (sector word s : ℕ) → (s ≡ sector → ⊥) → with_entry map sector word s ≡ map s
with_there map sector word s other = rw (ne_eqb s sector other) refl

module _ (a : Layout) (fits : Fits a) (before : List ℕ) (fit : IsFit a before) where
  -- the blocks at two positions differ
  once_raw : AreEachOnce a.blocks (block_at a (map_in a before) (free_block a before))
  once_raw = subst (λ (m : Map). AreEachOnce a.blocks (block_at a m (free_block a before))) (completed_fit a before fit) fit.sound.once

  pub sectors_differ : (s t : ℕ) → s < a.sectors → t < a.sectors → block_named (map_in a before s) s ≡ block_named (map_in a before t) t → s ≡ t
  sectors_differ s t s_below t_below same =
      once_raw.distinct s t (omega (arith, fits.count, s_below)) (omega (arith, fits.count, t_below))
      (at_sector a (map_in a before) (free_block a before) s s_below ∙ same ∙ sym (at_sector a (map_in a before) (free_block a before) t t_below))

  pub named_not_free : (s k : ℕ) → s < a.sectors → k < 256 → block_named (map_in a before s) s ≡ free_block a before k → ⊥
  named_not_free s k s_below k_below same =
      let e : s ≡ a.sectors + k = once_raw.distinct s (a.sectors + k) (omega (arith, fits.count, s_below)) (omega (arith, fits.count, k_below))
      (at_sector a (map_in a before) (free_block a before) s s_below ∙ same ∙ sym (at_lane a (map_in a before) (free_block a before) k (a.sectors + k) refl)) in
      omega (arith, e, s_below)

  pub free_differ : (j k : ℕ) → j < 256 → k < 256 → free_block a before j ≡ free_block a before k → j ≡ k
  free_differ j k j_below k_below same =
      let e : a.sectors + j ≡ a.sectors + k = once_raw.distinct (a.sectors + j) (a.sectors + k) (omega (arith, fits.count, j_below)) (omega (arith, fits.count, k_below))
      (at_lane a (map_in a before) (free_block a before) j (a.sectors + j) refl ∙ same ∙ sym (at_lane a (map_in a before) (free_block a before) k (a.sectors + k) refl)) in
      omega (arith, e)

  pub free_below : (k : ℕ) → k < 256 → free_block a before k < a.blocks
  free_below k below =
      subst (λ (b : ℕ). b < a.blocks) (at_lane a (map_in a before) (free_block a before) k (a.sectors + k) refl) (once_raw.below (a.sectors + k) (omega (arith, fits.count, below)))

  lba_below : (k : ℕ) → k < 256 → (half : Half) → newer_half a before k ≡ Some half → half.lba < a.sectors
  lba_below k below half is =
      let newer = fit.sound.lanes k below in
      let lba_is : half.lba ≡ newer.0.lba = ap (λ (h : Half). h.lba) (same_half half newer.0 (sym is ∙ newer.1)) in
      omega (arith, lba_is, newer.2)

  -- the lanes are closed on a map with the same entries
  still_closed : (map : Map) → ((s : ℕ) → s < a.sectors → map s ≡ map_in a before s) → (k : ℕ) → k < 256 → (half : Half) → newer_half a before k ≡ Some half → is_open half map ≡ false
  still_closed map same k below half is = ap (is_open_by half) (same half.lba (lba_below k below half is)) ∙ fit.closed k below half is

  module _ (lane : ℕ) (lane_below : lane < 256) (bytes : List ℕ) (info : arena_in bytes ≡ Some a)
      (blocks_same : (block : ℕ) → block < a.blocks → (block ≡ free_block a before lane → ⊥) → block_bytes a bytes block ≡ block_bytes a before block) where
    -- what the other sectors hold
    held_still : (s : ℕ) → s < a.sectors → completed a bytes s ≡ map_in a before s → content a bytes s ≡ content a before s
    held_still s below same =
        let word = map_in a before s in
        let block = block_named word s in
        ap (λ (w : ℕ). held_by a bytes w s) same
        ∙ held_same a bytes before word s (blocks_same block (named_below a fits before fit s below) (named_not_free s lane below lane_below))
        ∙ ap (λ (m : Map). held_by a before (m s) s) (sym (completed_fit a before fit))

    -- while the lane's newer half and the map stand, all is as it was
    pub kept_beside : ((k : ℕ) → k < 256 → newer_half a bytes k ≡ newer_half a before k) → ((s : ℕ) → s < a.sectors → map_in a bytes s ≡ map_in a before s) → IsKept a before bytes
    kept_beside halves map =
        let done : completed a bytes ≡ map_in a bytes =
        all_closed_same (newer_half a bytes) 256 (map_in a bytes) (λ k below half is. still_closed (map_in a bytes) map k below half (sym (halves k below) ∙ is)) in
        let entries : (s : ℕ) → s < a.sectors → completed a bytes s ≡ map_in a before s = λ s below. ap (λ (m : Map). m s) done ∙ map s below in
        let at_before = block_at a (map_in a before) (free_block a before) in
        let same : (x : ℕ) → x < a.blocks → block_at a (completed a bytes) (free_block a bytes) x ≡ at_before x =
        λ x x_below. elim (cases_lt x a.sectors) [
          | inl mapped ↦
              at_sector a (completed a bytes) (free_block a bytes) x mapped ∙ ap (λ (w : ℕ). block_named w x) (entries x mapped)
              ∙ sym (at_sector a (map_in a before) (free_block a before) x mapped)
          | inr free ↦
              let k = x - a.sectors in
              let k_below : k < 256 = omega (arith, fits.count, x_below, free) in
              let place : x ≡ a.sectors + k = omega (arith, free) in
              at_lane a (completed a bytes) (free_block a bytes) k x place ∙ free_same k (halves k k_below)
              ∙ sym (at_lane a (map_in a before) (free_block a before) k x place)
        ] in
        record {
          sound = record {
            info = info;
            lanes = λ k below. subst (HasNewer a) (sym (halves k below)) (fit.sound.lanes k below);
            once = once_by a.blocks at_before (block_at a (completed a bytes) (free_block a bytes)) (λ x. x) (λ x below. below) (λ x below. refl) same once_raw;
          };
          same = λ s below. held_still s below (entries s below);
        }
      where
        free_same : (k : ℕ) → newer_half a bytes k ≡ newer_half a before k → free_block a bytes k ≡ free_block a before k
        free_same k is = ap (λ (o : Option Half). option_map_or (λ (h : Half). block_in h.old) o 0) is

    module _ (sector : ℕ) (below : sector < a.sectors) (half : Half) (now : newer_half a bytes lane ≡ Some half) (lba_is : half.lba ≡ sector)
        (old_is : block_in half.old ≡ block_named (map_in a before sector) sector) (new_is : half.new ≡ normal (free_block a before lane))
        (others : (k : ℕ) → k < 256 → (k ≡ lane → ⊥) → newer_half a bytes k ≡ newer_half a before k) where
      small : free_block a before lane < 2 ^ 30
      small = omega (arith, fits.few, free_below lane lane_below)

      -- another lane is closed on the map with the new entry
      closed_after : (map : Map) → ((s : ℕ) → s < a.sectors → map s ≡ with_entry (map_in a before) sector (normal (free_block a before lane)) s)
          → (k : ℕ) → k < 256 → (k ≡ lane → ⊥) → (other : Half) → newer_half a bytes k ≡ Some other → is_open other map ≡ false
      closed_after map entries k k_below differs other is =
          let was : newer_half a before k ≡ Some other = sym (others k k_below differs) ∙ is in
          let other_below = lba_below k k_below other was in
          let word = entries other.lba other_below in
          elim (cases_eq other.lba sector) [
            | inl same ↦
                let word_is : map other.lba ≡ normal (free_block a before lane) = word ∙ with_here (map_in a before) sector (normal (free_block a before lane)) other.lba same in
                let names : block_named (map other.lba) other.lba ≡ free_block a before lane = ap (λ (w : ℕ). block_named w other.lba) word_is ∙ normal_named (free_block a before lane) other.lba small in
                let free : free_block a before k ≡ block_in other.old = free_is (newer_half a before) k other was in
                let apart : (block_named (map other.lba) other.lba == block_in other.old) ≡ false =
                ne_eqb _ _ (λ e. differs (free_differ k lane k_below lane_below (free ∙ sym e ∙ names))) in
                and_right (not (block_in other.old == block_in other.new)) _ apart
            | inr different ↦
                ap (is_open_by other) (word ∙ with_there (map_in a before) sector (normal (free_block a before lane)) other.lba different) ∙ fit.closed k k_below other was
          ]

      -- what stands once the lane is completed, or its entry written
      pub rewritten : ((s : ℕ) → s < a.sectors → completed a bytes s ≡ with_entry (map_in a before) sector (normal (free_block a before lane)) s)
          → (put : List ℕ) → block_bytes a bytes (free_block a before lane) ≡ put → IsRewritten a before sector put bytes
      rewritten entries put stands =
          let free = free_block a before lane in
          let at_before = block_at a (map_in a before) (free_block a before) in
          let p = sector in
          let q = a.sectors + lane in
          let differ : q ≡ p → ⊥ = λ e. omega (arith, e, below) in
          let this : completed a bytes sector ≡ normal free = entries sector below ∙ with_here (map_in a before) sector (normal free) sector refl in
          let new_free : free_block a bytes lane ≡ block_named (map_in a before sector) sector = free_is (newer_half a bytes) lane half now ∙ old_is in
          let same : (x : ℕ) → x < a.blocks → block_at a (completed a bytes) (free_block a bytes) x ≡ at_before (exchange p q x) =
          λ x x_below. elim (cases_eq x p) [
            | inl is ↦
                let mapped : x < a.sectors = omega (arith, is, below) in
                at_sector a (completed a bytes) (free_block a bytes) x mapped
                ∙ ap (λ (k : ℕ). block_named (completed a bytes k) k) is ∙ ap (λ (w : ℕ). block_named w sector) this ∙ normal_named free sector small
                ∙ sym (at_lane a (map_in a before) (free_block a before) lane q refl) ∙ ap at_before (sym (exchange_first p q differ x is))
            | inr not_p ↦ elim (cases_eq x q) [
              | inl is ↦
                  at_lane a (completed a bytes) (free_block a bytes) lane x is ∙ new_free
                  ∙ sym (at_sector a (map_in a before) (free_block a before) sector below) ∙ ap at_before (sym (exchange_second p q differ x is))
              | inr not_q ↦ elim (cases_lt x a.sectors) [
                | inl mapped ↦
                    at_sector a (completed a bytes) (free_block a bytes) x mapped
                    ∙ ap (λ (w : ℕ). block_named w x) (entries x mapped ∙ with_there (map_in a before) sector (normal free) x not_p)
                    ∙ sym (at_sector a (map_in a before) (free_block a before) x mapped) ∙ ap at_before (sym (exchange_other p q differ x not_p not_q))
                | inr behind ↦
                    let k = x - a.sectors in
                    let k_below : k < 256 = omega (arith, fits.count, x_below, behind) in
                    let place : x ≡ a.sectors + k = omega (arith, behind) in
                    let apart : k ≡ lane → ⊥ = λ e. not_q (omega (arith, place, e)) in
                    at_lane a (completed a bytes) (free_block a bytes) k x place
                    ∙ ap (λ (o : Option Half). option_map_or (λ (h : Half). block_in h.old) o 0) (others k k_below apart)
                    ∙ sym (at_lane a (map_in a before) (free_block a before) k x place) ∙ ap at_before (sym (exchange_other p q differ x not_p not_q))
              ]
            ]
          ] in
          record {
            sound = record {
              info = info;
              lanes = λ k k_below. elim (cases_eq k lane) [
                | inl is ↦ (half, ap (newer_half a bytes) is ∙ now, omega (arith, lba_is, below))
                | inr differs ↦ subst (HasNewer a) (sym (others k k_below differs)) (fit.sound.lanes k k_below)
              ];
              once = once_by a.blocks at_before (block_at a (completed a bytes) (free_block a bytes)) (exchange p q)
                  (exchange_within p q differ a.blocks (omega (arith, fits.count, below)) (omega (arith, fits.count, lane_below))) (λ x x_below. exchange_back p q differ x) same once_raw;
            };
            this = ap (λ (w : ℕ). held_by a bytes w sector) this ∙ held_normal a bytes free sector small ∙ ap holds stands;
            others = λ s s_below differs. held_still s s_below (entries s s_below ∙ with_there (map_in a before) sector (normal free) s differs);
          }

      -- before the entry is written, this lane alone is open
      pub completed_open : ((s : ℕ) → s < a.sectors → map_in a bytes s ≡ map_in a before s) → (s : ℕ) → s < a.sectors
          → completed a bytes s ≡ with_entry (map_in a before) sector (normal (free_block a before lane)) s
      completed_open map s s_below =
          let free = free_block a before lane in
          let raw = map_in a bytes in
          let names : block_named (raw half.lba) half.lba ≡ block_in half.old =
          ap (λ (k : ℕ). block_named (raw k) k) lba_is ∙ ap (λ (w : ℕ). block_named w sector) (map sector below) ∙ sym old_is in
          let moved : (block_in half.old == block_in half.new) ≡ false =
          ne_eqb _ _ (λ e. named_not_free sector lane below lane_below (sym old_is ∙ e ∙ ap block_in new_is ∙ normal_block free small)) in
          let opened : is_open half raw ≡ true = and_from (not (block_in half.old == block_in half.new)) _ (not_from_false _ moved) (eq-eqb _ _ names) in
          let taken : with_half half raw ≡ with_entry raw half.lba half.new = rw opened refl in
          let entries : (t : ℕ) → t < a.sectors → with_half half raw t ≡ with_entry (map_in a before) sector (normal free) t =
          λ t t_below.
          ap (λ (m : Map). m t) taken ∙ (λ i. with_entry raw (lba_is i) (new_is i) t)
          ∙ elim (cases_eq t sector) [
            | inl same ↦ with_here raw sector (normal free) t same ∙ sym (with_here (map_in a before) sector (normal free) t same)
            | inr different ↦ with_there raw sector (normal free) t different ∙ map t t_below ∙ sym (with_there (map_in a before) sector (normal free) t different)
          ] in
          ap (λ (m : Map). m s)
          (one_open (newer_half a bytes) raw lane half now
          (λ k lt other is. still_closed raw map k (omega (arith, lt, lane_below)) other (sym (others k (omega (arith, lt, lane_below)) (λ e. omega (arith, e, lt))) ∙ is))
          (λ k lt le other is. closed_after (with_half half raw) entries k le (λ e. omega (arith, e, lt)) other is)
          256 lane_below (omega arith))
          ∙ entries s s_below

      -- once it is written, no lane is
      pub all_shut : ((s : ℕ) → s < a.sectors → map_in a bytes s ≡ with_entry (map_in a before) sector (normal (free_block a before lane)) s)
          → (k : ℕ) → k < 256 → (other : Half) → newer_half a bytes k ≡ Some other → is_open other (map_in a bytes) ≡ false
      all_shut entries k k_below other is = elim (cases_eq k lane) [
        | inl same ↦
            let free = free_block a before lane in
            let e : other ≡ half = same_half other half (sym is ∙ ap (newer_half a bytes) same ∙ now) in
            let word : map_in a bytes half.lba ≡ normal free = ap (map_in a bytes) lba_is ∙ entries sector below ∙ with_here (map_in a before) sector (normal free) sector refl in
            let names : block_named (map_in a bytes half.lba) half.lba ≡ free = ap (λ (w : ℕ). block_named w half.lba) word ∙ normal_named free half.lba small in
            let apart : (block_named (map_in a bytes half.lba) half.lba == block_in half.old) ≡ false =
            ne_eqb _ _ (λ equal. named_not_free sector lane below lane_below (sym old_is ∙ sym equal ∙ names)) in
            ap (λ (h : Half). is_open h (map_in a bytes)) e ∙ and_right (not (block_in half.old == block_in half.new)) _ apart
        | inr differs ↦ closed_after (map_in a bytes) entries k k_below differs other is
      ]

      pub completed_shut : ((s : ℕ) → s < a.sectors → map_in a bytes s ≡ with_entry (map_in a before) sector (normal (free_block a before lane)) s) → (s : ℕ) → s < a.sectors
          → completed a bytes s ≡ with_entry (map_in a before) sector (normal (free_block a before lane)) s
      completed_shut entries s s_below = ap (λ (m : Map). m s) (all_closed_same (newer_half a bytes) 256 (map_in a bytes) (all_shut entries)) ∙ entries s s_below
