-- What stands at each moment of a sector's write.
use Rattle.std.proofs.Common.{◌≡◌, ◌⊎◌, inl, inr, ⊎_elim, ℕ, suc, ◌+◌, ◌-◌, ◌*◌, ◌%◌, ◌^◌, ◌<◌, ◌≤◌, true, false, Bool, List, length, Option, Some, None, refl, sym, ap, subst, ◌∙◌, arith}
use Rattle.std.specs.Prelude.{◌==◌, ◌++◌}
use Rattle.std.proofs.lemmas.Bool.{cases_Bool, cases_eq, cases_order, true≢false}
use Rattle.std.proofs.lemmas.Bool.Decides.{nat_tests}
use Rattle.std.proofs.Math.Nat.{mod-eq_of_lt, mul-le-mul_left}
use Rattle.byte_ranges.specs.Ranges.{range, number_at}
use Rattle.btt_arena.specs.declared.halves.Half.{Half}
use Rattle.btt_arena.specs.declared.layout.Layout.{Layout}
use Rattle.btt_arena.specs.declared.turns.Turn.{Turn}
use Rattle.btt_arena.specs.Arena.{HasNewer, IsFit, IsKept, block_bytes}
use Rattle.btt_arena.specs.Info.{arena_in}
use Rattle.btt_arena.specs.Layout.{IsLayout}
use Rattle.btt_arena.specs.Sectors.{AreApart, IsRewritten, turn_by, turn_of}
use Rattle.btt_arena.specs.Tables.{Map, block_in, block_named, free_block, half_at, half_in, is_newer, map_in, newer_half, newer_of, normal, with_entry}
use Rattle.btt_arena.proofs.EntryWords.{word_kept}
use Rattle.btt_arena.proofs.Folding.{free_is}
use Rattle.btt_arena.proofs.Fresh.{word_of_range}
use Rattle.btt_arena.proofs.Kept.{block_inside}
use Rattle.btt_arena.proofs.Layouts.{Fits, fits_of}
use Rattle.btt_arena.proofs.Reading.{named_below}
use Rattle.btt_arena.proofs.Rewriting.{all_shut, completed_open, completed_shut, free_below, kept_beside, normal_block, rewritten, with_here, with_there}
use Rattle.btt_arena.proofs.Stages.{same_infos}

-- two blocks lie apart
blocks_apart : (b f size : ℕ) → (b ≡ f → ⊥) → AreApart (4096 + b * size) size (4096 + f * size) size
blocks_apart b f size differ = elim (cases_order b f) [
  | inl same ↦ absurd (differ same)
  | inr order ↦ elim order [
    | inl less ↦
        let more : size * suc b ≤ size * f = mul-le-mul_left size (omega arith) in
        inl (omega (arith, more))
    | inr less ↦
        let more : size * suc f ≤ size * b = mul-le-mul_left size (omega arith) in
        inr (omega (arith, more))
  ]
]

-- the number of a newer half, and the one that follows it
seq_range : (seq other : ℕ) → is_newer seq other ≡ true → (1 ≤ seq) × (seq ≤ 3)
seq_range seq other is = (grind (arith, nat_tests), grind (arith, nat_tests))

three : (seq : ℕ) → 1 ≤ seq → seq ≤ 3 → (seq ≡ 1) ⊎ ((seq ≡ 2) ⊎ (seq ≡ 3))
three seq from to = grind arith

next_newer : (seq : ℕ) → 1 ≤ seq → seq ≤ 3 → is_newer (seq % 3 + 1) seq ≡ true
next_newer seq from to = elim (three seq from to) [
  | inl is ↦ rw is refl
  | inr other ↦ elim other [
    | inl is ↦ rw is refl
    | inr is ↦ rw is refl
  ]
]

next_not_older : (seq : ℕ) → 1 ≤ seq → seq ≤ 3 → is_newer seq (seq % 3 + 1) ≡ false
next_not_older seq from to = elim (three seq from to) [
  | inl is ↦ rw is refl
  | inr other ↦ elim other [
    | inl is ↦ rw is refl
    | inr is ↦ rw is refl
  ]
]

-- which half is newer, where the older one begins, and the number that follows
pub data Sides (a : Layout) (before : List ℕ) (lane half next : ℕ) : Type 0 where
  first_newer : is_newer (half_in a before lane 0).seq (half_in a before lane 1).seq ≡ true → half ≡ half_at a lane 1 → next ≡ (half_in a before lane 0).seq % 3 + 1 → Sides a before lane half next
  second_newer : is_newer (half_in a before lane 0).seq (half_in a before lane 1).seq ≡ false → is_newer (half_in a before lane 1).seq (half_in a before lane 0).seq ≡ true → half ≡ half_at a lane 0
      → next ≡ (half_in a before lane 1).seq % 3 + 1 → Sides a before lane half next

newer_first : (first second : Half) → is_newer first.seq second.seq ≡ true → newer_of first second ≡ Some first
newer_first first second is = rw is refl

newer_second : (first second : Half) → is_newer first.seq second.seq ≡ false → is_newer second.seq first.seq ≡ true → newer_of first second ≡ Some second
newer_second first second not is = rw (not, is) refl

newer_none : (first second : Half) → is_newer first.seq second.seq ≡ false → is_newer second.seq first.seq ≡ false → newer_of first second ≡ None
newer_none first second not nor = rw (not, nor) refl

no_newer : (a : Layout) (o : Option Half) → HasNewer a o → o ≡ None → ⊥
no_newer a None has none = let no : None ≡ Some has.0 = has.1 in absurd (cc)
no_newer a (Some half) has none = absurd (cc)

clamped : (x n f : ℕ) → x ≡ f → f < n → x % n ≡ f
clamped x n f is below = mod-eq_of_lt (omega (arith, is, below)) ∙ is

-- what a write takes of a lane whose newer half is there
pub record IsKnown (a : Layout) (before : List ℕ) (lane : ℕ) (turn : Turn) : Type 0 where
  pub sides : Sides a before lane turn.older_at turn.next
  pub free : turn.free ≡ free_block a before lane

pub known_of : (a : Layout) (fits : Fits a) (before : List ℕ) → IsFit a before → (lane : ℕ) → lane < 256 → (turn : Turn) → turn ≡ turn_of a before lane → IsKnown a before lane turn
known_of a fits before fit lane lane_below turn is =
    let first = half_in a before lane 0 in
    let second = half_in a before lane 1 in
    let small = free_below a fits before fit lane lane_below in
    elim (cases_Bool (is_newer first.seq second.seq)) [
      | inl picked ↦
          let by : turn_of a before lane ≡ turn_by a first (half_at a lane 1) = rw picked refl in
          let t : turn ≡ turn_by a first (half_at a lane 1) = is ∙ by in
          record {
            sides = first_newer picked (ap (λ (x : Turn). x.older_at) t) (ap (λ (x : Turn). x.next) t);
            free = ap (λ (x : Turn). x.free) t ∙ clamped (block_in first.old) a.blocks (free_block a before lane) (sym (free_is (newer_half a before) lane first (newer_first first second picked))) small;
          }
      | inr passed ↦ elim (cases_Bool (is_newer second.seq first.seq)) [
        | inl picked ↦
            let by : turn_of a before lane ≡ turn_by a second (half_at a lane 0) = rw passed refl in
            let t : turn ≡ turn_by a second (half_at a lane 0) = is ∙ by in
            record {
              sides = second_newer passed picked (ap (λ (x : Turn). x.older_at) t) (ap (λ (x : Turn). x.next) t);
              free = ap (λ (x : Turn). x.free) t ∙ clamped (block_in second.old) a.blocks (free_block a before lane) (sym (free_is (newer_half a before) lane second (newer_second first second passed picked))) small;
            }
        | inr nor ↦ absurd (no_newer a (newer_half a before lane) (fit.sound.lanes lane lane_below) (newer_none first second passed nor))
      ]
    ]

module _ (a : Layout) (layout : IsLayout a) (before : List ℕ) (fit : IsFit a before) (long : length before ≡ a.size) (sector : ℕ) (below : sector < a.sectors) (lane : ℕ) (lane_below : lane < 256) (half next : ℕ)
    (sides : Sides a before lane half next) where
  fits : Fits a
  fits = fits_of a layout

  free_inside : 4096 + free_block a before lane * a.sector + a.sector ≤ a.map_at
  free_inside = block_inside a fits (free_block a before lane) (free_below a fits before fit lane lane_below)

  pub log_from : a.log_at + 64 * lane ≤ half
  log_from = elim sides [
    | first_newer picked place is ↦ omega (arith, place)
    | second_newer passed picked place is ↦ omega (arith, place)
  ]

  pub log_to : half + 16 ≤ a.log_at + 64 * lane + 32
  log_to = elim sides [
    | first_newer picked place is ↦ omega (arith, place)
    | second_newer passed picked place is ↦ omega (arith, place)
  ]

  -- only the free block, the older half, and the entry of the sector differ
  pub record Agrees (r : List ℕ) : Type 0 where
    pub same_length : length r ≡ length before
    pub away : (at n : ℕ) → AreApart at n (4096 + free_block a before lane * a.sector) a.sector → AreApart at n half 16 → AreApart at n (a.map_at + 4 * sector) 4 → range r at n ≡ range before at n

  module _ (r : List ℕ) (agrees : Agrees r) where
    word_away : (at : ℕ) → AreApart at 4 (4096 + free_block a before lane * a.sector) a.sector → AreApart at 4 half 16 → AreApart at 4 (a.map_at + 4 * sector) 4 → number_at 4 r at ≡ number_at 4 before at
    word_away at one two three_ =
        let e : at ≡ at + 0 = omega arith in
        ap (number_at 4 r) e ∙ word_of_range r at 4 0 (omega arith) ∙ ap (λ (xs : List ℕ). number_at 4 xs 0) (agrees.away at 4 one two three_)
        ∙ sym (ap (number_at 4 before) e ∙ word_of_range before at 4 0 (omega arith))

    log_word : (at : ℕ) → a.log_at ≤ at → AreApart at 4 half 16 → number_at 4 r at ≡ number_at 4 before at
    log_word at from apart = word_away at (inr (omega (arith, from, free_inside, fits.map))) apart (inr (omega (arith, from, below, fits.map)))

    map_word : (s : ℕ) → s < a.sectors → (s ≡ sector → ⊥) → map_in a r s ≡ map_in a before s
    map_word s s_below differ =
        word_away (a.map_at + 4 * s) (inr (omega (arith, free_inside))) (inl (omega (arith, s_below, fits.map, log_from)))
        (elim (cases_order s sector) [
          | inl same ↦ absurd (differ same)
          | inr order ↦ elim order [
            | inl less ↦ inl (omega (arith, less))
            | inr less ↦ inr (omega (arith, less))
          ]
        ])

    half_away : (k which : ℕ) → which ≤ 1 → AreApart (half_at a k which) 16 half 16 → half_in a r k which ≡ half_in a before k which
    half_away k which small apart =
        let word : (c : ℕ) → c ≤ 12 → number_at 4 r (half_at a k which + c) ≡ number_at 4 before (half_at a k which + c) =
        λ c c_small. log_word (half_at a k which + c) (omega arith) (⊎_elim (λ less. inl (omega (arith, less, c_small))) (λ more. inr (omega (arith, more))) apart) in
        let e : half_at a k which ≡ half_at a k which + 0 = omega arith in
        let lba : number_at 4 r (half_at a k which) ≡ number_at 4 before (half_at a k which) = ap (number_at 4 r) e ∙ word 0 (omega arith) ∙ ap (number_at 4 before) (sym e) in
        let old = word 4 (omega arith) in
        let new = word 8 (omega arith) in
        let seq = word 12 (omega arith) in
        λ i. record { lba = lba i; old = old i; new = new i; seq = seq i }

    other_lane : (k : ℕ) → k < 256 → (k ≡ lane → ⊥) → newer_half a r k ≡ newer_half a before k
    other_lane k k_below differ =
        let apart : (which : ℕ) → which ≤ 1 → AreApart (half_at a k which) 16 half 16 =
        λ which small. elim (cases_order k lane) [
          | inl same ↦ absurd (differ same)
          | inr order ↦ elim order [
            | inl less ↦ inl (omega (arith, less, small, log_from))
            | inr less ↦ inr (omega (arith, less, log_to))
          ]
        ] in
        let first = half_away k 0 (omega arith) (apart 0 (omega arith)) in
        let second = half_away k 1 (omega arith) (apart 1 (omega arith)) in
        λ i. newer_of (first i) (second i)

    info_stays : arena_in r ≡ Some a
    info_stays =
        same_infos a layout before r long agrees.same_length
        (agrees.away 0 4096 (inl (omega arith)) (inl (omega (arith, log_from, fits.room, fits.map))) (inl (omega (arith, fits.room))))
        (agrees.away a.info_at 4096 (inr (omega (arith, free_inside, fits.map, fits.log))) (inr (omega (arith, log_to, lane_below, fits.log))) (inr (omega (arith, below, fits.map, fits.log))))
        ∙ fit.sound.info

    blocks_stay : (block : ℕ) → block < a.blocks → (block ≡ free_block a before lane → ⊥) → block_bytes a r block ≡ block_bytes a before block
    blocks_stay block block_below differ =
        let inside = block_inside a fits block block_below in
        agrees.away (4096 + block * a.sector) a.sector (blocks_apart block (free_block a before lane) a.sector differ) (inl (omega (arith, inside, log_from, fits.map))) (inl (omega (arith, inside)))

    entries_by : (word : ℕ) → map_in a r sector ≡ word → (s : ℕ) → s < a.sectors → map_in a r s ≡ with_entry (map_in a before) sector word s
    entries_by word is s s_below = elim (cases_eq s sector) [
      | inl same ↦ ap (map_in a r) same ∙ is ∙ sym (with_here (map_in a before) sector word s same)
      | inr differ ↦ map_word s s_below differ ∙ sym (with_there (map_in a before) sector word s differ)
    ]

    entries_stay : map_in a r sector ≡ map_in a before sector → (s : ℕ) → s < a.sectors → map_in a r s ≡ map_in a before s
    entries_stay is s s_below = elim (cases_eq s sector) [
      | inl same ↦ ap (map_in a r) same ∙ is ∙ ap (map_in a before) (sym same)
      | inr differ ↦ map_word s s_below differ
    ]

    -- until the number of the older half is written, the lane is as it was
    pub kept_until : number_at 4 r (half + 12) ≡ number_at 4 before (half + 12) → map_in a r sector ≡ map_in a before sector → IsKept a before r
    kept_until seq entry =
        kept_beside a fits before fit lane lane_below r info_stays blocks_stay
        (λ k k_below. elim (cases_eq k lane) [
          | inl same ↦ ap (newer_half a r) same ∙ this ∙ ap (newer_half a before) (sym same)
          | inr differ ↦ other_lane k k_below differ
        ])
        (entries_stay entry)
      where
        this : newer_half a r lane ≡ newer_half a before lane
        this = elim sides [
          | first_newer picked place is ↦
              let b0 = half_in a before lane 0 in
              let b1 = half_in a before lane 1 in
              let r0 = half_in a r lane 0 in
              let r1 = half_in a r lane 1 in
              let same : r0 ≡ b0 = half_away lane 0 (omega arith) (inl (omega (arith, place))) in
              let at : half + 12 ≡ half_at a lane 1 + 12 = omega (arith, place) in
              let seq_same : r1.seq ≡ b1.seq = ap (number_at 4 r) (sym at) ∙ seq ∙ ap (number_at 4 before) at in
              let still : is_newer r0.seq r1.seq ≡ true = (λ i. is_newer (same i).seq (seq_same i)) ∙ picked in
              newer_first r0 r1 still ∙ ap (λ (h : Half). Some h) same ∙ sym (newer_first b0 b1 picked)
          | second_newer passed picked place is ↦
              let b0 = half_in a before lane 0 in
              let b1 = half_in a before lane 1 in
              let r0 = half_in a r lane 0 in
              let r1 = half_in a r lane 1 in
              let same : r1 ≡ b1 = half_away lane 1 (omega arith) (inr (omega (arith, place))) in
              let at : half + 12 ≡ half_at a lane 0 + 12 = omega (arith, place) in
              let seq_same : r0.seq ≡ b0.seq = ap (number_at 4 r) (sym at) ∙ seq ∙ ap (number_at 4 before) at in
              let not : is_newer r0.seq r1.seq ≡ false = (λ i. is_newer (seq_same i) (same i).seq) ∙ passed in
              let still : is_newer r1.seq r0.seq ≡ true = (λ i. is_newer (same i).seq (seq_same i)) ∙ picked in
              newer_second r0 r1 not still ∙ ap (λ (h : Half). Some h) same ∙ sym (newer_second b0 b1 passed picked)
        ]

    -- the note stands, with its number
    pub record HasNote : Type 0 where
      pub lba : number_at 4 r half ≡ sector
      pub old : number_at 4 r (half + 4) ≡ normal (block_named (map_in a before sector) sector)
      pub new : number_at 4 r (half + 8) ≡ normal (free_block a before lane)
      pub seq : number_at 4 r (half + 12) ≡ next

    module _ (note : HasNote) (put : List ℕ) (stands : range r (4096 + free_block a before lane * a.sector) a.sector ≡ put) where
      -- it is that of the newer half
      noted_half : (which : ℕ) × (half ≡ half_at a lane which) × (newer_half a r lane ≡ Some (half_in a r lane which))
      noted_half = elim sides [
        | first_newer picked place is ↦
            let b0 = half_in a before lane 0 in
            let r0 = half_in a r lane 0 in
            let r1 = half_in a r lane 1 in
            let range_ = seq_range b0.seq (half_in a before lane 1).seq picked in
            let same : r0.seq ≡ b0.seq = ap (λ (h : Half). h.seq) (half_away lane 0 (omega arith) (inl (omega (arith, place)))) in
            let at : half + 12 ≡ half_at a lane 1 + 12 = omega (arith, place) in
            let seq_is : r1.seq ≡ b0.seq % 3 + 1 = ap (number_at 4 r) (sym at) ∙ note.seq ∙ is in
            let not : is_newer r0.seq r1.seq ≡ false = (λ i. is_newer (same i) (seq_is i)) ∙ next_not_older b0.seq range_.0 range_.1 in
            let now : is_newer r1.seq r0.seq ≡ true = (λ i. is_newer (seq_is i) (same i)) ∙ next_newer b0.seq range_.0 range_.1 in
            (1, place, newer_second r0 r1 not now)
        | second_newer passed picked place is ↦
            let b1 = half_in a before lane 1 in
            let r0 = half_in a r lane 0 in
            let r1 = half_in a r lane 1 in
            let range_ = seq_range b1.seq (half_in a before lane 0).seq picked in
            let same : r1.seq ≡ b1.seq = ap (λ (h : Half). h.seq) (half_away lane 1 (omega arith) (inr (omega (arith, place)))) in
            let at : half + 12 ≡ half_at a lane 0 + 12 = omega (arith, place) in
            let seq_is : r0.seq ≡ b1.seq % 3 + 1 = ap (number_at 4 r) (sym at) ∙ note.seq ∙ is in
            let now : is_newer r0.seq r1.seq ≡ true = (λ i. is_newer (seq_is i) (same i)) ∙ next_newer b1.seq range_.0 range_.1 in
            (0, place, newer_first r0 r1 now)
      ]

      lba_is : (half_in a r lane noted_half.0).lba ≡ sector
      lba_is = ap (number_at 4 r) (sym noted_half.1) ∙ note.lba

      old_is : block_in (half_in a r lane noted_half.0).old ≡ block_named (map_in a before sector) sector
      old_is =
          let small : block_named (map_in a before sector) sector < 2 ^ 30 = omega (arith, fits.few, named_below a fits before fit sector below) in
          ap (λ (k : ℕ). block_in (number_at 4 r (k + 4))) (sym noted_half.1) ∙ ap block_in note.old ∙ normal_block (block_named (map_in a before sector) sector) small

      new_is : (half_in a r lane noted_half.0).new ≡ normal (free_block a before lane)
      new_is = ap (λ (k : ℕ). number_at 4 r (k + 8)) (sym noted_half.1) ∙ note.new

      -- before the entry is written
      pub rewritten_open : map_in a r sector ≡ map_in a before sector → IsRewritten a before sector put r
      rewritten_open entry =
          rewritten a fits before fit lane lane_below r info_stays blocks_stay sector below (half_in a r lane noted_half.0) noted_half.2 lba_is old_is new_is other_lane
          (completed_open a fits before fit lane lane_below r info_stays blocks_stay sector below (half_in a r lane noted_half.0) noted_half.2 lba_is old_is new_is other_lane (entries_stay entry)) put stands

      -- and behind that
      pub rewritten_shut : map_in a r sector ≡ normal (free_block a before lane) → IsFit a r × IsRewritten a before sector put r
      rewritten_shut entry =
          let entries = entries_by (normal (free_block a before lane)) entry in
          let done =
          rewritten a fits before fit lane lane_below r info_stays blocks_stay sector below (half_in a r lane noted_half.0) noted_half.2 lba_is old_is new_is other_lane
          (completed_shut a fits before fit lane lane_below r info_stays blocks_stay sector below (half_in a r lane noted_half.0) noted_half.2 lba_is old_is new_is other_lane entries) put stands in (
            record {
              sound = done.sound;
              closed = all_shut a fits before fit lane lane_below r info_stays blocks_stay sector below (half_in a r lane noted_half.0) noted_half.2 lba_is old_is new_is other_lane entries;
            },
            done,
          )
