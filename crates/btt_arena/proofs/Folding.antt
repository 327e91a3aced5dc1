-- Completing the lanes one after the other, and again from any stop.
use Rattle.std.proofs.Common.{◌≡◌, inl, inr, ℕ, zero, suc, ◌+◌, ◌-◌, ◌<◌, ◌≤◌, true, false, Bool, Option, Some, None, refl, sym, ap, ◌∙◌, arith}
use Rattle.std.specs.Option.{option_map_or}
use Rattle.std.proofs.lemmas.Bool.{and_parts, cases_Bool, cases_eq, cases_lt, eqb-true, le-ltb, lt-ltb, ne_eqb}
use Rattle.btt_arena.specs.declared.layout.Layout.{Layout}
use Rattle.btt_arena.specs.Arena.{AreEachOnce, HasNewer, block_at}
use Rattle.btt_arena.specs.declared.halves.Half.{Half}
use Rattle.btt_arena.specs.Tables.{Map, block_in, block_named, completed_by, is_open, with_entry, with_half, with_lane}

-- a lane changes no entry but that of its sector, and that only where it is open
with_half_same : (half : Half) (map : Map) (s : ℕ) → (is_open half map ≡ true → s ≡ half.lba → ⊥) → with_half half map s ≡ map s
with_half_same half map s never = elim (cases_Bool (is_open half map)) [
  | inl opened ↦
      let other = ne_eqb s half.lba (never opened) in
      rw (opened, other) refl
  | inr closed ↦ rw closed refl
]

pub open_names : (half : Half) (map : Map) → is_open half map ≡ true → block_named (map half.lba) half.lba ≡ block_in half.old
open_names half map opened = eqb-true _ _ (and_parts _ _ opened).1

-- no lane takes this entry from its block
abbrev pub NoneTakes : Option Half → ℕ → Type 0
NoneTakes halves block = (half : Half) → halves ≡ Some half → block_in half.old ≡ block → ⊥

with_lane_same : (halves : Option Half) (map : Map) (s block : ℕ) → block_named (map s) s ≡ block → NoneTakes halves block → with_lane halves map s ≡ map s
with_lane_same None map s block is none = refl
with_lane_same (Some half) map s block is none =
    with_half_same half map s (λ opened same. none half refl (sym (open_names half map opened) ∙ sym (ap (λ (k : ℕ). block_named (map k) k) same) ∙ is))

-- a closed lane changes nothing
pub with_lane_closed : (halves : Option Half) (map : Map) → ((half : Half) → halves ≡ Some half → is_open half map ≡ false) → with_lane halves map ≡ map
with_lane_closed None map closed = refl
with_lane_closed (Some half) map closed = rw (closed half refl) refl

pub all_closed_same : (halves : ℕ → Option Half) (count : ℕ) (map : Map) → ((lane : ℕ) → lane < count → (half : Half) → halves lane ≡ Some half → is_open half map ≡ false) → completed_by halves count map ≡ map
unfolding completed_by
all_closed_same halves zero map closed = refl
all_closed_same halves (suc count) map closed =
    ap (with_lane (halves count)) (all_closed_same halves count map (λ lane lt. closed lane (omega arith)))
    ∙ with_lane_closed (halves count) map (closed count (omega arith))

-- an entry stays where no later lane takes it from its block
stays : (halves : ℕ → Option Half) (map : Map) (n i s block : ℕ) → i ≤ n → block_named (completed_by halves i map s) s ≡ block
    → ((lane : ℕ) → i ≤ lane → lane < n → NoneTakes (halves lane) block) → completed_by halves n map s ≡ completed_by halves i map s
unfolding completed_by
stays halves map zero i s block le is none =
    let e : 0 ≡ i = omega arith in
    ap (λ (k : ℕ). completed_by halves k map s) e
stays halves map (suc n) i s block le is none = elim (cases_lt n i) [
  | inl all ↦
      let e : suc n ≡ i = omega arith in
      ap (λ (k : ℕ). completed_by halves k map s) e
  | inr more ↦
      let before : completed_by halves n map s ≡ completed_by halves i map s = stays halves map n i s block more is (λ lane from to. none lane from (omega arith)) in
      with_lane_same (halves n) (completed_by halves n map) s block (ap (λ (word : ℕ). block_named word s) before ∙ is) (none n more (omega arith)) ∙ before
]

-- completing goes on from a map as it did when it came there
goes_on_from : (halves : ℕ → Option Half) (map other : Map) (n i : ℕ) → i ≤ n → completed_by halves i other ≡ completed_by halves i map → completed_by halves n other ≡ completed_by halves n map
unfolding completed_by
goes_on_from halves map other zero i le same =
    let e : i ≡ 0 = omega arith in
    ap (λ (k : ℕ). completed_by halves k other) (sym e) ∙ same ∙ ap (λ (k : ℕ). completed_by halves k map) e
goes_on_from halves map other (suc n) i le same = elim (cases_lt n i) [
  | inl all ↦
      let e : i ≡ suc n = omega arith in
      ap (λ (k : ℕ). completed_by halves k other) (sym e) ∙ same ∙ ap (λ (k : ℕ). completed_by halves k map) e
  | inr more ↦ ap (with_lane (halves n)) (goes_on_from halves map other n i more same)
]

-- the same halves complete alike
pub completed_alike : (f g : ℕ → Option Half) (n : ℕ) (map : Map) → ((lane : ℕ) → lane < n → f lane ≡ g lane) → completed_by f n map ≡ completed_by g n map
unfolding completed_by
completed_alike f g zero map same = refl
completed_alike f g (suc n) map same =
    let here = same n (omega arith) in
    let before = completed_alike f g n map (λ lane lt. same lane (omega arith)) in
    λ i. with_lane (here i) (before i)

pub completed_none : (halves : ℕ → Option Half) (map : Map) → completed_by halves 0 map ≡ map
unfolding completed_by
completed_none halves map = refl

pub completed_one_more : (halves : ℕ → Option Half) (lane next : ℕ) (map : Map) → next ≡ lane + 1 → completed_by halves next map ≡ with_lane (halves lane) (completed_by halves lane map)
unfolding completed_by
completed_one_more halves lane next map is =
    let e : next ≡ suc lane = omega arith in
    ap (λ (k : ℕ). completed_by halves k map) e

-- the block at the position of a sector, and at that of a lane
pub at_sector : (a : Layout) (map : Map) (free : ℕ → ℕ) (sector : ℕ) → sector < a.sectors → block_at a map free sector ≡ block_named (map sector) sector
at_sector a map free sector below = rw (lt-ltb sector a.sectors below) refl

pub at_lane : (a : Layout) (map : Map) (free : ℕ → ℕ) (lane position : ℕ) → position ≡ a.sectors + lane → block_at a map free position ≡ free lane
at_lane a map free lane position is =
    let e : position - a.sectors ≡ lane = omega arith in
    rw (le-ltb position a.sectors (omega arith)) (ap free e)

-- the free block of a lane, by its newer half
abbrev pub free_of : (ℕ → Option Half) → ℕ → ℕ
free_of halves lane = option_map_or (λ half. block_in half.old) (halves lane) 0

pub free_is : (halves : ℕ → Option Half) (lane : ℕ) (half : Half) → halves lane ≡ Some half → free_of halves lane ≡ block_in half.old
free_is halves lane half is = ap (λ (o : Option Half). option_map_or (λ (h : Half). block_in h.old) o 0) is

pub same_half : (x y : Half) → Some x ≡ Some y → x ≡ y
same_half x y same = cc

module _ (a : Layout) (halves : ℕ → Option Half) (map : Map) (count : a.sectors + 256 ≡ a.blocks) (lanes : (lane : ℕ) → lane < 256 → HasNewer a (halves lane))
    (once : AreEachOnce a.blocks (block_at a (completed_by halves 256 map) (free_of halves))) where
  -- no lane is open once it was completed, as far as completing has come since
  pub closed_behind : (i : ℕ) → i ≤ 256 → (j : ℕ) → j < i → (half : Half) → halves j ≡ Some half → is_open half (completed_by halves i map) ≡ false
  closed_behind i le j lt half is = elim (cases_Bool (is_open half (completed_by halves i map))) [
    | inl opened ↦
        let block = block_in half.old in
        let free_j : free_of halves j ≡ block = free_is halves j half is in
        let at_j : block_at a (completed_by halves 256 map) (free_of halves) (a.sectors + j) ≡ block = at_lane a (completed_by halves 256 map) (free_of halves) j (a.sectors + j) refl ∙ free_j in
        let named : block_named (completed_by halves i map half.lba) half.lba ≡ block = open_names half (completed_by halves i map) opened in
        let none : (lane : ℕ) → i ≤ lane → lane < 256 → NoneTakes (halves lane) block =
        λ lane from to other is_other takes.
        let at_other = at_lane a (completed_by halves 256 map) (free_of halves) lane (a.sectors + lane) refl ∙ free_is halves lane other is_other ∙ takes in
        let same : a.sectors + lane ≡ a.sectors + j = once.distinct (a.sectors + lane) (a.sectors + j) (omega (arith, count, to)) (omega (arith, count, lt, le)) (at_other ∙ sym at_j) in
        omega (arith, same, lt, from) in
        let stayed = stays halves map 256 i half.lba block le named none in
        let newer = lanes j (omega (arith, lt, le)) in
        let lba_is : half.lba ≡ newer.0.lba = ap (λ (h : Half). h.lba) (same_half half newer.0 (sym is ∙ newer.1)) in
        let below : half.lba < a.sectors = omega (arith, lba_is, newer.2) in
        let at_lba = at_sector a (completed_by halves 256 map) (free_of halves) half.lba below ∙ ap (λ (word : ℕ). block_named word half.lba) stayed ∙ named in
        let same : half.lba ≡ a.sectors + j = once.distinct half.lba (a.sectors + j) (omega (arith, count, below)) (omega (arith, count, lt, le)) (at_lba ∙ sym at_j) in
        absurd (omega (arith, same, below))
    | inr closed ↦ closed
  ]

  -- completing again gives the same map
  pub completed_again : (i : ℕ) → i ≤ 256 → completed_by halves 256 (completed_by halves i map) ≡ completed_by halves 256 map
  completed_again i le = goes_on_from halves map (completed_by halves i map) 256 i le (all_closed_same halves i (completed_by halves i map) (closed_behind i le))
