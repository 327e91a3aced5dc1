use Rattle.std.proofs.Common.{◌≡◌, ℕ, ◌+◌, ◌*◌, ◌%◌, ◌<◌, ◌≤◌, true, false, List, refl, sym, ap, subst, ◌∙◌, arith}
use Rattle.std.proofs.Math.Nat.{mod-lt}
use Rattle.byte_ranges.specs.Ranges.{range, number_at}
use Rattle.btt_arena.specs.declared.halves.Half.{Half}
use Rattle.btt_arena.specs.declared.layout.Layout.{Layout}
use Rattle.btt_arena.specs.declared.turns.Turn.{Turn}
use Rattle.btt_arena.specs.Opening.{half_of}
use Rattle.btt_arena.specs.Sectors.{IsInLog, turn_by, turn_of}
use Rattle.btt_arena.specs.Tables.{block_in, half_at, half_in, is_newer}
use Rattle.btt_arena.proofs.Fresh.{word_of_range}
use Rattle.btt_arena.proofs.Layouts.{Fits, fits_of}
use Rattle.btt_arena.proofs.turns.read_turn.Goals as goal

half_from : (bytes : List ℕ) (from at place : ℕ) → place ≡ from + at → at + 16 ≤ 32 → half_of (range bytes from 32) at ≡ half_of bytes place
half_from bytes from at place is fits =
    let lba : number_at 4 (range bytes from 32) at ≡ number_at 4 bytes place = sym (word_of_range bytes from 32 at (omega arith)) ∙ ap (number_at 4 bytes) (sym is) in
    let old : number_at 4 (range bytes from 32) (at + 4) ≡ number_at 4 bytes (place + 4) = sym (word_of_range bytes from 32 (at + 4) (omega arith)) ∙ ap (number_at 4 bytes) (omega arith) in
    let new : number_at 4 (range bytes from 32) (at + 8) ≡ number_at 4 bytes (place + 8) = sym (word_of_range bytes from 32 (at + 8) (omega arith)) ∙ ap (number_at 4 bytes) (omega arith) in
    let seq : number_at 4 (range bytes from 32) (at + 12) ≡ number_at 4 bytes (place + 12) = sym (word_of_range bytes from 32 (at + 12) (omega arith)) ∙ ap (number_at 4 bytes) (omega arith) in
    λ i. record { lba = lba i; old = old i; new = new i; seq = seq i }

module _ (a : Layout) (bytes : List ℕ) (lane : ℕ) (first second : Half) (first_is : first ≡ half_in a bytes lane 0) (second_is : second ≡ half_in a bytes lane 1) (turn : Turn) (at : ℕ) where
  turn_first : is_newer first.seq second.seq ≡ true → at ≡ half_at a lane 1 → turn ≡ turn_by a first at → turn ≡ turn_of a bytes lane
  turn_first newer place is =
      let here : is_newer (half_in a bytes lane 0).seq (half_in a bytes lane 1).seq ≡ true = (λ i. is_newer (sym first_is i).seq (sym second_is i).seq) ∙ newer in
      let by : turn_of a bytes lane ≡ turn_by a (half_in a bytes lane 0) (half_at a lane 1) = rw here refl in
      is ∙ (λ i. turn_by a (first_is i) (place i)) ∙ sym by

  turn_second : is_newer first.seq second.seq ≡ false → at ≡ half_at a lane 0 → turn ≡ turn_by a second at → turn ≡ turn_of a bytes lane
  turn_second newer place is =
      let here : is_newer (half_in a bytes lane 0).seq (half_in a bytes lane 1).seq ≡ false = (λ i. is_newer (sym first_is i).seq (sym second_is i).seq) ∙ newer in
      let by : turn_of a bytes lane ≡ turn_by a (half_in a bytes lane 1) (half_at a lane 0) = rw here refl in
      is ∙ (λ i. turn_by a (second_is i) (place i)) ∙ sym by

in_log : (a : Layout) (fits : Fits a) (newer : Half) (lane at : ℕ) → lane < 256 → (which : ℕ) → which ≤ 1 → at ≡ a.log_at + 64 * lane + 16 * which → (turn : Turn) → turn ≡ turn_by a newer at → IsInLog a turn
in_log a fits newer lane at below which small place turn is =
    subst (λ (t : Turn). IsInLog a t) (sym is) (record {
      free = mod-lt (block_in newer.old) (omega (arith, fits.count));
      begins = omega (arith, place);
      ends = omega (arith, place, below, small);
      words = omega (arith, place, fits.log_words);
    })

pub returns-then-is_newer-clause-turn : goal.returns-then-is_newer-clause-turn
returns-then-is_newer-clause-turn g c told =
    let a = c.args.layout.now in
    let bytes = g.M.MediaState.bytes c.args.media.now in
    let lane = c.args.lane in
    let at = a.log_at + 64 * c.from.result in
    let lane_is : c.from.result ≡ lane = c.from.ensures in
    let text = c.in_ok-read.ensures.bytes told in
    let first_is : c.half_at-first.result ≡ half_in a bytes lane 0 = c.half_at-first.ensures ∙ ap (λ (t : List ℕ). half_of t 0) text ∙ half_from bytes at 0 (half_at a lane 0) (omega (arith, lane_is)) (omega arith) in
    let second_is : c.half_at-second.result ≡ half_in a bytes lane 1 = c.half_at-second.ensures ∙ ap (λ (t : List ℕ). half_of t 16) text ∙ half_from bytes at 16 (half_at a lane 1) (omega (arith, lane_is)) (omega arith) in
    turn_first a bytes lane c.half_at-first.result c.half_at-second.result first_is second_is c.turn_by.result (at + 16) (sym c.is_newer.ensures ∙ c.if-is_newer.true) (omega (arith, lane_is)) c.turn_by.ensures

pub returns-then-is_newer-clause-in_log : goal.returns-then-is_newer-clause-in_log
returns-then-is_newer-clause-in_log g c =
    let a = c.args.layout.now in
    let lane_is : c.from.result ≡ c.args.lane = c.from.ensures in
    let at = a.log_at + 64 * c.from.result in
    in_log a (fits_of a c.requires.layout) c.half_at-first.result c.args.lane (at + 16) c.requires.lane 1 (omega arith) (omega (arith, lane_is)) c.turn_by.result c.turn_by.ensures

pub returns-else-is_newer-clause-turn : goal.returns-else-is_newer-clause-turn
returns-else-is_newer-clause-turn g c told =
    let a = c.args.layout.now in
    let bytes = g.M.MediaState.bytes c.args.media.now in
    let lane = c.args.lane in
    let at = a.log_at + 64 * c.from.result in
    let lane_is : c.from.result ≡ lane = c.from.ensures in
    let text = c.in_ok-read.ensures.bytes told in
    let first_is : c.half_at-first.result ≡ half_in a bytes lane 0 = c.half_at-first.ensures ∙ ap (λ (t : List ℕ). half_of t 0) text ∙ half_from bytes at 0 (half_at a lane 0) (omega (arith, lane_is)) (omega arith) in
    let second_is : c.half_at-second.result ≡ half_in a bytes lane 1 = c.half_at-second.ensures ∙ ap (λ (t : List ℕ). half_of t 16) text ∙ half_from bytes at 16 (half_at a lane 1) (omega (arith, lane_is)) (omega arith) in
    turn_second a bytes lane c.half_at-first.result c.half_at-second.result first_is second_is c.turn_by-else-is_newer.result (at) (sym c.is_newer.ensures ∙ c.if-is_newer.false) (omega (arith, lane_is)) c.turn_by-else-is_newer.ensures

pub returns-else-is_newer-clause-in_log : goal.returns-else-is_newer-clause-in_log
returns-else-is_newer-clause-in_log g c =
    let a = c.args.layout.now in
    let lane_is : c.from.result ≡ c.args.lane = c.from.ensures in
    let at = a.log_at + 64 * c.from.result in
    in_log a (fits_of a c.requires.layout) c.half_at-second.result c.args.lane (at) c.requires.lane 0 (omega arith) (omega (arith, lane_is)) c.turn_by-else-is_newer.result c.turn_by-else-is_newer.ensures
