-- The four writes of a sector's write, from what each leaves.
use Rattle.std.proofs.Common.{◌≡◌, ◌⊎◌, inl, inr, ⊎_elim, ℕ, ◌+◌, ◌*◌, ◌%◌, ◌^◌, ◌<◌, ◌≤◌, List, length, drop, Option, Some, refl, sym, ap, subst, ◌∙◌, arith}
use Rattle.byteorder.specs.Numbers.{little_number-reads_back}
use Rattle.byte_ranges.specs.Ranges.{range, number_at, patched}
use Rattle.byte_ranges.proofs.Numbers.{number_at-patched}
use Rattle.btt_arena.specs.declared.layout.Layout.{Layout}
use Rattle.btt_arena.specs.declared.turns.Turn.{Turn}
use Rattle.btt_arena.specs.Arena.{IsFit, IsKept}
use Rattle.btt_arena.specs.Formatting.{ChangesOnly}
use Rattle.btt_arena.specs.Layout.{IsLayout}
use Rattle.btt_arena.specs.Sectors.{AreApart, IsBeside, IsNoted, IsOldOrNew, IsRewritten, note_of, turn_of}
use Rattle.btt_arena.specs.Tables.{block_named, free_block, map_in, normal}
use Rattle.btt_arena.specs.Words.{IsEither, with_word}
use Rattle.btt_arena.proofs.EntryWords.{word_changes, word_kept}
use Rattle.btt_arena.proofs.Fresh.{word_of_range}
use Rattle.btt_arena.proofs.Kept.{block_inside}
use Rattle.btt_arena.proofs.Layouts.{Fits, fits_of}
use Rattle.btt_arena.proofs.Reading.{named_below}
use Rattle.btt_arena.proofs.Rewriting.{free_below}
use Rattle.btt_arena.proofs.Writes.{Agrees, HasNote, IsKnown, Sides, first_newer, kept_until, known_of, log_from, log_to, rewritten_open, rewritten_shut, second_newer}

-- the words of a note
note_words : (sector old new : ℕ) → sector < 2 ^ 32 → old < 2 ^ 30 → new < 2 ^ 30 → (number_at 4 (note_of sector old new) 0 ≡ sector) × (number_at 4 (note_of sector old new) 4 ≡ normal old) × (number_at 4 (note_of sector old new) 8 ≡ normal new)
note_words sector old new sector_small old_small new_small = (
  little_number-reads_back 4 sector (drop 4 (note_of sector old new)) (omega arith),
  little_number-reads_back 4 (normal old) (drop 8 (note_of sector old new)) (omega arith),
  little_number-reads_back 4 (normal new) (drop 12 (note_of sector old new)) (omega arith),
)

small_next : (a : Layout) (before : List ℕ) (lane half next : ℕ) → Sides a before lane half next → next < 2 ^ 32
small_next a before lane half next sides = elim sides [
  | first_newer picked place is ↦ omega (arith, is)
  | second_newer passed picked place is ↦ omega (arith, is)
]

module _ (a : Layout) (layout : IsLayout a) (before : List ℕ) (fit : IsFit a before) (long : length before ≡ a.size) (sector : ℕ) (below : sector < a.sectors) (lane : ℕ) (lane_below : lane < 256) (half next : ℕ)
    (sides : Sides a before lane half next) (old : ℕ) (named : old ≡ block_named (map_in a before sector) sector) where
  fits : Fits a
  fits = fits_of a layout

  inside : 4096 + free_block a before lane * a.sector + a.sector ≤ a.map_at
  inside = block_inside a fits (free_block a before lane) (free_below a fits before fit lane lane_below)

  from : a.log_at ≤ half
  from = omega (arith, log_from a layout before fit long sector below lane lane_below half next sides)

  to : half + 16 ≤ a.log_at + 16384
  to = omega (arith, log_to a layout before fit long sector below lane lane_below half next sides, lane_below)

  abbrev Like : List ℕ → Type 0
  Like r = Agrees a layout before fit long sector below lane lane_below half next sides r

  module _ (r : List ℕ) (beside : IsBeside (4096 + free_block a before lane * a.sector) a.sector half before r) where
    like_beside : Like r
    like_beside = record {
      same_length = beside.same_length;
      away = λ at n one two three_. beside.others at n one (⊎_elim (λ less. inl less) (λ more. inr (omega (arith, more))) two);
    }

    seq_stays : number_at 4 r (half + 12) ≡ number_at 4 before (half + 12)
    seq_stays =
        let e : half + 12 ≡ half + 12 + 0 = omega arith in
        ap (number_at 4 r) e ∙ word_of_range r (half + 12) 4 0 (omega arith)
        ∙ ap (λ (xs : List ℕ). number_at 4 xs 0) (beside.others (half + 12) 4 (inr (omega (arith, inside, from, fits.map))) (inr (omega arith)))
        ∙ sym (ap (number_at 4 before) e ∙ word_of_range before (half + 12) 4 0 (omega arith))

    entry_stays : map_in a r sector ≡ map_in a before sector
    entry_stays =
        let at = a.map_at + 4 * sector in
        let e : at ≡ at + 0 = omega arith in
        ap (number_at 4 r) e ∙ word_of_range r at 4 0 (omega arith)
        ∙ ap (λ (xs : List ℕ). number_at 4 xs 0) (beside.others at 4 (inr (omega (arith, inside))) (inl (omega (arith, below, from, fits.map))))
        ∙ sym (ap (number_at 4 before) e ∙ word_of_range before at 4 0 (omega arith))

    pub moves_beside : (put : List ℕ) → IsOldOrNew a before sector put r
    moves_beside put = inl (kept_until a layout before fit long sector below lane lane_below half next sides r like_beside seq_stays entry_stays)

  module _ (put b2 : List ℕ) (sector_small : sector < 2 ^ 32)
      (noted : IsNoted a (4096 + free_block a before lane * a.sector) half before put (note_of sector old (free_block a before lane)) b2) where
    like2 : Like b2
    like2 = like_beside b2 noted.beside

    long2 : length b2 ≡ a.size
    long2 = noted.beside.same_length ∙ long

    seq_inside : half + 12 + 4 ≤ length b2
    seq_inside = omega (arith, long2, to, fits.log, fits.info)

    abbrev b3 : List ℕ
    b3 = with_word b2 (half + 12) next

    changes3 : ChangesOnly (half + 12) 4 b2 b3
    changes3 = word_changes b2 (half + 12) next seq_inside

    like3 : Like b3
    like3 = record {
      same_length = changes3.same_length ∙ like2.same_length;
      away = λ at n one two three_. changes3.others at n (⊎_elim (λ less. inl (omega (arith, less))) (λ more. inr (omega (arith, more))) two) ∙ like2.away at n one two three_;
    }

    word3 : (k : ℕ) (word : ℕ) → k + 4 ≤ 12 → number_at 4 (note_of sector old (free_block a before lane)) k ≡ word → number_at 4 b3 (half + k) ≡ word
    word3 k word small is =
        word_kept (half + 12) 4 b2 b3 (half + k) changes3 (inl (omega (arith, small)))
        ∙ word_of_range b2 half 12 k small ∙ ap (λ (xs : List ℕ). number_at 4 xs k) noted.noted ∙ is

    words : (number_at 4 (note_of sector old (free_block a before lane)) 0 ≡ sector) × (number_at 4 (note_of sector old (free_block a before lane)) 4 ≡ normal old) × (number_at 4 (note_of sector old (free_block a before lane)) 8 ≡ normal (free_block a before lane))
    words = note_words sector old (free_block a before lane) sector_small (omega (arith, named, fits.few, named_below a fits before fit sector below)) (omega (arith, fits.few, free_below a fits before fit lane lane_below))

    note3 : HasNote a layout before fit long sector below lane lane_below half next sides b3 like3
    note3 = record {
      lba = (let e : half ≡ half + 0 = omega arith in ap (number_at 4 b3) e ∙ word3 0 sector (omega arith) words.0);
      old = word3 4 (normal old) (omega arith) words.1 ∙ ap normal named;
      new = word3 8 (normal (free_block a before lane)) (omega arith) words.2;
      seq = number_at-patched 4 next (half + 12) b2 (omega (arith, small_next a before lane half next sides)) (omega (arith, seq_inside));
    }

    stands3 : range b3 (4096 + free_block a before lane * a.sector) a.sector ≡ put
    stands3 = changes3.others (4096 + free_block a before lane * a.sector) a.sector (inl (omega (arith, inside, from, fits.map))) ∙ noted.stands

    entry3 : map_in a b3 sector ≡ map_in a before sector
    entry3 = word_kept (half + 12) 4 b2 b3 (a.map_at + 4 * sector) changes3 (inl (omega (arith, below, from, fits.map))) ∙ entry_stays b2 noted.beside

    pub moves_numbered : (r : List ℕ) → IsEither b2 (with_word b2 (half + 12) next) r → IsOldOrNew a before sector put r
    moves_numbered r (inl is) = subst (λ (b : List ℕ). IsOldOrNew a before sector put b) (sym is) (moves_beside b2 noted.beside put)
    moves_numbered r (inr is) =
        subst (λ (b : List ℕ). IsOldOrNew a before sector put b) (sym is) (inr (rewritten_open a layout before fit long sector below lane lane_below half next sides b3 like3 note3 put stands3 entry3))

    entry_inside : a.map_at + 4 * sector + 4 ≤ length b3
    entry_inside = omega (arith, changes3.same_length, long2, below, fits.map, fits.log, fits.info)

    abbrev b4 : List ℕ
    b4 = with_word b3 (a.map_at + 4 * sector) (normal (free_block a before lane))

    changes4 : ChangesOnly (a.map_at + 4 * sector) 4 b3 b4
    changes4 = word_changes b3 (a.map_at + 4 * sector) (normal (free_block a before lane)) entry_inside

    like4 : Like b4
    like4 = record {
      same_length = changes4.same_length ∙ like3.same_length;
      away = λ at n one two three_. changes4.others at n three_ ∙ like3.away at n one two three_;
    }

    word4 : (k : ℕ) → number_at 4 b4 (half + k) ≡ number_at 4 b3 (half + k)
    word4 k = word_kept (a.map_at + 4 * sector) 4 b3 b4 (half + k) changes4 (inr (omega (arith, below, from, fits.map)))

    note4 : HasNote a layout before fit long sector below lane lane_below half next sides b4 like4
    note4 = record {
      lba = (let e : half ≡ half + 0 = omega arith in ap (number_at 4 b4) e ∙ word4 0 ∙ ap (number_at 4 b3) (sym e) ∙ note3.lba);
      old = word4 4 ∙ note3.old;
      new = word4 8 ∙ note3.new;
      seq = word4 12 ∙ note3.seq;
    }

    stands4 : range b4 (4096 + free_block a before lane * a.sector) a.sector ≡ put
    stands4 = changes4.others (4096 + free_block a before lane * a.sector) a.sector (inl (omega (arith, inside))) ∙ stands3

    entry4 : map_in a b4 sector ≡ normal (free_block a before lane)
    entry4 = number_at-patched 4 (normal (free_block a before lane)) (a.map_at + 4 * sector) b3 (omega (arith, fits.few, free_below a fits before fit lane lane_below)) (omega (arith, entry_inside))

    pub moved : (r : List ℕ) → r ≡ with_word (with_word b2 (half + 12) next) (a.map_at + 4 * sector) (normal (free_block a before lane)) → IsFit a r × IsRewritten a before sector put r
    moved r is = subst (λ (b : List ℕ). IsFit a b × IsRewritten a before sector put b) (sym is) (rewritten_shut a layout before fit long sector below lane lane_below half next sides b4 like4 note4 put stands4 entry4)

    pub moves_entered : (r : List ℕ) → IsEither (with_word b2 (half + 12) next) (with_word (with_word b2 (half + 12) next) (a.map_at + 4 * sector) (normal (free_block a before lane))) r → IsOldOrNew a before sector put r
    moves_entered r (inl is) = moves_numbered r (inr is)
    moves_entered r (inr is) = inr (moved r is).1

-- the last write, by other names of its place and its word
pub entered_alike : (at : ℕ) (b c : List ℕ) → b ≡ c → (k l : ℕ) → k ≡ l → (f h : ℕ) → f ≡ h → (r : List ℕ) → IsEither b (with_word b (at + 4 * k) (normal f)) r → IsEither c (with_word c (at + 4 * l) (normal h)) r
entered_alike at b c same k l place f h free r (inl is) = inl (is ∙ same)
entered_alike at b c same k l place f h free r (inr is) = inr (is ∙ (λ i. with_word (same i) (at + 4 * place i) (normal (free i))))

-- before the first write
pub not_moved : (a : Layout) (before r : List ℕ) (sector : ℕ) (put : List ℕ) → IsFit a before → r ≡ before → IsOldOrNew a before sector put r
not_moved a before r sector put fit same = inl (subst (λ (b : List ℕ). IsKept a before b) (sym same) (record { sound = fit.sound; same = λ s below. refl }))
