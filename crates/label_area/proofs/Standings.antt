-- What an area stands for, by its current block, the bits in it and the labels in its slots.
use Rattle.std.proofs.Common.{◌≡◌, ℕ, ◌*◌, ◌-◌, ◌<◌, ◌≤◌, Bool, true, false, ◌&&◌, cond, List, length, take, Option, Some, None, inl, inr, refl, sym, ap, ◌∙◌, arith}
use Rattle.std.specs.Prelude.{if◌then◌else◌, nat_lt, not, IsTrue, ◌%◌}
use Rattle.std.specs.Option.{option_and_then, option_map}
use Rattle.std.proofs.lemmas.Bool.{cases_lt}
use Rattle.std.proofs.lemmas.Bool.Decides.{nat_tests}
use Rattle.byte_ranges.proofs.Numbers.{number_at-take}
use Rattle.index_block.specs.declared.geometry.Geometry.{Geometry}
use Rattle.index_block.specs.declared.geometry.Place.{Place}
use Rattle.index_block.specs.declared.geometry.Place.TheVariants.{First, Second}
use Rattle.index_block.specs.declared.blocks.BlockKind.TheVariants.{Unsigned, Foreign, Usable}
use Rattle.index_block.specs.Bitmap.{is_free_in}
use Rattle.index_block.specs.Blocks.{free_map, is_signed, is_usable, kind_of, seq_of}
use Rattle.index_block.specs.Current.{IsSeq, current_place, is_followed_by}
use Rattle.index_block.specs.Geometry.{geometry_of, other_place}
use Rattle.index_block.proofs.Behind.{is_free_in-window}
use Rattle.index_block.proofs.Windows.{is_usable-take}
use Rattle.label_codec.specs.declared.label.Label.{Label}
use Rattle.label_codec.specs.declared.kind.AreaKind.TheVariants.{Ready}
use Rattle.label_area.specs.declared.blocks.Current.{Current}
use Rattle.label_area.specs.Blocks.{current_in, place_window, seq_in}
use Rattle.label_area.specs.Flips.{Standing, standing_of, used_by}
use Rattle.label_area.specs.Modules.{live_by, slots_by}
use Rattle.index_block.specs.Geometry.{bitmap_len}
use Rattle.label_area.specs.Slots.{free_bits, label_at}
use Rattle.label_area.proofs.Shown.{block_is, ready_is}

abbrev pub current_with : Geometry → Place → ℕ → Current
current_with g place seq = record { geometry = g; place = place; seq = seq }

-- An area with a layout, its current block, and which of its slots are free.
pub record Holds (bytes : List ℕ) (g : Geometry) (place : Place) (seq : ℕ) (free : ℕ → Bool) : Type 0 where
  pub found : geometry_of (length bytes) 256 ≡ Some g
  pub current : current_in g bytes ≡ Some (current_with g place seq)
  pub bits : (k : ℕ) → k < g.slots → is_free_in (free_bits (current_with g place seq) bytes) k ≡ free k

-- what an area stands for with these free slots and these labels in the others
abbrev pub standing_with : Geometry → (ℕ → Bool) → (ℕ → Option Label) → Standing
standing_with g free labels = record {
  labels = record { kind = Ready; slots = g.slots; at = λ k. if nat_lt k g.slots && not (free k) then labels k else None };
  used = λ k. nat_lt k g.slots && not (free k);
}

-- the labels in free slots don't matter, and no more does what is said of slots past the last
module _ (g : Geometry) (free free' : ℕ → Bool) (labels labels' : ℕ → Option Label) (bits : (k : ℕ) → k < g.slots → free k ≡ free' k)
    (same : (k : ℕ) → k < g.slots → free' k ≡ false → labels k ≡ labels' k) where
  used_same : (k : ℕ) → (nat_lt k g.slots && not (free k)) ≡ (nat_lt k g.slots && not (free' k))
  used_same k = elim (cases_lt k g.slots) [
    | inl below ↦ (λ i. nat_lt k g.slots && not (bits k below i))
    | inr behind ↦ let past : nat_lt k g.slots ≡ false = grind (arith, nat_tests) in rw past refl
  ]

  label_same : (k : ℕ) → (if nat_lt k g.slots && not (free k) then labels k else None) ≡ (if nat_lt k g.slots && not (free' k) then labels' k else None)
  label_same k = ap (λ used. cond used (labels k) None) (used_same k) ∙ by (nat_lt k g.slots) (free' k) refl refl
    where
      by : (below is_free : Bool) → nat_lt k g.slots ≡ below → free' k ≡ is_free → cond (below && not is_free) (labels k) None ≡ cond (below && not is_free) (labels' k) None
      by true true e f = refl
      by true false e f = same k (grind (arith, nat_tests)) f
      by false is_free e f = refl

  pub standing_same : standing_with g free labels ≡ standing_with g free' labels'
  standing_same = λ i. record { labels = record { kind = Ready; slots = g.slots; at = λ k. label_same k i }; used = λ k. used_same k i }

pub holds_standing : (bytes : List ℕ) (g : Geometry) (place : Place) (seq : ℕ) (free : ℕ → Bool) → Holds bytes g place seq free → standing_of (Some bytes) ≡ standing_with g free (label_at g bytes)
holds_standing bytes g place seq free h =
    let current = current_with g place seq in
    let block = block_is bytes g h.found current h.current in
    let ready = ready_is bytes g h.found current h.current in
    (λ i. record { labels = record { kind = ready i; slots = slots_by (block i); at = live_by (block i) bytes }; used = used_by (block i) bytes })
    ∙ standing_same g (is_free_in (free_bits current bytes)) free (label_at g bytes) (label_at g bytes) h.bits (λ k below used. refl)

-- windows with one front have one usable block
pub usable_front : (place : Place) (g : Geometry) (v w : List ℕ) → 256 ≤ g.block → take g.block v ≡ take g.block w → seq_in (kind_of place g v) ≡ seq_in (kind_of place g w)
usable_front place g v w room front =
    let tested : is_usable place g v ≡ is_usable place g w = sym (is_usable-take place g v room) ∙ ap (is_usable place g) front ∙ is_usable-take place g w room in
    let number : seq_of v ≡ seq_of w =
    ap (λ (n : ℕ). n % 4) (sym (number_at-take 4 20 g.block v (omega arith))) ∙ ap (λ (bytes : List ℕ). seq_of bytes) front ∙ ap (λ (n : ℕ). n % 4) (number_at-take 4 20 g.block w (omega arith)) in
    by (is_usable place g v) (is_usable place g w) (is_signed v) (is_signed w) (seq_of v) (seq_of w) tested number
  where
    by : (a b s t : Bool) (m n : ℕ) → a ≡ b → m ≡ n → seq_in (if a then Usable m else if s then Foreign else Unsigned) ≡ seq_in (if b then Usable n else if t then Foreign else Unsigned)
    by true true s t m n e f = ap Some f
    by true false s t m n e f = absurd cc
    by false true s t m n e f = absurd cc
    by false false true true m n e f = refl
    by false false true false m n e f = refl
    by false false false true m n e f = refl
    by false false false false m n e f = refl

-- the bits of a current block are those of the block that stands at the front of its window
pub bits_front : (g : Geometry) (place : Place) (seq : ℕ) (bytes block : List ℕ) → g.slots < 8 * (g.block - 72) → 256 ≤ g.block → take g.block (place_window g bytes place) ≡ block → (k : ℕ) → k < g.slots
    → is_free_in (free_bits (current_with g place seq) bytes) k ≡ is_free_in (free_map block) k
bits_front g place seq bytes block bits least front k below =
    is_free_in-window (place_window g bytes place) block g.block (bitmap_len g.slots) k front (omega arith) (omega (arith, bits, least, below))

-- Which block is current, by the sequence numbers of the usable ones.
module _ (g : Geometry) where
  abbrev pub current_at : (Place → Option ℕ) → Option Current
  current_at seq_at = option_and_then (λ place. option_map (current_with g place) (seq_at place)) (current_place (seq_at First) (seq_at Second))

  -- the current block has its number
  pub current_seq : (seq_at : Place → Option ℕ) (place : Place) (seq : ℕ) → current_at seq_at ≡ Some (current_with g place seq) → seq_at place ≡ Some seq
  current_seq seq_at place seq is = pick (current_place (seq_at First) (seq_at Second)) is
    where
      some : {a b : Current} → Some a ≡ Some b → a ≡ b
      some e = cc

      got : (number : Option ℕ) (at : Place) → option_map (current_with g at) number ≡ Some (current_with g place seq) → (at ≡ place) × (number ≡ Some seq)
      got None at e = absurd cc
      got (Some n) at e = let same : current_with g at n ≡ current_with g place seq = some e in (ap (λ (c : Current). c.place) same, ap (λ (c : Current). Some c.seq) same)

      pick : (at : Option Place) → option_and_then (λ place. option_map (current_with g place) (seq_at place)) at ≡ Some (current_with g place seq) → seq_at place ≡ Some seq
      pick None e = absurd cc
      pick (Some at) e = let is = got (seq_at at) at e in ap seq_at (sym is.0) ∙ is.1

  module _ (seq_at : Place → Option ℕ) (place : Place) (seq : ℕ) (has : seq_at place ≡ Some seq) where
    -- it stays current where the other one is not usable
    pub alone_current : seq_at (other_place place) ≡ None → current_at seq_at ≡ Some (current_with g place seq)
    alone_current none = by place has none
      where
        by : (p : Place) → seq_at p ≡ Some seq → seq_at (other_place p) ≡ None → current_at seq_at ≡ Some (current_with g p seq)
        by First a b = rw (a, b, a) refl
        by Second b a = rw (a, b, b) refl

    -- the other one becomes current once it has the next number
    pub next_current : (next : ℕ) → IsSeq seq → IsTrue (is_followed_by seq next) → seq_at (other_place place) ≡ Some next → current_at seq_at ≡ Some (current_with g (other_place place) next)
    next_current next numbered follows new = by place has new
      where
        not_back : is_followed_by next seq ≡ false
        not_back = grind (arith, nat_tests)

        by : (p : Place) → seq_at p ≡ Some seq → seq_at (other_place p) ≡ Some next → current_at seq_at ≡ Some (current_with g (other_place p) next)
        by First a b = rw (a, b, not_back, b) refl
        by Second b a = rw (a, b, follows, a) refl
