-- A label that is marked as being changed belongs where the one from before does.
use Rattle.std.proofs.Common.{◌≡◌, ℕ, ◌+◌, ◌*◌, ◌<◌, true, not, ◌&&◌, List, length, refl, ap, ◌∙◌, arith}
use Rattle.std.specs.Prelude.{◌==◌, nat_lt, max, bit_and}
use Rattle.std.specs.Int.{bit_at}
use Rattle.std.specs.Int.Bits.{or_add_and}
use Rattle.std.proofs.lemmas.Nat.Bits.{and_pow, bit_at-lt, bit_at_or}
use Rattle.label_codec.specs.declared.label.Label.{Label}
use Rattle.label_codec.specs.Flags.{is_local, is_read_only, is_updating}
use Rattle.label_area.specs.Flips.{at_slot}
use Rattle.region_map.specs.declared.platform.Region.{Region}
use Rattle.label_table.specs.Belonging.{belongs, is_persistent, lies_within, member_at, names_set}
use Rattle.label_table.proofs.ListTests.{eq_true}
use Rattle.namespace_passes.specs.MarkedLabels.{marked_label, renamed_label, with_updating}

-- the other flags stay
kept-bit : (flags i : ℕ) → bit_at 8 i ≡ 0 → bit_at (with_updating flags) i ≡ bit_at flags i
kept-bit flags i clear = bit_at_or flags 8 i ∙ ap (max (bit_at flags i)) clear ∙ by (bit_at flags i)
  where
    by : (n : ℕ) → max n 0 ≡ n
    by n = omega arith

pub read_only-kept : (name : List ℕ) (own : Label) → is_read_only (renamed_label name own) ≡ is_read_only own
read_only-kept name own = ap (λ n. n == 1) (kept-bit own.flags 0 refl)

local-kept : (name : List ℕ) (own : Label) → is_local (renamed_label name own) ≡ is_local own
local-kept name own = ap (λ n. n == 1) (kept-bit own.flags 1 refl)

pub is-updating : (name : List ℕ) (own : Label) → is_updating (renamed_label name own) ≡ true
is-updating name own = ap (λ n. n == 1) (bit_at_or own.flags 8 3 ∙ by (bit_at own.flags 3) (bit_at-lt own.flags 3))
  where
    by : (n : ℕ) → n < 2 → max n 1 ≡ 1
    by n lt = omega (arith, lt)

-- a label that is being changed is marked
pub marked-same : (own : Label) → is_updating own ≡ true → marked_label own ≡ own
marked-same own updating = λ i. record own { flags = same i }
  where
    same : with_updating own.flags ≡ own.flags
    same =
        let set : bit_at own.flags 3 ≡ 1 = eq_true (bit_at own.flags 3) 1 updating in
        let both : bit_and own.flags 8 ≡ 8 = and_pow own.flags 3 ∙ ap (λ n. n * 8) set in
        let sum : with_updating own.flags + bit_and own.flags 8 ≡ own.flags + 8 = or_add_and own.flags 8 in
        omega (arith, both, sum)

pub belongs-same : (r : Region) (h slot : ℕ) (name : List ℕ) (own : Label) → belongs r h (at_slot slot (renamed_label name own)) ≡ belongs r h own
belongs-same r h slot name own = λ i.
    nat_lt own.position (length r.members)
    && (names_set r h own && ((is_persistent own && (not (local-kept name own i) && nat_lt 0 own.raw_size)) && lies_within (member_at r own.position) own))
