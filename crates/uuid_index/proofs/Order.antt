-- The order of entries is total, and only equal entries compare alike.
use Rattle.std.proofs.Common.{◌≡◌, ℕ, ◌+◌, true, false, List, eqb, get_or, refl, ap, subst, sym, Ordering, Less, Equal, Greater, eq-eqb, eqb-true, arith}
use Rattle.std.specs.Cmp.{IsTotalOrder, nat_cmp_total, on_total, then_total, tied_itself}
use Rattle.std.specs.Cmp.Lexicographic.{slice_cmp, nat_list_cmp_total}
use Rattle.std.specs.List.Sorted.{IsNonDecreasingBy, IsSortedByKey}
use Rattle.std.specs.Ordering.{is_lt, nat_cmp, ordering_index, ordering_then}
use Rattle.std.specs.Str.{bytes_eq}
use Rattle.std.proofs.lemmas.Bool.{and_parts}
use Rattle.std.proofs.lemmas.List.Sorted.{searchable_from_sorted}
use Rattle.std.proofs.lemmas.Map.Lookups.{exact_bytes, exact_pairs, exact_unsigned}
use Rattle.std.proofs.lemmas.Slice.Eq.{bytes_eq-Decides}
use Rattle.uuid_index.specs.declared.entry.Entry.{Entry}
use Rattle.uuid_index.specs.Entries.{IsOrdered, cmp_to, entry_cmp, is_of}

pub entries_total : IsTotalOrder entry_cmp
entries_total =
    then_total (on_total (λ e. e.uuid) nat_list_cmp_total) (then_total (on_total (λ e. e.position) nat_cmp_total) (on_total (λ e. e.slot) nat_cmp_total))

pub exact_entries : (a b : Entry) → entry_cmp a b ≡ Equal → a ≡ b
exact_entries a b alike =
    let positions : (x y : ℕ × ℕ) → ordering_then (nat_cmp x.0 y.0) (nat_cmp x.1 y.1) ≡ Equal → x ≡ y = exact_pairs nat_cmp nat_cmp exact_unsigned exact_unsigned in
    ap (λ (p : List ℕ × (ℕ × ℕ)). record { uuid = p.0; position = (p.1).0; slot = (p.1).1 })
    (exact_pairs (slice_cmp nat_cmp) (λ x y. ordering_then (nat_cmp x.0 y.0) (nat_cmp x.1 y.1)) exact_bytes positions (a.uuid, (a.position, a.slot)) (b.uuid, (b.position, b.slot)) alike)

-- where an entry stands to another: 0 before it, 1 at it, 2 after it
abbrev pub entry_rank : Entry → Entry → ℕ
entry_rank entry other = ordering_index (entry_cmp other entry)

pub entry_ranks-rise : (entry : Entry) (entries : List Entry) → IsOrdered entries → IsNonDecreasingBy (entry_rank entry) entries
entry_ranks-rise entry entries up = searchable_from_sorted entries_total (λ e. e) entries entry up

pub entry_rank-itself : (entry : Entry) → entry_rank entry entry ≡ 1
entry_rank-itself entry = ap ordering_index (tied_itself entries_total entry)

-- where an entry stands to those of a uuid at a position
abbrev pub rank : List ℕ → ℕ → Entry → ℕ
rank uuid position entry = ordering_index (cmp_to uuid position entry)

abbrev Pair : Type 0
Pair = List ℕ × ℕ

abbrev pair_cmp : Pair → Pair → Ordering
pair_cmp x y = ordering_then (slice_cmp nat_cmp x.0 y.0) (nat_cmp x.1 y.1)

abbrev pair_of : Entry → Pair
pair_of entry = (entry.uuid, entry.position)

pairs_total : IsTotalOrder pair_cmp
pairs_total = then_total (on_total (λ x. x.0) nat_list_cmp_total) (on_total (λ x. x.1) nat_cmp_total)

-- entries in order are in the order of their uuids and positions
by_pair : (entries : List Entry) → IsOrdered entries → IsSortedByKey pair_of pair_cmp entries
by_pair entries up k d low lt = coarser (slice_cmp nat_cmp (get_or entries (k + 1) d).uuid (get_or entries k d).uuid) (nat_cmp (get_or entries (k + 1) d).position (get_or entries k d).position) _ (up k d low lt)
  where
    coarser : (a b c : Ordering) → is_lt (ordering_then a (ordering_then b c)) ≡ false → is_lt (ordering_then a b) ≡ false
    coarser Less b c e = e
    coarser Equal Less c e = e
    coarser Equal Equal c e = refl
    coarser Equal Greater c e = refl
    coarser Greater b c e = refl

pub ranks-rise : (uuid : List ℕ) (position : ℕ) (entries : List Entry) → IsOrdered entries → IsNonDecreasingBy (rank uuid position) entries
ranks-rise uuid position entries up = searchable_from_sorted pairs_total pair_of entries (uuid, position) (by_pair entries up)

pub same_uuid : (uuid : List ℕ) (position : ℕ) (entry : Entry) → is_of uuid position entry ≡ true → entry.uuid ≡ uuid
same_uuid uuid position entry here = (bytes_eq-Decides entry.uuid uuid).0 ((and_parts (bytes_eq entry.uuid uuid) _ here).0)

pub same_position : (uuid : List ℕ) (position : ℕ) (entry : Entry) → is_of uuid position entry ≡ true → entry.position ≡ position
same_position uuid position entry here = eqb-true entry.position position ((and_parts (bytes_eq entry.uuid uuid) _ here).1)

-- those of the uuid at the position have the rank 1, and no others
pub rank-of : (uuid : List ℕ) (position : ℕ) (entry : Entry) → is_of uuid position entry ≡ true → rank uuid position entry ≡ 1
rank-of uuid position entry here =
    let same : pair_of entry ≡ (uuid, position) = λ i. (same_uuid uuid position entry here i, same_position uuid position entry here i) in
    ap ordering_index (subst (λ x. pair_cmp x (uuid, position) ≡ Equal) (sym same) (tied_itself pairs_total (uuid, position)))

equal_at_one : (o : Ordering) → ordering_index o ≡ 1 → o ≡ Equal
equal_at_one Less e = absurd (omega arith)
equal_at_one Equal e = refl
equal_at_one Greater e = absurd (omega arith)

pub is_of-ranked : (uuid : List ℕ) (position : ℕ) (entry : Entry) → rank uuid position entry ≡ 1 → is_of uuid position entry ≡ true
is_of-ranked uuid position entry one =
    let same : pair_of entry ≡ (uuid, position) = exact_pairs (slice_cmp nat_cmp) nat_cmp exact_bytes exact_unsigned (pair_of entry) (uuid, position) (equal_at_one (cmp_to uuid position entry) one) in
    let uuids : bytes_eq entry.uuid uuid ≡ true = (bytes_eq-Decides entry.uuid uuid).1 (ap (λ (x : Pair). x.0) same) in
    let positions : eqb entry.position position ≡ true = eq-eqb entry.position position (ap (λ (x : Pair). x.1) same) in
    rw (uuids, positions) refl
