-- The entries of kept writes, and the writes that they stand for.
use Rattle.std.proofs.Common.{sym, subst, append_assoc, length-append, eq-eqb, ◌≡◌, ℕ, zero, suc, ◌+◌, ◌*◌, ◌%◌, ◌≤◌, ◌<◌, Bool, true, false, List, [], ◌∷◌, ◌++◌, map, length, get_or, take, drop, refl, ap, ◌∙◌, arith}
use Rattle.std.proofs.lemmas.List.{take-append-le, drop-append-le, length-drop, take_at, drop_at, drop-map, length-map, map-append}
use Rattle.std.proofs.lemmas.Bool.Decides.{Decides-eqb}
use Rattle.std.proofs.Math.Seq.{take-length, drop-cons}
use Rattle.std.specs.Prelude.{nat_eq, if◌then◌else◌}
use Rattle.byte_ranges.specs.Ranges.{range}
use Rattle.btt_arena.specs.Crashed.{IsFirst}
use Rattle.btt_arena.specs.InKept.{AllEndWithin, write_at, end_of}
use Rattle.btt_arena.specs.Kept.{KeptWrite, LiesIn, AllLieIn, kept_from}
use Rattle.btt_arena.specs.declared.kept_writes.Entry.{Entry}
use Rattle.btt_arena.proofs.Bytes.{length-range}
use Rattle.btt_arena.proofs.Stopping.{first_lies}

range-append : (bytes more : List ℕ) (from n : ℕ) → from + n ≤ length bytes → range (bytes ++ more) from n ≡ range bytes from n
range-append bytes more from n fits =
    let inside : from ≤ length bytes = omega arith in
    let short : n ≤ length (drop from bytes) = omega (arith, length-drop from bytes) in
    ap (take n) (drop-append-le from bytes more inside) ∙ take-append-le n (drop from bytes) more short

write_at-append : (bytes more : List ℕ) (entry : Entry) → end_of entry ≤ length bytes → write_at (bytes ++ more) entry ≡ write_at bytes entry
write_at-append bytes more entry ends =
    let old_is = range-append bytes more entry.from entry.len (omega (arith, ends)) in
    let new_is = range-append bytes more (entry.from + entry.len) entry.len (omega (arith, ends)) in
    λ i. record { call = entry.call; at = entry.at; old = old_is i; new = new_is i }

-- bytes behind those of all entries
pub writes-append : (bytes more : List ℕ) (entries : List Entry) → AllEndWithin (length bytes) entries → map (write_at (bytes ++ more)) entries ≡ map (write_at bytes) entries
writes-append bytes more [] all = refl
writes-append bytes more (entry ∷ entries) all = λ i. write_at-append bytes more entry all.0 i ∷ writes-append bytes more entries all.1 i

pub AllEndWithin-push : (n m : ℕ) (entries : List Entry) (entry : Entry) → n ≤ m → AllEndWithin n entries → end_of entry ≤ m → AllEndWithin m (entries ++ entry ∷ [])
AllEndWithin-push n m [] entry le all ends = (ends, tt)
AllEndWithin-push n m (x ∷ entries) entry le all ends = (omega (arith, le, all.0), AllEndWithin-push n m entries entry le all.1 ends)

pub ends_at : (n : ℕ) (entries : List Entry) (i : ℕ) (d : Entry) → i < length entries → AllEndWithin n entries → end_of (get_or entries i d) ≤ n
ends_at n [] i d lt all = absurd (omega (arith, lt))
ends_at n (x ∷ entries) zero d lt all = all.0
ends_at n (x ∷ entries) (suc i) d lt all = ends_at n entries i d (omega (arith, lt)) all.1

pub first_is : (f : Entry → KeptWrite) (entries : List Entry) (i : ℕ) (d : Entry) (write : KeptWrite) → IsFirst (drop i (map f entries)) write → f (get_or entries i d) ≡ write
first_is f [] zero d write first = let none : [] ≡ write ∷ first.0 = first.1 in cc
first_is f [] (suc i) d write first = let none : [] ≡ write ∷ first.0 = first.1 in cc
first_is f (x ∷ entries) zero d write first = let is : f x ∷ map f entries ≡ write ∷ first.0 = first.1 in cc
first_is f (x ∷ entries) (suc i) d write first = first_is f entries i d write first

written_at : (bytes old new : List ℕ) (call at : ℕ) → length old ≡ length new
    → write_at ((bytes ++ old) ++ new) (record { call = call; at = at; from = length bytes; len = length new }) ≡ record { call = call; at = at; old = old; new = new }
written_at bytes old new call at same =
    let first : range ((bytes ++ old) ++ new) (length bytes) (length new) ≡ old =
    ap (λ (xs : List ℕ). range xs (length bytes) (length new)) (append_assoc bytes old new)
    ∙ ap (take (length new)) (drop_at bytes (old ++ new) (length bytes) refl)
    ∙ take_at old new (length new) same in
    let long : length (bytes ++ old) ≡ length bytes + length new = omega (arith, length-append bytes old, same) in
    let second : range ((bytes ++ old) ++ new) (length bytes + length new) (length new) ≡ new =
    ap (take (length new)) (drop_at (bytes ++ old) new (length bytes + length new) long) ∙ take-length new in
    λ i. record { call = call; at = at; old = first i; new = second i }

-- a write more is kept
pub write_kept : (bytes old new : List ℕ) (entries : List Entry) (call at from len : ℕ) → AllEndWithin (length bytes) entries → from ≡ length bytes → len ≡ length new → length old ≡ length new
    → map (write_at ((bytes ++ old) ++ new)) (entries ++ record { call = call; at = at; from = from; len = len } ∷ [])
    ≡ map (write_at bytes) entries ++ record { call = call; at = at; old = old; new = new } ∷ []
write_kept bytes old new entries call at from len all from_is len_is same =
    let f = write_at ((bytes ++ old) ++ new) in
    let entry : Entry = record { call = call; at = at; from = from; len = len } in
    let earlier : map f entries ≡ map (write_at bytes) entries =
    ap (λ (xs : List ℕ). map (write_at xs) entries) (append_assoc bytes old new) ∙ writes-append bytes (old ++ new) entries all in
    let this : f entry ≡ record { call = call; at = at; old = old; new = new } =
    (λ i. f (record { call = call; at = at; from = from_is i; len = len_is i })) ∙ written_at bytes old new call at same in
    map-append f entries (entry ∷ []) ∙ (λ i. earlier i ++ this i ∷ [])

-- the first entry with a number
module _ (number : ℕ) (bytes : List ℕ) where
  found_at : (entries : List Entry) (i : ℕ) (d : Entry) → i < length entries → (get_or entries i d).call ≡ number
      → kept_from number (map (write_at bytes) (drop i entries)) ≡ map (write_at bytes) (drop i entries)
  found_at [] i d lt is = absurd (omega (arith, lt))
  found_at (x ∷ entries) zero d lt is =
      let yes : nat_eq x.call number ≡ true = eq-eqb _ _ is in
      rw yes refl
  found_at (x ∷ entries) (suc i) d lt is = found_at entries i d (omega (arith, lt)) is

  found_behind : (entries : List Entry) (i : ℕ) (d : Entry) → i < length entries → ((get_or entries i d).call ≡ number → ⊥)
      → kept_from number (map (write_at bytes) (drop i entries)) ≡ kept_from number (map (write_at bytes) (drop (suc i) entries))
  found_behind [] i d lt other = absurd (omega (arith, lt))
  found_behind (x ∷ entries) zero d lt other = test (nat_eq x.call number) (λ yes. other ((Decides-eqb x.call number).0 yes))
    where
      test : (b : Bool) → (b ≡ true → ⊥) → (if b then write_at bytes x ∷ map (write_at bytes) entries else kept_from number (map (write_at bytes) entries)) ≡ kept_from number (map (write_at bytes) entries)
      test true never = absurd (never refl)
      test false _ = refl
  found_behind (x ∷ entries) (suc i) d lt other = found_behind entries i d (omega (arith, lt)) other

  module _ (kept : List KeptWrite) (entries : List Entry) (is : kept ≡ map (write_at bytes) entries) (i : ℕ) (d : Entry) (lt : i < length entries) where
    dropped : (j : ℕ) → drop j kept ≡ map (write_at bytes) (drop j entries)
    dropped j = ap (drop j) is ∙ drop-map (write_at bytes) j entries

    pub found_here : (get_or entries i d).call ≡ number → kept_from number (drop i kept) ≡ drop i kept
    found_here same = rw (dropped i) (found_at entries i d lt same)

    pub found_later : ((get_or entries i d).call ≡ number → ⊥) → kept_from number (drop i kept) ≡ kept_from number (drop (i + 1) kept)
    found_later other =
        let e : i + 1 ≡ suc i = omega arith in
        ap (kept_from number) (dropped i) ∙ found_behind entries i d lt other ∙ ap (kept_from number) (sym (dropped (suc i))) ∙ ap (λ (j : ℕ). kept_from number (drop j kept)) (sym e)

-- an entry, and the write that it stands for
module _ (kept : List KeptWrite) (bytes : List ℕ) (entries : List Entry) (is : kept ≡ map (write_at bytes) entries) (i : ℕ) (entry : Entry) (here : entry ≡ get_or entries i entry) where
  pub write_is : (write : KeptWrite) → IsFirst (drop i kept) write → write_at bytes entry ≡ write
  write_is write first =
      ap (write_at bytes) here ∙ first_is (write_at bytes) entries i entry write (first.0, sym (ap (drop i) is) ∙ first.1)

  pub entry_ends : (n : ℕ) → AllEndWithin n entries → i < length kept → end_of entry ≤ n
  entry_ends n all lt =
      subst (λ (e : Entry). end_of e ≤ n) (sym here) (ends_at n entries i entry (omega (arith, lt, ap length is, length-map entries (write_at bytes))) all)

  pub some_first : i < length kept → IsFirst (drop i kept) (write_at bytes entry)
  some_first lt = (
    map (write_at bytes) (drop (suc i) entries),
    ap (drop i) is ∙ drop-map (write_at bytes) i entries
        ∙ ap (map (write_at bytes)) (drop-cons entries i entry (omega (arith, lt, ap length is, length-map entries (write_at bytes))))
        ∙ ap (λ (e : Entry). write_at bytes e ∷ map (write_at bytes) (drop (suc i) entries)) (sym here),
  )

  -- it has its bytes, in whole words, and its write lies inside n bytes
  pub record Stands (n : ℕ) : Type 0 where
    pub ends : entry.from + 2 * entry.len ≤ length bytes
    pub fits : entry.at + entry.len ≤ n
    pub words : entry.len % 4 ≡ 0

  pub entry_stands : (n m : ℕ) → m ≡ length bytes → AllLieIn n kept → AllEndWithin m entries → i < length kept → Stands n
  entry_stands n m same lie all lt =
      let ends : entry.from + 2 * entry.len ≤ length bytes = omega (arith, same, entry_ends m all lt) in
      let lies : LiesIn n (write_at bytes entry) = first_lies n kept i (write_at bytes entry) (some_first lt) lie in
      let long : length (range bytes (entry.from + entry.len) entry.len) ≡ entry.len = length-range bytes (entry.from + entry.len) entry.len (omega arith) in
      record { ends = ends; fits = omega (arith, long, lies.fits); words = rw long at lies.words }
