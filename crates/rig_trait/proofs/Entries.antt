-- The entries of kept calls, and the calls that they stand for.
use Rattle.std.proofs.Common.{sym, subst, append_assoc, length-append, eq-eqb, ◌≡◌, ℕ, zero, suc, ◌+◌, ◌≤◌, ◌<◌, Bool, true, false, List, [], ◌∷◌, ◌++◌, map, length, get_or, take, drop, refl, ap, ◌∙◌, arith}
use Rattle.std.proofs.lemmas.List.{take-append-le, drop-append-le, length-drop, take_at, drop_at, drop-map, length-map, map-append}
use Rattle.std.proofs.lemmas.Bool.Decides.{Decides-eqb}
use Rattle.std.proofs.Math.Seq.{take-length, drop-cons}
use Rattle.std.specs.Prelude.{nat_eq, if◌then◌else◌}
use Rattle.byte_ranges.specs.Ranges.{range}
use Rattle.rig_trait.specs.Crashed.{IsFirst}
use Rattle.rig_trait.specs.InKept.{AllEndWithin, call_at, end_of, entry_number}
use Rattle.rig_trait.specs.Kept.{KeptCall, kept_write, kept_say, kept_from, number_of}
use Rattle.rig_trait.specs.declared.kept_calls.Entry.{Entry}
use Rattle.rig_trait.specs.declared.kept_calls.Entry.TheVariants.{Write, Say}

range-append : (bytes more : List ℕ) (from n : ℕ) → from + n ≤ length bytes → range (bytes ++ more) from n ≡ range bytes from n
range-append bytes more from n fits =
    let inside : from ≤ length bytes = omega arith in
    let short : n ≤ length (drop from bytes) = omega (arith, length-drop from bytes) in
    ap (take n) (drop-append-le from bytes more inside) ∙ take-append-le n (drop from bytes) more short

call_at-append : (bytes more : List ℕ) (entry : Entry) → end_of entry ≤ length bytes → call_at (bytes ++ more) entry ≡ call_at bytes entry
call_at-append bytes more (Write call dimm at from len) ends =
    rw (range-append bytes more from len (omega (arith, ends)), range-append bytes more (from + len) len (omega (arith, ends))) refl
call_at-append bytes more (Say call said from len) ends = rw (range-append bytes more from len ends) refl

-- bytes behind those of all entries
pub calls-append : (bytes more : List ℕ) (entries : List Entry) → AllEndWithin (length bytes) entries → map (call_at (bytes ++ more)) entries ≡ map (call_at bytes) entries
calls-append bytes more [] all = refl
calls-append bytes more (entry ∷ entries) all = λ i. call_at-append bytes more entry all.0 i ∷ calls-append bytes more entries all.1 i

pub AllEndWithin-push : (n m : ℕ) (entries : List Entry) (entry : Entry) → n ≤ m → AllEndWithin n entries → end_of entry ≤ m → AllEndWithin m (entries ++ entry ∷ [])
AllEndWithin-push n m [] entry le all ends = (ends, tt)
AllEndWithin-push n m (x ∷ entries) entry le all ends = (omega (arith, le, all.0), AllEndWithin-push n m entries entry le all.1 ends)

pub ends_at : (n : ℕ) (entries : List Entry) (i : ℕ) (d : Entry) → i < length entries → AllEndWithin n entries → end_of (get_or entries i d) ≤ n
ends_at n [] i d lt all = absurd (omega (arith, lt))
ends_at n (x ∷ entries) zero d lt all = all.0
ends_at n (x ∷ entries) (suc i) d lt all = ends_at n entries i d (omega (arith, lt)) all.1

pub first_is : (f : Entry → KeptCall) (entries : List Entry) (i : ℕ) (d : Entry) (call : KeptCall) → IsFirst (drop i (map f entries)) call → f (get_or entries i d) ≡ call
first_is f [] zero d call first = let none : [] ≡ call ∷ first.0 = first.1 in cc
first_is f [] (suc i) d call first = let none : [] ≡ call ∷ first.0 = first.1 in cc
first_is f (x ∷ entries) zero d call first = let is : f x ∷ map f entries ≡ call ∷ first.0 = first.1 in cc
first_is f (x ∷ entries) (suc i) d call first = first_is f entries i d call first

pub number_at : (bytes : List ℕ) (entry : Entry) → number_of (call_at bytes entry) ≡ entry_number entry
number_at bytes (Write call dimm at from len) = refl
number_at bytes (Say call said from len) = refl

write_at : (bytes old new : List ℕ) (call dimm at : ℕ) → length old ≡ length new
    → call_at ((bytes ++ old) ++ new) (Write call dimm at (length bytes) (length new)) ≡ kept_write call dimm at old new
write_at bytes old new call dimm at same =
    let first : range ((bytes ++ old) ++ new) (length bytes) (length new) ≡ old =
    ap (λ (xs : List ℕ). range xs (length bytes) (length new)) (append_assoc bytes old new)
    ∙ ap (take (length new)) (drop_at bytes (old ++ new) (length bytes) refl)
    ∙ take_at old new (length new) same in
    let long : length (bytes ++ old) ≡ length bytes + length new = omega (arith, length-append bytes old, same) in
    let second : range ((bytes ++ old) ++ new) (length bytes + length new) (length new) ≡ new =
    ap (take (length new)) (drop_at (bytes ++ old) new (length bytes + length new) long) ∙ take-length new in
    λ i. kept_write call dimm at (first i) (second i)

say_at : (bytes text : List ℕ) (call said : ℕ) → call_at (bytes ++ text) (Say call said (length bytes) (length text)) ≡ kept_say call said text
say_at bytes text call said =
    let is : range (bytes ++ text) (length bytes) (length text) ≡ text = ap (take (length text)) (drop_at bytes text (length bytes) refl) ∙ take-length text in
    λ i. kept_say call said (is i)

-- a write more is kept
pub write_kept : (bytes old new : List ℕ) (entries : List Entry) (call dimm at from len : ℕ) → AllEndWithin (length bytes) entries → from ≡ length bytes → len ≡ length new → length old ≡ length new
    → map (call_at ((bytes ++ old) ++ new)) (entries ++ Write call dimm at from len ∷ []) ≡ map (call_at bytes) entries ++ kept_write call dimm at old new ∷ []
write_kept bytes old new entries call dimm at from len all from_is len_is same =
    let f = call_at ((bytes ++ old) ++ new) in
    let earlier : map f entries ≡ map (call_at bytes) entries =
    ap (λ (xs : List ℕ). map (call_at xs) entries) (append_assoc bytes old new) ∙ calls-append bytes (old ++ new) entries all in
    let this : f (Write call dimm at from len) ≡ kept_write call dimm at old new = (λ i. f (Write call dimm at (from_is i) (len_is i))) ∙ write_at bytes old new call dimm at same in
    map-append f entries (Write call dimm at from len ∷ []) ∙ (λ i. earlier i ++ this i ∷ [])

pub say_kept : (bytes text : List ℕ) (entries : List Entry) (call said from len : ℕ) → AllEndWithin (length bytes) entries → from ≡ length bytes → len ≡ length text
    → map (call_at (bytes ++ text)) (entries ++ Say call said from len ∷ []) ≡ map (call_at bytes) entries ++ kept_say call said text ∷ []
say_kept bytes text entries call said from len all from_is len_is =
    let f = call_at (bytes ++ text) in
    let this : f (Say call said from len) ≡ kept_say call said text = (λ i. f (Say call said (from_is i) (len_is i))) ∙ say_at bytes text call said in
    map-append f entries (Say call said from len ∷ []) ∙ (λ i. calls-append bytes text entries all i ++ this i ∷ [])

-- the first entry with a number
module _ (number : ℕ) (bytes : List ℕ) where
  found_at : (entries : List Entry) (i : ℕ) (d : Entry) → i < length entries → entry_number (get_or entries i d) ≡ number
      → kept_from number (map (call_at bytes) (drop i entries)) ≡ map (call_at bytes) (drop i entries)
  found_at [] i d lt is = absurd (omega (arith, lt))
  found_at (x ∷ entries) zero d lt is =
      let yes : nat_eq (number_of (call_at bytes x)) number ≡ true = eq-eqb _ _ (number_at bytes x ∙ is) in
      rw yes refl
  found_at (x ∷ entries) (suc i) d lt is = found_at entries i d (omega (arith, lt)) is

  found_behind : (entries : List Entry) (i : ℕ) (d : Entry) → i < length entries → (entry_number (get_or entries i d) ≡ number → ⊥)
      → kept_from number (map (call_at bytes) (drop i entries)) ≡ kept_from number (map (call_at bytes) (drop (suc i) entries))
  found_behind [] i d lt other = absurd (omega (arith, lt))
  found_behind (x ∷ entries) zero d lt other =
      test (nat_eq (number_of (call_at bytes x)) number) (λ yes. other (sym (number_at bytes x) ∙ (Decides-eqb (number_of (call_at bytes x)) number).0 yes))
    where
      test : (b : Bool) → (b ≡ true → ⊥) → (if b then call_at bytes x ∷ map (call_at bytes) entries else kept_from number (map (call_at bytes) entries)) ≡ kept_from number (map (call_at bytes) entries)
      test true never = absurd (never refl)
      test false _ = refl
  found_behind (x ∷ entries) (suc i) d lt other = found_behind entries i d (omega (arith, lt)) other

  module _ (kept : List KeptCall) (entries : List Entry) (is : kept ≡ map (call_at bytes) entries) (i : ℕ) (d : Entry) (lt : i < length entries) where
    dropped : (j : ℕ) → drop j kept ≡ map (call_at bytes) (drop j entries)
    dropped j = ap (drop j) is ∙ drop-map (call_at bytes) j entries

    pub found_here : entry_number (get_or entries i d) ≡ number → kept_from number (drop i kept) ≡ drop i kept
    found_here same = rw (dropped i) (found_at entries i d lt same)

    pub found_later : (entry_number (get_or entries i d) ≡ number → ⊥) → kept_from number (drop i kept) ≡ kept_from number (drop (i + 1) kept)
    found_later other =
        let e : i + 1 ≡ suc i = omega arith in
        ap (kept_from number) (dropped i) ∙ found_behind entries i d lt other ∙ ap (kept_from number) (sym (dropped (suc i))) ∙ ap (λ (j : ℕ). kept_from number (drop j kept)) (sym e)

-- an entry, and the call that it stands for
module _ (kept : List KeptCall) (bytes : List ℕ) (entries : List Entry) (is : kept ≡ map (call_at bytes) entries) (i : ℕ) (entry this : Entry) (here : entry ≡ get_or entries i entry) (this_is : entry ≡ this) where
  pub call_is : (call : KeptCall) → IsFirst (drop i kept) call → call_at bytes this ≡ call
  call_is call first =
      ap (call_at bytes) (sym this_is ∙ here) ∙ first_is (call_at bytes) entries i entry call (first.0, sym (ap (drop i) is) ∙ first.1)

  pub entry_ends : (n : ℕ) → AllEndWithin n entries → i < length kept → end_of this ≤ n
  entry_ends n all lt =
      subst (λ (e : Entry). end_of e ≤ n) (sym (sym this_is ∙ here)) (ends_at n entries i entry (omega (arith, lt, ap length is, length-map entries (call_at bytes))) all)

  pub some_first : i < length kept → IsFirst (drop i kept) (call_at bytes this)
  some_first lt = (
    map (call_at bytes) (drop (suc i) entries),
    ap (drop i) is ∙ drop-map (call_at bytes) i entries
        ∙ ap (map (call_at bytes)) (drop-cons entries i entry (omega (arith, lt, ap length is, length-map entries (call_at bytes))))
        ∙ ap (λ (e : Entry). call_at bytes e ∷ map (call_at bytes) (drop (suc i) entries)) (sym here ∙ this_is),
  )
