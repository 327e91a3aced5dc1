-- A free range taken out of the free extents.
use Rattle.std.proofs.Common.{◌≡◌, ◌⊎◌, inl, inr, ℕ, ◌+◌, ◌-◌, ◌≤◌, ◌<◌, Bool, true, false, not, ◌&&◌, List, [], ◌∷◌, Some, slice_get, refl, sym, ap, ◌∙◌, subst, arith}
use Rattle.std.specs.Prelude.{◌||◌, IfSome, is_some}
use Rattle.std.proofs.lemmas.Bool.{cases_lt}
use Rattle.std.proofs.lemmas.Bool.Decides.{nat_tests}
use Rattle.view_types.specs.declared.extents.Extent.{Extent}
use Rattle.view_types.specs.Intervals.{end_of, is_within, is_free, AllFree, Ascend, AreMaximal, IsInside, without_range}
use Rattle.view_types.proofs.Intervals.{none_below, within_below, within_above, ascend_from, inside_first}
use Rattle.extent_alloc.specs.declared.pool.Link.{Link}
use Rattle.extent_alloc.specs.Chains.{unwind, extents_of}
use Rattle.extent_alloc.specs.declared.cuts.Cut.{Cut}
use Rattle.extent_alloc.specs.Cuts.{EndBy, IsCutAt}
use Rattle.extent_alloc.specs.Free.{kept}
use Rattle.extent_alloc.proofs.Unwinding.{extents_of-unwind}
use Rattle.extent_alloc.proofs.Passing.{ascend_ahead, ends_inside}
use Rattle.extent_alloc.proofs.Placing.{Front, front, kept-empty, kept-some}
use Rattle.extent_alloc.proofs.Replacing.{is_free-unwind, ascend_replaced, free_less}

-- what ends by an offset has no offset from there on
pub passed_below : (s o : ℕ) (done : List Link) → EndBy s done → s ≤ o → is_free (extents_of done) o ≡ false
passed_below s o [] by ge = refl
passed_below s o (l ∷ done) by ge =
    λ i. within_above l.extent.start l.extent.len o (omega (arith, by.0)) i || passed_below s o done by.1 ge i

ascend_kept : (f whole : ℕ) (e : Extent) (es : List Extent) → f ≤ e.start → end_of e ≤ whole → Ascend (end_of e + 1) whole es → Ascend f whole (kept e es)
ascend_kept f whole e es ge le up = elim (cases_lt 0 e.len) [
  | inl some ↦ subst (Ascend f whole) (sym (kept-some e es some)) (ge, some, le, up)
  | inr none ↦ subst (Ascend f whole) (sym (kept-empty e es (omega arith))) (ascend_from f (end_of e + 1) whole es (omega arith) up)
]

pub free_kept : (e : Extent) (es : List Extent) (o : ℕ) → is_free (kept e es) o ≡ (is_within e.start e.len o || is_free es o)
free_kept e es o = elim (cases_lt 0 e.len) [
  | inl some ↦ ap (λ xs. is_free xs o) (kept-some e es some)
  | inr none ↦
      let empty : is_within e.start e.len o ≡ false = nothing e.start e.len o (omega arith) in
      ap (λ xs. is_free xs o) (kept-empty e es (omega arith)) ∙ (λ i. sym empty i || is_free es o)
]
  where
    nothing : (s n o : ℕ) → n ≡ 0 → is_within s n o ≡ false
    nothing s n o none = grind (arith, nat_tests)

parted_bools : (b l s n o : ℕ) → 0 < n → b ≤ s → s + n ≤ b + l
    → (is_within b (s - b) o || (is_within (s + n) ((b + l) - (s + n)) o || false)) ≡ ((is_within b l o || false) && not (is_within s n o))
parted_bools b l s n o some from to = grind (arith, nat_tests)

module _ (e left right : Extent) (s n : ℕ) (some : 0 < n) (inside : IsInside e s n)
    (left_is : left ≡ record { start = e.start; len = s - e.start }) (right_is : right ≡ record { start = s + n; len = end_of e - (s + n) }) where
  pub ascend_pieces : (whole f : ℕ) (es : List Extent) → Ascend f whole (e ∷ es) → Ascend f whole (kept left (kept right es))
  ascend_pieces whole f es up =
      let left_start = ap (λ (x : Extent). x.start) left_is in
      let left_len = ap (λ (x : Extent). x.len) left_is in
      let right_start = ap (λ (x : Extent). x.start) right_is in
      let right_len = ap (λ (x : Extent). x.len) right_is in
      let behind : Ascend (end_of right + 1) whole es = ascend_from (end_of right + 1) (end_of e + 1) whole es (omega (arith, right_start, right_len, inside.ends)) up.3 in
      ascend_kept f whole left (kept right es) (omega (arith, left_start, up.0)) (omega (arith, left_start, left_len, up.2, inside.starts, inside.ends))
      (ascend_kept (end_of left + 1) whole right es (omega (arith, left_start, left_len, right_start, inside.starts)) (omega (arith, right_start, right_len, up.2, inside.ends)) behind)

  parted : (o : ℕ) (later : Bool) → (o < end_of e → later ≡ false)
      → (is_within e.start (s - e.start) o || (is_within (s + n) (end_of e - (s + n)) o || later)) ≡ ((is_within e.start e.len o || later) && not (is_within s n o))
  parted o later none = by (cases_lt o (end_of e)) later none
    where
      by : (o < end_of e) ⊎ (end_of e ≤ o) → (b : Bool) → (o < end_of e → b ≡ false)
          → (is_within e.start (s - e.start) o || (is_within (s + n) (end_of e - (s + n)) o || b)) ≡ ((is_within e.start e.len o || b) && not (is_within s n o))
      by (inl lt) true none = let never : true ≡ false = none lt in absurd cc
      by (inl lt) false none = parted_bools e.start e.len s n o some inside.starts inside.ends
      by (inr ge) b none =
          let a : is_within e.start (s - e.start) o ≡ false = within_above e.start (s - e.start) o (omega (arith, inside.starts, inside.ends)) in
          let c : is_within (s + n) (end_of e - (s + n)) o ≡ false = within_above (s + n) (end_of e - (s + n)) o (omega (arith, inside.ends)) in
          let d : is_within e.start e.len o ≡ false = within_above e.start e.len o ge in
          let w : is_within s n o ≡ false = within_above s n o (omega (arith, inside.ends)) in
          (λ i. a i || (c i || b)) ∙ and_true b ∙ (λ i. (sym d i || b) && not (sym w i))
        where
          and_true : (x : Bool) → x ≡ (x && true)
          and_true true = refl
          and_true false = refl

  pub free_pieces : (whole f o : ℕ) (es : List Extent) → Ascend f whole (e ∷ es) → is_free (kept left (kept right es)) o ≡ (is_free (e ∷ es) o && not (is_within s n o))
  free_pieces whole f o es up =
      free_kept left (kept right es) o
      ∙ (λ i. is_within (left_is i).start (left_is i).len o || free_kept right es o i)
      ∙ (λ i. is_within e.start (s - e.start) o || (is_within (right_is i).start (right_is i).len o || is_free es o))
      ∙ parted o (is_free es o) (λ lt. none_below (end_of e + 1) whole es o up.3 (omega arith))

-- the free extents without a range that lies in one of them
pub carved : (whole : ℕ) (links done rest : List Link) (e left right : Extent) (at s n : ℕ) (new : List Extent) → 0 < n → Ascend 0 whole (extents_of links)
    → links ≡ unwind done (record { at = at; extent = e } ∷ rest) → EndBy s done → IsInside e s n
    → left ≡ record { start = e.start; len = s - e.start } → right ≡ record { start = s + n; len = end_of e - (s + n) }
    → new ≡ unwind (extents_of done) (kept left (kept right (extents_of rest)))
    → AreMaximal whole (without_range (is_free (extents_of links)) s n) new
carved whole links done rest e left right at s n new some up is by inside left_is right_is new_is =
    let link : Link = record { at = at; extent = e } in
    let was : extents_of links ≡ unwind (extents_of done) (e ∷ extents_of rest) = ap extents_of is ∙ extents_of-unwind done (link ∷ rest) in
    let up_was : Ascend 0 whole (unwind (extents_of done) (e ∷ extents_of rest)) = subst (Ascend 0 whole) was up in
    let ahead : Ascend 0 whole (e ∷ extents_of rest) = ascend_ahead 0 whole (extents_of done) (e ∷ extents_of rest) up_was in
    record {
      ascend = subst (Ascend 0 whole) (sym new_is)
          (ascend_replaced 0 whole (extents_of done) (e ∷ extents_of rest) (kept left (kept right (extents_of rest)))
          (λ f u. ascend_pieces e left right s n some inside left_is right_is whole f (extents_of rest) u) up_was);
      free_in = λ o. ap (λ es. is_free es o) new_is
          ∙ free_less o s n (extents_of done) (e ∷ extents_of rest) (kept left (kept right (extents_of rest))) (apart o)
          (free_pieces e left right s n some inside left_is right_is whole 0 o (extents_of rest) ahead)
          ∙ (λ i. is_free (sym was i) o && not (is_within s n o));
    }
  where
    apart : (o : ℕ) → is_free (extents_of done) o ≡ true → is_within s n o ≡ false
    apart o free = elim (cases_lt o s) [
      | inl lt ↦ within_below s n o lt
      | inr ge ↦ let none : is_free (extents_of done) o ≡ false = passed_below s o done by ge in absurd cc
    ]

found_inside : (whole : ℕ) (links done rest : List Link) (l : Link) (s n : ℕ) → 0 < n → Ascend 0 whole (extents_of links) → links ≡ unwind done (l ∷ rest)
    → EndBy s done → s < end_of l.extent → AllFree (is_free (extents_of links)) s n → IsInside l.extent s n
found_inside whole links done rest l s n some up is by lt free =
    let was : extents_of links ≡ unwind (extents_of done) (l.extent ∷ extents_of rest) = ap extents_of is ∙ extents_of-unwind done (l ∷ rest) in
    let ahead : Ascend 0 whole (l.extent ∷ extents_of rest) =
    ascend_ahead 0 whole (extents_of done) (l.extent ∷ extents_of rest) (subst (Ascend 0 whole) was up) in
    inside_first 0 whole l.extent (extents_of rest) s n ahead some
    (λ o ge below. (λ i. sym (passed_below s o done by ge) i || is_free (l.extent ∷ extents_of rest) o)
    ∙ sym (is_free-unwind o (extents_of done) (l.extent ∷ extents_of rest)) ∙ ap (λ es. is_free es o) (sym was) ∙ free o ge below) lt

-- the link whose extent has a free range
pub record IsFound (whole : ℕ) (links : List Link) (s n : ℕ) (l : Link) : Type 0 where
  pub done : List Link
  pub rest : List Link
  pub is : links ≡ unwind done (l ∷ rest)
  pub passed : EndBy s done
  pub inside : IsInside l.extent s n
  pub ends : end_of l.extent ≤ whole

pub found : (whole : ℕ) (links : List Link) (s n : ℕ) (cut : Cut) (l : Link) → 0 < n → Ascend 0 whole (extents_of links) → AllFree (is_free (extents_of links)) s n
    → IsCutAt links s cut → cut.after ≡ Some l → IsFound whole links s n l
found whole links s n cut l some up free at after =
    let there : slice_get at.rest 0 ≡ Some l = sym at.after ∙ after in
    let f : Front l at.rest = front l at.rest there in
    let is : links ≡ unwind at.done (l ∷ f.later) = at.is ∙ ap (unwind at.done) f.is in
    let lt : s < end_of l.extent = subst (λ o. IfSome o (λ (x : Link). s < end_of x.extent)) there at.reached in
    record {
      done = at.done;
      rest = f.later;
      is = is;
      passed = at.passed;
      inside = found_inside whole links at.done f.later l s n some up is at.passed lt free;
      ends = ends_inside whole links at.done f.later l up is;
    }

none_reached : (links done rest : List Link) (s n : ℕ) → 0 < n → links ≡ unwind done rest → EndBy s done → AllFree (is_free (extents_of links)) s n → is_some (slice_get rest 0) ≡ true
none_reached links done [] s n some is by free =
    let here : is_free (extents_of links) s ≡ true = free s (omega arith) (omega arith) in
    let passed : is_free (extents_of done) s ≡ false = passed_below s s done by (omega arith) in
    let was : is_free (extents_of links) s ≡ (is_free (extents_of done) s || false) =
    ap (λ es. is_free es s) (ap extents_of is ∙ extents_of-unwind done []) ∙ is_free-unwind s (extents_of done) [] in
    let never : true ≡ false = sym here ∙ was ∙ (λ i. passed i || false) in absurd cc
none_reached links done (l ∷ rest) s n some is by free = refl

-- where a range is free, an extent is reached
pub some_reached : (links : List Link) (s n : ℕ) (cut : Cut) → 0 < n → AllFree (is_free (extents_of links)) s n → IsCutAt links s cut → is_some cut.after ≡ true
some_reached links s n cut some free at = ap is_some at.after ∙ none_reached links at.done at.rest s n some at.is at.passed free
