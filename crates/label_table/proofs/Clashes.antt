-- Which namespaces overlap: no two do exactly where no two neighbours do.
use Rattle.std.proofs.Common.{◌≡◌, ◌⊎◌, inl, inr, ⊎_elim, ℕ, ◌+◌, ◌≤◌, ◌<◌, Bool, true, false, cond, List, [], ◌∷◌, Some, None, refl, sym, ap, subst, ◌∙◌, arith}
use Rattle.std.specs.Prelude.{◌==◌, nat_lt, count_by}
use Rattle.std.specs.Cmp.Lexicographic.{slice_cmp}
use Rattle.std.specs.List.{Contains}
use Rattle.std.specs.Ordering.{is_lt, nat_cmp, ordering_then}
use Rattle.std.specs.declared.cmp.Ordering.TheVariants.{Less, Equal, Greater}
use Rattle.std.proofs.lemmas.Bool.{and_from, and_parts, cases_lt}
use Rattle.std.proofs.lemmas.List.Sums.{sum_by-cons}
use Rattle.view_types.specs.Intervals.{is_within}
use Rattle.label_codec.specs.ModuleLabels.{Labels}
use Rattle.region_map.specs.declared.platform.Region.{Region}
use Rattle.label_table.specs.Division.{has_offset, namespaces_over}
use Rattle.label_table.specs.Namespaces.{first_clash, first_clash_from, insert_space, namespaces, overlaps, space_cmp, without_uuid}
use Rattle.label_table.specs.Spaces.{Space}
use Rattle.label_table.proofs.ListTests.{Contains-cases, Contains-here, Contains-none, Contains-there, both, eq_other, le_from, le_true, lt_from, lt_not, lt_true, never}
use Rattle.label_table.proofs.Listed.{namespaces-from, space-not_empty, without_uuid-cases}
use Rattle.label_table.proofs.Order.{Ascends, Before, before-asym, insert_space-cases}

end_of : Space → ℕ
end_of s = s.offset + s.length

-- where two ranges meet, and where they don't
pub record Meet (s t : Space) : Type 0 where
  pub starts : s.offset < t.offset + t.length
  pub ends : t.offset < s.offset + s.length

pub overlaps-meet : (s t : Space) → overlaps s t ≡ true → Meet s t
overlaps-meet s t e = let p = and_parts _ _ e in record { starts = lt_true _ _ p.0; ends = lt_true _ _ p.1 }

pub overlaps-not : (s t : Space) → (Meet s t → ⊥) → overlaps s t ≡ false
overlaps-not s t apart = elim (both (overlaps s t)) [
  | inl e ↦ absurd (apart (overlaps-meet s t e))
  | inr n ↦ n
]

pub meet-overlaps : (s t : Space) → overlaps s t ≡ false → Meet s t → ⊥
meet-overlaps s t n m = never (overlaps s t) (and_from _ _ (lt_from _ _ m.starts) (lt_from _ _ m.ends)) n

before-offset : (s t : Space) → Before s t → s.offset ≤ t.offset
before-offset s t b = elim (cases_lt t.offset s.offset) [
  | inr le ↦ le
  | inl lt ↦ absurd (let f : nat_lt s.offset t.offset ≡ false = lt_not s.offset t.offset (omega arith) in let d : (s.offset == t.offset) ≡ false = eq_other s.offset t.offset (λ e. omega arith) in
      let g : is_lt (space_cmp s t) ≡ false = (λ i. is_lt (ordering_then (cond (f i) Less (cond (d i) Equal Greater)) (slice_cmp nat_cmp s.uuid t.uuid))) in never (is_lt (space_cmp s t)) b g)
]

-- none of them is empty
abbrev pub NoneEmpty : List Space → Type 0
NoneEmpty xs = (t : Space) → Contains xs t → 0 < t.length

-- no two of them overlap
abbrev pub NoneOverlap : List Space → Type 0
NoneOverlap xs = (s t : Space) → Contains xs s → Contains xs t → Before s t → overlaps s t ≡ false

-- Where no neighbours overlap each ends before the later ones begin,
ends-before : (s : Space) (ss : List Space) → Ascends (s ∷ ss) → NoneEmpty (s ∷ ss) → first_clash_from s ss ≡ None → (t : Space) → Contains ss t → s.offset + s.length ≤ t.offset
ends-before s [] a some calm t c = Contains-none t c
ends-before s (n ∷ ns) a some calm t c = by (overlaps s n) refl calm (Contains-cases n ns t c) (λ rest there. ends-before n ns a.1 (λ y in_y. some y (Contains-there s (n ∷ ns) y in_y)) rest t there)
  where
    by : (b : Bool) → overlaps s n ≡ b → cond b (Some (s.uuid, n.uuid)) (first_clash_from n ns) ≡ None → (t ≡ n) ⊎ Contains ns t → (first_clash_from n ns ≡ None → Contains ns t → n.offset + n.length ≤ t.offset) → s.offset + s.length ≤ t.offset
    by true e f at rest = absurd cc
    by false e f at rest =
        let n_some : 0 < n.length = some n (Contains-there s (n ∷ ns) n (Contains-here n ns)) in
        let low : s.offset ≤ n.offset = before-offset s n (a.0 n (Contains-here n ns)) in
        let n_after : s.offset + s.length ≤ n.offset = elim (cases_lt n.offset (s.offset + s.length)) [
          | inr le ↦ le
          | inl lt ↦ absurd (meet-overlaps s n e (record { starts = omega arith; ends = lt }))
        ] in
        ⊎_elim (λ is. let o : t.offset ≡ n.offset = ap (λ (y : Space). y.offset) is in omega arith) (λ there. let l : n.offset + n.length ≤ t.offset = rest f there in omega arith) at

-- so that no two overlap.
pub first_clash-none : (xs : List Space) → Ascends xs → NoneEmpty xs → first_clash xs ≡ None → NoneOverlap xs
first_clash-none [] a some calm s t s_in t_in before = Contains-none s s_in
first_clash-none (x ∷ xs) a some calm s t s_in t_in before = by (Contains-cases x xs s s_in) (Contains-cases x xs t t_in) (λ in_s in_t. first_clash-none xs a.1 (λ y in_y. some y (Contains-there x xs y in_y)) (tail xs calm) s t in_s in_t before)
  where
    tail : (ys : List Space) → first_clash_from x ys ≡ None → first_clash ys ≡ None
    tail [] e = refl
    tail (y ∷ ys) e = from (overlaps x y) e
      where
        from : (b : Bool) → cond b (Some (x.uuid, y.uuid)) (first_clash_from y ys) ≡ None → first_clash_from y ys ≡ None
        from true f = absurd cc
        from false f = f

    by : (s ≡ x) ⊎ Contains xs s → (t ≡ x) ⊎ Contains xs t → (Contains xs s → Contains xs t → overlaps s t ≡ false) → overlaps s t ≡ false
    by (inl s_is) (inl t_is) rest = before-asym s t before (subst (λ y. Before t y) (t_is ∙ sym s_is) (subst (λ y. Before y t) (s_is ∙ sym t_is) before))
    by (inl s_is) (inr t_there) rest = subst (λ y. overlaps y t ≡ false) (sym s_is) (overlaps-not x t (λ m.
        let after : x.offset + x.length ≤ t.offset = ends-before x xs a some calm t t_there in let e = m.ends in omega arith))
    by (inr s_there) (inl t_is) rest = before-asym s t before (subst (λ y. Before y s) (sym t_is) (a.0 s s_there))
    by (inr s_there) (inr t_there) rest = rest s_there t_there

pub first_clash-from_none : (xs : List Space) → Ascends xs → NoneOverlap xs → first_clash xs ≡ None
first_clash-from_none [] a none = refl
first_clash-from_none (x ∷ xs) a none = from x xs a none
  where
    from : (x : Space) (xs : List Space) → Ascends (x ∷ xs) → NoneOverlap (x ∷ xs) → first_clash_from x xs ≡ None
    from x [] a none = refl
    from x (y ∷ ys) a none =
        let n : overlaps x y ≡ false = none x y (Contains-here x (y ∷ ys)) (Contains-there x (y ∷ ys) y (Contains-here y ys)) (a.0 y (Contains-here y ys)) in
        let rest : first_clash_from y ys ≡ None = from y ys a.1 (λ s t s_in t_in. none s t (Contains-there x (y ∷ ys) s s_in) (Contains-there x (y ∷ ys) t t_in)) in
        (λ i. cond (n i) (Some (x.uuid, y.uuid)) (first_clash_from y ys)) ∙ rest

-- What a list without overlaps keeps when a namespace leaves it, or comes to it without meeting another.
pub none_overlap-without : (u : List ℕ) (xs : List Space) → NoneOverlap xs → NoneOverlap (without_uuid u xs)
none_overlap-without u xs none s t s_in t_in before = none s t (without_uuid-cases u xs s s_in).0 (without_uuid-cases u xs t t_in).0 before

pub none_overlap-insert : (new : Space) (xs : List Space) → NoneOverlap xs → ((t : Space) → Contains xs t → Meet new t → ⊥) → NoneOverlap (insert_space new xs)
none_overlap-insert new xs none misses s t s_in t_in before = by (insert_space-cases new xs s s_in) (insert_space-cases new xs t t_in)
  where
    by : (s ≡ new) ⊎ Contains xs s → (t ≡ new) ⊎ Contains xs t → overlaps s t ≡ false
    by (inl s_is) (inl t_is) = before-asym s t before (subst (λ y. Before t y) (t_is ∙ sym s_is) (subst (λ y. Before y t) (s_is ∙ sym t_is) before))
    by (inl s_is) (inr t_there) = subst (λ y. overlaps y t ≡ false) (sym s_is) (overlaps-not new t (misses t t_there))
    by (inr s_there) (inl t_is) = subst (λ y. overlaps s y ≡ false) (sym t_is) (overlaps-not s new (λ m. misses s s_there (record { starts = m.ends; ends = m.starts })))
    by (inr s_there) (inr t_there) = none s t s_there t_there before

-- Which namespaces have an offset.
within-is : (start len o : ℕ) → is_within start len o ≡ true → (start ≤ o) × (o < start + len)
within-is start len o e = let p = and_parts _ _ e in (le_true _ _ p.0, lt_true _ _ p.1)

pub has_offset-from : (o : ℕ) (s : Space) → s.offset ≤ o → o < s.offset + s.length → has_offset o s ≡ true
has_offset-from o s low high = and_from _ _ (le_from _ _ low) (lt_from _ _ high)

pub has_offset-is : (o : ℕ) (s : Space) → has_offset o s ≡ true → (s.offset ≤ o) × (o < s.offset + s.length)
has_offset-is o s e = within-is s.offset s.length o e

-- nobody has it where the count is 0
pub count_by-zero : (p : Space → Bool) (xs : List Space) → count_by p xs ≡ 0 → (t : Space) → Contains xs t → p t ≡ false
count_by-zero p xs z t c = elim (both (p t)) [
  | inr n ↦ n
  | inl e ↦ let le : 1 ≤ count_by p xs = at xs c e in absurd (omega arith)
]
  where
    at : (ys : List Space) → Contains ys t → p t ≡ true → 1 ≤ count_by p ys
    at [] there e = Contains-none t there
    at (y ∷ ys) there e = ⊎_elim
        (λ is. let here : p y ≡ true = ap p (sym is) ∙ e in let one_y : cond {A = ℕ} (p y) 1 0 ≡ 1 = (λ i. cond {A = ℕ} (here i) 1 0) in let cons : count_by p (y ∷ ys) ≡ cond (p y) 1 0 + count_by p ys = sum_by-cons (λ x. cond (p x) 1 0) y ys in omega arith)
        (λ later. let rest : 1 ≤ count_by p ys = at ys later e in let cons : count_by p (y ∷ ys) ≡ cond (p y) 1 0 + count_by p ys = sum_by-cons (λ x. cond (p x) 1 0) y ys in omega arith)
        (Contains-cases y ys t there)

-- where no two overlap, at most one has an offset
pub count_by-one : (o : ℕ) (xs : List Space) → Ascends xs → NoneOverlap xs → count_by (has_offset o) xs ≤ 1
count_by-one o [] a none = omega arith
count_by-one o (x ∷ xs) a none = by (both (has_offset o x)) (count_by-one o xs a.1 (λ s t s_in t_in. none s t (Contains-there x xs s s_in) (Contains-there x xs t t_in)))
  where
    cons : count_by (has_offset o) (x ∷ xs) ≡ cond (has_offset o x) 1 0 + count_by (has_offset o) xs
    cons = sum_by-cons (λ y. cond (has_offset o y) 1 0) x xs

    others : has_offset o x ≡ true → (ys : List Space) → ((t : Space) → Contains ys t → Contains xs t) → count_by (has_offset o) ys ≡ 0
    others here [] sub = refl
    others here (y ∷ ys) sub =
        let y_in : Contains xs y = sub y (Contains-here y ys) in
        let n : has_offset o y ≡ false = elim (both (has_offset o y)) [
          | inr f ↦ f
          | inl t ↦
              let a_x = has_offset-is o x here in
              let a_y = has_offset-is o y t in
              absurd (meet-overlaps x y (none x y (Contains-here x xs) (Contains-there x xs y y_in) (a.0 y y_in)) (record { starts = omega (arith, a_x.0, a_y.1); ends = omega (arith, a_x.1, a_y.0) }))
        ] in
        let rest : count_by (has_offset o) ys ≡ 0 = others here ys (λ t c. sub t (Contains-there y ys t c)) in
        sum_by-cons (λ z. cond (has_offset o z) 1 0) y ys ∙ (λ i. cond {A = ℕ} (n i) 1 0 + rest i)

    by : (has_offset o x ≡ true) ⊎ (has_offset o x ≡ false) → count_by (has_offset o) xs ≤ 1 → count_by (has_offset o) (x ∷ xs) ≤ 1
    by (inl t) rest = let z : count_by (has_offset o) xs ≡ 0 = others t xs (λ y c. c) in let c : count_by (has_offset o) (x ∷ xs) ≡ 1 = cons ∙ (λ i. cond {A = ℕ} (t i) 1 0 + z i) in omega arith
    by (inr n) rest = let c : count_by (has_offset o) (x ∷ xs) ≡ 0 + count_by (has_offset o) xs = cons ∙ (λ i. cond {A = ℕ} (n i) 1 0 + count_by (has_offset o) xs) in omega arith

-- no namespace of a region is empty
pub none_empty : (L : Labels) (r : Region) → NoneEmpty (namespaces L r)
none_empty L r t c = space-not_empty L r t.uuid t (namespaces-from L r t c)

-- A range of which no offset is a namespace's meets no namespace.
pub free-misses : (L : Labels) (r : Region) (new : Space) → 0 < new.length → ((o : ℕ) → new.offset ≤ o → o < new.offset + new.length → namespaces_over L r o ≡ 0)
    → (t : Space) → Contains (namespaces L r) t → Meet new t → ⊥
free-misses L r new some free t c m = by (cases_lt new.offset t.offset)
  where
    t_some : 0 < t.length
    t_some = none_empty L r t c

    at : (o : ℕ) → new.offset ≤ o → o < new.offset + new.length → t.offset ≤ o → o < t.offset + t.length → ⊥
    at o a b d e = never (has_offset o t) (has_offset-from o t d e) (count_by-zero (has_offset o) (namespaces L r) (free o a b) t c)

    by : (new.offset < t.offset) ⊎ (t.offset ≤ new.offset) → ⊥
    by (inl lt) = let s = m.ends in let n = t_some in at t.offset (omega arith) s (omega arith) (omega arith)
    by (inr le) = let s = m.starts in let n = some in at new.offset (omega arith) (omega arith) le s
