-- Two lists whose items belong together, place by place.
use Rattle.std.proofs.Common.{◌≡◌, ℕ, zero, suc, ◌+◌, ◌<◌, ◌≤◌, List, [], ◌∷◌, ◌++◌, length, get_or, take, refl, sym, subst, arith}
use Rattle.std.specs.List.{AllZip, Contains}
use Rattle.std.proofs.lemmas.List.{take_more, take_all}

pub zip_push : {A B : Type 0} (R : A → B → Type 0) (xs : List A) (ys : List B) (x : A) (y : B) → AllZip R xs ys → R x y → AllZip R (xs ++ x ∷ []) (ys ++ y ∷ [])
zip_push R [] [] x y all one = (one, tt)
zip_push R [] (v ∷ vs) x y all one = absurd all
zip_push R (u ∷ us) [] x y all one = absurd all
zip_push R (u ∷ us) (v ∷ vs) x y all one = (all.0, zip_push R us vs x y all.1 one)

-- a loop's step
pub zip_more : {A B : Type 0} (R : A → B → Type 0) (xs : List A) (ys : List B) (i : ℕ) (d : A) (y : B) → i < length xs → AllZip R (take i xs) ys → R (get_or xs i d) y → AllZip R (take (i + 1) xs) (ys ++ y ∷ [])
zip_more R xs ys i d y below all one =
    let more = take_more xs i d below in
    rw more (zip_push R (take i xs) ys (get_or xs i d) y all one)

pub zip_all : {A B : Type 0} (R : A → B → Type 0) (xs : List A) (ys : List B) (i : ℕ) → length xs ≤ i → AllZip R (take i xs) ys → AllZip R xs ys
zip_all R xs ys i past all = rw take_all at all

-- the item of the first list that belongs to one of the second
pub zip_at : {A B : Type 0} (R : A → B → Type 0) (xs : List A) (ys : List B) (i : ℕ) (x : A) (y : B) → AllZip R xs ys → i < length ys → R (get_or xs i x) (get_or ys i y)
zip_at R [] [] i x y all below = absurd (omega arith)
zip_at R [] (v ∷ vs) i x y all below = absurd all
zip_at R (u ∷ us) [] i x y all below = absurd all
zip_at R (u ∷ us) (v ∷ vs) zero x y all below = all.0
zip_at R (u ∷ us) (v ∷ vs) (suc i) x y all below = zip_at R us vs i x y all.1 (omega arith)

pub zip_length : {A B : Type 0} (R : A → B → Type 0) (xs : List A) (ys : List B) → AllZip R xs ys → length ys ≡ length xs
zip_length R [] [] all = refl
zip_length R [] (v ∷ vs) all = absurd all
zip_length R (u ∷ us) [] all = absurd all
zip_length R (u ∷ us) (v ∷ vs) all = let rest = zip_length R us vs all.1 in omega (arith, rest)

pub zip_of : {A B : Type 0} (R : A → B → Type 0) (xs : List A) (ys : List B) (x : A) (y : B) → AllZip R xs ys → Contains ys y → (z : A) × R z y
zip_of {A} {B} R xs ys x y all here =
    let at : R (get_or xs here.0 x) (get_or ys here.0 y) = zip_at R xs ys here.0 x y all here.1 in
    let same : get_or ys here.0 y ≡ y = here.2 in
    (get_or xs here.0 x, subst (λ (v : B). R (get_or xs here.0 x) v) same at)
