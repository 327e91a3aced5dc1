-- Free extents behind which some of the list is replaced.
use Rattle.std.proofs.Common.{◌≡◌, ℕ, ◌+◌, Bool, true, false, not, ◌&&◌, List, [], ◌∷◌, refl, sym, ap, ◌∙◌}
use Rattle.std.specs.Prelude.{◌||◌}
use Rattle.view_types.specs.declared.extents.Extent.{Extent}
use Rattle.view_types.specs.Intervals.{end_of, is_within, is_free, Ascend}
use Rattle.extent_alloc.specs.Chains.{unwind}

pub or_assoc : (a b c : Bool) → ((a || b) || c) ≡ (a || (b || c))
or_assoc true b c = refl
or_assoc false b c = refl

or_comm : (a b : Bool) → (a || b) ≡ (b || a)
or_comm true true = refl
or_comm true false = refl
or_comm false true = refl
or_comm false false = refl

-- what is free of a list that is cut in two
pub is_free-unwind : (o : ℕ) (done rest : List Extent) → is_free (unwind done rest) o ≡ (is_free done o || is_free rest o)
is_free-unwind o [] rest = refl
is_free-unwind o (d ∷ done) rest =
    is_free-unwind o done (d ∷ rest)
    ∙ sym (or_assoc (is_free done o) (is_within d.start d.len o) (is_free rest o))
    ∙ ap (λ b. b || is_free rest o) (or_comm (is_free done o) (is_within d.start d.len o))

-- a list may be replaced by one that ascends from wherever it does
pub ascend_replaced : (from whole : ℕ) (done xs ys : List Extent) → ((f : ℕ) → Ascend f whole xs → Ascend f whole ys) → Ascend from whole (unwind done xs) → Ascend from whole (unwind done ys)
ascend_replaced from whole [] xs ys to up = to from up
ascend_replaced from whole (d ∷ done) xs ys to up =
    ascend_replaced from whole done (d ∷ xs) (d ∷ ys) (λ f u. (u.0, u.1, u.2, to (end_of d + 1) u.3)) up

and_or : (a b w : Bool) → (a ≡ true → w ≡ false) → (a || (b && not w)) ≡ ((a || b) && not w)
and_or true b true h = let never : true ≡ false = h refl in absurd cc
and_or true b false h = refl
and_or false b w h = refl

-- a range is taken out of the list ahead, or put into it
pub free_less : (o s n : ℕ) (done xs ys : List Extent) → (is_free done o ≡ true → is_within s n o ≡ false) → is_free ys o ≡ (is_free xs o && not (is_within s n o))
    → is_free (unwind done ys) o ≡ (is_free (unwind done xs) o && not (is_within s n o))
free_less o s n done xs ys apart less =
    is_free-unwind o done ys ∙ ap (λ b. is_free done o || b) less ∙ and_or (is_free done o) (is_free xs o) (is_within s n o) apart
    ∙ ap (λ b. b && not (is_within s n o)) (sym (is_free-unwind o done xs))

pub free_more : (o s n : ℕ) (done xs ys : List Extent) → is_free ys o ≡ (is_free xs o || is_within s n o)
    → is_free (unwind done ys) o ≡ (is_free (unwind done xs) o || is_within s n o)
free_more o s n done xs ys more =
    is_free-unwind o done ys ∙ ap (λ b. is_free done o || b) more ∙ sym (or_assoc (is_free done o) (is_free xs o) (is_within s n o))
    ∙ ap (λ b. b || is_within s n o) (sym (is_free-unwind o done xs))
