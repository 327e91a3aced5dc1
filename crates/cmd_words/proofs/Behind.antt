-- The pieces of a text that stand behind some of them.
use Rattle.std.proofs.Common.{◌≡◌, ℕ, zero, suc, ◌+◌, ◌<◌, ◌≤◌, List, [], ◌∷◌, ◌++◌, None, drop, length, take, refl, ap, subst, sym, ◌∙◌, ltb, arith}
use Rattle.std.specs.List.{slice_split}
use Rattle.std.specs.Option.{option_or}
use Rattle.std.proofs.lemmas.List.Splits.{length-slice_split}
use Rattle.std.proofs.lemmas.List.Sums.{count_by-le-length, length-filter}
use Rattle.view_types.specs.declared.key.Key.{Key}
use Rattle.cmd_words.specs.Lines.{first_fault, piece_fault}
use Rattle.cmd_words.specs.Pieces.{is_space, pieces}

-- what follows from the first element behind a place
record IsNext {X : Type 0} (xs : List X) (n : ℕ) (x : X) (ys : List X) : Type 0 where
  pub drops : drop (suc n) xs ≡ ys
  pub takes : take (suc n) xs ≡ take n xs ++ x ∷ []
  pub within : n < length xs

next : {X : Type 0} (xs : List X) (n : ℕ) (x : X) (ys : List X) → x ∷ ys ≡ drop n xs → IsNext xs n x ys
next [] zero x ys is = cc
next [] (suc n) x ys is = cc
next (z ∷ xs) zero x ys is = record { drops = cc; takes = cc; within = omega arith }
next (z ∷ xs) (suc n) x ys is =
    let rest = next xs n x ys is in
    record { drops = rest.drops; takes = ap (λ zs. z ∷ zs) rest.takes; within = let lt = rest.within in omega arith }

-- a text has no more pieces than bytes, and one
pub length-pieces : (text : List ℕ) → length (pieces text) ≤ length text + 1
length-pieces text =
    let kept = length-filter (λ piece. ltb 0 (length piece)) (slice_split is_space text) in
    let some = count_by-le-length (λ piece. ltb 0 (length piece)) (slice_split is_space text) in
    let split = length-slice_split is_space text in
    let spaces = count_by-le-length is_space text in
    omega arith

-- what is left of a text stands behind so many of its pieces, which have no fault
pub record IsBehind (keys : List Key) (text rest : List ℕ) (earlier : ℕ) : Type 0 where
  pub behind : pieces rest ≡ drop earlier (pieces text)
  pub within : earlier ≤ length (pieces text)
  pub fault : first_fault keys [] (pieces text) ≡ first_fault keys (take earlier (pieces text)) (pieces rest)

pub none_behind : (keys : List Key) (text : List ℕ) → IsBehind keys text text 0
none_behind keys text = record { behind = refl; within = omega arith; fault = refl }

module _ (keys : List Key) (text rest : List ℕ) (earlier : ℕ) (here : IsBehind keys text rest earlier) where
  -- the next piece
  after : (piece more : List ℕ) → pieces rest ≡ piece ∷ pieces more → IsNext (pieces text) earlier piece (pieces more)
  after piece more is = next (pieces text) earlier piece (pieces more) (sym is ∙ here.behind)

  pub one_more : (piece more : List ℕ) → pieces rest ≡ piece ∷ pieces more → earlier < length (pieces text)
  one_more piece more is = (after piece more is).within

  -- it has no fault
  pub one_behind : (piece more : List ℕ) → pieces rest ≡ piece ∷ pieces more → None ≡ piece_fault keys (take earlier (pieces text)) piece → IsBehind keys text more (earlier + 1)
  one_behind piece more is sound =
      let then = after piece more is in
      let one : suc earlier ≡ earlier + 1 = omega arith in
      subst (IsBehind keys text more) one (record {
        behind = sym then.drops;
        within = let lt = then.within in omega arith;
        fault = here.fault ∙ ap (first_fault keys (take earlier (pieces text))) is
            ∙ ap (λ fault. option_or fault (first_fault keys (take earlier (pieces text) ++ piece ∷ []) (pieces more))) (sym sound)
            ∙ ap (λ those. first_fault keys those (pieces more)) (sym then.takes);
      })
