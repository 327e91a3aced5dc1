-- A walk over structures, step by step.
use Rattle.std.proofs.Common.{◌≡◌, ℕ, ◌+◌, ◌<◌, List, ◌∷◌, length, get_or, drop, refl, sym, ap, ◌∙◌}
use Rattle.std.specs.Prelude.{Option, Some, None}
use Rattle.std.specs.List.{filter_map}
use Rattle.std.proofs.lemmas.List.{drop_more}
use Rattle.nfit_tables.specs.declared.pieces.Piece.{Piece}

module _ (pieces : List Piece) (i : ℕ) (p : Piece) (inside : i < length pieces) (is : p ≡ get_or pieces i p) where
  -- what is left begins with the structure at hand
  pub rest_is : drop i pieces ≡ p ∷ drop (i + 1) pieces
  rest_is = drop_more pieces i p inside ∙ ap (λ (q : Piece). q ∷ drop (i + 1) pieces) (sym is)

  module _ {Y : Type 0} (h : Piece → Option Y) where
    -- what is taken of the rest, where the structure at hand has nothing
    pub mapped_none : h p ≡ None → filter_map h (drop i pieces) ≡ filter_map h (drop (i + 1) pieces)
    mapped_none none = ap (filter_map h) rest_is ∙ rw none refl

    -- and where it has something
    pub mapped_some : (y : Y) → h p ≡ Some y → filter_map h (drop i pieces) ≡ y ∷ filter_map h (drop (i + 1) pieces)
    mapped_some y some = ap (filter_map h) rest_is ∙ rw some refl
