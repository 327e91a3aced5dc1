use Rattle.std.proofs.Common.{◌≡◌, ℕ, ◌<◌, Bool, true, false, not, ◌&&◌, List, [], ◌∷◌, refl, ap, ◌∙◌, arith}
use Rattle.std.specs.Prelude.{◌||◌}
use Rattle.view_types.specs.declared.extents.Extent.{Extent}
use Rattle.view_types.specs.Intervals.{is_free, is_within}
use Rattle.view_types.proofs.Intervals.{within_yes, within_above}
use Rattle.extent_alloc.specs.Free.{FreeSpace}
use Rattle.library_tests.proofs.extents.with_gaps.Goals as goal

and_false : (b : Bool) → (b && false) ≡ false
and_false true = refl
and_false false = refl

free_of_all : (es : List Extent) (o : ℕ) → es ≡ record { start = 0; len = 100 } ∷ [] → o < 100 → is_free es o ≡ true
free_of_all es o all lt = ap (λ xs. is_free xs o) all ∙ (λ i. within_yes 0 100 o (omega arith) (omega arith) i || false)

pub carve-requires-clause-free : goal.carve-requires-clause-free
carve-requires-clause-free g c o ge lt =
    free_of_all c.reserve.new.self.extents o (c.reserve.ensures.extents ∙ ap (λ (f : FreeSpace). f.extents) c.in_ok-free.ensures) (omega arith)

pub carve-requires-2-clause-free : goal.carve-requires-2-clause-free
carve-requires-2-clause-free g c o ge lt =
    c.carve.ensures.carved.free_in o
    ∙ (λ i. free_of_all c.reserve.new.self.extents o (c.reserve.ensures.extents ∙ ap (λ (f : FreeSpace). f.extents) c.in_ok-free.ensures) (omega arith) i
    && not (within_above 10 10 o (omega arith) i))

pub returns-clause-first : goal.returns-clause-first
returns-clause-first g c o ge lt =
    c.carve-2.ensures.carved.free_in o
    ∙ (λ i. c.carve.ensures.carved.free_in o i && not (is_within 30 10 o))
    ∙ (λ i. (is_free c.reserve.new.self.extents o && not (within_yes 10 10 o ge lt i)) && not (is_within 30 10 o))
    ∙ (λ i. and_false (is_free c.reserve.new.self.extents o) i && not (is_within 30 10 o))

pub returns-clause-second : goal.returns-clause-second
returns-clause-second g c o ge lt =
    c.carve-2.ensures.carved.free_in o
    ∙ (λ i. is_free c.carve.new.self.extents o && not (within_yes 30 10 o ge lt i))
    ∙ and_false (is_free c.carve.new.self.extents o)
