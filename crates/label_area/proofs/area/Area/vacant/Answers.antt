use Rattle.std.proofs.Common.{◌≡◌, ℕ, ◌+◌, ◌/◌, ◌%◌, min, true, List, [], length, get_or, replicate, Option, Some, IsSome, None, sym, ap, subst, ◌∙◌, arith}
use Rattle.std.proofs.lemmas.List.{length-replicate}
use Rattle.index_block.specs.Bitmap.{is_free_in}
use Rattle.index_block.specs.Geometry.{bitmap_len, geometry_of}
use Rattle.index_block.proofs.Behind.{is_free_in-ones}
use Rattle.label_codec.specs.declared.label.Label.{Label}
use Rattle.label_area.proofs.Sound.{sound}
use Rattle.label_area.proofs.VacantShown.{vacant-area}
use Rattle.label_area.proofs.area.Area.vacant.Goals as goal

rounded : (n : ℕ) → n / 8 + min 1 (n % 8) ≡ bitmap_len n
rounded n = omega arith

no-label : (labels : List (Option Label)) → labels ≡ [] → (slot : ℕ) → get_or labels slot None ≡ None
no-label labels none slot = ap (λ (ls : List (Option Label)). get_or ls slot None) none

some-none : {A : Type 0} (o : Option Label) → o ≡ None → IsSome o → A
some-none None e some = absurd cc
some-none (Some l) e some = absurd cc

pub invariant_of-result : goal.invariant_of-result
invariant_of-result c =
    let n = c.in-Some.geometry.slots in
    let ones = c.in_ok-free.ensures.items_if_clones_equal (λ y h. h) in
    record {
      geometry = c.in-Some.ensures.geometry;
      label = c.in-Some.ensures.label;
      seq = omega arith;
      bits = ap (λ (bs : List ℕ). length bs) ones ∙ length-replicate _ 255 ∙ c.div_ceil.ensures ∙ rounded n;
      room = c.in_ok-labels.ensures.capacity;
      in_use = λ slot some. some-none _ (no-label c.in_ok-labels.labels.items c.in_ok-labels.ensures.items slot) some;
    }

pub returns-clause-vacant : goal.returns-clause-vacant
returns-clause-vacant c =
    let g = c.in-Some.geometry in
    let ones : c.in_ok-free.free.items ≡ replicate (bitmap_len g.slots) 255 = c.in_ok-free.ensures.items_if_clones_equal (λ y h. h) ∙ ap (λ n. replicate n 255) (c.div_ceil.ensures ∙ rounded g.slots) in
    let found : geometry_of c.args.size 256 ≡ Some g = sym c.in-Some.ensures.exact in
    vacant-area c.args.dimm c.args.size g found c.in-Some.ensures.fits c.in_ok-free.free.items c.in_ok-labels.labels.items
    (λ slot below. subst (λ (bits : List ℕ). is_free_in bits slot ≡ true) (sym ones) (is_free_in-ones (bitmap_len g.slots) slot (omega arith)))
    (no-label c.in_ok-labels.labels.items c.in_ok-labels.ensures.items)

pub returns-clause-sound : goal.returns-clause-sound
returns-clause-sound c = sound _ (invariant_of-result c)
