use Rattle.std.proofs.Common.{[], ◌∷◌, refl, ap, ◌∙◌}
use Rattle.extent_alloc.specs.Chains.{extents_of}
use Rattle.extent_alloc.proofs.gaps.put_first.Goals as goal

pub returns-clause-extents : goal.returns-clause-extents
returns-clause-extents g c = c.insert_after.ensures.extents [] _ refl refl ∙ ap (λ ls. c.args.extent ∷ extents_of ls) c.in_ok-grow.ensures.links
