use Rattle.std.proofs.Common.{suc, List, Some, drop, sym, subst, ◌∙◌}
use Rattle.rig_trait.specs.Kept.{KeptCall}
use Rattle.rig_trait.specs.Shows.{ShowsFirst}
use Rattle.rig_trait.proofs.Lying.{call_there}
use Rattle.rig_trait.proofs.kept_calls.KeptCalls.kept.Goals as goal

pub returns-in-Some : goal.returns-in-Some
returns-in-Some c =
    let kept = c.args.self.now.kept in
    let there = call_there kept c.in-Some.i c.in-Some.ensures.inside in
    subst (λ (l : List KeptCall). ShowsFirst l (Some c.show.result)) (sym there.1 ∙ c.in-Some.ensures.found) (c.show.ensures there.0 (drop (suc c.in-Some.i) kept, there.1))
