use Rattle.std.proofs.Common.{sym, ◌∙◌}
use Rattle.region_map.proofs.Usable.{members_fit}
use Rattle.region_map.proofs.regions.region.Goals as goal

pub cookie12-cookie-requires-clause-some : goal.cookie12-cookie-requires-clause-some
cookie12-cookie-requires-clause-some c = rw c.deref-in-None-2.ensures.value
    (members_fit c.args.parts.now c.args.controls.now c.args.range.now c.in_ok-named.named.items c.in_ok-members-in-None.members.items
    (rw c.deref.ensures.value at (sym c.first_rule-rule.ensures ∙ c.in-None.is)) (rw c.deref-in-None.ensures.value at c.in_ok-members-in-None.ensures).same).0

pub cookie12-cookie-requires-clause-few : goal.cookie12-cookie-requires-clause-few
cookie12-cookie-requires-clause-few c = rw c.deref-in-None-2.ensures.value
    (members_fit c.args.parts.now c.args.controls.now c.args.range.now c.in_ok-named.named.items c.in_ok-members-in-None.members.items
    (rw c.deref.ensures.value at (sym c.first_rule-rule.ensures ∙ c.in-None.is)) (rw c.deref-in-None.ensures.value at c.in_ok-members-in-None.ensures).same).1
