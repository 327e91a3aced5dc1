use Rattle.std.proofs.Common.{◌≡◌, ◌≤◌, ℕ, ◌==◌, take, Some, None, ap, ◌∙◌, tests, rules, arith}
use Rattle.std.specs.Prelude.{nat_lt, unwrap_or, if◌then◌else◌}
use Rattle.std.specs.List.{position_or_len}
use Rattle.std.proofs.lemmas.Iterator.{YieldsList-from_slice}
use Rattle.std.proofs.lemmas.Iterator.Search.{position_from_yields_List}
use Rattle.std.proofs.lemmas.List.Sums.{prefix_len-le-length}
use Rattle.std.proofs.lemmas.Grind.{common_steps}
use Rattle.region_labels.proofs.tallies.before_zero.Goals as goal

unwrap_or-within : (n end : ℕ) → n ≤ end → unwrap_or (if nat_lt n end then Some n else None) end ≡ n
unwrap_or-within n end le = grind (arith, common_steps)

pub returns : goal.returns
returns c =
    let name = c.args.name.now in
    let first = position_from_yields_List (λ byte. byte == 0) _ _ _ c.position.ensures.ran (YieldsList-from_slice name cc) (λ x b q k. search (rules, tests)) in
    let end : c.unwrap_or-end.result ≡ position_or_len (λ byte. byte == 0) name =
    c.unwrap_or-end.ensures ∙ rw (first, ← c.told-name) (unwrap_or-within _ _ (prefix_len-le-length _ name)) in
    ap (λ n. take n name) end
