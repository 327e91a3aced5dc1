use Rattle.std.proofs.Common.{◌≡◌, ℕ, zero, suc, List, [], ◌∷◌, None, get_or, slice_get, refl, sym, ap, subst}
use Rattle.region_map.specs.declared.platform.Member.{Member}
use Rattle.label_table.specs.Belonging.{no_member}
use Rattle.label_table.proofs.belonging.part_start.Goals as goal

-- past the members there is none
past_members : (members : List Member) (i : ℕ) → slice_get members i ≡ None → get_or members i no_member ≡ no_member
past_members [] i e = refl
past_members (x ∷ xs) zero e = absurd cc
past_members (x ∷ xs) (suc i) e = past_members xs i e

pub returns-in-None : goal.returns-in-None
returns-in-None c =
    let members : List Member = c.args.region.now.members in
    let none : slice_get members c.args.label.now.position ≡ None = subst (λ i. slice_get members i ≡ None) c.from.ensures (sym c.in-None.ensures) in
    ap (λ (m : Member). m.dpa_base) (sym (past_members members c.args.label.now.position none))
