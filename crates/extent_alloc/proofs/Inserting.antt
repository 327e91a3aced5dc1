-- A link into a chain, between two of its links.
use Rattle.std.proofs.Common.{◌≡◌, ◌≢◌, ℕ, ◌+◌, ◌<◌, List, [], ◌∷◌, length, Option, None, Some, slice_get, slice_set, drop, refl, sym, ap, ◌∙◌, subst, arith}
use Rattle.std.specs.Prelude.{MatchOption, IfSome}
use Rattle.std.proofs.lemmas.List.{length-set}
use Rattle.view_types.specs.declared.extents.Extent.{Extent}
use Rattle.extent_alloc.specs.declared.pool.Node.{Node}
use Rattle.extent_alloc.specs.declared.pool.Link.{Link}
use Rattle.extent_alloc.specs.declared.chain.Chain.TheInside.{Inside}
use Rattle.extent_alloc.specs.Chains.{first_at, times, unwind}
use Rattle.extent_alloc.specs.Changes.{ChangesAt, after_as, before_as}
use Rattle.extent_alloc.specs.Linked.{AreLinked, links_in, IsDoublyLinked}
use Rattle.extent_alloc.proofs.Chains.{Keeps, slice_get-set_same, slice_get-set_other}
use Rattle.extent_alloc.proofs.Changes.{keeps_trans, keeps_change, keeps_others}
use Rattle.extent_alloc.proofs.Unwinding.{length-unwind, times-unwind, times-first, times-taken, times-drop, length-taken}
use Rattle.extent_alloc.proofs.Linked.{AreLinkedAt, linked_at, linked, behind_changed, ahead_changed, first_changed, within_behind, within_ahead, node_at, Becomes, becomes}

-- the node that `replace_after` gives is the one after a place
pub after_is : (chain : Inside) (before after : Option ℕ) (done rest : List Link) → IsDoublyLinked chain → links_in chain ≡ unwind done rest → before ≡ first_at done
    → MatchOption before (after ≡ chain.first) (λ at. IfSome (slice_get chain.pool.nodes at) (λ node. after ≡ node.after)) → after ≡ first_at rest
after_is chain before after [] rest h is front given =
    let none : after ≡ chain.first = subst (λ o. MatchOption o (after ≡ chain.first) (λ at. IfSome (slice_get chain.pool.nodes at) (λ node. after ≡ node.after))) front given in
    none ∙ h.first ∙ ap first_at is
after_is chain before after (p ∷ done) rest h is front given =
    let some : IfSome (slice_get chain.pool.nodes p.at) (λ node. after ≡ node.after) =
    subst (λ o. MatchOption o (after ≡ chain.first) (λ at. IfSome (slice_get chain.pool.nodes at) (λ node. after ≡ node.after))) front given in
    subst (λ o. IfSome o (λ (node : Node). after ≡ node.after)) (node_at chain.pool.nodes p.at p.extent done rest (links_in chain) h.linked is) some

pub inserted : (chain new : Inside) (at : ℕ) (before after : Option ℕ) (to : Extent) (led set : List Node) → IsDoublyLinked chain
    → at < length chain.pool.nodes → first_at chain.pool.idle ≡ Some at → new.pool.idle ≡ drop 1 chain.pool.idle
    → ChangesAt before (after_as (Some at)) chain.pool.nodes led
    → MatchOption before (new.first ≡ Some at) (λ k. new.first ≡ chain.first)
    → MatchOption before (after ≡ chain.first) (λ k. IfSome (slice_get chain.pool.nodes k) (λ node. after ≡ node.after))
    → set ≡ slice_set led at (record { extent = to; before = before; after = after })
    → ChangesAt after (before_as (Some at)) set new.pool.nodes
    → new.len ≡ chain.len + 1
    → (done rest : List Link) → links_in chain ≡ unwind done rest → before ≡ first_at done
    → Becomes new (unwind done (record { at = at; extent = to } ∷ rest))
inserted chain new at before after to led set h within taken idle leads first replaced sets leads_back len done rest is front =
    let nodes : List Node = chain.pool.nodes in
    let last : List Node = new.pool.nodes in
    let link : Link = record { at = at; extent = to } in
    let node : Node = record { extent = to; before = before; after = after } in
    let next : after ≡ first_at rest = after_is chain before after done rest h is front replaced in
    let zip : AreLinkedAt nodes done rest = linked_at nodes done rest (subst (AreLinked nodes None) is h.linked) in
    let sum : (k : ℕ) → k < length nodes → times k done + times k rest + times k chain.pool.idle ≡ 1 =
    λ k lt. omega (arith, h.once k lt, ap (times k) is, times-unwind k done rest) in
    let spare : times at chain.pool.idle ≡ 1 + times at (drop 1 chain.pool.idle) = times-first at chain.pool.idle taken in
    let at_done : times at done ≡ 0 = omega (arith, sum at within) in
    let at_rest : times at rest ≡ 0 = omega (arith, sum at within) in
    let behind : (k : ℕ) → first_at done ≡ Some k → (times k (drop 1 done) ≡ 0) × (times k rest ≡ 0) = λ k e.
    let total = sum k (within_behind nodes done rest zip k e) in
    let first_one = times-first k done e in
    (omega (arith, total, first_one), omega (arith, total, first_one)) in
    let ahead : (k : ℕ) → first_at rest ≡ Some k → (times k (drop 1 rest) ≡ 0) × (times k done ≡ 0) = λ k e.
    let total = sum k (within_ahead nodes done rest zip k e) in
    let first_one = times-first k rest e in
    (omega (arith, total, first_one), omega (arith, total, first_one)) in
    let not_behind : (k : ℕ) → first_at done ≡ Some k → k ≢ at = λ k e same.
    absurd (omega (arith, times-first k done e, ap (λ j. times j done) same, at_done)) in
    let not_ahead : (k : ℕ) → first_at rest ≡ Some k → k ≢ at = λ k e same.
    absurd (omega (arith, times-first k rest e, ap (λ j. times j rest) same, at_rest)) in
    let after_apart : (k : ℕ) → first_at done ≡ Some k → after ≢ Some k = λ k e was.
    absurd (omega (arith, times-first k rest (sym next ∙ was), (behind k e).1)) in
    let before_apart : (k : ℕ) → first_at rest ≡ Some k → before ≢ Some k = λ k e was.
    absurd (omega (arith, times-first k done (sym front ∙ was), (ahead k e).1)) in
    let to_set : (k : ℕ) → k ≢ at → slice_get set k ≡ slice_get led k = λ k other.
    ap (λ ns. slice_get ns k) sets ∙ slice_get-set_other led at k node other in
    let change_behind : (k : ℕ) (x : Node) → first_at done ≡ Some k → slice_get nodes k ≡ Some x → slice_get last k ≡ Some (after_as (Some at) x) = λ k x e there.
    leads_back.others k (after_apart k e) ∙ to_set k (not_behind k e) ∙ leads.changed k x (front ∙ e) there in
    let change_ahead : (k : ℕ) (x : Node) → first_at rest ≡ Some k → slice_get nodes k ≡ Some x → slice_get last k ≡ Some (before_as (Some at) x) = λ k x e there.
    leads_back.changed k x (next ∙ e) (to_set k (not_ahead k e) ∙ leads.others k (before_apart k e) ∙ there) in
    let keeps : (ls : List Link) → ((k : ℕ) → first_at done ≡ Some k → times k ls ≡ 0) → ((k : ℕ) → first_at rest ≡ Some k → times k ls ≡ 0) → times at ls ≡ 0 → Keeps nodes last ls =
    λ ls none_behind none_ahead none.
    keeps_trans nodes led last ls (keeps_change before (after_as (Some at)) nodes led ls leads (λ k e. none_behind k (sym front ∙ e)))
    (keeps_trans led set last ls (keeps_others at led set ls to_set none)
    (keeps_change after (before_as (Some at)) set last ls leads_back (λ k e. none_ahead k (sym next ∙ e)))) in
    let keeps_behind : Keeps nodes last (drop 1 done) =
    keeps (drop 1 done) (λ k e. (behind k e).0) (λ k e. omega (arith, (ahead k e).1, times-drop k done)) (omega (arith, at_done, times-drop at done)) in
    let keeps_ahead : Keeps nodes last (drop 1 rest) =
    keeps (drop 1 rest) (λ k e. omega (arith, (behind k e).1, times-drop k rest)) (λ k e. (ahead k e).0) (omega (arith, at_rest, times-drop at rest)) in
    let here : slice_get last at ≡ Some (record { extent = to; before = first_at done; after = first_at rest }) =
    leads_back.others at (λ e. absurd (omega (arith, times-first at rest (sym next ∙ e), at_rest)))
    ∙ ap (λ ns. slice_get ns at) sets
    ∙ slice_get-set_same led at node (omega (arith, within, leads.len))
    ∙ (λ i. Some (record { extent = to; before = front i; after = next i })) in
    let zip_new : AreLinkedAt last done (link ∷ rest) = record {
      behind = behind_changed nodes last (first_at rest) (Some at) done zip.behind change_behind keeps_behind;
      ahead = (here, ahead_changed nodes last (first_at done) (Some at) rest zip.ahead change_ahead keeps_ahead);
    } in
    let size : length last ≡ length nodes = leads_back.len ∙ ap length sets ∙ length-set led at node ∙ leads.len in
    becomes new (unwind done (link ∷ rest)) (linked last done (link ∷ rest) zip_new)
    (first_changed before (Some at) chain.first new.first done rest (link ∷ rest) front refl first (h.first ∙ ap first_at is))
    (omega (arith, len, h.len, ap length is, length-unwind done rest, length-unwind done (link ∷ rest)))
    (λ k lt. omega (arith, sum k (omega (arith, lt, size)), times-unwind k done (link ∷ rest), times-taken at k chain.pool.idle taken, ap (times k) idle))
    (omega (arith, len, h.all, size, length-taken at chain.pool.idle taken, ap length idle))
