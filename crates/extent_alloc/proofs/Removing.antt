-- A link out of a chain, whose node is spare then.
use Rattle.std.proofs.Common.{◌≡◌, ◌≢◌, ℕ, ◌+◌, ◌<◌, List, ◌∷◌, length, None, Some, slice_get, drop, sym, ap, ◌∙◌, subst, arith}
use Rattle.std.specs.Prelude.{MatchOption}
use Rattle.std.proofs.lemmas.Option.{slice_get_within}
use Rattle.view_types.specs.declared.extents.Extent.{Extent}
use Rattle.extent_alloc.specs.declared.pool.Node.{Node}
use Rattle.extent_alloc.specs.declared.pool.Link.{Link}
use Rattle.extent_alloc.specs.declared.chain.Chain.TheInside.{Inside}
use Rattle.extent_alloc.specs.Chains.{first_at, times, unwind}
use Rattle.extent_alloc.specs.Changes.{ChangesAt, after_as, before_as}
use Rattle.extent_alloc.specs.Linked.{AreLinked, links_in, IsDoublyLinked}
use Rattle.extent_alloc.proofs.Chains.{Keeps, times-here, times-later}
use Rattle.extent_alloc.proofs.Changes.{keeps_trans, keeps_change, keeps_others}
use Rattle.extent_alloc.proofs.Unwinding.{length-unwind, times-unwind, times-first, times-taken, times-drop, length-taken}
use Rattle.extent_alloc.proofs.Linked.{AreLinkedAt, linked_at, linked, behind_changed, ahead_changed, first_changed, within_behind, within_ahead, node_at, Becomes, becomes}

pub removed : (chain new : Inside) (at : ℕ) (node : Node) (led back : List Node) → IsDoublyLinked chain → slice_get chain.pool.nodes at ≡ Some node
    → ChangesAt node.before (after_as node.after) chain.pool.nodes led
    → MatchOption node.before (new.first ≡ node.after) (λ k. new.first ≡ chain.first)
    → ChangesAt node.after (before_as node.before) led back
    → ((k : ℕ) → k ≢ at → slice_get new.pool.nodes k ≡ slice_get back k) → length new.pool.nodes ≡ length back
    → first_at new.pool.idle ≡ Some at → drop 1 new.pool.idle ≡ chain.pool.idle → new.len + 1 ≡ chain.len
    → (done rest : List Link) (e : Extent) → links_in chain ≡ unwind done (record { at = at; extent = e } ∷ rest) → Becomes new (unwind done rest)
removed chain new at node led back h read leads first leads_back others same_len given idle len done rest e is =
    let nodes : List Node = chain.pool.nodes in
    let last : List Node = new.pool.nodes in
    let link : Link = record { at = at; extent = e } in
    let node_is : node ≡ record { extent = e; before = first_at done; after = first_at rest } =
    let there : slice_get nodes at ≡ Some (record { extent = e; before = first_at done; after = first_at rest }) = node_at nodes at e done rest (links_in chain) h.linked is in cc in
    let front : node.before ≡ first_at done = ap (λ (x : Node). x.before) node_is in
    let next : node.after ≡ first_at rest = ap (λ (x : Node). x.after) node_is in
    let within : at < length nodes = slice_get_within nodes at node read in
    let zip : AreLinkedAt nodes done (link ∷ rest) = linked_at nodes done (link ∷ rest) (subst (AreLinked nodes None) is h.linked) in
    let zip_next : AreLinkedAt nodes (link ∷ done) rest = linked_at nodes (link ∷ done) rest (subst (AreLinked nodes None) is h.linked) in
    let sum : (k : ℕ) → k < length nodes → times k done + times k (link ∷ rest) + times k chain.pool.idle ≡ 1 =
    λ k lt. omega (arith, h.once k lt, ap (times k) is, times-unwind k done (link ∷ rest)) in
    let at_done : times at done ≡ 0 = omega (arith, sum at within, times-here link rest) in
    let at_rest : times at rest ≡ 0 = omega (arith, sum at within, times-here link rest) in
    let behind : (k : ℕ) → first_at done ≡ Some k → (times k (drop 1 done) ≡ 0) × (times k rest ≡ 0) = λ k f.
    let total = sum k (within_behind nodes done (link ∷ rest) zip k f) in
    let first_one = times-first k done f in
    (omega (arith, total, first_one), omega (arith, total, first_one, times-later k link rest)) in
    let ahead : (k : ℕ) → first_at rest ≡ Some k → (times k (drop 1 rest) ≡ 0) × (times k done ≡ 0) = λ k f.
    let total = sum k (within_ahead nodes (link ∷ done) rest zip_next k f) in
    let first_one = times-first k rest f in
    (omega (arith, total, first_one, times-later k link rest), omega (arith, total, first_one, times-later k link rest)) in
    let not_behind : (k : ℕ) → first_at done ≡ Some k → k ≢ at = λ k f same.
    absurd (omega (arith, times-first k done f, ap (λ j. times j done) same, at_done)) in
    let not_ahead : (k : ℕ) → first_at rest ≡ Some k → k ≢ at = λ k f same.
    absurd (omega (arith, times-first k rest f, ap (λ j. times j rest) same, at_rest)) in
    let after_apart : (k : ℕ) → first_at done ≡ Some k → node.after ≢ Some k = λ k f was.
    absurd (omega (arith, times-first k rest (sym next ∙ was), (behind k f).1)) in
    let before_apart : (k : ℕ) → first_at rest ≡ Some k → node.before ≢ Some k = λ k f was.
    absurd (omega (arith, times-first k done (sym front ∙ was), (ahead k f).1)) in
    let change_behind : (k : ℕ) (x : Node) → first_at done ≡ Some k → slice_get nodes k ≡ Some x → slice_get last k ≡ Some (after_as (first_at rest) x) = λ k x f there.
    others k (not_behind k f) ∙ leads_back.others k (after_apart k f) ∙ leads.changed k x (front ∙ f) there ∙ (λ i. Some (after_as (next i) x)) in
    let change_ahead : (k : ℕ) (x : Node) → first_at rest ≡ Some k → slice_get nodes k ≡ Some x → slice_get last k ≡ Some (before_as (first_at done) x) = λ k x f there.
    others k (not_ahead k f) ∙ leads_back.changed k x (next ∙ f) (leads.others k (before_apart k f) ∙ there) ∙ (λ i. Some (before_as (front i) x)) in
    let keeps : (ls : List Link) → ((k : ℕ) → first_at done ≡ Some k → times k ls ≡ 0) → ((k : ℕ) → first_at rest ≡ Some k → times k ls ≡ 0) → times at ls ≡ 0 → Keeps nodes last ls =
    λ ls none_behind none_ahead none.
    keeps_trans nodes led last ls (keeps_change node.before (after_as node.after) nodes led ls leads (λ k f. none_behind k (sym front ∙ f)))
    (keeps_trans led back last ls (keeps_change node.after (before_as node.before) led back ls leads_back (λ k f. none_ahead k (sym next ∙ f)))
    (keeps_others at back last ls others none)) in
    let keeps_behind : Keeps nodes last (drop 1 done) =
    keeps (drop 1 done) (λ k f. (behind k f).0) (λ k f. omega (arith, (ahead k f).1, times-drop k done)) (omega (arith, at_done, times-drop at done)) in
    let keeps_ahead : Keeps nodes last (drop 1 rest) =
    keeps (drop 1 rest) (λ k f. omega (arith, (behind k f).1, times-drop k rest)) (λ k f. (ahead k f).0) (omega (arith, at_rest, times-drop at rest)) in
    let zip_new : AreLinkedAt last done rest = record {
      behind = behind_changed nodes last (Some at) (first_at rest) done zip.behind change_behind keeps_behind;
      ahead = ahead_changed nodes last (Some at) (first_at done) rest zip_next.ahead change_ahead keeps_ahead;
    } in
    let size : length last ≡ length nodes = same_len ∙ leads_back.len ∙ leads.len in
    becomes new (unwind done rest) (linked last done rest zip_new)
    (first_changed node.before node.after chain.first new.first done (link ∷ rest) rest front next first (h.first ∙ ap first_at is))
    (omega (arith, len, h.len, ap length is, length-unwind done rest, length-unwind done (link ∷ rest)))
    (λ k lt. omega (arith, sum k (omega (arith, lt, size)), times-unwind k done rest, times-taken at k new.pool.idle given, ap (times k) idle))
    (omega (arith, len, h.all, size, length-taken at new.pool.idle given, ap length idle))
