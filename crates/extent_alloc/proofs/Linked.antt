-- Links that lead to one another, seen from a place between two of them, and what may be changed there.
use Rattle.std.proofs.Common.{◌≡◌, ◌⊎◌, inl, inr, ℕ, ◌+◌, ◌<◌, ◌≤◌, List, [], ◌∷◌, length, Option, None, Some, slice_get, drop, refl, sym, ap, ◌∙◌, subst, arith}
use Rattle.std.specs.Prelude.{MatchOption}
use Rattle.std.proofs.lemmas.Option.{slice_get_within}
use Rattle.view_types.specs.declared.extents.Extent.{Extent}
use Rattle.extent_alloc.specs.declared.pool.Node.{Node}
use Rattle.extent_alloc.specs.declared.pool.Link.{Link}
use Rattle.extent_alloc.specs.declared.chain.Chain.TheInside.{Inside}
use Rattle.extent_alloc.specs.Chains.{links_from, first_at, times, unwind}
use Rattle.extent_alloc.specs.Linked.{AreLinked, links_in, IsDoublyLinked}
use Rattle.extent_alloc.specs.Changes.{after_as, before_as}
use Rattle.extent_alloc.proofs.Chains.{Keeps, links_from-some, times-here, times-later}
use Rattle.extent_alloc.proofs.Unwinding.{Cut, cut_from, first_at-unwind, times-other, times-unwind, times-first}

-- the same, from the last link on
abbrev pub AreLinkedBack : List Node → Option ℕ → List Link → Type 0
AreLinkedBack nodes after [] = Unit {0}
AreLinkedBack nodes after (l ∷ done) =
    (slice_get nodes l.at ≡ Some (record { extent = l.extent; before = first_at done; after = after })) × AreLinkedBack nodes (Some l.at) done

pub record AreLinkedAt (nodes : List Node) (done rest : List Link) : Type 0 where
  pub behind : AreLinkedBack nodes (first_at rest) done
  pub ahead : AreLinked nodes (first_at done) rest

pub linked_at : (nodes : List Node) (done rest : List Link) → AreLinked nodes None (unwind done rest) → AreLinkedAt nodes done rest
linked_at nodes [] rest h = record { behind = tt; ahead = h }
linked_at nodes (l ∷ done) rest h =
    let before : AreLinkedAt nodes done (l ∷ rest) = linked_at nodes done (l ∷ rest) h in
    record { behind = (before.ahead.0, before.behind); ahead = before.ahead.1 }

pub linked : (nodes : List Node) (done rest : List Link) → AreLinkedAt nodes done rest → AreLinked nodes None (unwind done rest)
linked nodes [] rest h = h.ahead
linked nodes (l ∷ done) rest h = linked nodes done (l ∷ rest) (record { behind = h.behind.1; ahead = (h.behind.0, h.ahead) })

pub keeps_later : (old new : List Node) (l : Link) (ls : List Link) → Keeps old new (l ∷ ls) → Keeps old new ls
keeps_later old new l ls keeps k node some e = keeps k node (omega (arith, times-later k l ls)) e

keeps_first : (old new : List Node) (l : Link) (ls : List Link) (node : Node) → Keeps old new (l ∷ ls) → slice_get old l.at ≡ Some node → slice_get new l.at ≡ Some node
keeps_first old new l ls node keeps e = keeps l.at node (omega (arith, times-here l ls)) e

pub linked_keeps : (old new : List Node) (before : Option ℕ) (ls : List Link) → Keeps old new ls → AreLinked old before ls → AreLinked new before ls
linked_keeps old new before [] keeps h = tt
linked_keeps old new before (l ∷ ls) keeps h =
    (keeps_first old new l ls _ keeps h.0, linked_keeps old new (Some l.at) ls (keeps_later old new l ls keeps) h.1)

pub linked_back_keeps : (old new : List Node) (after : Option ℕ) (ls : List Link) → Keeps old new ls → AreLinkedBack old after ls → AreLinkedBack new after ls
linked_back_keeps old new after [] keeps h = tt
linked_back_keeps old new after (l ∷ ls) keeps h =
    (keeps_first old new l ls _ keeps h.0, linked_back_keeps old new (Some l.at) ls (keeps_later old new l ls keeps) h.1)

-- links that lead to one another are what is found from their first on
pub links_from-linked : (nodes : List Node) (before : Option ℕ) (ls : List Link) → AreLinked nodes before ls → links_from nodes (length ls) (first_at ls) ≡ ls
links_from-linked nodes before [] h = refl
links_from-linked nodes before (l ∷ ls) h =
    links_from-some nodes (length ls) l.at _ h.0 ∙ ap (λ rest. l ∷ rest) (links_from-linked nodes (Some l.at) ls h.1)

-- a chain shows these links, and is doubly linked
pub record Becomes (chain : Inside) (ls : List Link) : Type 0 where
  pub linked : IsDoublyLinked chain
  pub links : links_in chain ≡ ls

pub becomes : (chain : Inside) (ls : List Link) → AreLinked chain.pool.nodes None ls → chain.first ≡ first_at ls → chain.len ≡ length ls
    → ((k : ℕ) → k < length chain.pool.nodes → times k ls + times k chain.pool.idle ≡ 1)
    → chain.len + length chain.pool.idle ≡ length chain.pool.nodes → Becomes chain ls
becomes chain ls h first len once all =
    let links : links_in chain ≡ ls = (λ i. links_from chain.pool.nodes (len i) (first i)) ∙ links_from-linked chain.pool.nodes None ls h in
    let is : ls ≡ links_in chain = sym links in
    record {
      linked = record {
        linked = subst (AreLinked chain.pool.nodes None) is h;
        first = first ∙ ap first_at is;
        len = len ∙ ap length is;
        once = λ k lt. ap (λ xs. times k xs + times k chain.pool.idle) (sym is) ∙ once k lt;
        all = all;
      };
      links = links;
    }

pub node_at : (nodes : List Node) (at : ℕ) (e : Extent) (done rest ls : List Link) → AreLinked nodes None ls → ls ≡ unwind done (record { at = at; extent = e } ∷ rest)
    → slice_get nodes at ≡ Some (record { extent = e; before = first_at done; after = first_at rest })
node_at nodes at e done rest ls h is = (linked_at nodes done (record { at = at; extent = e } ∷ rest) (subst (AreLinked nodes None) is h)).ahead.0

-- the index of a link is that of a node, which is not spare
pub record IsInUse (at : ℕ) (nodes : List Node) (idle : List Link) : Type 0 where
  pub within : at < length nodes
  pub in_use : times at idle ≡ 0

pub in_use : (chain : Inside) (at : ℕ) → IsDoublyLinked chain → 0 < times at (links_in chain) → IsInUse at chain.pool.nodes chain.pool.idle
in_use chain at h some =
    let cut : Cut at (links_in chain) = cut_from at [] (links_in chain) some in
    let within : at < length chain.pool.nodes =
    slice_get_within chain.pool.nodes at _ (node_at chain.pool.nodes at cut.extent cut.done cut.rest (links_in chain) h.linked cut.is) in
    record { within = within; in_use = omega (arith, h.once at within) }

-- the links around a place change, and those behind and ahead of them stay
pub behind_changed : (old new : List Node) (was to : Option ℕ) (done : List Link) → AreLinkedBack old was done
    → ((k : ℕ) (node : Node) → first_at done ≡ Some k → slice_get old k ≡ Some node → slice_get new k ≡ Some (after_as to node))
    → Keeps old new (drop 1 done) → AreLinkedBack new to done
behind_changed old new was to [] h change keeps = tt
behind_changed old new was to (l ∷ done) h change keeps =
    (change l.at _ refl h.0, linked_back_keeps old new (Some l.at) done keeps h.1)

pub ahead_changed : (old new : List Node) (was to : Option ℕ) (rest : List Link) → AreLinked old was rest
    → ((k : ℕ) (node : Node) → first_at rest ≡ Some k → slice_get old k ≡ Some node → slice_get new k ≡ Some (before_as to node))
    → Keeps old new (drop 1 rest) → AreLinked new to rest
ahead_changed old new was to [] h change keeps = tt
ahead_changed old new was to (l ∷ rest) h change keeps =
    (change l.at _ refl h.0, linked_keeps old new (Some l.at) rest keeps h.1)

-- the node before a place, and the one after it, are nodes
pub within_behind : (nodes : List Node) (done rest : List Link) → AreLinkedAt nodes done rest → (k : ℕ) → first_at done ≡ Some k → k < length nodes
within_behind nodes [] rest zip k first = absurd cc
within_behind nodes (l ∷ done) rest zip k first =
    let is : l.at ≡ k = cc in
    subst (λ j. j < length nodes) is (slice_get_within nodes l.at _ zip.behind.0)

pub within_ahead : (nodes : List Node) (done rest : List Link) → AreLinkedAt nodes done rest → (k : ℕ) → first_at rest ≡ Some k → k < length nodes
within_ahead nodes done [] zip k first = absurd cc
within_ahead nodes done (l ∷ rest) zip k first =
    let is : l.at ≡ k = cc in
    subst (λ j. j < length nodes) is (slice_get_within nodes l.at _ zip.ahead.0)

-- the first node changes only where the place is at the front
pub first_changed : (before to first first_new : Option ℕ) (done xs ys : List Link) → before ≡ first_at done → to ≡ first_at ys
    → MatchOption before (first_new ≡ to) (λ k. first_new ≡ first) → first ≡ first_at (unwind done xs) → first_new ≡ first_at (unwind done ys)
first_changed before to first first_new [] xs ys front to_is given was =
    let none : first_new ≡ to = subst (λ o. MatchOption o (first_new ≡ to) (λ k. first_new ≡ first)) front given in
    none ∙ to_is
first_changed before to first first_new (l ∷ done) xs ys front to_is given was =
    let some : first_new ≡ first = subst (λ o. MatchOption o (first_new ≡ to) (λ k. first_new ≡ first)) front given in
    some ∙ was ∙ first_at-unwind done (l ∷ xs) (l ∷ ys) refl

-- no link of a chain has an index past the nodes
pub times-outside : (nodes : List Node) (before : Option ℕ) (k : ℕ) (ls : List Link) → length nodes ≤ k → AreLinked nodes before ls → times k ls ≡ 0
times-outside nodes before k [] ge h = refl
times-outside nodes before k (l ∷ ls) ge h =
    let within : l.at < length nodes = slice_get_within nodes l.at _ h.0 in
    times-other k l ls (λ e. absurd (omega arith)) ∙ times-outside nodes (Some l.at) k ls ge h.1

-- the node before a place, and the one after it, are in use
pub in_use_behind : (chain : Inside) (done rest : List Link) → IsDoublyLinked chain → links_in chain ≡ unwind done rest → (k : ℕ) → first_at done ≡ Some k
    → IsInUse k chain.pool.nodes chain.pool.idle
in_use_behind chain done rest h is k first =
    in_use chain k h (omega (arith, ap (times k) is, times-unwind k done rest, times-first k done first))

pub in_use_ahead : (chain : Inside) (done rest : List Link) → IsDoublyLinked chain → links_in chain ≡ unwind done rest → (k : ℕ) → first_at rest ≡ Some k
    → IsInUse k chain.pool.nodes chain.pool.idle
in_use_ahead chain done rest h is k first =
    in_use chain k h (omega (arith, ap (times k) is, times-unwind k done rest, times-first k rest first))

-- where a link stands, the nodes that its node names are in use
pub neighbours_in_use : (chain : Inside) (at : ℕ) (node : Node) → IsDoublyLinked chain → slice_get chain.pool.nodes at ≡ Some node → 0 < times at (links_in chain)
    → (k : ℕ) → (node.before ≡ Some k) ⊎ (node.after ≡ Some k) → IsInUse k chain.pool.nodes chain.pool.idle
neighbours_in_use chain at node h read some k which =
    let cut : Cut at (links_in chain) = cut_from at [] (links_in chain) some in
    let link : Link = record { at = at; extent = cut.extent } in
    let there : slice_get chain.pool.nodes at ≡ Some (record { extent = cut.extent; before = first_at cut.done; after = first_at cut.rest }) =
    node_at chain.pool.nodes at cut.extent cut.done cut.rest (links_in chain) h.linked cut.is in
    let is : node ≡ record { extent = cut.extent; before = first_at cut.done; after = first_at cut.rest } = cc in
    elim which [
      | inl before ↦ in_use_behind chain cut.done (link ∷ cut.rest) h cut.is k (ap (λ (x : Node). x.before) (sym is) ∙ before)
      | inr after ↦ in_use_ahead chain (link ∷ cut.done) cut.rest h cut.is k (ap (λ (x : Node). x.after) (sym is) ∙ after)
    ]
