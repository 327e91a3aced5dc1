-- One more spare node beside a chain.
use Rattle.std.proofs.Common.{◌≡◌, ◌≢◌, ◌⊎◌, inl, inr, ℕ, ◌+◌, ◌<◌, ◌≤◌, List, length, None, Some, slice_get, drop, sym, ap, ◌∙◌, arith}
use Rattle.std.proofs.lemmas.Bool.{cases_lt}
use Rattle.std.proofs.lemmas.Option.{slice_get_within}
use Rattle.extent_alloc.specs.declared.pool.Link.{Link}
use Rattle.extent_alloc.specs.declared.chain.Chain.TheInside.{Inside}
use Rattle.extent_alloc.specs.Chains.{first_at, times}
use Rattle.extent_alloc.specs.Linked.{links_in, IsDoublyLinked}
use Rattle.extent_alloc.proofs.Chains.{Keeps}
use Rattle.extent_alloc.proofs.Unwinding.{times-first, times-untaken, length-taken}
use Rattle.extent_alloc.proofs.Linked.{linked_keeps, times-outside, Becomes, becomes}

pub grown : (chain new : Inside) → IsDoublyLinked chain → new.first ≡ chain.first → new.len ≡ chain.len
    → times (length chain.pool.nodes) chain.pool.idle ≡ 0 → first_at new.pool.idle ≡ Some (length chain.pool.nodes) → drop 1 new.pool.idle ≡ chain.pool.idle → length new.pool.nodes ≡ length chain.pool.nodes + 1
    → ((k : ℕ) → k < length chain.pool.nodes → slice_get new.pool.nodes k ≡ slice_get chain.pool.nodes k) → Becomes new (links_in chain)
grown chain new h first len fresh given rest size others =
    let n : ℕ = length chain.pool.nodes in
    let ls : List Link = links_in chain in
    let keeps : Keeps chain.pool.nodes new.pool.nodes ls = λ k node some e. others k (slice_get_within chain.pool.nodes k node e) ∙ e in
    becomes new ls (linked_keeps chain.pool.nodes new.pool.nodes None ls keeps h.linked) (first ∙ h.first) (len ∙ h.len)
    (λ k lt. by k (cases_lt k n) lt)
    (omega (arith, len, h.all, size, length-taken n new.pool.idle given, ap length rest))
  where
    by : (k : ℕ) → (k < length chain.pool.nodes) ⊎ (length chain.pool.nodes ≤ k) → k < length new.pool.nodes → times k (links_in chain) + times k new.pool.idle ≡ 1
    by k (inl lt) more =
        let other : length chain.pool.nodes ≢ k = λ e. absurd (omega arith) in
        let apart : times k new.pool.idle ≡ times k (drop 1 new.pool.idle) = times-untaken (length chain.pool.nodes) k new.pool.idle given other in
        omega (arith, apart, ap (times k) rest, h.once k lt)
    by k (inr ge) more =
        let is : length chain.pool.nodes ≡ k = omega arith in
        let none : times k (links_in chain) ≡ 0 = times-outside chain.pool.nodes None k (links_in chain) ge h.linked in
        let spare : times k chain.pool.idle ≡ 0 = ap (λ j. times j chain.pool.idle) (sym is) ∙ fresh in
        omega (arith, none, times-first k new.pool.idle (given ∙ ap Some is), ap (times k) rest, spare)
