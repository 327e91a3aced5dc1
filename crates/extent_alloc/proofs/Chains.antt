-- A chain through nodes stays where its own nodes stay.
use Rattle.std.proofs.Common.{◌≡◌, ◌≢◌, ℕ, zero, suc, ◌+◌, ◌<◌, ◌≤◌, true, false, cond, List, [], ◌∷◌, ◌++◌, length, Option, None, Some, slice_get, slice_set, refl, sym, ap, ◌∙◌, subst, arith}
use Rattle.std.specs.Prelude.{◌==◌}
use Rattle.std.specs.Option.{option_map, unwrap_or}
use Rattle.std.proofs.lemmas.Bool.Decides.{nat_tests}
use Rattle.std.proofs.lemmas.Option.{slice_get_within}
use Rattle.extent_alloc.specs.declared.pool.Node.{Node}
use Rattle.extent_alloc.specs.declared.pool.Link.{Link}
use Rattle.extent_alloc.specs.Chains.{links_from, times}

pub slice_get-set_same : {X : Type 0} (xs : List X) (i : ℕ) (x : X) → i < length xs → slice_get (slice_set xs i x) i ≡ Some x
slice_get-set_same [] i x lt = absurd (omega arith)
slice_get-set_same (y ∷ xs) zero x lt = refl
slice_get-set_same (y ∷ xs) (suc i) x lt = slice_get-set_same xs i x (omega arith)

pub slice_get-set_other : {X : Type 0} (xs : List X) (i k : ℕ) (x : X) → k ≢ i → slice_get (slice_set xs i x) k ≡ slice_get xs k
slice_get-set_other [] i k x other = refl
slice_get-set_other (y ∷ xs) zero zero x other = absurd (other refl)
slice_get-set_other (y ∷ xs) zero (suc k) x other = refl
slice_get-set_other (y ∷ xs) (suc i) zero x other = refl
slice_get-set_other (y ∷ xs) (suc i) (suc k) x other = slice_get-set_other xs i k x (λ e. other (ap suc e))

pub slice_get-append : {X : Type 0} (xs ys : List X) (k : ℕ) → k < length xs → slice_get (xs ++ ys) k ≡ slice_get xs k
slice_get-append [] ys k lt = absurd (omega arith)
slice_get-append (x ∷ xs) ys zero lt = refl
slice_get-append (x ∷ xs) ys (suc k) lt = slice_get-append xs ys k (omega arith)

pub slice_get-last : {X : Type 0} (xs : List X) (x : X) → slice_get (xs ++ x ∷ []) (length xs) ≡ Some x
slice_get-last [] x = refl
slice_get-last (y ∷ xs) x = slice_get-last xs x

pub links_from-some : (nodes : List Node) (n at : ℕ) (node : Node) → slice_get nodes at ≡ Some node
    → links_from nodes (suc n) (Some at) ≡ record { at = at; extent = node.extent } ∷ links_from nodes n node.after
links_from-some nodes n at node e i =
    unwrap_or (option_map (λ (x : Node). record { at = at; extent = x.extent } ∷ links_from nodes n x.after) (e i)) []

links_from-none : (nodes : List Node) (n at : ℕ) → slice_get nodes at ≡ None → links_from nodes (suc n) (Some at) ≡ []
links_from-none nodes n at e i =
    unwrap_or (option_map (λ (x : Node). record { at = at; extent = x.extent } ∷ links_from nodes n x.after) (e i)) []

same_number : (k : ℕ) → (k == k) ≡ true
same_number k = grind (arith, nat_tests)

pub times-here : (l : Link) (ls : List Link) → times l.at (l ∷ ls) ≡ 1 + times l.at ls
times-here l ls i = cond {A = ℕ} (same_number l.at i) 1 0 + times l.at ls

pub times-later : (k : ℕ) (l : Link) (ls : List Link) → times k ls ≤ times k (l ∷ ls)
times-later k l ls = omega arith

times-apart : (k : ℕ) (l : Link) (ls : List Link) → l.at < k → times k (l ∷ ls) ≡ times k ls
times-apart k l ls lt =
    let other : (l.at == k) ≡ false = grind (arith, nat_tests) in
    (λ i. cond {A = ℕ} (other i) 1 0 + times k ls) ∙ omega arith

beyond_step : (nodes : List Node) (n k at : ℕ) → length nodes ≤ k → ((next : Option ℕ) → times k (links_from nodes n next) ≡ 0)
    → (o : Option Node) → slice_get nodes at ≡ o → times k (links_from nodes (suc n) (Some at)) ≡ 0
beyond_step nodes n k at past below None e = ap (times k) (links_from-none nodes n at e)
beyond_step nodes n k at past below (Some node) e =
    let within : at < length nodes = slice_get_within nodes at node e in
    ap (times k) (links_from-some nodes n at node e) ∙ times-apart k (record { at = at; extent = node.extent }) (links_from nodes n node.after) (omega arith) ∙ below node.after

-- no index past the nodes is in a chain
pub times-beyond : (nodes : List Node) (n : ℕ) (next : Option ℕ) (k : ℕ) → length nodes ≤ k → times k (links_from nodes n next) ≡ 0
times-beyond nodes zero next k past = refl
times-beyond nodes (suc n) None k past = refl
times-beyond nodes (suc n) (Some at) k past = beyond_step nodes n k at past (λ next. times-beyond nodes n next k past) (slice_get nodes at) refl

-- what every node of a chain keeps
abbrev pub Keeps : List Node → List Node → List Link → Type 0
Keeps old new ls = (k : ℕ) (node : Node) → 0 < times k ls → slice_get old k ≡ Some node → slice_get new k ≡ Some node

same_step : (old new : List Node) (n at : ℕ)
    → ((next : Option ℕ) → length (links_from old n next) ≡ n → Keeps old new (links_from old n next) → links_from new n next ≡ links_from old n next)
    → length (links_from old (suc n) (Some at)) ≡ suc n → Keeps old new (links_from old (suc n) (Some at))
    → (o : Option Node) → slice_get old at ≡ o → links_from new (suc n) (Some at) ≡ links_from old (suc n) (Some at)
same_step old new n at below whole keeps None e =
    let none : length (links_from old (suc n) (Some at)) ≡ 0 = ap length (links_from-none old n at e) in
    absurd (omega arith)
same_step old new n at below whole keeps (Some node) e =
    let was : links_from old (suc n) (Some at) ≡ record { at = at; extent = node.extent } ∷ links_from old n node.after = links_from-some old n at node e in
    let len : length (links_from old (suc n) (Some at)) ≡ suc (length (links_from old n node.after)) = ap length was in
    let link : Link = record { at = at; extent = node.extent } in
    let here : (k : ℕ) → times k (links_from old (suc n) (Some at)) ≡ times k (link ∷ links_from old n node.after) = λ k. ap (times k) was in
    let first : 0 < times at (links_from old (suc n) (Some at)) = omega (arith, here at, times-here link (links_from old n node.after)) in
    let is : links_from new (suc n) (Some at) ≡ record { at = at; extent = node.extent } ∷ links_from new n node.after = links_from-some new n at node (keeps at node first e) in
    let rest : links_from new n node.after ≡ links_from old n node.after =
    below node.after (omega arith) (λ k x more. keeps k x (omega (arith, here k, times-later k link (links_from old n node.after)))) in
    is ∙ ap (λ ls. link ∷ ls) rest ∙ sym was

pub links_from-keeps : (old new : List Node) (n : ℕ) (next : Option ℕ) → length (links_from old n next) ≡ n → Keeps old new (links_from old n next)
    → links_from new n next ≡ links_from old n next
links_from-keeps old new zero next whole keeps = refl
links_from-keeps old new (suc n) None whole keeps = refl
links_from-keeps old new (suc n) (Some at) whole keeps =
    same_step old new n at (λ next. links_from-keeps old new n next) whole keeps (slice_get old at) refl

-- a node that is in no link of a chain may be written
pub keeps_set : (nodes : List Node) (at : ℕ) (node : Node) (ls : List Link) → times at ls ≡ 0 → Keeps nodes (slice_set nodes at node) ls
keeps_set nodes at node ls none k x some e =
    slice_get-set_other nodes at k node (λ same. let no : times k ls ≡ 0 = subst (λ j. times j ls ≡ 0) (sym same) none in absurd (omega arith)) ∙ e

-- a node that leads to a chain begins a longer one
pub links_from-before : (old new : List Node) (n at : ℕ) (next : Option ℕ) (node : Node) → slice_get new at ≡ Some node → node.after ≡ next
    → links_from new n next ≡ links_from old n next → links_from new (n + 1) (Some at) ≡ record { at = at; extent = node.extent } ∷ links_from old n next
links_from-before old new n at next node e after same =
    let link : Link = record { at = at; extent = node.extent } in
    let one : n + 1 ≡ suc n = omega arith in
    (λ i. links_from new (one i) (Some at)) ∙ links_from-some new n at node e ∙ (λ i. link ∷ links_from new n (after i)) ∙ ap (λ ls. link ∷ ls) same

pub keeps_append : (nodes : List Node) (node : Node) (ls : List Link) → Keeps nodes (nodes ++ node ∷ []) ls
keeps_append nodes node ls k x some e = slice_get-append nodes (node ∷ []) k (slice_get_within nodes k x e) ∙ e

pub links_from-given : (nodes : List Node) (n at : ℕ) (next : Option ℕ) (node : Node) → at < length nodes → length (links_from nodes n next) ≡ n
    → times at (links_from nodes n next) ≡ 0 → node.after ≡ next
    → links_from (slice_set nodes at node) (n + 1) (Some at) ≡ record { at = at; extent = node.extent } ∷ links_from nodes n next
links_from-given nodes n at next node lt whole none after =
    links_from-before nodes (slice_set nodes at node) n at next node (slice_get-set_same nodes at node lt) after
    (links_from-keeps nodes (slice_set nodes at node) n next whole (keeps_set nodes at node _ none))

pub links_from-added : (nodes : List Node) (n : ℕ) (next : Option ℕ) (node : Node) → length (links_from nodes n next) ≡ n → node.after ≡ next
    → links_from (nodes ++ node ∷ []) (n + 1) (Some (length nodes)) ≡ record { at = length nodes; extent = node.extent } ∷ links_from nodes n next
links_from-added nodes n next node whole after =
    links_from-before nodes (nodes ++ node ∷ []) n (length nodes) next node (slice_get-last nodes node) after
    (links_from-keeps nodes (nodes ++ node ∷ []) n next whole (keeps_append nodes node _))
