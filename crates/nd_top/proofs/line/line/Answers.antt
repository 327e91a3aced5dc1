use Rattle.std.proofs.Common.{◌≡◌, ℕ, List, [], ◌∷◌, ◌++◌, Bor, IfOk, codes, drop, map, refl, subst, ap, sym, ◌∙◌, rules}
use Rattle.std.specs.List.{flat_map, join_by}
use Rattle.std.specs.String.{string_bytes}
use Rattle.std.proofs.lemmas.Iterator.{YieldsList-from_slice, YieldsList-from_map_by, items_from_drains}
use Rattle.std.proofs.lemmas.Iterator.Adapters.{YieldsList-from_skip}
use Rattle.std.proofs.lemmas.Iterator.Consumers.{YieldsList-at, YieldsList-from_chain}
use Rattle.nd_top.specs.Words.{Word, line_of}
use Rattle.nd_top.proofs.line.line.Goals as goal

flat_map-map : {X Y A : Type 0} (f : Y → List A) (g : X → Y) (xs : List X) → flat_map (λ x. f (g x)) xs ≡ flat_map f (map g xs)
flat_map-map f g [] = refl
flat_map-map f g (x ∷ xs) = ap (λ ys. f (g x) ++ ys) (flat_map-map f g xs)

-- a join is one of the parts alone
join_by-map : {X A : Type 0} (f : X → List A) (sep : List A) (xs : List X) → join_by f sep xs ≡ join_by (λ x. x) sep (map f xs)
join_by-map f sep [] = refl
join_by-map f sep (x ∷ xs) = ap (λ ys. f x ++ ys) (flat_map-map (λ y. sep ++ y) f xs)

line_is : (operands : List Word) (parts : List (Bor (List ℕ))) → map (λ x. x.now) parts ≡ map string_bytes (drop 2 operands) → join_by (λ x. x.now) (codes " ") parts ≡ line_of operands
line_is operands parts are =
    join_by-map (λ x. x.now) (codes " ") parts ∙ ap (join_by (λ x. x) (codes " ")) are ∙ sym (join_by-map string_bytes (codes " ") (drop 2 operands))

pub returns : goal.returns
returns c =
    let front = YieldsList-at c.chain.ensures.first (YieldsList-from_slice c.args.front.now cc) in
    let both = YieldsList-from_chain front (YieldsList-from_slice c.args.back.now c.chain.ensures.second.0) c.chain.ensures.first_done c.chain.ensures.second_done in
    let behind = YieldsList-from_skip 2 (YieldsList-at c.skip.ensures.source both) c.skip.ensures.count in
    let ran = c.in_ok-words.ensures.ran in
    let are : map (λ x. x.now) c.deref.result.now ≡ map string_bytes (drop 2 (c.args.front.now ++ c.args.back.now)) =
    ap (map (λ x. x.now)) (c.deref.ensures.value ∙ ran.2.0)
    ∙ items_from_drains ran.0 ran.1 (YieldsList-from_map_by _ (λ (x : Bor (List ℕ)). x.now) string_bytes (YieldsList-at c.map.ensures.source behind) c.map.ensures.closure (λ x r q k. search rules)) in
    subst (λ (bytes : List ℕ). IfOk c.join.result (λ line. string_bytes line ≡ bytes)) (line_is (c.args.front.now ++ c.args.back.now) _ are) c.join.ensures.ok
