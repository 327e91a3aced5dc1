-- Lists to which one part after the other is appended.
use Rattle.std.proofs.Common.{◌≡◌, ℕ, List, ◌++◌, ap, ◌∙◌, append_assoc}

-- two parts
pub and_then : (a x y : List ℕ) {b c : List ℕ} → b ≡ a ++ x → c ≡ b ++ y → c ≡ a ++ (x ++ y)
and_then a x y first second = second ∙ ap (λ (front : List ℕ). front ++ y) first ∙ append_assoc a x y

-- eight parts
pub eight : (a x1 x2 x3 x4 x5 x6 x7 x8 : List ℕ) {b1 b2 b3 b4 b5 b6 b7 b8 : List ℕ}
    → b1 ≡ a ++ x1 → b2 ≡ b1 ++ x2 → b3 ≡ b2 ++ x3 → b4 ≡ b3 ++ x4 → b5 ≡ b4 ++ x5 → b6 ≡ b5 ++ x6 → b7 ≡ b6 ++ x7 → b8 ≡ b7 ++ x8
    → b8 ≡ a ++ (x1 ++ x2 ++ x3 ++ x4 ++ x5 ++ x6 ++ x7 ++ x8)
eight a x1 x2 x3 x4 x5 x6 x7 x8 e1 e2 e3 e4 e5 e6 e7 e8 =
    and_then a (x1 ++ x2 ++ x3 ++ x4 ++ x5 ++ x6 ++ x7) x8
    (and_then a (x1 ++ x2 ++ x3 ++ x4 ++ x5 ++ x6) x7
    (and_then a (x1 ++ x2 ++ x3 ++ x4 ++ x5) x6
    (and_then a (x1 ++ x2 ++ x3 ++ x4) x5
    (and_then a (x1 ++ x2 ++ x3) x4
    (and_then a (x1 ++ x2) x3
    (and_then a x1 x2 e1 e2) e3) e4) e5) e6) e7) e8
