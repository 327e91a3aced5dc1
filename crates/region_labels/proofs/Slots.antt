-- One slot more.
use Rattle.std.proofs.Common.{◌≡◌, ℕ, suc, ◌+◌, ◌-◌, ◌<◌, Bool, true, false, cond, ◌++◌, Option, Some, None, map, refl, sym, ap, ◌∙◌, arith}
use Rattle.std.specs.Option.{option_and_then, option_map, option_map_or, option_to_list}
use Rattle.std.proofs.lemmas.List.{map-append}
use Rattle.label_codec.specs.declared.label.Label.{Label}
use Rattle.label_codec.specs.ModuleLabels.{Labels, count, one}
use Rattle.region_map.specs.declared.platform.Region.{Region}
use Rattle.label_table.specs.Namespaces.{spaces_below}
use Rattle.label_table.specs.Spaces.{Space, space}
use Rattle.region_labels.specs.Marks.{listed_in, namespace_at}

next : (n : ℕ) → n + 1 ≡ suc n
next n = omega arith

module _ (L : Labels) (r : Region) (at : ℕ → Option Label) where
  pub spaces-next : (n : ℕ) → map (listed_in L r) (spaces_below L r at n) ++ option_to_list (option_and_then (λ (l : Label). namespace_at L r l.uuid) (at n)) ≡ map (listed_in L r) (spaces_below L r at (n + 1))
  spaces-next n =
      ap (λ ns. map (listed_in L r) (spaces_below L r at n) ++ ns) (by (at n))
      ∙ sym (map-append (listed_in L r) (spaces_below L r at n) (option_to_list (option_and_then (λ (l : Label). space L r l.uuid) (at n))))
      ∙ ap (λ k. map (listed_in L r) (spaces_below L r at k)) (sym (next n))
    where
      one-space : (o : Option Space) → option_to_list (option_map (listed_in L r) o) ≡ map (listed_in L r) (option_to_list o)
      one-space None = refl
      one-space (Some s) = refl

      by : (o : Option Label) → option_to_list (option_and_then (λ (l : Label). namespace_at L r l.uuid) o) ≡ map (listed_in L r) (option_to_list (option_and_then (λ (l : Label). space L r l.uuid) o))
      by None = refl
      by (Some l) = one-space (space L r l.uuid)

pub count-next : (p : Label → Bool) (at : ℕ → Option Label) (n : ℕ) → count p at (n + 1) ≡ one p (at n) + count p at n
count-next p at n = ap (count p at) (next n)

pub one-is : (p : Label → Bool) (o : Option Label) (b : Bool) → option_map_or p o false ≡ b → one p o ≡ cond b 1 0
one-is p None b e = ap (λ x. cond {A = ℕ} x 1 0) e
one-is p (Some l) b e = ap (λ x. cond {A = ℕ} x 1 0) e

-- what is left after a slot
pub left-kept : (p : Label → Bool) (at : ℕ → Option Label) (n left now slots : ℕ) → option_map_or p (at n) false ≡ true → left + count p at n ≡ slots → now ≡ left - 1 → 0 < left → now + count p at (n + 1) ≡ slots
left-kept p at n left now slots kept before is some =
    let more = count-next p at n in
    let here : one p (at n) ≡ 1 = one-is p (at n) true kept in
    omega arith

pub left-other : (p : Label → Bool) (at : ℕ → Option Label) (n left now slots : ℕ) → option_map_or p (at n) false ≡ false → left + count p at n ≡ slots → now ≡ left → now + count p at (n + 1) ≡ slots
left-other p at n left now slots other before is =
    let more = count-next p at n in
    let here : one p (at n) ≡ 0 = one-is p (at n) false other in
    omega arith
