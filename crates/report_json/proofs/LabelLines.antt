-- The lines of the labels so far, and of one slot more.
use Rattle.std.proofs.Common.{◌≡◌, ℕ, ◌+◌, List, [], ◌∷◌, ◌++◌, length, map, Option, Some, None, refl, sym, ap, ◌∙◌, arith, length-append}
use Rattle.std.specs.List.{cons_option, filter_map, flat_map, range_with_len}
use Rattle.std.proofs.lemmas.List.{append-nil}
use Rattle.std.proofs.lemmas.List.Concat.{flat_map-append}
use Rattle.std.proofs.lemmas.List.Elements.{filter_map-append}
use Rattle.std.proofs.lemmas.List.FromFn.{map-range_with_len_more}
use Rattle.label_codec.specs.declared.label.Label.{Label}
use Rattle.report_json.specs.Listing.{label_line}

-- the live labels of the first slots
abbrev pub live_front : (ℕ → Option Label) → ℕ → List Label
live_front at n = filter_map (λ label. label) (map at (range_with_len 0 n))

-- those of labels that are told slot by slot
pub filter_map-map : (at : ℕ → Option Label) (slots : List ℕ) → filter_map (λ label. label) (map at slots) ≡ filter_map at slots
filter_map-map at [] = refl
filter_map-map at (slot ∷ slots) = ap (cons_option (at slot)) (filter_map-map at slots)

module _ (at : ℕ → Option Label) (n : ℕ) where
  front-more : live_front at (n + 1) ≡ live_front at n ++ filter_map (λ label. label) (at n ∷ [])
  front-more = ap (filter_map (λ label. label)) (map-range_with_len_more at 0 n n (omega arith)) ∙ filter_map-append (λ label. label) (map at (range_with_len 0 n)) (at n ∷ [])

  -- a live label comes last
  front-some : (label : Label) → at n ≡ Some label → live_front at (n + 1) ≡ live_front at n ++ label ∷ []
  front-some label some = front-more ∙ ap (λ (l : Option Label). live_front at n ++ filter_map (λ l. l) (l ∷ [])) some

  -- and a slot without one adds none
  front-none : at n ≡ None → live_front at (n + 1) ≡ live_front at n
  front-none none = front-more ∙ ap (λ (l : Option Label). live_front at n ++ filter_map (λ l. l) (l ∷ [])) none ∙ append-nil (live_front at n)

  pub lines-some : (label : Label) (text now : List ℕ) → at n ≡ Some label → text ≡ flat_map label_line (live_front at n) → now ≡ text ++ label_line label
      → now ≡ flat_map label_line (live_front at (n + 1))
  lines-some label text now some so_far with_line =
      with_line
      ∙ ap (λ (t : List ℕ). t ++ label_line label) so_far
      ∙ ap (λ (t : List ℕ). flat_map label_line (live_front at n) ++ t) (sym (append-nil (label_line label)))
      ∙ sym (flat_map-append label_line (live_front at n) (label ∷ []))
      ∙ ap (flat_map label_line) (sym (front-some label some))

  pub count-some : (label : Label) → at n ≡ Some label → length (live_front at (n + 1)) ≡ length (live_front at n) + 1
  count-some label some = ap length (front-some label some) ∙ length-append (live_front at n) (label ∷ [])

  pub lines-none : at n ≡ None → flat_map label_line (live_front at (n + 1)) ≡ flat_map label_line (live_front at n)
  lines-none none = ap (flat_map label_line) (front-none none)

  pub count-none : at n ≡ None → length (live_front at (n + 1)) ≡ length (live_front at n)
  count-none none = ap length (front-none none)
