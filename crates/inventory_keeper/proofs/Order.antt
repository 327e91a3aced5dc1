-- Tags stay in their order where some are taken away, and where one is put at its place.
use Rattle.std.proofs.Common.{◌≡◌, ℕ, suc, ◌+◌, Bool, true, false, cond, not, List, [], ◌∷◌, Ordering, Less, Equal, Greater, refl, sym, ap, subst, ◌∙◌, arith}
use Rattle.std.specs.Prelude.{◌||◌}
use Rattle.std.specs.List.{filter, insert, list_any, position_or_len}
use Rattle.std.specs.Ordering.{is_eq, is_lt, nat_cmp, ordering_reverse}
use Rattle.std.specs.Cmp.Lexicographic.{slice_cmp}
use Rattle.std.proofs.lemmas.Cmp.{nat_list_cmp_total}
use Rattle.std.proofs.lemmas.Map.Text.{is_eq-slice_cmp}
use Rattle.inventory_keeper.specs.declared.rows.Tag.{Tag}
use Rattle.inventory_keeper.specs.Tags.{AreTags, AscendAbove, is_before, is_of, tagged, untagged}

abbrev cmp : List ℕ → List ℕ → Ordering
cmp = slice_cmp nat_cmp

above_less : (low high : List ℕ) (tags : List Tag) → cmp low high ≡ Less → AscendAbove high tags → AscendAbove low tags
above_less low high [] less up = tt
above_less low high (tag ∷ tags) less up = (nat_list_cmp_total.trans low high tag.uuid less up.0, up.1)

kept_above : (b : Bool) (uuid : List ℕ) (tag : Tag) (tags : List Tag) → cmp uuid tag.uuid ≡ Less → AscendAbove tag.uuid tags → AscendAbove uuid (cond b (tag ∷ tags) tags)
kept_above true uuid tag tags less up = (less, up)
kept_above false uuid tag tags less up = above_less uuid tag.uuid tags less up

filter_above : (keep : Tag → Bool) (uuid : List ℕ) (tags : List Tag) → AscendAbove uuid tags → AscendAbove uuid (filter keep tags)
filter_above keep uuid [] up = tt
filter_above keep uuid (tag ∷ tags) up = kept_above (keep tag) uuid tag (filter keep tags) up.0 (filter_above keep tag.uuid tags up.1)

are_above : (uuid : List ℕ) (tags : List Tag) → AscendAbove uuid tags → AreTags tags
are_above uuid [] up = tt
are_above uuid (tag ∷ tags) up = up.1

kept_tags : (b : Bool) (tag : Tag) (tags : List Tag) → AscendAbove tag.uuid tags → AreTags (cond b (tag ∷ tags) tags)
kept_tags true tag tags up = up
kept_tags false tag tags up = are_above tag.uuid tags up

filter_tags : (keep : Tag → Bool) (tags : List Tag) → AreTags tags → AreTags (filter keep tags)
filter_tags keep [] up = tt
filter_tags keep (tag ∷ tags) up = kept_tags (keep tag) tag (filter keep tags) (filter_above keep tag.uuid tags up)

pub untagged_tags : (uuid : List ℕ) (tags : List Tag) → AreTags tags → AreTags (untagged uuid tags)
untagged_tags uuid tags up = filter_tags (λ tag. not (is_of uuid tag)) tags up

-- no tag of the uuid is left
none_kept : (b : Bool) (uuid : List ℕ) (tag : Tag) (tags : List Tag) → is_of uuid tag ≡ b → list_any (is_of uuid) tags ≡ false → list_any (is_of uuid) (cond (not b) (tag ∷ tags) tags) ≡ false
none_kept true uuid tag tags is none = none
none_kept false uuid tag tags is none = (λ i. is i || list_any (is_of uuid) tags) ∙ none

none_left : (uuid : List ℕ) (tags : List Tag) → list_any (is_of uuid) (untagged uuid tags) ≡ false
none_left uuid [] = refl
none_left uuid (tag ∷ tags) = none_kept (is_of uuid tag) uuid tag (untagged uuid tags) refl (none_left uuid tags)

-- a uuid that is not less than another one, and not the same, is greater
greater : (a b : List ℕ) → cmp a b ≡ Greater → cmp b a ≡ Less
greater a b is = nat_list_cmp_total.antisymm b a ∙ ap ordering_reverse is

module _ (new : Tag) where
  insert_later : (tag : Tag) (tags : List Tag) (place : ℕ) → insert (tag ∷ tags) (1 + place) new ≡ tag ∷ insert tags place new
  insert_later tag tags place =
      let next : suc place ≡ 1 + place = omega arith in subst (λ k. insert (tag ∷ tags) k new ≡ tag ∷ insert tags place new) next refl

  abbrev placed : List Tag → List Tag
  placed tags = insert tags (position_or_len (is_before new.uuid) tags) new

  place_above : (o : Ordering) (uuid : List ℕ) (tag : Tag) (tags : List Tag) → cmp new.uuid tag.uuid ≡ o → is_of new.uuid tag ≡ false
      → cmp uuid new.uuid ≡ Less → cmp uuid tag.uuid ≡ Less → AscendAbove tag.uuid tags
      → (cmp tag.uuid new.uuid ≡ Less → AscendAbove tag.uuid (placed tags))
      → AscendAbove uuid (insert (tag ∷ tags) (cond (not (is_lt o)) (1 + position_or_len (is_before new.uuid) tags) 0) new)
  place_above Less uuid tag tags is other less low up more = (less, (is, up))
  place_above Equal uuid tag tags is other less low up more =
      let same : is_of new.uuid tag ≡ true = sym (is_eq-slice_cmp new.uuid tag.uuid) ∙ ap is_eq is in
      let never : true ≡ false = sym same ∙ other in absurd cc
  place_above Greater uuid tag tags is other less low up more =
      subst (AscendAbove uuid) (sym (insert_later tag tags (position_or_len (is_before new.uuid) tags))) (low, more (greater new.uuid tag.uuid is))

  placed_above : (uuid : List ℕ) (tags : List Tag) → list_any (is_of new.uuid) tags ≡ false → cmp uuid new.uuid ≡ Less → AscendAbove uuid tags → AscendAbove uuid (placed tags)
  placed_above uuid [] none less up = (less, tt)
  placed_above uuid (tag ∷ tags) none less up =
      let apart = or_none (is_of new.uuid tag) (list_any (is_of new.uuid) tags) none in
      place_above (cmp new.uuid tag.uuid) uuid tag tags refl apart.0 less up.0 up.1 (λ low. placed_above tag.uuid tags apart.1 low up.1)
    where
      or_none : (a b : Bool) → (a || b) ≡ false → (a ≡ false) × (b ≡ false)
      or_none true b is = absurd cc
      or_none false b is = (refl, is)

  place_first : (o : Ordering) (tag : Tag) (tags : List Tag) → cmp new.uuid tag.uuid ≡ o → is_of new.uuid tag ≡ false
      → AscendAbove tag.uuid tags → (cmp tag.uuid new.uuid ≡ Less → AscendAbove tag.uuid (placed tags))
      → AreTags (insert (tag ∷ tags) (cond (not (is_lt o)) (1 + position_or_len (is_before new.uuid) tags) 0) new)
  place_first Less tag tags is other up more = (is, up)
  place_first Equal tag tags is other up more =
      let same : is_of new.uuid tag ≡ true = sym (is_eq-slice_cmp new.uuid tag.uuid) ∙ ap is_eq is in
      let never : true ≡ false = sym same ∙ other in absurd cc
  place_first Greater tag tags is other up more =
      subst AreTags (sym (insert_later tag tags (position_or_len (is_before new.uuid) tags))) (more (greater new.uuid tag.uuid is))

  placed_tags : (tags : List Tag) → list_any (is_of new.uuid) tags ≡ false → AreTags tags → AreTags (placed tags)
  placed_tags [] none up = tt
  placed_tags (tag ∷ tags) none up =
      let apart = or_false (is_of new.uuid tag) (list_any (is_of new.uuid) tags) none in
      place_first (cmp new.uuid tag.uuid) tag tags refl apart.0 up (λ low. placed_above tag.uuid tags apart.1 low up)
    where
      or_false : (a b : Bool) → (a || b) ≡ false → (a ≡ false) × (b ≡ false)
      or_false true b is = absurd cc
      or_false false b is = (refl, is)

pub tagged_tags : (new : Tag) (tags : List Tag) → AreTags tags → AreTags (tagged new tags)
tagged_tags new tags up = placed_tags new (untagged new.uuid tags) (none_left new.uuid tags) (untagged_tags new.uuid tags up)
