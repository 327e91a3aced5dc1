-- What the labels of a uuid tell together decides whether they are a namespace, and which.
use Rattle.std.proofs.Common.{◌≡◌, ℕ, ◌<◌, Bool, true, false, not, ◌&&◌, cond, List, [], ◌∷◌, length, get_or, Some, None, refl, sym, ap, ◌∙◌, arith}
use Rattle.std.specs.List.{list_all}
use Rattle.std.specs.Option.{option_map}
use Rattle.label_codec.specs.declared.label.Label.{Label}
use Rattle.label_codec.specs.ModuleLabels.{Labels, first, of_uuid}
use Rattle.region_map.specs.declared.platform.Member.{Member}
use Rattle.region_map.specs.declared.platform.Region.{Region}
use Rattle.label_table.specs.Belonging.{member_at, no_member}
use Rattle.label_table.specs.Plain.{HasOnly}
use Rattle.label_table.specs.Spaces.{Space, is_pending, space, space_if, space_of}
use Rattle.label_table.specs.Wholes.{all_ready, any_read_only, any_updating, has_one, is_whole, is_whole_after, labels_with, leading_among, leading_label, sizes_agree}
use Rattle.label_table.proofs.Order.{space-uuid}
use Rattle.region_labels.specs.declared.marks.Marks.{Marks}
use Rattle.region_labels.specs.Marks.{is_of_namespace, listed, listed_in, marks_if_one_each, marks_of, namespace_at, shown_by}

module _ (L : Labels) (r : Region) (u : List ℕ) where
  pub leading-is : (l : Label) → 0 < length r.members → HasOnly u (L (member_at r 0).handle) l → leading_label r (labels_with u L) ≡ Some l
  leading-is l some only = by r.members refl some
    where
      by : (ms : List Member) → r.members ≡ ms → 0 < length ms → leading_among r.members (labels_with u L) ≡ Some l
      by [] e lt = absurd (omega arith)
      by (x ∷ xs) e lt =
          ap (λ ms. leading_among ms (labels_with u L)) e ∙ ap (λ (m : Member). first (of_uuid u (L m.handle))) (sym (ap (λ ms. get_or ms 0 no_member) e)) ∙ only.first_is

  -- all have a label that agrees with the leading one, and this is what they tell
  abbrev AllMarked : Label → Marks → Type 0
  AllMarked l m = (list_all (has_one r l (labels_with u L)) r.members ≡ true) × (m ≡ marks_of l (labels_with u L) r.members)

  all-marked : (l : Label) (m : Marks) → Some m ≡ marks_if_one_each r l (labels_with u L) → AllMarked l m
  all-marked l m is = by (list_all (has_one r l (labels_with u L)) r.members) refl is
    where
      by : (b : Bool) → list_all (has_one r l (labels_with u L)) r.members ≡ b → Some m ≡ cond b (Some (marks_of l (labels_with u L) r.members)) None → AllMarked l m
      by true e n = (e, (let same : m ≡ marks_of l (labels_with u L) r.members = cc in same))
      by false e n = absurd cc

  after : (l : Label) (m : Marks) (b : Bool) → Some m ≡ marks_if_one_each r l (labels_with u L) → is_of_namespace l m ≡ b → is_whole_after r (labels_with u L) (Some l) ≡ b
  after l m b is of =
      let all = all-marked l m is in
      let sizes : sizes_agree r l (labels_with u L) ≡ b = sym (ap (is_of_namespace l) all.1) ∙ of in
      λ i. all.0 i && sizes i

  pub is-namespace : (l : Label) (m : Marks) → all_ready r L ≡ true → leading_label r (labels_with u L) ≡ Some l → Some m ≡ marks_if_one_each r l (labels_with u L) → is_of_namespace l m ≡ true
      → Some (shown_by r l m) ≡ namespace_at L r u
  is-namespace l m ready lead is of =
      let all = all-marked l m is in
      let own = labels_with u L in
      let w : is_whole L r u ≡ true = (λ i. ready i && is_whole_after r own (lead i)) ∙ after l m true is of in
      let s : Space = space_of r (any_read_only r own) l in
      let sp : space L r u ≡ Some s = λ i. space_if r own (w i) (lead i) in
      let uuid_is : l.uuid ≡ u = space-uuid L r u s sp in
      let p : is_pending L r l.uuid ≡ (not (any_read_only r own) && any_updating r own) = ap (is_pending L r) uuid_is ∙ (λ i. w i && (not (any_read_only r own) && any_updating r own)) in
      ap (λ marks. Some (shown_by r l marks)) all.1 ∙ (λ i. Some (listed (sym p i) s)) ∙ sym (ap (option_map (listed_in L r)) sp)
