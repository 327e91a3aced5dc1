-- A namespace has the name of its label of position 0.
use Rattle.std.proofs.Common.{◌≡◌, ℕ, ◌<◌, false, cond, get_or, Option, Some, None, refl, sym, ap, subst, ◌∙◌, arith}
use Rattle.std.specs.Prelude.{◌&&◌, IfSome, not}
use Rattle.std.specs.List.{Contains}
use Rattle.std.specs.Str.{bytes_eq}
use Rattle.std.proofs.lemmas.Map.Entries.{option_filter}
use Rattle.std.specs.Option.{option_and_then, option_map}
use Rattle.label_codec.specs.declared.label.Label.{Label}
use Rattle.label_codec.specs.ModuleLabels.{Labels, Module, has, label_if, of_uuid}
use Rattle.label_codec.proofs.Counting.{count-one}
use Rattle.region_map.specs.declared.platform.Member.{Member}
use Rattle.region_map.specs.declared.platform.Region.{Region}
use Rattle.label_table.specs.Belonging.{member_at, no_member}
use Rattle.label_table.specs.Spaces.{Space, space}
use Rattle.label_table.specs.Wholes.{any_label, labels_with}
use Rattle.label_table.proofs.Listed.{IsFirstMember, first-member, leading, space-whole}
use Rattle.label_table.proofs.ListTests.{Contains-here, some_is, uuid_same}
use Rattle.label_table.proofs.WholeUuids.{whole-each}
use Rattle.region_labels.specs.Marks.{listed_in, namespace_at}
use Rattle.region_labels.specs.declared.tallies.Sought.{Sought}
use Rattle.region_labels.specs.declared.tallies.Sought.TheVariants.{Named, NamedBeside, Pending}
use Rattle.region_labels.specs.ListedSpaces.{is_name, is_sought}
use Rattle.region_labels.specs.Tallies.{IsIn, Leads, may_lead}

module _ (L : Labels) (r : Region) (l : Label) (leads : Leads L r l) where
  lead-name : (s : Space) → space L r l.uuid ≡ Some s → s.name ≡ l.name
  lead-name s is =
      let u = l.uuid in
      let m : IsFirstMember r = first-member L r u s is in
      let first : member_at r 0 ≡ m.member = ap (λ ms. get_or ms 0 no_member) m.is in
      let at : IsIn (L m.member.handle) l = subst (λ (x : Member). IsIn (L x.handle) l) first leads in
      let lead = leading L r u s is m.member m.members m.is in
      let area = L m.member.handle in
      let once = whole-each r (labels_with u L) m.member (space-whole L r u s is) (subst (λ ms. Contains ms m.member) (sym m.is) (Contains-here m.member m.members)) in
      let of_lead : (of_uuid u area).at lead.slot ≡ Some lead.label = ap (label_if (has u)) lead.is ∙ ap (λ b. cond b (Some lead.label) None) lead.has_u in
      let of_label : (of_uuid u area).at at.slot ≡ Some l = ap (label_if (has u)) at.is ∙ ap (λ b. cond b (Some l) None) (uuid_same u) in
      let one = once.count_one in
      let same : lead.slot ≡ at.slot = count-one any_label (of_uuid u area).at area.slots (omega arith) lead.slot at.slot lead.label l lead.within at.within of_lead of_label refl refl in
      let label_is : lead.label ≡ l = some_is (sym lead.is ∙ ap area.at same ∙ at.is) in
      sym (ap (λ (x : Space). x.name) lead.shows) ∙ ap (λ (x : Label). x.name) label_is

  not_sought : (sought : Sought) (s : Space) → may_lead sought l ≡ false → space L r l.uuid ≡ Some s → is_sought sought (listed_in L r s) ≡ false
  not_sought (Named name) s never is = ap (is_name name) (lead-name s is) ∙ never
  not_sought (NamedBeside name uuid) s never is = ap (λ b. b && not (bytes_eq uuid s.uuid)) (ap (is_name name) (lead-name s is) ∙ never)
  not_sought Pending s never is = absurd cc

  -- what it may not lead is not looked for
  pub none-led : (sought : Sought) → may_lead sought l ≡ false → option_filter (is_sought sought) (namespace_at L r l.uuid) ≡ None
  none-led sought never = by (space L r l.uuid) refl
    where
      by : (o : Option Space) → space L r l.uuid ≡ o → option_filter (is_sought sought) (option_map (listed_in L r) (space L r l.uuid)) ≡ None
      by None is = ap (λ o. option_filter (is_sought sought) (option_map (listed_in L r) o)) is
      by (Some s) is =
          ap (λ o. option_filter (is_sought sought) (option_map (listed_in L r) o)) is
          ∙ ap (λ b. cond b (Some (listed_in L r s)) None) (not_sought sought s never is)

-- the label of a slot of position 0's module
pub leads-at : (L : Labels) (r : Region) (area : Module) → area ≡ L (member_at r 0).handle → (slot : ℕ) → slot < area.slots → (o : Option Label) → o ≡ area.at slot → IfSome o (Leads L r)
leads-at L r area same slot lt None e = tt
leads-at L r area same slot lt (Some l) e = subst (λ (a : Module). IsIn a l) same (record { slot = slot; within = lt; is = sym e })

pub none-led-of : (L : Labels) (r : Region) (sought : Sought) (o : Option Label) (l : Label) → o ≡ Some l → IfSome o (Leads L r) → may_lead sought l ≡ false
    → None ≡ option_filter (is_sought sought) (option_and_then (λ (l : Label). namespace_at L r l.uuid) o)
none-led-of L r sought o l is leads never =
    sym (ap (λ o. option_filter (is_sought sought) (option_and_then (λ (l : Label). namespace_at L r l.uuid) o)) is ∙ none-led L r l (subst (λ o. IfSome o (Leads L r)) is leads) sought never)
