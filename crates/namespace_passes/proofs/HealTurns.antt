-- A label of a namespace is healed: the table is kept, and the marks of all other namespaces.
use Rattle.std.proofs.Common.{◌≡◌, ◌≢◌, inr, ℕ, zero, suc, ◌<◌, true, false, not, ◌&&◌, cond, List, length, drop, Some, refl, sym, ap, subst, ◌∙◌, arith}
use Rattle.std.specs.Prelude.{◌==◌, ◌||◌}
use Rattle.std.specs.List.{Contains}
use Rattle.std.specs.Option.{option_map}
use Rattle.label_codec.specs.declared.label.Label.{Label}
use Rattle.label_codec.specs.Flags.{is_updating}
use Rattle.label_codec.specs.ModuleLabels.{Labels, first, of_uuid}
use Rattle.label_area.specs.Flips.{at_slot}
use Rattle.region_map.specs.declared.platform.Member.{Member}
use Rattle.region_map.specs.declared.platform.Platform.{Platform}
use Rattle.region_map.specs.declared.platform.Region.{Region}
use Rattle.label_table.specs.Belonging.{belongs, member_at, offset_in}
use Rattle.label_table.specs.Fates.{without_slot}
use Rattle.label_table.specs.Spaces.{space, space_if, space_of}
use Rattle.label_table.specs.Tables.{table}
use Rattle.label_table.specs.Wholes.{any_read_only, has_size, labels_with, leading_label, sizes_agree}
use Rattle.label_table.proofs.Changing.{replaced-elsewhere, replaced-kept}
use Rattle.label_table.proofs.ListTests.{eq_same, some_is}
use Rattle.namespace_passes.specs.Healing.{HaveOneSize}
use Rattle.namespace_passes.specs.Labels.{healed, healed_label, needs_healing}
use Rattle.namespace_passes.specs.Namespaces.{IsAlikeAt, IsTurned}
use Rattle.namespace_passes.proofs.Alike.{belongs-healed, is-well, read_only-kept, well}
use Rattle.namespace_passes.proofs.Leading.{first-is, member-named, the-only}
use Rattle.namespace_passes.proofs.Replaced.{HasPlaces, IsLedAt, IsReplacedBy}
use Rattle.namespace_passes.proofs.Replaced as replaced

-- A namespace of a region, and the label of position 0.
module _ (P : Platform) (r : Region) (u : List ℕ) (L : Labels) (lead : Label) (position : ℕ) (led : IsLedAt P r u L lead position) (one_size : HaveOneSize r) where
  abbrev pub x : Member
  x = member_at r position

  -- The label is replaced.
  module _ (old slot : ℕ) (own : Label) (places : HasPlaces r u L position old slot own) where
    abbrev pub new : Label
    new = at_slot slot (healed_label lead own)

    pub it : IsReplacedBy r u L position old slot own new
    it = record { places = places; has_new = places.has_own; offset = refl; writable = read_only-kept lead own }

    abbrev pub M : Labels
    M = replaced.M P r u L lead position led old slot own new it

    stays : belongs r x.handle new ≡ true
    stays =
        let x_in = replaced.x_in P r u L lead position led in
        let x0_in = replaced.x0_in P r u L lead position led in
        let lead_only = replaced.lead-only P r u L lead position led in
        belongs-healed r x.handle (member_at r 0).handle lead own slot one_size (replaced.belongs-before P r u L lead position led (member_at r 0) lead x0_in lead_only)
        (replaced.belongs-before P r u L lead position led x own x_in places.only) (replaced.offset-before P r u L lead position led x own x_in places.only)

    same_size : (new.raw_size == lead.raw_size) ≡ true
    same_size = eq_same lead.raw_size lead.raw_size refl

    turned : (now : Label) → offset_in r now ≡ offset_in r lead → leading_label r (labels_with u M) ≡ Some now → sizes_agree r now (labels_with u M) ≡ true → table P M ≡ table P L → IsTurned P r u lead position L M
    turned now offset leads_now sizes same = record {
      same_table = same;
      same_marks = replaced.marks P r u L lead position led old slot own new it stays now offset leads_now sizes;
      stands = replaced.open_after P r u L lead position led old slot own new it stays now offset leads_now sizes;
      alike = λ l at. subst (λ (a : Label). needs_healing lead a ≡ false) (some_is (sym (replaced.only_new P r u L lead position led old slot own new it).first_is ∙ at)) (is-well lead own slot);
      heal = inr (ap (option_map without_slot) (replaced.only_new P r u L lead position led old slot own new it).first_is ∙ sym (ap (option_map (healed lead)) places.only.first_is));
      confined = replaced.confined P r u L lead position led old slot own new it;
    }

    writable_after : any_read_only r (labels_with u M) ≡ false
    writable_after = replaced.writable_after P r u L lead position led old slot own new it

    -- Behind position 0,
    pub turn-behind : 0 < position → IsTurned P r u lead position L M
    turn-behind behind =
        let still = replaced.leads_still P r u L lead position led old slot own new it behind in
        let sizes = replaced.sizes_still P r u L lead position led old slot own new it behind (λ all. same_size) in
        turned lead refl still sizes
        (replaced-elsewhere P r u x L M (replaced.replaces P r u L lead position led old slot own new it stays lead refl still sizes) (member_at r 0) (drop 1 r.members)
        (first-is r.members (replaced.some_members P r u L lead position led)) (replaced.away_from_first P r u L lead position led old slot own new it behind) led.stands.writable writable_after)

    -- and at position 0, once all others are well.
    module _ (first_is : position ≡ 0) (others_well : (other : ℕ) → 0 < other → other < length r.members → IsAlikeAt L r u lead other) where
      each-size : (y : Member) → Contains r.members y → y.handle ≢ x.handle → has_size lead (labels_with u L) y ≡ true
      each-size y in_r away =
          let k = in_r.0 in
          let y_is : member_at r k ≡ y = member-named r y in_r in
          let some : 0 < k = above k (λ e. away (ap (λ (m : Member). m.handle) (sym y_is ∙ ap (member_at r) (e ∙ sym first_is)))) in
          let one = the-only r u L y led.stands.whole in_r in
          let fine : needs_healing lead one.0 ≡ false = others_well k some in_r.1 one.0 (ap (λ (m : Member). first (of_uuid u (L m.handle))) y_is ∙ one.1.first_is) in
          let size : (one.0.raw_size == lead.raw_size) ≡ true = (well lead one.0 fine).size in
          ap (λ n. n == 1) (one.1.passes (λ other. other.raw_size == lead.raw_size) ∙ (λ i. cond (size i) 1 0))
        where
          above : (k : ℕ) → k ≢ 0 → 0 < k
          above zero differ = absurd (differ refl)
          above (suc k) differ = omega arith

      sizes_new : sizes_agree r new (labels_with u M) ≡ true
      sizes_new =
          let all = replaced.sizes_after P r u L lead position led old slot own new it lead same_size each-size in
          λ i. all i || (is_updating new && not (any_read_only r (labels_with u M)))

      pub turn-first : IsTurned P r u lead position L M
      turn-first =
          let offset = replaced.offset_new P r u L lead position led old slot own new it first_is in
          let leads_new = replaced.leads_new P r u L lead position led old slot own new it first_is in
          let own_is = replaced.own-is P r u L lead position led old slot own new it first_is in
          let flags : any_read_only r (labels_with u M) ≡ any_read_only r (labels_with u L) = writable_after ∙ sym led.stands.writable in
          let shows_still : space M r u ≡ space L r u = replaced.shows P r u L lead position led old slot own new it stays new offset leads_new sizes_new
          ∙ (λ i. Some (space_of r (flags i) (at_slot slot (healed_label lead (own_is i)))))
          ∙ sym (λ i. space_if r (labels_with u L) (led.stands.whole i) (led.leads i)) in
          turned new offset leads_new sizes_new (replaced-kept P r u x L M (replaced.replaces P r u L lead position led old slot own new it stays new offset leads_new sizes_new) shows_still)
