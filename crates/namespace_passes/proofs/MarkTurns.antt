-- A label of a namespace is replaced by the same with the mark, or that of position 0 with another name, too.
use Rattle.std.proofs.Common.{◌≡◌, ℕ, ◌<◌, Bool, true, false, not, ◌&&◌, cond, List, drop, Option, Some, None, refl, sym, ap, subst, ◌∙◌}
use Rattle.std.specs.Prelude.{◌==◌, ◌||◌, nat_lt, option_map}
use Rattle.std.specs.List.{list_all}
use Rattle.std.specs.Option.{option_map_or}
use Rattle.label_codec.specs.declared.label.Label.{Label}
use Rattle.label_codec.specs.Flags.{is_updating}
use Rattle.label_codec.specs.ModuleLabels.{Labels, number}
use Rattle.label_area.specs.Flips.{at_slot}
use Rattle.region_map.specs.declared.platform.Member.{Member}
use Rattle.region_map.specs.declared.platform.Platform.{Platform}
use Rattle.region_map.specs.declared.platform.Region.{Region}
use Rattle.region_map.specs.Platforms.{region_at}
use Rattle.label_table.specs.Belonging.{belongs, member_at, offset_in}
use Rattle.label_table.specs.Fates.{held_count, spare, without_slot}
use Rattle.label_table.specs.Flips.{IsConfined}
use Rattle.label_table.specs.Plain.{HasOnly}
use Rattle.label_table.specs.Spaces.{Space, is_pending, space, space_if, space_of}
use Rattle.label_table.specs.Tables.{changed_at, pending_at, space_at, table}
use Rattle.label_table.specs.Wholes.{any_read_only, any_updating, has_size, labels_with, leading_label, sizes_agree}
use Rattle.label_table.proofs.Changing.{replaced-elsewhere, replaced-kept, replaced-state}
use Rattle.label_table.proofs.ListTests.{list_all-at, list_any-at}
use Rattle.label_table.proofs.Order.{space-uuid}
use Rattle.namespace_passes.specs.Namespaces.{IsOpen, label_at}
use Rattle.namespace_passes.proofs.Leading.{first-is}
use Rattle.namespace_passes.proofs.Replaced.{HasPlaces, IsLedAt, IsReplacedBy}
use Rattle.namespace_passes.proofs.Replaced as replaced
use Rattle.namespace_passes.specs.MarkedLabels.{marked, marked_label, renamed, renamed_label}
use Rattle.namespace_passes.specs.Marking.{IsMarkedAt}
use Rattle.namespace_passes.specs.Renaming.{HasName, renamed_space}
use Rattle.namespace_passes.proofs.Marks.{belongs-same, is-updating, marked-same, read_only-kept}

or-true : (a : Bool) → a || true ≡ true
or-true true = refl
or-true false = refl

-- the size of the only label of a module
size-of : (u : List ℕ) (L : Labels) (y : Member) (lead own : Label) → HasOnly u (L y.handle) own → has_size lead (labels_with u L) y ≡ true → (own.raw_size == lead.raw_size) ≡ true
size-of u L y lead own only is = by (own.raw_size == lead.raw_size) (only.passes (λ other. other.raw_size == lead.raw_size)) is
  where
    by : (b : Bool) → number (λ other. other.raw_size == lead.raw_size) (labels_with u L y.handle) ≡ cond b 1 0 → has_size lead (labels_with u L) y ≡ true → b ≡ true
    by true e t = refl
    by false e t = absurd (let clash : false ≡ true = sym (ap (λ n. n == 1) e) ∙ t in cc)

module _ (P : Platform) (r : Region) (u : List ℕ) (L : Labels) (lead : Label) (position : ℕ) (led : IsLedAt P r u L lead position) where
  abbrev pub x : Member
  x = member_at r position

  -- no flip where the label is marked
  pub kept-mark : (own : Label) → HasOnly u (L x.handle) own → is_updating own ≡ true → IsMarkedAt P r u position L L
  kept-mark own only up = record {
    same_table = refl;
    same_marks = refl;
    stands = led.stands;
    mark = ap (option_map without_slot) only.first_is ∙ ap (λ (l : Label). Some (without_slot l)) (sym (marked-same own up)) ∙ sym (ap (option_map marked) only.first_is);
    confined = record { others = λ other differ. refl; rest = refl };
  }

  -- The label is replaced.
  module _ (name : List ℕ) (old slot : ℕ) (own : Label) (places : HasPlaces r u L position old slot own) where
    abbrev pub new : Label
    new = at_slot slot (renamed_label name own)

    pub it : IsReplacedBy r u L position old slot own new
    it = record { places = places; has_new = places.has_own; offset = refl; writable = read_only-kept name own }

    abbrev pub M : Labels
    M = replaced.M P r u L lead position led old slot own new it

    stays : belongs r x.handle new ≡ true
    stays = belongs-same r x.handle slot name own ∙ replaced.belongs-before P r u L lead position led x own (replaced.x_in P r u L lead position led) places.only

    writable_after : any_read_only r (labels_with u M) ≡ false
    writable_after = replaced.writable_after P r u L lead position led old slot own new it

    only_new : HasOnly u (M x.handle) new
    only_new = replaced.only_new P r u L lead position led old slot own new it

    flags : any_read_only r (labels_with u M) ≡ any_read_only r (labels_with u L)
    flags = writable_after ∙ sym led.stands.writable

    -- at position 0
    module _ (first_is : position ≡ 0) where
      own_is : own ≡ lead
      own_is = replaced.own-is P r u L lead position led old slot own new it first_is

      offset_new : offset_in r new ≡ offset_in r lead
      offset_new = replaced.offset_new P r u L lead position led old slot own new it first_is

      leads_new : leading_label r (labels_with u M) ≡ Some new
      leads_new = replaced.leads_new P r u L lead position led old slot own new it first_is

      sizes_new : sizes_agree r new (labels_with u M) ≡ true
      sizes_new = (λ i. list_all (has_size new (labels_with u M)) r.members || (is-updating name own i && not (writable_after i))) ∙ or-true (list_all (has_size new (labels_with u M)) r.members)

      open_after : IsOpen M r u
      open_after = replaced.open_after P r u L lead position led old slot own new it stays new offset_new leads_new sizes_new

      shows : space M r u ≡ Some (space_of r (any_read_only r (labels_with u M)) new)
      shows = replaced.shows P r u L lead position led old slot own new it stays new offset_new leads_new sizes_new

      showed : space L r u ≡ Some (space_of r (any_read_only r (labels_with u L)) lead)
      showed = λ i. space_if r (labels_with u L) (led.stands.whole i) (led.leads i)

      updating_after : any_updating r (labels_with u M) ≡ true
      updating_after = list_any-at _ r.members x (replaced.x_in P r u L lead position led) (ap (nat_lt 0) (only_new.passes is_updating ∙ (λ i. cond (is-updating name own i) 1 0)))

      pending_after : is_pending M r u ≡ true
      pending_after = λ i. open_after.whole i && (not (writable_after i) && updating_after i)

      pub named : HasName P r u name L M
      named = record {
        state_is = replaced-state P r u x L M (replaced.replaces P r u L lead position led old slot own new it stays new offset_new leads_new sizes_new) s uuid_is shows
            ∙ (λ i. record {
              table = record { kind = λ m. (L m).kind; spare = spare P L; held = held_count P L; space = changed_at r (uuid_is i) (value i) (space_at P L) };
              pending = changed_at r (uuid_is i) (pending_after i) (pending_at P L);
            });
        stands = open_after;
        label = ap (λ (k : ℕ). option_map without_slot (first_of k M)) (sym first_is) ∙ ap (option_map without_slot) only_new.first_is ∙ sym (ap (option_map (renamed name)) places.only.first_is) ∙ ap (λ (k : ℕ). option_map (renamed name) (first_of k L)) first_is;
        confined = subst (λ (k : ℕ). IsConfined u (member_at r k).handle L M) first_is (replaced.confined P r u L lead position led old slot own new it);
      }
        where
          first_of : ℕ → Labels → Option Label
          first_of k N = label_at N r u k

          s : Space
          s = space_of r (any_read_only r (labels_with u M)) new

          uuid_is : s.uuid ≡ u
          uuid_is = space-uuid M r u s shows

          found : region_at P r.index ≡ Some r
          found = led.disjoint.indexes r led.region_in

          value : Some s ≡ option_map (renamed_space name) (space_at P L r.index u)
          value = (λ i. Some (space_of r (flags i) (at_slot slot (renamed_label name (own_is i)))))
              ∙ sym (ap (option_map (renamed_space name)) ((λ i. option_map_or (λ q. space L q u) (found i) None) ∙ showed))

  -- One label is marked.
  module _ (old slot : ℕ) (own : Label) (places : HasPlaces r u L position old slot own) where
    abbrev pub marked_new : Label
    marked_new = at_slot slot (marked_label own)

    pub marks_it : IsReplacedBy r u L position old slot own marked_new
    marks_it = it own.name old slot own places

    abbrev pub N : Labels
    N = replaced.M P r u L lead position led old slot own marked_new marks_it

    marked_stays : belongs r x.handle marked_new ≡ true
    marked_stays = stays own.name old slot own places

    marked_at : (now : Label) → offset_in r now ≡ offset_in r lead → leading_label r (labels_with u N) ≡ Some now → sizes_agree r now (labels_with u N) ≡ true → table P N ≡ table P L → IsMarkedAt P r u position L N
    marked_at now offset leads_now sizes same = record {
      same_table = same;
      same_marks = replaced.marks P r u L lead position led old slot own marked_new marks_it marked_stays now offset leads_now sizes;
      stands = replaced.open_after P r u L lead position led old slot own marked_new marks_it marked_stays now offset leads_now sizes;
      mark = ap (option_map without_slot) (replaced.only_new P r u L lead position led old slot own marked_new marks_it).first_is ∙ sym (ap (option_map marked) places.only.first_is);
      confined = replaced.confined P r u L lead position led old slot own marked_new marks_it;
    }

    pub mark-behind : 0 < position → IsMarkedAt P r u position L N
    mark-behind behind =
        let still = replaced.leads_still P r u L lead position led old slot own marked_new marks_it behind in
        let sizes = replaced.sizes_still P r u L lead position led old slot own marked_new marks_it behind
        (λ all. size-of u L x lead own places.only (list_all-at (has_size lead (labels_with u L)) r.members x all (replaced.x_in P r u L lead position led))) in
        marked_at lead refl still sizes
        (replaced-elsewhere P r u x L N (replaced.replaces P r u L lead position led old slot own marked_new marks_it marked_stays lead refl still sizes) (member_at r 0) (drop 1 r.members)
        (first-is r.members (replaced.some_members P r u L lead position led)) (replaced.away_from_first P r u L lead position led old slot own marked_new marks_it behind) led.stands.writable
        (replaced.writable_after P r u L lead position led old slot own marked_new marks_it))

    pub mark-first : position ≡ 0 → IsMarkedAt P r u position L N
    mark-first first_is =
        let offset = offset_new own.name old slot own places first_is in
        let leads_now = leads_new own.name old slot own places first_is in
        let sizes = sizes_new own.name old slot own places first_is in
        let lead_is = own_is own.name old slot own places first_is in
        let same_flags = flags own.name old slot own places in
        let shows_still : space N r u ≡ space L r u = shows own.name old slot own places first_is
        ∙ (λ i. Some (space_of r (same_flags i) (at_slot slot (marked_label (lead_is i)))))
        ∙ sym (showed own.name old slot own places first_is) in
        marked_at marked_new offset leads_now sizes (replaced-kept P r u x L N (replaced.replaces P r u L lead position led old slot own marked_new marks_it marked_stays marked_new offset leads_now sizes) shows_still)
