-- The range of a namespace into which no held label reaches: it has no offset that is held.
use Rattle.std.proofs.Common.{◌≡◌, inl, inr, ℕ, ◌+◌, ◌≤◌, ◌<◌, Bool, true, false, cond, ◌&&◌, Option, Some, None, List, refl, sym, ap, subst, arith}
use Rattle.std.specs.List.{Contains}
use Rattle.std.specs.Option.{option_and_then, option_map}
use Rattle.std.proofs.lemmas.Bool.{and_from, and_parts, ltb-false}
use Rattle.view_types.specs.declared.extents.Extent.{Extent}
use Rattle.view_types.specs.declared.namespaces.Namespace.{Namespace}
use Rattle.label_codec.specs.declared.label.Label.{Label}
use Rattle.label_codec.specs.ModuleLabels.{Labels, Module, count, number, one}
use Rattle.label_codec.proofs.Counting.{count-cases, count-least, one-some}
use Rattle.region_map.specs.declared.platform.Member.{Member}
use Rattle.region_map.specs.declared.platform.Platform.{Platform}
use Rattle.region_map.specs.declared.platform.Region.{Region}
use Rattle.label_table.specs.Division.{has_address, holds, is_held_at}
use Rattle.label_table.specs.Fates.{is_held, without_slot}
use Rattle.label_table.specs.Spaces.{Space, space}
use Rattle.label_table.proofs.ListTests.{list_any-never, list_any-none, le_true, lt_from, lt_not, lt_true, some_is}
use Rattle.region_labels.specs.Marks.{listed_in, namespace_at}
use Rattle.region_labels.specs.Ranges.{range_of}
use Rattle.region_labels.specs.Statuses.{space_in}
use Rattle.region_labels.specs.LoneRanges.{holds_part, is_reached, is_reached_by, lone_range, reaches, unless_reached}

-- a label that has an address of the range reaches into it
reaches-at : (base o : ℕ) (range : Extent) (l : Label) → range.start ≤ o → o < range.start + range.len → has_address (base + o) l ≡ true → reaches base range l ≡ true
reaches-at base o range l low high has =
    let parts = and_parts _ _ has in
    let from : l.dpa ≤ base + o = le_true _ _ parts.0 in
    let to : base + o < l.dpa + l.raw_size = lt_true _ _ parts.1 in
    and_from _ _ (lt_from 0 l.raw_size (omega (arith, from, to)))
    (and_from _ _ (lt_from l.dpa (base + range.start + range.len) (omega (arith, low, high, from))) (lt_from (base + range.start) (l.dpa + l.raw_size) (omega (arith, low, to))))

module _ (P : Platform) (L : Labels) (r : Region) (range : Extent) (apart : is_reached P L r range ≡ false) where
  free-of : (o : ℕ) → range.start ≤ o → o < range.start + range.len → (x : Member) → Contains r.members x → holds P L o x ≡ false
  free-of o low high x here = elim (count-cases test area.at area.slots) [
    | inl none ↦ lt_not 0 (count test area.at area.slots) (omega (arith, none))
    | inr at ↦
        let parts = and_parts (is_held P L x.handle at.label) _ at.passes in
        let part : holds_part P L x.handle x.dpa_base range at.label ≡ true = and_from _ _ (reaches-at x.dpa_base o range at.label low high parts.1) parts.0 in
        let least : one (holds_part P L x.handle x.dpa_base range) (area.at at.slot) ≤ number (holds_part P L x.handle x.dpa_base range) area = count-least (holds_part P L x.handle x.dpa_base range) area.at at.slot area.slots at.within in
        let is_one : one (holds_part P L x.handle x.dpa_base range) (area.at at.slot) ≡ 1 = one-some (holds_part P L x.handle x.dpa_base range) (area.at at.slot) at.label at.is part in
        let none : number (holds_part P L x.handle x.dpa_base range) area ≤ 0 = ltb-false 0 (number (holds_part P L x.handle x.dpa_base range) area) (list_any-none (is_reached_by P L range) r.members x apart here) in
        absurd (omega (arith, least, is_one, none))
  ]
    where
      area : Module
      area = L x.handle

      test : Label → Bool
      test l = is_held P L x.handle l && has_address (x.dpa_base + o) (without_slot l)

  pub unheld : (o : ℕ) → range.start ≤ o → o < range.start + range.len → is_held_at P L r o ≡ false
  unheld o low high = list_any-never (holds P L o) r.members (free-of o low high)

-- the namespace whose range is told, in which nothing is held
pub record IsLone (platform : Platform) (labels : Labels) (region : Region) (uuid : List ℕ) (range : Extent) : Type 0 where
  pub own : Space
  pub is : space labels region uuid ≡ Some own
  pub range_is : range ≡ range_of own
  pub unheld_in : (o : ℕ) → own.offset ≤ o → o < own.offset + own.length → is_held_at platform labels region o ≡ false

pub lone : (P : Platform) (L : Labels) (r : Region) (u : List ℕ) (range : Extent) → lone_range P L r u ≡ Some range → IsLone P L r u range
lone P L r u range e = by (space L r u) refl e
  where
    by : (o : Option Space) → space L r u ≡ o → option_and_then (λ (s : Space). unless_reached P L r (range_of s)) o ≡ Some range → IsLone P L r u range
    by None is none = absurd cc
    by (Some own) is some = at (is_reached P L r (range_of own)) refl some
      where
        at : (b : Bool) → is_reached P L r (range_of own) ≡ b → cond b None (Some (range_of own)) ≡ Some range → IsLone P L r u range
        at true held none = absurd cc
        at false apart f = record { own = own; is = is; range_is = sym (some_is f); unheld_in = unheld P L r (range_of own) apart }

-- the range of a namespace as it is listed
pub told-range : (P : Platform) (L : Labels) (r : Region) (u : List ℕ) (listed : Namespace) (b : Bool) → namespace_at L r u ≡ Some listed → b ≡ is_reached P L r (range_of (space_in listed))
    → cond b None (Some (range_of (space_in listed))) ≡ lone_range P L r u
told-range P L r u listed b e = by (space L r u) e
  where
    by : (o : Option Space) → option_map (listed_in L r) o ≡ Some listed → b ≡ is_reached P L r (range_of (space_in listed)) → cond b None (Some (range_of (space_in listed))) ≡ option_and_then (λ (s : Space). unless_reached P L r (range_of s)) o
    by None none = absurd cc
    by (Some own) some = subst (λ (s : Namespace). b ≡ is_reached P L r (range_of (space_in s)) → cond b None (Some (range_of (space_in s))) ≡ unless_reached P L r (range_of own)) (some_is some)
        (λ same. ap (λ c. cond c None (Some (range_of own))) same)
