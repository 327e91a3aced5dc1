-- The offsets that the ranges have are those that namespaces have or held labels hold.
use Rattle.std.proofs.Common.{◌≡◌, ℕ, zero, suc, ◌+◌, ◌-◌, ◌≤◌, Bool, true, false, not, ◌&&◌, cond, List, [], ◌∷◌, ◌++◌, drop, length, Option, Some, None, map, refl, sym, ap, ◌∙◌, arith}
use Rattle.std.specs.Prelude.{◌==◌, ◌||◌, count_by, nat_le, nat_lt}
use Rattle.std.specs.List.{list_any}
use Rattle.std.specs.Option.{option_and_then, option_to_list}
use Rattle.std.proofs.lemmas.Bool.Decides.{nat_tests}
use Rattle.std.proofs.lemmas.List.{append-nil, drop_all}
use Rattle.std.proofs.lemmas.List.Folds.{list_any-append}
use Rattle.view_types.specs.declared.extents.Extent.{Extent}
use Rattle.view_types.specs.declared.namespaces.Namespace.{Namespace}
use Rattle.view_types.specs.Intervals.{AreMaximal, is_within}
use Rattle.extent_alloc.specs.Free.{is_outside, is_taken}
use Rattle.label_codec.specs.declared.label.Label.{Label}
use Rattle.label_codec.specs.ModuleLabels.{Labels, count, one}
use Rattle.region_map.specs.declared.platform.Member.{Member}
use Rattle.region_map.specs.declared.platform.Platform.{Platform}
use Rattle.region_map.specs.declared.platform.Region.{Region}
use Rattle.label_table.specs.Division.{AreFreeExtents, has_address, has_offset, holds, is_common_free, part_size}
use Rattle.label_table.specs.Fates.{is_held, without_slot}
use Rattle.label_table.specs.Namespaces.{namespaces}
use Rattle.label_table.specs.Spaces.{Space}
use Rattle.uuid_index.proofs.Counts.{count_by-cons}
use Rattle.region_labels.specs.Ranges.{held_range, held_ranges, held_ranges_below, held_ranges_of, range_in, range_of}
use Rattle.region_labels.specs.Statuses.{space_in}

or_false : (b : Bool) → (b || false) ≡ b
or_false true = refl
or_false false = refl

starts : (dpa base o : ℕ) → nat_le (dpa - base) o ≡ nat_le dpa (base + o)
starts dpa base o = grind (arith, nat_tests)

ends : (dpa raw base o : ℕ) → nat_lt o ((dpa - base) + (raw - (base - dpa))) ≡ nat_lt (base + o) (dpa + raw)
ends dpa raw base o = grind (arith, nat_tests)

-- the range of a label in a part has an offset where the label has its address
range-covers : (base : ℕ) (l : Label) (o : ℕ) → is_within (range_in base l).start (range_in base l).len o ≡ has_address (base + o) l
range-covers base l o = λ i. starts l.dpa base o i && ends l.dpa l.raw_size base o i

module _ (P : Platform) (L : Labels) (base handle o : ℕ) where
  abbrev test : Label → Bool
  test l = is_held P L handle l && has_address (base + o) (without_slot l)

  one-range : (label : Option Label) → is_taken (option_to_list (option_and_then (held_range P L base handle) label)) o ≡ nat_lt 0 (one test label)
  one-range None = refl
  one-range (Some l) = by (is_held P L handle l)
    where
      last : (b : Bool) → b ≡ nat_lt 0 (cond {A = ℕ} b 1 0)
      last true = refl
      last false = refl

      by : (b : Bool) → is_taken (option_to_list (cond b (Some (range_in base l)) None)) o ≡ nat_lt 0 (cond {A = ℕ} (b && has_address (base + o) l) 1 0)
      by true = or_false (is_within (range_in base l).start (range_in base l).len o) ∙ range-covers base l o ∙ last (has_address (base + o) l)
      by false = refl

  either : (a b : ℕ) → (nat_lt 0 a || nat_lt 0 b) ≡ nat_lt 0 (b + a)
  either a b = grind (arith, nat_tests)

  pub ranges-below : (at : ℕ → Option Label) (n : ℕ) → is_taken (held_ranges_below P L base handle at n) o ≡ nat_lt 0 (count test at n)
  ranges-below at zero = refl
  ranges-below at (suc n) =
      list_any-append (λ (e : Extent). is_within e.start e.len o) (held_ranges_below P L base handle at n) (option_to_list (option_and_then (held_range P L base handle) (at n)))
      ∙ (λ i. ranges-below at n i || one-range (at n) i)
      ∙ either (count test at n) (one test (at n))

pub held-taken : (P : Platform) (L : Labels) (o : ℕ) (ms : List Member) → is_taken (held_ranges_of P L ms) o ≡ list_any (holds P L o) ms
held-taken P L o [] = refl
held-taken P L o (m ∷ ms) =
    list_any-append (λ (e : Extent). is_within e.start e.len o) (held_ranges P L m.dpa_base m.handle (L m.handle)) (held_ranges_of P L ms)
    ∙ (λ i. ranges-below P L m.dpa_base m.handle o (L m.handle).at (L m.handle).slots i || held-taken P L o ms i)

-- namespaces
pub spaces-taken : (o : ℕ) (ss : List Space) → not (is_taken (map range_of ss) o) ≡ (count_by (has_offset o) ss == 0)
spaces-taken o [] = refl
spaces-taken o (s ∷ ss) =
    (λ i. not (has_offset o s || is_taken (map range_of ss) o))
    ∙ by (has_offset o s) (is_taken (map range_of ss) o) (count_by (has_offset o) ss) (spaces-taken o ss)
    ∙ ap (λ n. n == 0) (sym (count_by-cons (has_offset o) s ss))
  where
    by : (b t : Bool) (n : ℕ) → not t ≡ (n == 0) → not (b || t) ≡ (cond {A = ℕ} b 1 0 + n == 0)
    by true t n e = grind (arith, nat_tests)
    by false t n e = e ∙ ap (λ k. k == 0) (let z : n ≡ 0 + n = omega arith in z)

pub free-outside : (P : Platform) (L : Labels) (r : Region) (es : List Extent) (ranges : List Extent) → ranges ≡ map range_of (namespaces L r) ++ held_ranges_of P L r.members
    → AreMaximal (part_size r) (is_outside (part_size r) ranges) es → AreFreeExtents P L r es
free-outside P L r es ranges are maximal = record { ascend = maximal.ascend; free_in = λ o. maximal.free_in o ∙ same o }
  where
    not_or : (a b : Bool) → not (a || b) ≡ (not a && not b)
    not_or true b = refl
    not_or false b = refl

    same : (o : ℕ) → is_outside (part_size r) ranges o ≡ is_common_free P L r o
    same o =
        ap (λ rs. nat_lt o (part_size r) && not (is_taken rs o)) are
        ∙ ap (λ b. nat_lt o (part_size r) && not b) (list_any-append (λ (e : Extent). is_within e.start e.len o) (map range_of (namespaces L r)) (held_ranges_of P L r.members))
        ∙ ap (λ b. nat_lt o (part_size r) && b) (not_or (is_taken (map range_of (namespaces L r)) o) (is_taken (held_ranges_of P L r.members) o))
        ∙ (λ i. nat_lt o (part_size r) && (spaces-taken o (namespaces L r) i && not (held-taken P L o r.members i)))

-- after the last member all ranges are there
pub all-ranges : (P : Platform) (L : Labels) (r : Region) (spaces : List Namespace) (ranges : List Extent) (n : ℕ) → length r.members ≤ n → map space_in spaces ≡ namespaces L r
    → ranges ++ held_ranges_of P L (drop n r.members) ≡ map (λ (s : Namespace). range_of (space_in s)) spaces ++ held_ranges_of P L r.members
    → ranges ≡ map range_of (namespaces L r) ++ held_ranges_of P L r.members
all-ranges P L r spaces ranges n le are done =
    sym (append-nil ranges)
    ∙ ap (λ ms. ranges ++ held_ranges_of P L ms) (sym (drop_all n r.members le))
    ∙ done
    ∙ ap (λ rs. rs ++ held_ranges_of P L r.members) (again spaces ∙ ap (map range_of) are)
  where
    again : (ss : List Namespace) → map (λ (s : Namespace). range_of (space_in s)) ss ≡ map range_of (map space_in ss)
    again [] = refl
    again (s ∷ ss) = ap (λ rs. range_of (space_in s) ∷ rs) (again ss)
