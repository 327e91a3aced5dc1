-- The region that a label belongs to, among those that are kept, and what becomes of the label by it.
use Rattle.std.proofs.Common.{◌≡◌, ℕ, Bool, true, false, not, ◌&&◌, cond, List, [], ◌∷◌, Some, None, refl, sym, ◌∙◌}
use Rattle.std.specs.Prelude.{find, is_some}
use Rattle.std.specs.List.{All}
use Rattle.std.specs.Option.{option_map}
use Rattle.std.proofs.lemmas.List.Elements.{All-contains}
use Rattle.label_codec.specs.declared.label.Label.{Label}
use Rattle.label_codec.specs.Flags.{is_read_only, is_updating}
use Rattle.label_codec.specs.ModuleLabels.{Labels}
use Rattle.region_map.specs.declared.platform.Platform.{Platform}
use Rattle.region_map.specs.declared.platform.Region.{Region}
use Rattle.label_table.specs.Belonging.{belongs, region_of}
use Rattle.label_table.specs.Fates.{is_dead, is_held, is_unfinished, is_whole_in}
use Rattle.label_table.proofs.ListTests.{find-some}
use Rattle.region_labels.specs.declared.region.RegionLabels.{RegionLabels}
use Rattle.region_labels.specs.Fates.{holds_in, is_dead_in, platform_of, region_in}

pub region-found : (kept : List RegionLabels) (handle : ℕ) (l : Label) → option_map region_in (find (λ (k : RegionLabels). belongs k.region handle l) kept) ≡ region_of (platform_of kept) handle l
region-found [] handle l = refl
region-found (k ∷ ks) handle l = by (belongs k.region handle l) (region-found ks handle l)
  where
    by : (b : Bool) → option_map region_in (find (λ (x : RegionLabels). belongs x.region handle l) ks) ≡ region_of (platform_of ks) handle l
        → option_map region_in (cond b (Some k) (find (λ (x : RegionLabels). belongs x.region handle l) ks)) ≡ cond b (Some k.region) (region_of (platform_of ks) handle l)
    by true rest = refl
    by false rest = rest

-- what holds of each that is kept holds of the one that is found
pub found-has : (P : RegionLabels → Type 0) (kept : List RegionLabels) (p : RegionLabels → Bool) (k : RegionLabels) → All P kept → Some k ≡ find p kept → P k
found-has P kept p k all found = All-contains P kept k all (find-some p kept k (sym found)).0

module _ (P : Platform) (L : Labels) (handle : ℕ) (l : Label) where
  and_true : (b : Bool) → (b && true) ≡ b
  and_true true = refl
  and_true false = refl

  and_false : (b : Bool) → (b && false) ≡ false
  and_false true = refl
  and_false false = refl

  pub dead-in : (r : Region) → Some r ≡ region_of P handle l → is_dead_in L r l ≡ is_dead P L handle l
  dead-in r found =
      (λ i. (is_updating l && sym (and_true (not (is_read_only l))) i) && is_unfinished L l.uuid (Some r))
      ∙ (λ i. (is_updating l && (not (is_read_only l) && is_some (found i))) && is_unfinished L l.uuid (found i))

  pub dead-none : None ≡ region_of P handle l → false ≡ is_dead P L handle l
  dead-none found =
      sym (and_false (is_updating l && (not (is_read_only l) && false)))
      ∙ (λ i. (is_updating l && (not (is_read_only l) && is_some (found i))) && is_unfinished L l.uuid (found i))

  pub held-in : (r : Region) → Some r ≡ region_of P handle l → holds_in L r l ≡ is_held P L handle l
  held-in r found = (λ i. not (dead-in r found i) && not (is_whole_in L l.uuid (found i)))

  pub held-none : None ≡ region_of P handle l → true ≡ is_held P L handle l
  held-none found = (λ i. not (dead-none found i) && not (is_whole_in L l.uuid (found i)))
