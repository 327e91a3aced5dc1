-- The first extent in which a range fits.
use Rattle.std.proofs.Common.{◌≡◌, ◌⊎◌, inl, inr, ℕ, ◌+◌, ◌%◌, ◌^◌, ◌≤◌, ◌<◌, List, ◌∷◌, sym, ◌∙◌, arith}
use Rattle.std.specs.Prelude.{◌||◌}
use Rattle.std.proofs.lemmas.Bool.{cases_lt}
use Rattle.view_types.specs.declared.extents.Extent.{Extent}
use Rattle.view_types.specs.Intervals.{end_of, is_within, is_free, AllFree, Ascend, IsFirstFit}
use Rattle.view_types.proofs.Intervals.{within_yes, ascend_from, inside_first, free_later, or_true}
use Rattle.extent_alloc.specs.Fits.{IsFitIn, NoFitIn, IsLeft}

module _ (whole : ℕ) (all left : List Extent) (e : Extent) (len align : ℕ) (some : 0 < len) (now : IsLeft whole all (e ∷ left) len align) where
  later : (p : ℕ) → end_of e ≤ p → AllFree (is_free (e ∷ left)) p len → AllFree (is_free left) p len
  later p past free o ge lt = sym (free_later e left o (omega arith)) ∙ free o ge lt

  -- where no range fits into the first extent, those left are the others
  pub left_others : NoFitIn e len align → IsLeft whole all left len align
  left_others none = record {
    ascend = ascend_from 0 (end_of e + 1) whole left (omega arith) now.ascend.3;
    bound = now.bound;
    free_in = λ o free. now.free_in o (or_true (is_within e.start e.len o) (is_free left o) free);
    fits = λ p multiple free. by p multiple (now.fits p multiple free) (cases_lt p (end_of e));
  }
    where
      by : (p : ℕ) → p % align ≡ 0 → AllFree (is_free (e ∷ left)) p len → (p < end_of e) ⊎ (end_of e ≤ p) → AllFree (is_free left) p len
      by p multiple free (inl lt) = absurd (none p multiple (inside_first 0 whole e left p len now.ascend some free lt))
      by p multiple free (inr past) = later p past free

  pub first_fit : (at : ℕ) → IsFitIn e len align at → IsFirstFit (is_free all) len align at
  first_fit at fit = record {
    multiple = fit.multiple;
    free_from = λ o ge lt. now.free_in o (λ i. within_yes e.start e.len o (omega (arith, fit.inside.starts)) (omega (arith, fit.inside.ends)) i || is_free left o);
    least = λ p multiple free. by p multiple (now.fits p multiple free) (cases_lt p (end_of e));
  }
    where
      by : (p : ℕ) → p % align ≡ 0 → AllFree (is_free (e ∷ left)) p len → (p < end_of e) ⊎ (end_of e ≤ p) → at ≤ p
      by p multiple free (inl lt) = fit.least p multiple (inside_first 0 whole e left p len now.ascend some free lt)
      by p multiple free (inr past) = omega (arith, fit.inside.ends)

pub all_left : (whole : ℕ) (all : List Extent) (len align : ℕ) → Ascend 0 whole all → whole < 2 ^ 64 → IsLeft whole all all len align
all_left whole all len align up bound = record { ascend = up; bound = bound; free_in = λ o free. free; fits = λ p multiple free. free }
