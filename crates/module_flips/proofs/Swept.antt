-- A module whose junk and unwanted labels were freed has neither, and is as free as it is spare.
use Rattle.std.proofs.Common.{◌≡◌, ℕ, zero, suc, ◌+◌, ◌<◌, Bool, true, false, cond, not, ◌&&◌, List, Option, Some, None, refl, sym, ap, ◌∙◌, arith}
use Rattle.std.specs.Prelude.{is_some}
use Rattle.std.specs.Option.{option_map_or}
use Rattle.index_block.specs.Bitmap.{free_count, is_free_in}
use Rattle.index_block.proofs.FreeSlots.{free_count-more}
use Rattle.label_codec.specs.declared.label.Label.{Label}
use Rattle.label_codec.specs.ModuleLabels.{count, one}
use Rattle.label_area.specs.Flips.{Standing, is_among}
use Rattle.module_flips.specs.Flips.{with_free}
use Rattle.module_flips.specs.Sweeps.{slots_below}
use Rattle.module_flips.proofs.Slots.{among-from}

apart : false ≡ true → ⊥
apart e = cc

junk-by : (g u : Bool) (o : Option Label) → (u ≡ true → g ≡ false → is_some o ≡ true) → (is_some o ≡ true → u ≡ true) → (not g && u) ≡ is_some (cond g None o)
junk-by true u o some used = refl
junk-by false true o some used = sym (some refl refl)
junk-by false false None some used = refl
junk-by false false (Some l) some used = absurd (apart (used refl))

left-by : (g : Bool) (o : Option Label) (l : Label) → cond g None o ≡ Some l → (g ≡ false) × (o ≡ Some l)
left-by true o l e = absurd cc
left-by false o l e = (refl, e)

-- Of a module the slots are freed that are in use and have no label, or one that passes a test.
module _ (was : Standing) (test : Label → Bool) (live : (k : ℕ) → is_some (was.labels.at k) ≡ true → was.used k ≡ true) (within : (k : ℕ) → was.used k ≡ true → k < was.labels.slots) where
  abbrev pub unwanted : ℕ → Bool
  unwanted k = was.used k && option_map_or test (was.labels.at k) true

  abbrev pub gone : ℕ → Bool
  gone k = is_among (slots_below unwanted was.labels.slots) k

  abbrev pub left : Standing
  left = with_free (slots_below unwanted was.labels.slots) was

  wanted : (k : ℕ) → was.used k ≡ true → gone k ≡ false → option_map_or test (was.labels.at k) true ≡ false
  wanted k used stays = by (option_map_or test (was.labels.at k) true) refl
    where
      by : (b : Bool) → option_map_or test (was.labels.at k) true ≡ b → option_map_or test (was.labels.at k) true ≡ false
      by false e = e
      by true e = absurd (apart (sym stays ∙ among-from unwanted was.labels.slots k (within k used) (λ i. used i && e i)))

  some-of : (o : Option Label) → option_map_or test o true ≡ false → is_some o ≡ true
  some-of None e = absurd (apart (sym e))
  some-of (Some l) e = refl

  pub no-junk : (k : ℕ) → left.used k ≡ is_some (left.labels.at k)
  no-junk k = junk-by (gone k) (was.used k) (was.labels.at k) (λ used stays. some-of (was.labels.at k) (wanted k used stays)) (live k)

  pub none-passes : (k : ℕ) (l : Label) → left.labels.at k ≡ Some l → test l ≡ false
  none-passes k l at =
      let here : (gone k ≡ false) × (was.labels.at k ≡ Some l) = left-by (gone k) (was.labels.at k) l at in
      let used : was.used k ≡ true = live k (ap is_some here.1) in
      sym (ap (λ o. option_map_or test o true) here.1) ∙ wanted k used here.0

-- each slot is free or has a label that passes
pub free-or-passing : (map : List ℕ) (at : ℕ → Option Label) (p : Label → Bool) (n : ℕ) → ((k : ℕ) → k < n → is_free_in map k ≡ not (is_some (at k))) → ((k : ℕ) (l : Label) → at k ≡ Some l → p l ≡ true) → count p at n + free_count map n ≡ n
free-or-passing map at p zero free passes = refl
free-or-passing map at p (suc n) free passes =
    let before : count p at n + free_count map n ≡ n = free-or-passing map at p n (λ k lt. free k (omega arith)) passes in
    let next : suc n ≡ n + 1 = omega arith in
    let more : free_count map (suc n) ≡ free_count map n + cond {A = ℕ} (is_free_in map n) 1 0 = ap (free_count map) next ∙ free_count-more map n in
    let here : one p (at n) + cond {A = ℕ} (is_free_in map n) 1 0 ≡ 1 = by (at n) refl in
    omega (arith, before, more, here)
  where
    by : (o : Option Label) → at n ≡ o → one p (at n) + cond {A = ℕ} (is_free_in map n) 1 0 ≡ 1
    by None e = (λ i. one p (e i) + cond {A = ℕ} ((free n (omega arith) ∙ ap (λ o. not (is_some o)) e) i) 1 0)
    by (Some l) e = (λ i. one p (e i) + cond {A = ℕ} ((free n (omega arith) ∙ ap (λ o. not (is_some o)) e) i) 1 0) ∙ ap (λ b. cond {A = ℕ} b 1 0 + 0) (passes n l e)
