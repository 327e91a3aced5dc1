-- A module with as many free slots as spare ones has neither junk nor dead labels.
use Rattle.std.proofs.Common.{◌≡◌, ℕ, zero, suc, ◌+◌, ◌-◌, ◌<◌, ◌≤◌, Bool, true, false, cond, not, ◌&&◌, List, get_or, Option, Some, None, refl, sym, ap, subst, ◌∙◌, inl, inr, arith}
use Rattle.std.specs.Prelude.{is_some, nat_lt}
use Rattle.std.proofs.lemmas.Bool.{and_parts, cases_eq, cases_lt}
use Rattle.index_block.specs.Bitmap.{free_count, is_free_in}
use Rattle.index_block.proofs.FreeSlots.{free_count-more}
use Rattle.label_codec.specs.declared.label.Label.{Label}
use Rattle.label_codec.specs.ModuleLabels.{Labels, count, one}
use Rattle.region_map.specs.declared.platform.Platform.{Platform}
use Rattle.label_table.specs.Fates.{is_dead}
use Rattle.region_labels.specs.declared.modules.ModuleArea.{ModuleArea}
use Rattle.region_labels.specs.declared.modules.ModuleArea.TheVariants.{Missing, WrongSize, Uninit, Foreign, Ready}
use Rattle.region_labels.specs.Held.{spare_in}
use Rattle.region_labels.specs.Modules.{labels_in, module_in}
use Rattle.module_flips.specs.Flips.{HasLabelsInUse, is_used_in}
use Rattle.module_flips.specs.Together.{free_slots}
use Rattle.module_flips.proofs.Freed.{used-within}
use Rattle.region_labels.specs.Fates.{platform_of}
use Rattle.label_sets.specs.declared.sets.Sets.TheInside.{Inside}
use Rattle.label_sets.specs.Kept.{IsKept, shown}
use Rattle.label_sets.specs.Sets.{StoredSets}
use Rattle.label_sets.specs.Sweeps.{IsFreeAsSpare, IsSweptAt}
use Rattle.module_flips.specs.Sweeps.{IsSwept}
use Rattle.label_sets.proofs.SpareSlots.{spare-there}

apart : {A : Type 0} → false ≡ true → A
apart e = absurd cc

none_some : {A : Type 0} {l : Label} → None ≡ Some l → A
none_some e = absurd cc

not-true : (b : Bool) → not b ≡ true → b ≡ false
not-true true e = apart e
not-true false e = refl

-- A slot with a label is not free.
module _ (map : List ℕ) (at : ℕ → Option Label) (p : Label → Bool) (used : (k : ℕ) (l : Label) → at k ≡ Some l → is_free_in map k ≡ false) where
  abbrev pub weight : ℕ → ℕ
  weight k = one p (at k) + cond {A = ℕ} (is_free_in map k) 1 0

  bit : (b : Bool) → cond {A = ℕ} b 1 0 ≤ 1
  bit true = omega arith
  bit false = omega arith

  weight-one : (k : ℕ) → weight k ≤ 1
  weight-one k = by (at k) refl
    where
      by : (o : Option Label) → at k ≡ o → weight k ≤ 1
      by None e =
          let none : one p (at k) ≡ 0 = ap (one p) e in
          let few : cond {A = ℕ} (is_free_in map k) 1 0 ≤ 1 = bit (is_free_in map k) in
          omega (arith, none, few)
      by (Some l) e =
          let some : one p (at k) ≡ cond {A = ℕ} (p l) 1 0 = ap (one p) e in
          let few : cond {A = ℕ} (p l) 1 0 ≤ 1 = bit (p l) in
          let none : cond {A = ℕ} (is_free_in map k) 1 0 ≡ 0 = ap (λ b. cond {A = ℕ} b 1 0) (used k l e) in
          omega (arith, some, few, none)

  more : (n : ℕ) → count p at (suc n) + free_count map (suc n) ≡ (count p at n + free_count map n) + weight n
  more n =
      let next : suc n ≡ n + 1 = omega arith in
      let free : free_count map (suc n) ≡ free_count map n + cond {A = ℕ} (is_free_in map n) 1 0 = ap (free_count map) next ∙ free_count-more map n in
      let counted : count p at (suc n) ≡ one p (at n) + count p at n = refl in
      omega (arith, free, counted)

  pub few : (n : ℕ) → count p at n + free_count map n ≤ n
  few zero = let none : count p at 0 + free_count map 0 ≡ 0 = refl in omega (arith, none)
  few (suc n) =
      let rest : count p at n + free_count map n ≤ n = few n in
      let here : weight n ≤ 1 = weight-one n in
      let all : count p at (suc n) + free_count map (suc n) ≡ (count p at n + free_count map n) + weight n = more n in
      omega (arith, rest, here, all)

  -- where they are as many as the slots, each slot is free or has a label that passes
  pub tight : (n : ℕ) → count p at n + free_count map n ≡ n → (k : ℕ) → k < n → weight k ≡ 1
  tight zero e k lt = absurd (omega (arith, lt))
  tight (suc n) e k lt =
      let rest : count p at n + free_count map n ≤ n = few n in
      let here : weight n ≤ 1 = weight-one n in
      let all : count p at (suc n) + free_count map (suc n) ≡ (count p at n + free_count map n) + weight n = more n in
      elim (cases_eq k n) [
        | inl same ↦ let one_more : weight n ≡ 1 = omega (arith, rest, here, all, e) in ap weight same ∙ one_more
        | inr differ ↦ tight n (omega (arith, rest, here, all, e)) k (below k n differ lt)
      ]
    where
      below : (a b : ℕ) → (a ≡ b → ⊥) → a < suc b → a < b
      below a b differ lt = grind arith

  free-by : (b : Bool) → cond {A = ℕ} b 1 0 ≡ 1 → b ≡ true
  free-by true e = refl
  free-by false e = absurd (omega (arith, e))

  pub none-free : (k : ℕ) → weight k ≡ 1 → at k ≡ None → is_free_in map k ≡ true
  none-free k e none =
      let nothing : one p (at k) ≡ 0 = ap (one p) none in
      free-by (is_free_in map k) (omega (arith, e, nothing))

  pub passes : (k : ℕ) (l : Label) → weight k ≡ 1 → at k ≡ Some l → p l ≡ true
  passes k l e is =
      let some : one p (at k) ≡ cond {A = ℕ} (p l) 1 0 = ap (one p) is in
      let none : cond {A = ℕ} (is_free_in map k) 1 0 ≡ 0 = ap (λ b. cond {A = ℕ} b 1 0) (used k l is) in
      free-by (p l) (omega (arith, e, some, none))

pub swept-by-count : (P : Platform) (L : Labels) (dimm : ℕ) (stored : ModuleArea) → HasLabelsInUse (record { dimm = dimm; area = stored })
    → free_slots (record { dimm = dimm; area = stored }) ≡ spare_in P L (record { dimm = dimm; area = stored }) → IsSwept P L (record { dimm = dimm; area = stored })
swept-by-count P L dimm Missing in_use same = record { no_junk = λ k. refl; no_dead = λ k l is. none_some is; free = same }
swept-by-count P L dimm (WrongSize size) in_use same = record { no_junk = λ k. refl; no_dead = λ k l is. none_some is; free = same }
swept-by-count P L dimm (Uninit size) in_use same = record { no_junk = λ k. refl; no_dead = λ k l is. none_some is; free = same }
swept-by-count P L dimm (Foreign size) in_use same = record { no_junk = λ k. refl; no_dead = λ k l is. none_some is; free = same }
swept-by-count P L dimm (Ready area) in_use same = record { no_junk = junk; no_dead = dead; free = same }
  where
    used : (k : ℕ) (l : Label) → (module_in (record { dimm = dimm; area = Ready area })).at k ≡ Some l → is_free_in area.free k ≡ false
    used k l is = not-true (is_free_in area.free k) (and_parts (nat_lt k area.geometry.slots) (not (is_free_in area.free k)) (in_use k l is)).1

    each : (k : ℕ) → k < area.geometry.slots → weight area.free (module_in (record { dimm = dimm; area = Ready area })).at (λ l. not (is_dead P L dimm l)) used k ≡ 1
    each =
        let at = (module_in (record { dimm = dimm; area = Ready area })).at in
        let p : Label → Bool = λ l. not (is_dead P L dimm l) in
        let most : count p at area.geometry.slots + free_count area.free area.geometry.slots ≤ area.geometry.slots = few area.free at p used area.geometry.slots in
        let there : free_count area.free area.geometry.slots ≡ area.geometry.slots - count p at area.geometry.slots = same in
        tight area.free at p used area.geometry.slots (omega (arith, most, there))

    junk : (k : ℕ) → is_used_in (record { dimm = dimm; area = Ready area }) k ≡ is_some ((module_in (record { dimm = dimm; area = Ready area })).at k)
    junk k = by ((module_in (record { dimm = dimm; area = Ready area })).at k) refl
      where
        by : (o : Option Label) → (module_in (record { dimm = dimm; area = Ready area })).at k ≡ o → is_used_in (record { dimm = dimm; area = Ready area }) k ≡ is_some ((module_in (record { dimm = dimm; area = Ready area })).at k)
        by (Some l) e = in_use k l e ∙ sym (ap is_some e)
        by None e = elim (cases_lt k area.geometry.slots) [
          | inl lt ↦
              let is_free : is_free_in area.free k ≡ true = none-free area.free (module_in (record { dimm = dimm; area = Ready area })).at (λ l. not (is_dead P L dimm l)) used k (each k lt) e in
              (λ i. nat_lt k area.geometry.slots && not (is_free i)) ∙ never (nat_lt k area.geometry.slots) ∙ sym (ap is_some e)
          | inr le ↦ unused (is_used_in (record { dimm = dimm; area = Ready area }) k) refl le ∙ sym (ap is_some e)
        ]
          where
            never : (b : Bool) → (b && false) ≡ false
            never true = refl
            never false = refl

            unused : (b : Bool) → is_used_in (record { dimm = dimm; area = Ready area }) k ≡ b → area.geometry.slots ≤ k → b ≡ false
            unused false is le = refl
            unused true is le = let lt : k < area.geometry.slots = used-within (Ready area) dimm k is in absurd (omega (arith, lt, le))

    dead : (k : ℕ) (l : Label) → (module_in (record { dimm = dimm; area = Ready area })).at k ≡ Some l → is_dead P L dimm l ≡ false
    dead k l is =
        let lt : k < area.geometry.slots = used-within (Ready area) dimm k (in_use k l is) in
        not-true (is_dead P L dimm l) (passes area.free (module_in (record { dimm = dimm; area = Ready area })).at (λ l2. not (is_dead P L dimm l2)) used k l (each k lt) is)

-- a module of the state with as many free slots as spare ones is swept
pub swept-where-free : (inside : Inside) → IsKept inside → (sets : StoredSets) → shown inside ≡ sets → (dimm : ℕ) → IsFreeAsSpare sets dimm → IsSweptAt sets dimm
swept-where-free inside kept sets view = subst (λ (s : StoredSets). (dimm : ℕ) → IsFreeAsSpare s dimm → IsSweptAt s dimm) view base
  where
    base : (dimm : ℕ) → IsFreeAsSpare (shown inside) dimm → IsSweptAt (shown inside) dimm
    base dimm free place d lt is =
        let ms = inside.modules.items in
        let P = platform_of inside.regions.items in
        let here = get_or ms place d in
        swept-by-count P (labels_in ms) here.dimm here.area (kept.in_use place d lt) (free place d lt is ∙ sym (spare-there P ms kept.once place d lt dimm is))
