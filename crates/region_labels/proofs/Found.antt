-- What is found of a uuid in a module, and the only label that has it.
use Rattle.std.proofs.Common.{◌≡◌, ◌⊎◌, inl, inr, ℕ, ◌≤◌, ◌<◌, Bool, true, false, ◌&&◌, cond, List, Option, Some, None, refl, sym, ap, subst, ◌∙◌, arith}
use Rattle.std.specs.Prelude.{◌==◌, nat_lt}
use Rattle.std.proofs.lemmas.Bool.Decides.{nat_tests}
use Rattle.label_codec.specs.declared.label.Label.{Label}
use Rattle.label_codec.specs.ModuleLabels.{Module, first_below, has, label_if, number, of_uuid, one}
use Rattle.label_codec.proofs.Counting.{IsFirst, count-one, count-same, first_below-cases, number-of_uuid}
use Rattle.label_table.specs.Plain.{HasOnly, IsOnly}
use Rattle.label_table.specs.Wholes.{any_label}
use Rattle.label_table.proofs.Leaving.{label_if-passes}
use Rattle.label_table.proofs.ListTests.{none_some, some_is}
use Rattle.label_table.proofs.OnlyLabels.{only-first}
use Rattle.uuid_index.specs.Found.{IsLive}

-- the labels with a uuid are those that have it
pub number-with : (u : List ℕ) (M : Module) → number any_label (of_uuid u M) ≡ number (has u) M
number-with u M = number-of_uuid u any_label M ∙ count-same (λ l. has u l && any_label l) (has u) M.at M.at M.slots (λ k lt. by (M.at k))
  where
    by : (o : Option Label) → one (λ l. has u l && any_label l) o ≡ one (has u) o
    by None = refl
    by (Some l) = at (has u l)
      where
        at : (b : Bool) → cond {A = ℕ} (b && true) 1 0 ≡ cond b 1 0
        at true = refl
        at false = refl

pub only-live : (u : List ℕ) (M : Module) (slot : ℕ) → number (has u) M ≡ 1 → (live : IsLive u M slot) → HasOnly u M live.label
only-live u M slot one_is live = by (first_below-cases (of_uuid u M).at M.slots)
  where
    once : number any_label (of_uuid u M) ≡ 1
    once = number-with u M ∙ one_is

    here : label_if (has u) (M.at slot) ≡ Some live.label
    here = label_if-passes (has u) (M.at slot) live.label live.is live.has_uuid

    by : ((first_below (of_uuid u M).at M.slots ≡ None) × ((k : ℕ) → k < M.slots → label_if (has u) (M.at k) ≡ None))
        ⊎ ((l : Label) × (first_below (of_uuid u M).at M.slots ≡ Some l) × IsFirst (of_uuid u M).at M.slots l) → HasOnly u M live.label
    by (inl none) = none_some (label_if (has u) (M.at slot)) (none.1 slot live.within) here
    by (inr found) =
        let few : number any_label (of_uuid u M) ≡ 1 = once in
        let e : slot ≡ found.2.slot = count-one any_label (of_uuid u M).at M.slots (omega arith) slot found.2.slot live.label found.0 live.within found.2.within here found.2.is refl refl in
        let same : found.0 ≡ live.label = some_is (sym found.2.is ∙ sym (ap (of_uuid u M).at e) ∙ here) in
        subst (λ o. IsOnly u M o) (found.1 ∙ ap Some same) (only-first u M once)

pub not-once_none : (u : List ℕ) (M : Module) → number (has u) M ≡ 0 → (number any_label (of_uuid u M) == 1) ≡ false
not-once_none u M none = let e : number any_label (of_uuid u M) ≡ 0 = number-with u M ∙ none in grind (arith, nat_tests)

pub not-once_many : (u : List ℕ) (M : Module) → 2 ≤ number (has u) M → (number any_label (of_uuid u M) == 1) ≡ false
not-once_many u M many = let e : number any_label (of_uuid u M) ≡ number (has u) M = number-with u M in grind (arith, nat_tests)

-- whether there are two or more
pub above-none : (u : List ℕ) (M : Module) → number (has u) M ≡ 0 → nat_lt 1 (number any_label (of_uuid u M)) ≡ false
above-none u M none = let e : number any_label (of_uuid u M) ≡ 0 = number-with u M ∙ none in grind (arith, nat_tests)

pub above-one : (u : List ℕ) (M : Module) → number (has u) M ≡ 1 → nat_lt 1 (number any_label (of_uuid u M)) ≡ false
above-one u M one_is = let e : number any_label (of_uuid u M) ≡ 1 = number-with u M ∙ one_is in grind (arith, nat_tests)

pub above-many : (u : List ℕ) (M : Module) → 2 ≤ number (has u) M → nat_lt 1 (number any_label (of_uuid u M)) ≡ true
above-many u M many = let e : number any_label (of_uuid u M) ≡ number (has u) M = number-with u M in grind (arith, nat_tests)
