-- How many slots of a module are free after a label is put there, or one is freed.
use Rattle.std.proofs.Common.{◌≡◌, ◌≢◌, ◌⊎◌, inl, inr, ℕ, zero, suc, ◌+◌, ◌<◌, ◌≤◌, Bool, true, false, cond, not, ◌&&◌, ◌||◌, eqb, List, [], ◌∷◌, length, Option, Some, None, refl, sym, ap, subst, ◌∙◌, eq-eqb, arith}
use Rattle.std.specs.Prelude.{IsSome, find, nat_lt, unwrap_or}
use Rattle.std.specs.List.{range_with_len}
use Rattle.std.proofs.lemmas.Bool.{cases_eq, cases_lt, lt-ltb, ne_eqb}
use Rattle.index_block.specs.Bitmap.{free_count, is_free_in}
use Rattle.index_block.proofs.FreeSlots.{free_count-more}
use Rattle.label_codec.specs.declared.label.Label.{Label}
use Rattle.label_area.specs.Flips.{HasFree, Standing, first_slot, is_among, replaced}
use Rattle.label_area.specs.LoadedAreas.{LoadedArea, is_used}
use Rattle.label_area.proofs.FirstSlot.{free_count-none}
use Rattle.region_labels.specs.declared.modules.LoadedModule.{LoadedModule}
use Rattle.region_labels.specs.declared.modules.ModuleArea.{ModuleArea}
use Rattle.region_labels.specs.declared.modules.ModuleArea.TheVariants.{Missing, WrongSize, Uninit, Foreign, Ready}
use Rattle.region_labels.specs.Modules.{module_in}
use Rattle.module_flips.specs.Flips.{HasFreeIn, HasLabelsInUse, IsReplaced, first_slot_in, is_used_in, standing_in, with_free, with_put}
use Rattle.module_flips.specs.Together.{free_slots}

apart : {A : Type 0} → false ≡ true → A
apart e = absurd cc

-- the first that passes is found, or none passes
first-or-none : (p : ℕ → Bool) (a n : ℕ) → (p (unwrap_or (find p (range_with_len a n)) 0) ≡ true) ⊎ ((k : ℕ) → a ≤ k → k < a + n → p k ≡ false)
first-or-none p a zero = inr (λ k from below. absurd (omega (arith, from, below)))
first-or-none p a (suc n) = by (first-or-none p (a + 1) n) (p a) refl
  where
    by : (p (unwrap_or (find p (range_with_len (a + 1) n)) 0) ≡ true) ⊎ ((k : ℕ) → a + 1 ≤ k → k < a + 1 + n → p k ≡ false) → (b : Bool) → p a ≡ b
        → (p (unwrap_or (cond (p a) (Some a) (find p (range_with_len (a + 1) n))) 0) ≡ true) ⊎ ((k : ℕ) → a ≤ k → k < a + suc n → p k ≡ false)
    by rest true e = inl (ap (λ b. p (unwrap_or (cond b (Some a) (find p (range_with_len (a + 1) n))) 0)) e ∙ e)
    by rest false e = elim rest [
      | inl here ↦ inl (ap (λ b. p (unwrap_or (cond b (Some a) (find p (range_with_len (a + 1) n))) 0)) e ∙ here)
      | inr none ↦ inr (λ k from below. elim (cases_eq k a) [
        | inl same ↦ ap p same ∙ e
        | inr differ ↦ none k (omega (arith, from, differ)) (omega (arith, below))
      ])
    ]

first-free : (area : LoadedArea) → HasFree area → is_free_in area.free (first_slot area) ≡ true
first-free area has = elim (first-or-none (is_free_in area.free) 0 area.geometry.slots) [
  | inl here ↦ here
  | inr none ↦
      let zero_free : free_count area.free area.geometry.slots ≡ 0 = free_count-none area.free area.geometry.slots (λ k below. none k (omega arith) (omega (arith, below))) in
      absurd (omega (arith, has, zero_free))
]

-- how many slots below one are in use
abbrev pub used_count : (ℕ → Bool) → ℕ → ℕ
used_count used zero = 0
used_count used (suc n) = used_count used n + cond {A = ℕ} (used n) 1 0

same-count : (u v : ℕ → Bool) (n : ℕ) → ((k : ℕ) → k < n → v k ≡ u k) → used_count v n ≡ used_count u n
same-count u v zero same = refl
same-count u v (suc n) same =
    let rest : used_count v n ≡ used_count u n = same-count u v n (λ k below. same k (omega (arith, below))) in
    (λ i. rest i + cond {A = ℕ} (same n (omega arith) i) 1 0)

-- one more is in use
one-more : (u v : ℕ → Bool) (slot n : ℕ) → slot < n → u slot ≡ false → v slot ≡ true → ((k : ℕ) → k ≢ slot → v k ≡ u k) → used_count v n ≡ used_count u n + 1
one-more u v slot zero within was now others = absurd (omega (arith, within))
one-more u v slot (suc n) within was now others = elim (cases_eq slot n) [
  | inl last ↦
      let rest : used_count v n ≡ used_count u n = same-count u v n (λ k below. others k (λ e. absurd (omega (arith, below, e, last)))) in
      let a : cond {A = ℕ} (v n) 1 0 ≡ 1 = ap (λ b. cond {A = ℕ} b 1 0) (sym (ap v last) ∙ now) in
      let b : cond {A = ℕ} (u n) 1 0 ≡ 0 = ap (λ b. cond {A = ℕ} b 1 0) (sym (ap u last) ∙ was) in
      omega (arith, rest, a, b)
  | inr differ ↦
      let rest : used_count v n ≡ used_count u n + 1 = one-more u v slot n (omega (arith, within, differ)) was now others in
      let here : cond {A = ℕ} (v n) 1 0 ≡ cond {A = ℕ} (u n) 1 0 = ap (λ b. cond {A = ℕ} b 1 0) (others n (λ e. differ (sym e))) in
      omega (arith, rest, here)
]

-- the others are free
free-rest : (map : List ℕ) (used : ℕ → Bool) (n : ℕ) → ((k : ℕ) → k < n → used k ≡ not (is_free_in map k)) → free_count map n + used_count used n ≡ n
free-rest map used zero each = refl
free-rest map used (suc n) each =
    let rest : free_count map n + used_count used n ≡ n = free-rest map used n (λ k below. each k (omega (arith, below))) in
    let next : suc n ≡ n + 1 = omega arith in
    let more : free_count map (suc n) ≡ free_count map n + cond {A = ℕ} (is_free_in map n) 1 0 = ap (free_count map) next ∙ free_count-more map n in
    let here : cond {A = ℕ} (is_free_in map n) 1 0 + cond {A = ℕ} (used n) 1 0 ≡ 1 = ap (λ b. cond {A = ℕ} (is_free_in map n) 1 0 + cond {A = ℕ} b 1 0) (each n (omega arith)) ∙ by (is_free_in map n) in
    omega (arith, rest, more, here)
  where
    by : (b : Bool) → cond {A = ℕ} b 1 0 + cond {A = ℕ} (not b) 1 0 ≡ 1
    by true = refl
    by false = refl

free-and-used : (m : LoadedModule) → free_slots m + used_count (is_used_in m) (module_in m).slots ≡ (module_in m).slots
free-and-used m = by m.area m.dimm
  where
    by : (area : ModuleArea) (dimm : ℕ) → free_slots (record { dimm = dimm; area = area }) + used_count (is_used_in (record { dimm = dimm; area = area })) (module_in (record { dimm = dimm; area = area })).slots ≡ (module_in (record { dimm = dimm; area = area })).slots
    by Missing dimm = refl
    by (WrongSize size) dimm = refl
    by (Uninit size) dimm = refl
    by (Foreign size) dimm = refl
    by (Ready area) dimm = free-rest area.free (is_used area) area.geometry.slots (λ k below. ap (λ b. b && not (is_free_in area.free k)) (lt-ltb k area.geometry.slots below))

unused : (m : LoadedModule) → HasFreeIn m.area → is_used_in m (first_slot_in m) ≡ false
unused m has = by m.area m.dimm has
  where
    off : (b : Bool) → (b && not true) ≡ false
    off true = refl
    off false = refl

    by : (area : ModuleArea) (dimm : ℕ) → HasFreeIn area → is_used_in (record { dimm = dimm; area = area }) (first_slot_in (record { dimm = dimm; area = area })) ≡ false
    by Missing dimm has = absurd has
    by (WrongSize size) dimm has = absurd has
    by (Uninit size) dimm has = absurd has
    by (Foreign size) dimm has = absurd has
    by (Ready area) dimm has = ap (λ b. nat_lt (first_slot area) area.geometry.slots && not b) (first-free area has) ∙ off (nat_lt (first_slot area) area.geometry.slots)

off : (b : Bool) → (b && false) ≡ false
off true = refl
off false = refl

-- after a put, each slot that is replaced is one more free, and the one that is taken is one less
module _ (here : LoadedModule) (label : Label) (has : HasFreeIn here.area) (in_use : HasLabelsInUse here) (bounded : (slot : ℕ) → is_used_in here slot ≡ true → slot < (module_in here).slots) (within : first_slot_in here < (module_in here).slots) where
  abbrev pub slot : ℕ
  slot = first_slot_in here

  abbrev pub all : ℕ
  all = (module_in here).slots

  taken : (rest : ℕ → Bool) → (eqb slot slot || rest slot) ≡ true
  taken rest = ap (λ b. b || rest slot) (eq-eqb slot slot refl)

  other : (rest : ℕ → Bool) (k : ℕ) → k ≢ slot → (eqb k slot || rest k) ≡ rest k
  other rest k differ = ap (λ b. b || rest k) (ne_eqb k slot differ)

  used-at : (r : ℕ) → IsSome ((module_in here).at r) → is_used_in here r ≡ true
  used-at r some = by ((module_in here).at r) refl some
    where
      by : (o : Option Label) → (module_in here).at r ≡ o → IsSome o → is_used_in here r ≡ true
      by None e none = apart none
      by (Some l) e is = in_use r l e

  counted : (now : ℕ → Bool) (r : Option ℕ) → IsReplaced here r → ((k : ℕ) → now k ≡ (with_put slot label r (standing_in here)).used k)
      → used_count now all + length (replaced r) ≡ used_count (is_used_in here) all + 1
  counted now None there used =
      let more : used_count now all ≡ used_count (is_used_in here) all + 1 = one-more (is_used_in here) now slot all within (unused here has) (used slot ∙ taken (is_used_in here)) (λ k differ. used k ∙ other (is_used_in here) k differ) in
      omega (arith, more)
  counted now (Some r) there used =
      let was : is_used_in here r ≡ true = used-at r there in
      let mid : ℕ → Bool = λ k. not (is_among (r ∷ []) k) && is_used_in here k in
      let gone : mid r ≡ false = ap (λ b. not (b || false) && is_used_in here r) (eq-eqb r r refl) in
      let a : used_count (is_used_in here) all ≡ used_count mid all + 1 = one-more mid (is_used_in here) r all (bounded r was) gone was (λ k differ. sym (ap (λ b. not (b || false) && is_used_in here k) (ne_eqb k r differ))) in
      let free : mid slot ≡ false = ap (λ b. not (is_among (r ∷ []) slot) && b) (unused here has) ∙ off (not (is_among (r ∷ []) slot)) in
      let b : used_count now all ≡ used_count mid all + 1 = one-more mid now slot all within free (used slot ∙ taken mid) (λ k differ. used k ∙ other mid k differ) in
      omega (arith, a, b)

  pub put-free : (now : LoadedModule) (replaces : Option ℕ) → IsReplaced here replaces → standing_in now ≡ with_put slot label replaces (standing_in here)
      → free_slots now + 1 ≡ free_slots here + length (replaced replaces)
  put-free now replaces there put =
      let slots : (module_in now).slots ≡ all = ap (λ (s : Standing). s.labels.slots) put in
      let before : free_slots here + used_count (is_used_in here) all ≡ all = free-and-used here in
      let after : free_slots now + used_count (is_used_in now) all ≡ all = subst (λ n. free_slots now + used_count (is_used_in now) n ≡ n) slots (free-and-used now) in
      let more : used_count (is_used_in now) all + length (replaced replaces) ≡ used_count (is_used_in here) all + 1 = counted (is_used_in now) replaces there (λ k. ap (λ (s : Standing). s.used k) put) in
      omega (arith, before, after, more)

-- a slot in use that is freed is one more
pub one-freed : (here now : LoadedModule) (slot : ℕ) → slot < (module_in here).slots → is_used_in here slot ≡ true → standing_in now ≡ with_free (slot ∷ []) (standing_in here) → free_slots now ≡ free_slots here + 1
one-freed here now slot lt used freed =
    let all : ℕ = (module_in here).slots in
    let slots : (module_in now).slots ≡ all = ap (λ (s : Standing). s.labels.slots) freed in
    let used_is : (k : ℕ) → is_used_in now k ≡ (not (is_among (slot ∷ []) k) && is_used_in here k) = λ k. ap (λ (s : Standing). s.used k) freed in
    let gone : is_used_in now slot ≡ false = used_is slot ∙ ap (λ b. not (b || false) && is_used_in here slot) (eq-eqb slot slot refl) in
    let less : used_count (is_used_in here) all ≡ used_count (is_used_in now) all + 1 =
    one-more (is_used_in now) (is_used_in here) slot all lt gone used (λ k differ. sym (used_is k ∙ ap (λ b. not (b || false) && is_used_in here k) (ne_eqb k slot differ))) in
    let before : free_slots here + used_count (is_used_in here) all ≡ all = free-and-used here in
    let after : free_slots now + used_count (is_used_in now) all ≡ all = subst (λ n. free_slots now + used_count (is_used_in now) n ≡ n) slots (free-and-used now) in
    omega (arith, before, after, less)
