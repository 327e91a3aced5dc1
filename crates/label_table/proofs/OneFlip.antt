-- What one flip of a module is: it leaves out dead labels, or changes the labels of one uuid.
use Rattle.std.proofs.Common.{◌≡◌, ◌≢◌, ◌⊎◌, inl, inr, ℕ, ◌≤◌, ◌<◌, Bool, true, false, not, cond, List, Option, Some, None, refl, sym, ap, subst, ◌∙◌, arith}
use Rattle.std.specs.Prelude.{◌==◌}
use Rattle.std.proofs.lemmas.Bool.{cases_eq}
use Rattle.label_codec.specs.declared.label.Label.{Label}
use Rattle.label_codec.specs.ModuleChanges.{with_label, with_module, without_slots}
use Rattle.label_codec.specs.ModuleLabels.{IsBounded, Labels, Module, has, label_if}
use Rattle.region_map.specs.declared.platform.Platform.{Platform}
use Rattle.label_table.specs.Fates.{is_dead}
use Rattle.label_table.specs.Flips.{IsConfined, LeavesOut, LosesDead, other_labels}
use Rattle.label_table.proofs.ListTests.{eq_other, eq_same, eq_true, some_is}
use Rattle.label_table.proofs.WholeUuids.{same_module}

-- the module at a handle, and those of the others
pub with_module-here : (m : ℕ) (area : Module) (L : Labels) → with_module m area L m ≡ area
with_module-here m area L = let t : (m == m) ≡ true = eq_same m m refl in λ i. cond (t i) area (L m)

pub with_module-other : (m : ℕ) (area : Module) (L : Labels) (q : ℕ) → q ≢ m → with_module m area L q ≡ L q
with_module-other m area L q differ = let f : (q == m) ≡ false = eq_other q m differ in λ i. cond (f i) area (L q)

-- a property of the module at a handle and of the others
with_module-by : (m : ℕ) (area : Module) (L : Labels) (fact : ℕ → Module → Type 0) → fact m area → ((q : ℕ) → q ≢ m → fact q (L q)) → (q : ℕ) → fact q (with_module m area L q)
with_module-by m area L fact here others q = elim (cases_eq q m) [
  | inl e ↦ subst (λ j. fact j (with_module m area L j)) (sym e) (subst (λ N. fact m N) (sym (with_module-here m area L)) here)
  | inr differ ↦ subst (λ N. fact q N) (sym (with_module-other m area L q differ)) (others q differ)
]

-- The labels of the slots that are freed are dead.
pub freed-dead : (P : Platform) (L : Labels) (m : ℕ) (freed : ℕ → Bool) → ((k : ℕ) (l : Label) → freed k ≡ true → (L m).at k ≡ Some l → is_dead P L m l ≡ true)
    → LeavesOut P L (with_module m (without_slots freed (L m)) L)
freed-dead P L m freed dies = record {
  kind = with_module-by m (without_slots freed (L m)) L (λ q N. N.kind ≡ (L q).kind) refl (λ q differ. refl);
  slots = with_module-by m (without_slots freed (L m)) L (λ q N. N.slots ≡ (L q).slots) refl (λ q differ. refl);
  each = λ q k. each k q;
}
  where
    out : (k : ℕ) (b : Bool) → freed k ≡ b → (o : Option Label) → (L m).at k ≡ o → (cond b None ((L m).at k) ≡ (L m).at k) ⊎ LosesDead P L (with_module m (without_slots freed (L m)) L) m k
    out k false e o is = inl refl
    out k true e None is = inl (sym is)
    out k true e (Some l) is = inr (record {
      label = l;
      was = is;
      dead = dies k l e is;
      gone = ap (λ (N : Module). N.at k) (with_module-here m (without_slots freed (L m)) L) ∙ (λ i. cond (e i) None ((L m).at k));
    })

    each : (k : ℕ) (q : ℕ) → ((with_module m (without_slots freed (L m)) L q).at k ≡ (L q).at k) ⊎ LosesDead P L (with_module m (without_slots freed (L m)) L) q k
    each k = with_module-by m (without_slots freed (L m)) L (λ q N. (N.at k ≡ (L q).at k) ⊎ LosesDead P L (with_module m (without_slots freed (L m)) L) q k) (out k (freed k) refl ((L m).at k) refl) (λ q differ. inl refl)

-- A module with the same labels of other uuids.
pub confined-by : (u : List ℕ) (m : ℕ) (area : Module) (L : Labels) → other_labels u area ≡ other_labels u (L m) → IsConfined u m L (with_module m area L)
confined-by u m area L rest = record { others = λ q differ. with_module-other m area L q differ; rest = ap (other_labels u) (with_module-here m area L) ∙ rest }

drop_u : (u : List ℕ) (o : Option Label) → ((l : Label) → o ≡ Some l → has u l ≡ true) → label_if (λ l. not (has u l)) o ≡ None
drop_u u None f = refl
drop_u u (Some l) f = let t : has u l ≡ true = f l refl in rw t refl

-- The labels of the slots that are freed have one uuid,
pub freed-other : (u : List ℕ) (area : Module) (freed : ℕ → Bool) → ((k : ℕ) (l : Label) → freed k ≡ true → area.at k ≡ Some l → has u l ≡ true) → other_labels u (without_slots freed area) ≡ other_labels u area
freed-other u area freed goes = same_module (other_labels u (without_slots freed area)) (other_labels u area) refl refl (λ k. by k (freed k) refl)
  where
    by : (k : ℕ) (b : Bool) → freed k ≡ b → label_if (λ l. not (has u l)) (cond b None (area.at k)) ≡ label_if (λ l. not (has u l)) (area.at k)
    by k false e = refl
    by k true e = sym (drop_u u (area.at k) (λ l is. goes k l e is))

-- and so has the label that comes into a slot without one.
pub put-other : (u : List ℕ) (area : Module) (slot : ℕ) (l : Label) → area.at slot ≡ None → has u l ≡ true → other_labels u (with_label slot l area) ≡ other_labels u area
put-other u area slot l was_free h = same_module (other_labels u (with_label slot l area)) (other_labels u area) refl refl (λ k. by k (k == slot) refl)
  where
    by : (k : ℕ) (b : Bool) → (k == slot) ≡ b → label_if (λ x. not (has u x)) (cond b (Some l) (area.at k)) ≡ label_if (λ x. not (has u x)) (area.at k)
    by k false e = refl
    by k true e =
        let none : area.at k ≡ None = subst (λ j. area.at j ≡ None) (sym (eq_true k slot e)) was_free in
        drop_u u (Some l) (λ x is. subst (λ (y : Label). has u y ≡ true) (some_is is) h) ∙ sym (ap (label_if (λ x. not (has u x))) none)

-- Labels stay within the slots.
pub with_module-bounded : (L : Labels) → IsBounded L → (m : ℕ) (area : Module) → ((k : ℕ) → area.slots ≤ k → area.at k ≡ None) → IsBounded (with_module m area L)
with_module-bounded L bounded m area within = record { past = with_module-by m area L (λ q N. (k : ℕ) → N.slots ≤ k → N.at k ≡ None) within (λ q differ. bounded.past q) }

pub without_slots-bounded : (area : Module) (freed : ℕ → Bool) → ((k : ℕ) → area.slots ≤ k → area.at k ≡ None) → (k : ℕ) → area.slots ≤ k → (without_slots freed area).at k ≡ None
without_slots-bounded area freed within k le = by (freed k)
  where
    by : (b : Bool) → cond b None (area.at k) ≡ None
    by true = refl
    by false = within k le

pub with_label-bounded : (area : Module) (slot : ℕ) (l : Label) → slot < area.slots → ((k : ℕ) → area.slots ≤ k → area.at k ≡ None) → (k : ℕ) → area.slots ≤ k → (with_label slot l area).at k ≡ None
with_label-bounded area slot l lt within k le = (λ i. cond (eq_other k slot (λ e. omega arith) i) (Some l) (area.at k)) ∙ within k le
