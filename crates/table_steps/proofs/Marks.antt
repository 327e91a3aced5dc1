-- The state behind a change that clears the pending marks of its region.
use Rattle.std.proofs.Common.{◌≡◌, ◌≢◌, inl, inr, ℕ, Bool, true, false, ◌&&◌, cond, List, refl, sym, subst, ◌∙◌}
use Rattle.std.specs.Prelude.{◌==◌}
use Rattle.std.specs.Str.{bytes_eq}
use Rattle.region_map.specs.declared.platform.Region.{Region}
use Rattle.label_table.specs.Tables.{State, Table, changed_at}
use Rattle.label_table.proofs.ListTests.{both, eq_other, eq_same, eq_true}
use Rattle.table_steps.specs.Changes.{without_marks}

-- a table, and the marks of a state but for one namespace
abbrev pub with_mark : Region → List ℕ → Bool → Table → State → State
with_mark r u mark T before = record { table = T; pending = changed_at r u mark before.pending }

pub marks-cleared : (r : Region) (s : State) (v : List ℕ) → (without_marks r s).pending r.index v ≡ false
marks-cleared r s v = let here : (r.index == r.index) ≡ true = eq_same r.index r.index refl in λ i. cond (here i) false (s.pending r.index v)

pub marks-elsewhere : (r : Region) (u : List ℕ) (mark : Bool) (T : Table) (before : State) (n : ℕ) (v : List ℕ) → n ≢ r.index
    → (without_marks r (with_mark r u mark T before)).pending n v ≡ before.pending n v
marks-elsewhere r u mark T before n v other =
    let away : (r.index == n) ≡ false = eq_other r.index n (λ e. other (sym e)) in
    λ i. cond (away i) false (cond (away i && bytes_eq u v) mark (before.pending n v))

-- It is told by its table and its marks.
pub marked-is : (r : Region) (u : List ℕ) (mark : Bool) (T : Table) (before after : State) → after.table ≡ T → ((v : List ℕ) → after.pending r.index v ≡ false)
    → ((n : ℕ) (v : List ℕ) → n ≢ r.index → after.pending n v ≡ before.pending n v) → after ≡ without_marks r (with_mark r u mark T before)
marked-is r u mark T before after tables cleared others = λ i. record { table = tables i; pending = λ n v. marks n v i }
  where
    marks : (n : ℕ) (v : List ℕ) → after.pending n v ≡ (without_marks r (with_mark r u mark T before)).pending n v
    marks n v = elim (both (r.index == n)) [
      | inl here ↦ subst (λ k. after.pending k v ≡ (without_marks r (with_mark r u mark T before)).pending k v) (eq_true r.index n here) (cleared v ∙ sym (marks-cleared r (with_mark r u mark T before) v))
      | inr away ↦
          let other : n ≢ r.index = λ e. absurd (let same : (r.index == n) ≡ true = eq_same r.index n (sym e) in cc) in
          others n v other ∙ sym (marks-elsewhere r u mark T before n v other)
    ]
