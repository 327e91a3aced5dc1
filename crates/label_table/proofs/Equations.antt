-- Tables and states that show the same are equal.
use Rattle.std.proofs.Common.{◌≡◌, ◌≢◌, ◌⊎◌, inl, inr, ℕ, Bool, true, false, ◌&&◌, cond, List, Option, Some, None, refl, sym, ap, subst, ◌∙◌}
use Rattle.std.specs.Prelude.{◌==◌}
use Rattle.std.specs.List.{Contains}
use Rattle.std.specs.Option.{option_map_or}
use Rattle.std.specs.Str.{bytes_eq}
use Rattle.label_codec.specs.declared.label.Label.{Label}
use Rattle.label_codec.specs.ModuleLabels.{Labels}
use Rattle.region_map.specs.declared.platform.Member.{Member}
use Rattle.region_map.specs.declared.platform.Region.{Region}
use Rattle.region_map.specs.declared.platform.Platform.{Platform}
use Rattle.label_table.specs.Belonging.{IsDisjoint}
use Rattle.region_map.specs.Platforms.{region_at}
use Rattle.label_table.specs.Spaces.{is_pending, space}
use Rattle.label_table.specs.Fates.{held_count, spare}
use Rattle.label_table.specs.Tables.{changed_at, is_member, is_named, slot_of, state, table}
use Rattle.label_table.proofs.ListTests.{both, eq_same, eq_true, find-some, list_any-at, uuid_is, uuid_other}

-- a value of each region and uuid, by the index of the region
abbrev pub by_index : {A : Type 0} → Platform → A → (Region → List ℕ → A) → ℕ → List ℕ → A
by_index P none f i v = option_map_or (λ r. f r v) (region_at P i) none

module _ {A : Type 0} (P : Platform) (none : A) (f g : Region → List ℕ → A) where
  pub by_index-same : ((q : Region) (v : List ℕ) → Contains P.regions q → f q v ≡ g q v) → (i : ℕ) (v : List ℕ) → by_index P none f i v ≡ by_index P none g i v
  by_index-same same i v = by (region_at P i) refl
    where
      by : (o : Option Region) → region_at P i ≡ o → option_map_or (λ r. f r v) o none ≡ option_map_or (λ r. g r v) o none
      by None e = refl
      by (Some q) e = same q v (find-some (λ (r : Region). r.index == i) P.regions q e).0

  -- all but one uuid of one region is the same
  pub by_index-changed : IsDisjoint P → (r : Region) (u : List ℕ) (new : A) → Contains P.regions r → f r u ≡ new
      → ((q : Region) (v : List ℕ) → Contains P.regions q → (q ≢ r) ⊎ (v ≢ u) → f q v ≡ g q v) → (i : ℕ) (v : List ℕ) → by_index P none f i v ≡ changed_at r u new (by_index P none g) i v
  by_index-changed disjoint r u new in_P is else_same i v = elim (both (r.index == i)) [
    | inl here ↦ at_index here
    | inr away ↦ rest (λ q e. inl (λ same. absurd (let f : (q.index == i) ≡ false = ap (λ (p : Region). p.index == i) same ∙ away in let t : (q.index == i) ≡ true = (find-some (λ (p : Region). p.index == i) P.regions q e).1 in cc)))
        ∙ sym (λ j. cond (away j && bytes_eq u v) new (by_index P none g i v))
  ]
    where
      rest : ((q : Region) → region_at P i ≡ Some q → (q ≢ r) ⊎ (v ≢ u)) → by_index P none f i v ≡ by_index P none g i v
      rest other = by (region_at P i) refl
        where
          by : (o : Option Region) → region_at P i ≡ o → option_map_or (λ r. f r v) o none ≡ option_map_or (λ r. g r v) o none
          by None e = refl
          by (Some q) e = else_same q v (find-some (λ (p : Region). p.index == i) P.regions q e).0 (other q e)

      at_index : (r.index == i) ≡ true → by_index P none f i v ≡ changed_at r u new (by_index P none g) i v
      at_index here = elim (both (bytes_eq u v)) [
        | inr away ↦ rest (λ q e. inr (uuid_other u v away)) ∙ sym (λ j. cond (here j && away j) new (by_index P none g i v))
        | inl same ↦
            let found : region_at P i ≡ Some r = subst (λ k. region_at P k ≡ Some r) (eq_true r.index i here) (disjoint.indexes r in_P) in
            let value : f r v ≡ new = subst (λ w. f r w ≡ new) (uuid_is u v same) is in
            (λ j. option_map_or (λ q. f q v) (found j) none) ∙ value ∙ sym (λ j. cond (here j && same j) new (by_index P none g i v))
      ]

-- Two tables are the same where they show the same.
pub record SameTable (P : Platform) (L M : Labels) : Type 0 where
  pub kinds : (m : ℕ) → (M m).kind ≡ (L m).kind
  pub spares : (m : ℕ) → spare P M m ≡ spare P L m
  pub helds : (m : ℕ) (p : Label → Bool) → held_count P M m p ≡ held_count P L m p
  pub spaces : (r : Region) (u : List ℕ) → Contains P.regions r → space M r u ≡ space L r u

pub table-same : (P : Platform) (L M : Labels) → SameTable P L M → table P M ≡ table P L
table-same P L M same =
    let spaces : (i : ℕ) (u : List ℕ) → by_index P None (space M) i u ≡ by_index P None (space L) i u = by_index-same P None (space M) (space L) same.spaces in
    λ i. record { kind = λ m. same.kinds m i; spare = λ m. same.spares m i; held = λ m p. same.helds m p i; space = λ n u. spaces n u i }

pub state-same : (P : Platform) (L M : Labels) → SameTable P L M → ((r : Region) (u : List ℕ) → Contains P.regions r → is_pending M r u ≡ is_pending L r u) → state P M ≡ state P L
state-same P L M same pendings =
    let pending : (i : ℕ) (u : List ℕ) → by_index P false (is_pending M) i u ≡ by_index P false (is_pending L) i u = by_index-same P false (is_pending M) (is_pending L) pendings in
    λ i. record { table = table-same P L M same i; pending = λ n u. pending n u i }

-- What a table tells of each region of the platform.
pub space-of_table : (P : Platform) → IsDisjoint P → (L M : Labels) → table P M ≡ table P L → (r : Region) (u : List ℕ) → Contains P.regions r → space M r u ≡ space L r u
space-of_table P disjoint L M same r u in_P =
    let found : region_at P r.index ≡ Some r = disjoint.indexes r in_P in
    sym (λ i. option_map_or (λ q. space M q u) (found i) None) ∙ (λ i. (same i).space r.index u) ∙ (λ i. option_map_or (λ q. space L q u) (found i) None)

pub pending-of_state : (P : Platform) → IsDisjoint P → (L M : Labels) → state P M ≡ state P L → (r : Region) (u : List ℕ) → Contains P.regions r → is_pending M r u ≡ is_pending L r u
pending-of_state P disjoint L M same r u in_P =
    let found : region_at P r.index ≡ Some r = disjoint.indexes r in_P in
    sym (λ i. option_map_or (λ q. is_pending M q u) (found i) false) ∙ (λ i. (same i).pending r.index u) ∙ (λ i. option_map_or (λ q. is_pending L q u) (found i) false)

pub slot_of-member : (r : Region) (x : Member) → Contains r.members x → slot_of r x.handle ≡ 1
slot_of-member r x in_x =
    let t : is_member r x.handle ≡ true = list_any-at _ r.members x in_x (eq_same x.handle x.handle refl) in
    λ i. cond {A = ℕ} (t i) 1 0

pub slot_of-other : (r : Region) (y : ℕ) → is_member r y ≡ false → slot_of r y ≡ 0
slot_of-other r y n = λ i. cond {A = ℕ} (n i) 1 0

-- What is changed at one namespace twice is what it was changed to last.
pub changed_at-twice : {A : Type 0} (r : Region) (u : List ℕ) (a b : A) (f : ℕ → List ℕ → A) → changed_at r u a (changed_at r u b f) ≡ changed_at r u a f
changed_at-twice r u a b f = λ i n v. by (is_named r u n v) (f n v) i
  where
    by : (t : Bool) (d : _) → cond t a (cond t b d) ≡ cond t a d
    by true d = refl
    by false d = refl

-- and nothing where it is what it was
pub changed_at-same : {A : Type 0} (r : Region) (u : List ℕ) (a : A) (f : ℕ → List ℕ → A) → f r.index u ≡ a → changed_at r u a f ≡ f
changed_at-same r u a f is = λ i n v. at n v i
  where
    at : (n : ℕ) (v : List ℕ) → changed_at r u a f n v ≡ f n v
    at n v = elim (both (r.index == n)) [
      | inr n_away ↦ λ i. cond (n_away i && bytes_eq u v) a (f n v)
      | inl n_here ↦ elim (both (bytes_eq u v)) [
        | inr v_away ↦ λ i. cond (n_here i && v_away i) a (f n v)
        | inl v_here ↦ (λ i. cond (n_here i && v_here i) a (f n v)) ∙ sym is ∙ (λ i. f (eq_true r.index n n_here i) (uuid_is u v v_here i))
      ]
    ]
