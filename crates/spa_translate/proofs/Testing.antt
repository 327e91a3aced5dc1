-- What the first fault says of the tests.
use Rattle.std.proofs.Common.{◌≡◌, ℕ, Bool, true, false, cond, List, [], ◌∷◌, Option, Some, None, length, map, refl, subst, arith}
use Rattle.std.specs.Prelude.{◌==◌, option_map}
use Rattle.std.specs.List.{list_any}
use Rattle.std.proofs.lemmas.Bool.{and_parts, eqb-true}
use Rattle.std.proofs.Math.Nat.{mod-one}
use Rattle.spa_translate.specs.declared.strand.Strand.{Strand}
use Rattle.region_map.specs.declared.platform.Member.{Member}
use Rattle.region_map.specs.declared.platform.LineTable.{LineTable}
use Rattle.view_types.specs.declared.translation.TranslateFault.TheVariants.{NoInterleave, TooManyLines, WaysDiffer, LinesDiffer, OffsetNotLine, Ragged, NotPartition}
use Rattle.spa_translate.specs.Woven.{linear_strand}
use Rattle.spa_translate.specs.Faults.{first_fault, first_fault_of_strands, first_not_once, is_linear, lines_differ, no_interleave, offset_not_line, ragged, strands_of, too_many_lines, ways_differ}

fails_first : {X : Type 0} (b : Bool) (a : X) (rest : Option X) → cond b (Some a) rest ≡ None → (b ≡ false) × (rest ≡ None)
fails_first true a rest none = absurd (let h : Some a ≡ None = none in cc)
fails_first false a rest none = (refl, none)

map_none : (o : Option ℕ) → option_map (λ line. NotPartition line) o ≡ None → o ≡ None
map_none None none = refl
map_none (Some line) none = absurd (let h : Some (NotPartition line) ≡ None = none in cc)

-- the parts pass each test
pub record PassTests (strands : List Strand) : Type 0 where
  pub same : lines_differ strands ≡ false
  pub aligned : offset_not_line strands ≡ false
  pub whole : ragged strands ≡ false
  pub once : first_not_once strands ≡ None

pub pass_tests : (strands : List Strand) → first_fault_of_strands strands ≡ None → PassTests strands
pass_tests strands none =
    let a = fails_first (lines_differ strands) LinesDiffer _ none in
    let b = fails_first (offset_not_line strands) OffsetNotLine _ a.1 in
    let c = fails_first (ragged strands) Ragged _ b.1 in
    record { same = a.0; aligned = b.0; whole = c.0; once = map_none (first_not_once strands) c.1 }

pub fault_of_lines : (strands : List Strand) (o : Option ℕ) → lines_differ strands ≡ false → offset_not_line strands ≡ false → ragged strands ≡ false → first_not_once strands ≡ o
    → first_fault_of_strands strands ≡ option_map (λ line. NotPartition line) o
fault_of_lines strands o same aligned whole is = rw (same, aligned, whole, is) refl

-- the members pass the tests before
pub record PassBefore (tables : List LineTable) (members : List Member) : Type 0 where
  pub named : no_interleave tables members ≡ false
  pub few : too_many_lines tables members ≡ false
  pub strands : first_fault_of_strands (strands_of tables members) ≡ None

pub pass_before : (tables : List LineTable) (members : List Member) → is_linear members ≡ false → first_fault tables members ≡ None → PassBefore tables members
pass_before tables members linear none =
    let here = subst (λ (b : Bool). cond b None (cond (no_interleave tables members) (Some NoInterleave) (cond (too_many_lines tables members) (Some TooManyLines) (cond (ways_differ members) (Some WaysDiffer) (first_fault_of_strands (strands_of tables members))))) ≡ None) linear none in
    let a = fails_first (no_interleave tables members) NoInterleave _ here in
    let b = fails_first (too_many_lines tables members) TooManyLines _ a.1 in
    let c = fails_first (ways_differ members) WaysDiffer _ b.1 in
    record { named = a.0; few = b.0; strands = c.1 }

-- the one part of a region without interleave structures passes them
linear_one : (m : Member) → first_fault_of_strands (linear_strand m ∷ []) ≡ None
linear_one m = rw (mod-one m.size) refl

alone : (members : List Member) → is_linear members ≡ true → length members ≡ 1
alone members linear = eqb-true (length members) 1 (and_parts (length members == 1) (list_any (λ (m : Member). m.interleave == 0) members) linear).0

pub linear_passes : (members : List Member) → is_linear members ≡ true → first_fault_of_strands (map linear_strand members) ≡ None
linear_passes [] linear = absurd (let e : 0 ≡ 1 = alone [] linear in omega (arith, e))
linear_passes (m ∷ []) linear = linear_one m
linear_passes (m ∷ n ∷ rest) linear = absurd (let e = alone (m ∷ n ∷ rest) linear in omega (arith, e))

pub first_linear : (tables : List LineTable) (members : List Member) → is_linear members ≡ true → first_fault tables members ≡ None
first_linear tables members linear = rw linear refl
