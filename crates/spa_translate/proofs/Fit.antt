-- The parts of a usable region before they are tested.
use Rattle.std.proofs.Common.{◌≡◌, ℕ, zero, suc, ◌<◌, ◌≤◌, Bool, true, false, cond, List, [], ◌∷◌, Option, Some, None, length, get_or, map, refl, sym, ap, subst, ◌∙◌, arith, lit≤}
use Rattle.std.specs.Prelude.{is_none, option_map}
use Rattle.std.specs.List.{cons_option}
use Rattle.std.proofs.lemmas.Bool.{ltb-false, or_parts}
use Rattle.spa_translate.specs.declared.strand.Strand.{Strand}
use Rattle.region_map.specs.declared.platform.Member.{Member}
use Rattle.region_map.specs.declared.platform.LineTable.{LineTable}
use Rattle.region_map.specs.declared.platform.Region.{Region}
use Rattle.region_map.specs.declared.platform.Platform.{Platform}
use Rattle.region_map.specs.Sound.{IsUsable}
use Rattle.spa_translate.specs.Woven.{linear_strand, strand_with}
use Rattle.spa_translate.specs.Faults.{first_fault, first_fault_of_strands, has_too_many, is_linear, no_interleave, strands_of, table_named, too_many_lines, woven_of}
use Rattle.spa_translate.specs.Laid.{IsFit, IsLaid, line_size_each, size_each}
use Rattle.spa_translate.specs.Faults.{lines_each}
use Rattle.spa_translate.proofs.Fitting.{laid}
use Rattle.spa_translate.proofs.Testing.{linear_passes, pass_before, pass_tests}

-- a part of a member
pub record IsPartOf (m : Member) (strand : Strand) : Type 0 where
  pub handle : strand.handle ≡ m.handle
  pub base : strand.base ≡ m.dpa_base
  pub size : strand.size ≡ m.size
  pub few : length strand.lines ≤ 4096

-- the parts of the members, in their order
pub record ArePartsOf (members : List Member) (strands : List Strand) : Type 0 where
  pub len : length strands ≡ length members
  pub each : (k : ℕ) (m : Member) (d : Strand) → k < length strands → IsPartOf (get_or members k m) (get_or strands k d)

no_parts : ArePartsOf [] []
no_parts = record { len = refl; each = λ k m d below. absurd (omega (arith, below)) }

one_more : (m : Member) (strand : Strand) (members : List Member) (strands : List Strand) → IsPartOf m strand → ArePartsOf members strands → ArePartsOf (m ∷ members) (strand ∷ strands)
one_more m strand members strands here rest = record { len = ap suc rest.len; each = by }
  where
    by : (k : ℕ) (n : Member) (d : Strand) → k < length (strand ∷ strands) → IsPartOf (get_or (m ∷ members) k n) (get_or (strand ∷ strands) k d)
    by zero n d below = here
    by (suc k) n d below = rest.each k n d (omega (arith, below))

linear_parts : (members : List Member) → ArePartsOf members (map linear_strand members)
linear_parts [] = no_parts
linear_parts (m ∷ members) = one_more m (linear_strand m) members (map linear_strand members) (record { handle = refl; base = refl; size = refl; few = lit≤ tt }) (linear_parts members)

named_parts : (tables : List LineTable) (members : List Member) → no_interleave tables members ≡ false → too_many_lines tables members ≡ false → ArePartsOf members (strands_of tables members)
named_parts tables [] named few = no_parts
named_parts tables (m ∷ members) named few =
    let a = or_parts (is_none (table_named tables m)) (no_interleave tables members) named in
    let b = or_parts (has_too_many (table_named tables m)) (too_many_lines tables members) few in
    by (table_named tables m) a.0 b.0 (named_parts tables members a.1 b.1)
  where
    by : (o : Option LineTable) → is_none o ≡ false → has_too_many o ≡ false → ArePartsOf members (strands_of tables members)
        → ArePartsOf (m ∷ members) (cons_option (option_map (strand_with m) o) (strands_of tables members))
    by None none many rest = absurd (let h : true ≡ false = none in cc)
    by (Some table) none many rest = one_more m (strand_with m table) members (strands_of tables members) (record { handle = refl; base = refl; size = refl; few = ltb-false 4096 (length table.lines) many }) rest

fit_of : (platform : Platform) (region : Region) (strands : List Strand) → IsUsable platform region → ArePartsOf region.members strands → IsFit (record { spa = region.spa; len = region.length; strands = strands })
fit_of platform region strands usable are =
    let m : Member = record { handle = 0; dpa_base = 0; size = 0; region_offset = 0; interleave = 0; ways = 0; serial = 0; vendor = 0; date = 0; location = 0 } in
    record {
      some = omega (arith, are.len, usable.some);
      few = omega (arith, are.len, usable.few);
      few_lines = λ k d below. (are.each k m d below).few;
      not_empty = usable.not_empty;
      capacity = λ k d below.
          let is = are.each k m d below in
          rw (is.size, are.len) (usable.capacity k m (omega (arith, are.len, below)));
      end = usable.end;
      ends = λ k d below.
          let is = are.each k m d below in
          rw (is.base, is.size) (usable.member_ends k m (omega (arith, are.len, below)));
      modules = λ i j d before below same.
          let first = are.each i m d (omega (arith, before, below)) in
          let second = are.each j m d below in
          usable.modules i j m before (omega (arith, are.len, below)) (sym first.handle ∙ same ∙ second.handle);
    }

pub fit_linear : (platform : Platform) (region : Region) → IsUsable platform region → IsFit (record { spa = region.spa; len = region.length; strands = map linear_strand region.members })
fit_linear platform region usable = fit_of platform region (map linear_strand region.members) usable (linear_parts region.members)

pub fit_named : (platform : Platform) (region : Region) (tables : List LineTable) → IsUsable platform region → no_interleave tables region.members ≡ false → too_many_lines tables region.members ≡ false
    → IsFit (record { spa = region.spa; len = region.length; strands = strands_of tables region.members })
fit_named platform region tables usable named few = fit_of platform region (strands_of tables region.members) usable (named_parts tables region.members named few)

-- a region that passes the check is laid out in periods
pub laid_region : (platform : Platform) (region : Region) (tables : List LineTable) → IsUsable platform region → first_fault tables region.members ≡ None
    → (lines : ℕ) × (line_size : ℕ) × (size : ℕ) × IsLaid lines line_size size (woven_of tables region)
laid_region platform region tables usable none = by (is_linear region.members) refl
  where
    from : (strands : List Strand) → IsFit (record { spa = region.spa; len = region.length; strands = strands }) → first_fault_of_strands strands ≡ None
        → (lines : ℕ) × (line_size : ℕ) × (size : ℕ) × IsLaid lines line_size size (record { spa = region.spa; len = region.length; strands = strands })
    from strands fit passed =
        let tests = pass_tests strands passed in
        (lines_each strands, line_size_each strands, size_each strands, laid (record { spa = region.spa; len = region.length; strands = strands }) fit tests.same tests.aligned tests.whole tests.once)

    by : (b : Bool) → is_linear region.members ≡ b → (lines : ℕ) × (line_size : ℕ) × (size : ℕ) × IsLaid lines line_size size (woven_of tables region)
    by true is =
        subst (λ (b : Bool). (lines : ℕ) × (line_size : ℕ) × (size : ℕ) × IsLaid lines line_size size (record { spa = region.spa; len = region.length; strands = cond b (map linear_strand region.members) (strands_of tables region.members) })) (sym is)
        (from (map linear_strand region.members) (fit_linear platform region usable) (linear_passes region.members is))
    by false is =
        let before = pass_before tables region.members is none in
        subst (λ (b : Bool). (lines : ℕ) × (line_size : ℕ) × (size : ℕ) × IsLaid lines line_size size (record { spa = region.spa; len = region.length; strands = cond b (map linear_strand region.members) (strands_of tables region.members) })) (sym is)
        (from (strands_of tables region.members) (fit_named platform region tables usable before.named before.few) before.strands)
