-- The lines of all parts, one part behind the other.
use Rattle.std.proofs.Common.{◌≡◌, ℕ, ◌+◌, ◌*◌, ◌/◌, ◌<◌, List, [], ◌∷◌, length, get_or, take, sym, ap, ◌∙◌, arith}
use Rattle.std.specs.Prelude.{All}
use Rattle.std.specs.List.{flat_map}
use Rattle.std.proofs.lemmas.List.{get_or-map, length-append, length-map, length-take-le}
use Rattle.std.proofs.lemmas.List.Concat.{get_or-flat_map}
use Rattle.std.proofs.lemmas.List.Elements.{All-head, All-tail, All-take}
use Rattle.spa_translate.specs.declared.strand.Strand.{Strand}
use Rattle.spa_translate.specs.Faults.{all_lines, lines_of}

-- line j of a part, counted from the region's start
abbrev pub start : Strand → ℕ → ℕ
start strand j = strand.offset / strand.line_size + get_or strand.lines j 0

abbrev pub HasLines : ℕ → Strand → Type 0
HasLines m strand = length strand.lines ≡ m

pub length_lines : (m : ℕ) (strands : List Strand) → All (HasLines m) strands → length (all_lines strands) ≡ length strands * m
length_lines m [] each = omega arith
length_lines m (strand ∷ strands) each =
    let rest = length_lines m strands (All-tail (HasLines m) strand strands each) in
    let here : length strand.lines ≡ m = All-head (HasLines m) strand strands each in
    let these : length (lines_of strand) ≡ length strand.lines = length-map strand.lines (λ line. strand.offset / strand.line_size + line) in
    let all : length (all_lines (strand ∷ strands)) ≡ length (lines_of strand) + length (all_lines strands) = length-append (lines_of strand) (all_lines strands) in
    omega (arith, rest, here, these, all)

-- line j of the part at position p
pub line_of_all : (m : ℕ) (strands : List Strand) (e : Strand) (p j : ℕ) → All (HasLines m) strands → p < length strands → j < m
    → get_or (all_lines strands) (p * m + j) 0 ≡ start (get_or strands p e) j
line_of_all m strands e p j each below line =
    let strand : Strand = get_or strands p e in
    let here : length strand.lines ≡ m = each p e below in
    let before : length (flat_map lines_of (take p strands)) ≡ length (take p strands) * m = length_lines m (take p strands) (All-take (HasLines m) p strands each) in
    let many : length (take p strands) ≡ p = length-take-le p strands (omega (arith, below)) in
    let front : length (flat_map lines_of (take p strands)) ≡ p * m = before ∙ ap (λ (n : ℕ). n * m) many in
    let these : length (lines_of strand) ≡ length strand.lines = length-map strand.lines (λ (x : ℕ). strand.offset / strand.line_size + x) in
    let at = get_or-flat_map lines_of strands p j e 0 below (omega (arith, these, here, line)) in
    let place : get_or (all_lines strands) (p * m + j) 0 ≡ get_or (all_lines strands) (length (flat_map lines_of (take p strands)) + j) 0 = ap (λ (n : ℕ). get_or (all_lines strands) (n + j) 0) (sym front) in
    place ∙ at ∙ get_or-map (λ (x : ℕ). strand.offset / strand.line_size + x) strand.lines j 0 0 (omega (arith, here, line))
