-- What is known of a region that passed the check.
use Rattle.std.specs.Prelude.{◌≡◌, ◌≢◌, ℕ, ◌+◌, ◌*◌, ◌%◌, ◌^◌, ◌≤◌, ◌<◌, All, AllPairs, List, [], ◌∷◌, length}
use Rattle.spa_translate.specs.declared.strand.Strand.{Strand}
use Rattle.spa_translate.specs.Woven.{Woven}
use Rattle.spa_translate.specs.Faults.{all_lines, most_lines, times}

-- a part of so many lines a period, of their size, and of so many bytes
pub record IsStrand (lines line_size size : ℕ) (strand : Strand) : Type 0 where
  pub lines_are : length strand.lines ≡ lines
  pub line_size_is : strand.line_size ≡ line_size
  pub size_is : strand.size ≡ size
  pub aligned : strand.offset % line_size ≡ 0
  pub end : strand.base + strand.size ≤ 2 ^ 63

pub record IsLaid (lines line_size size : ℕ) (woven : Woven) : Type 0 where
  pub some : 0 < length woven.strands
  pub few : length woven.strands ≤ 16
  pub some_lines : 0 < lines
  pub few_lines : lines ≤ most_lines
  pub some_bytes : 0 < line_size
  pub not_empty : 0 < size
  pub each : All (IsStrand lines line_size size) woven.strands
  pub periods : size % (lines * line_size) ≡ 0
  pub capacity : woven.len ≡ length woven.strands * size
  pub end : woven.spa + woven.len ≤ 2 ^ 63
  pub modules : AllPairs (λ (a b : Strand). a.handle ≢ b.handle) woven.strands
  pub once : (line : ℕ) → line < length woven.strands * lines → times (all_lines woven.strands) line ≡ 1

-- the size and the line size of each part, where all have those of the first
abbrev pub size_each : List Strand → ℕ
size_each [] = 0
size_each (strand ∷ strands) = strand.size

abbrev pub line_size_each : List Strand → ℕ
line_size_each [] = 0
line_size_each (strand ∷ strands) = strand.line_size

-- what is known of the parts of a usable region before they are tested
pub record IsFit (woven : Woven) : Type 0 where
  pub some : 0 < length woven.strands
  pub few : length woven.strands ≤ 16
  pub few_lines : All (λ (a : Strand). length a.lines ≤ most_lines) woven.strands
  pub not_empty : 0 < woven.len
  pub capacity : All (λ (a : Strand). length woven.strands * a.size ≡ woven.len) woven.strands
  pub end : woven.spa + woven.len ≤ 2 ^ 63
  pub ends : All (λ (a : Strand). a.base + a.size ≤ 2 ^ 63) woven.strands
  pub modules : AllPairs (λ (a b : Strand). a.handle ≢ b.handle) woven.strands

-- so many lines of at least a byte
pub record HasFewLines (lines : ℕ) (strand : Strand) : Type 0 where
  pub lines_are : length strand.lines ≡ lines
  pub some_bytes : 0 < strand.line_size
