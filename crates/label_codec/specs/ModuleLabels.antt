-- The live labels of modules, and how they are counted.
use Rattle.std.specs.Prelude.{◌≡◌, ◌≤◌, ℕ, zero, suc, ◌+◌, Bool, true, false, List, Option, Some, None, if◌then◌else◌}
use Rattle.std.specs.Option.{option_or}
use Rattle.std.specs.Str.{bytes_eq}
use Rattle.label_codec.specs.declared.label.Label.{Label}
use Rattle.label_codec.specs.declared.kind.AreaKind.{AreaKind}
use Rattle.label_codec.specs.declared.kind.AreaKind.TheVariants.{Missing, WrongSize, Ready, Foreign, Uninit}

-- A module: the kind of its label storage area, the number of slots there, and the live label of each slot, counted
-- from 0. An area that is not Ready has neither slots nor labels.
pub record Module : Type 0 where
  pub kind : AreaKind
  pub slots : ℕ
  pub at : ℕ → Option Label

-- the modules by their device handles
abbrev pub Labels : Type 0
Labels = ℕ → Module

abbrev pub is_ready : AreaKind → Bool
is_ready Missing = false
is_ready WrongSize = false
is_ready Ready = true
is_ready Foreign = false
is_ready Uninit = false

-- 1 for a label that passes a test
abbrev pub one : (Label → Bool) → Option Label → ℕ
one test None = 0
one test (Some label) = if test label then 1 else 0

-- how many of the labels below a slot pass a test
abbrev pub count : (Label → Bool) → (ℕ → Option Label) → ℕ → ℕ
count test at zero = 0
count test at (suc slot) = one test (at slot) + count test at slot

-- how many labels of a module pass a test
abbrev pub number : (Label → Bool) → Module → ℕ
number test area = count test area.at area.slots

-- the label has this uuid
abbrev pub has : List ℕ → Label → Bool
has uuid label = bytes_eq uuid label.uuid

-- a label, where it passes a test
abbrev pub label_if : (Label → Bool) → Option Label → Option Label
label_if test None = None
label_if test (Some label) = if test label then Some label else None

-- a module with those of its labels that pass a test
abbrev pub with_only : (Label → Bool) → Module → Module
with_only test area = record { kind = area.kind; slots = area.slots; at = λ slot. label_if test (area.at slot) }

-- a module with its labels of one uuid
abbrev pub of_uuid : List ℕ → Module → Module
of_uuid uuid area = with_only (has uuid) area

-- the first of the labels below a slot
abbrev pub first_below : (ℕ → Option Label) → ℕ → Option Label
first_below at zero = None
first_below at (suc slot) = option_or (first_below at slot) (at slot)

-- the first label of a module
abbrev pub first : Module → Option Label
first area = first_below area.at area.slots

-- no module has a live label past its slots
pub record IsBounded (labels : Labels) : Type 0 where
  pub past : (handle slot : ℕ) → (labels handle).slots ≤ slot → (labels handle).at slot ≡ None
