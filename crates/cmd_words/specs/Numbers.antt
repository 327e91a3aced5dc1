-- Numbers and sizes.
use Rattle.std.specs.Prelude.{ℕ, ◌*◌, ◌-◌, ◌^◌, ◌==◌, ◌&&◌, Bool, List, Option, Some, None, codes, drop, if◌then◌else◌}
use Rattle.std.specs.Prelude.{length, nat_eq, nat_le, nat_lt, slice_index, take}
use Rattle.std.specs.Char.{is_digit}
use Rattle.std.specs.List.{list_all, starts_with}
use Rattle.std.specs.Option.{option_map}
use Rattle.std.specs.Str.Parse.{digits_value}

-- 1 to `most` digits of a base, and nothing else
abbrev pub is_numeral : ℕ → ℕ → List ℕ → Bool
is_numeral base most text = nat_le 1 (length text) && nat_le (length text) most && list_all (λ c. is_digit c base) text

-- the number that they write
abbrev pub numeral : ℕ → ℕ → List ℕ → Option ℕ
numeral base most text = if is_numeral base most text then Some (digits_value base text) else None

-- the number, where there is one and it is below a bound
abbrev pub below : ℕ → Option ℕ → Option ℕ
below bound (Some n) = if nat_lt n bound then Some n else None
below bound None = None

-- a number: 1 to 20 decimal digits, or `0x` and 1 to 16 hexadecimal digits of either case
abbrev pub number : List ℕ → Option ℕ
number text =
    if starts_with nat_eq text (codes "0x") then numeral 16 16 (drop 2 text) else numeral 10 20 text

-- what a letter at the end of a size stands for: K, M, G or T
abbrev pub unit_by : ℕ → Option ℕ
unit_by letter =
    if letter == 75 then Some (2 ^ 10)
    else if letter == 77 then Some (2 ^ 20)
    else if letter == 71 then Some (2 ^ 30)
    else if letter == 84 then Some (2 ^ 40)
    else None

abbrev pub unit_of : List ℕ → Option ℕ
unit_of text = unit_by (slice_index text (length text - 1))

abbrev pub size_by : Option ℕ → List ℕ → Option ℕ
size_by (Some unit) text = option_map (λ n. n * unit) (numeral 10 20 (take (length text - 1) text))
size_by None text = number text

-- a size: a number, or 1 to 20 decimal digits and one of the letters
abbrev pub size : List ℕ → Option ℕ
size text = size_by (unit_of text) text
