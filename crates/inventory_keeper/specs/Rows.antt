-- Bad rows: ranges of addresses in the one form in which they are kept.
use Rattle.std.specs.Prelude.{◌≡◌, ℕ, ◌^◌, ◌==◌, ◌&&◌, Bool, true, not, List, [], ◌∷◌, map, nat_lt}
use Rattle.std.specs.List.{All, filter, insert, list_any, position_or_len}
use Rattle.view_types.specs.declared.extents.Extent.{Extent}
use Rattle.view_types.specs.Intervals.{Ascend}
use Rattle.inventory_keeper.specs.declared.rows.BadRow.{BadRow}

-- every address is below this one
abbrev pub address_end : ℕ
address_end = 2 ^ 63

abbrev pub extent_of : BadRow → Extent
extent_of row = record { start = row.spa; len = row.length }

abbrev pub extents_of : List BadRow → List Extent
extents_of rows = map extent_of rows

-- The rows ascend; none is empty, none ends behind 2^63, and no two overlap or touch.
abbrev pub AreRows : List BadRow → Type 0
AreRows rows = Ascend 0 address_end (extents_of rows)

abbrev pub is_row : BadRow → BadRow → Bool
is_row one other = (one.spa == other.spa) && (one.length == other.length)

-- the row is one of these
abbrev pub has_row : List BadRow → BadRow → Bool
has_row rows row = list_any (is_row row) rows

-- each of some rows is one of these
abbrev pub AllStand : List BadRow → List BadRow → Type 0
AllStand rows some = All (λ row. has_row rows row ≡ true) some

-- the rows without those that are taken
abbrev pub without : List BadRow → List BadRow → List BadRow
without taken rows = filter (λ row. not (has_row taken row)) rows

-- the rows with one more, before the first that begins behind it
abbrev pub with_row : BadRow → List BadRow → List BadRow
with_row new rows = insert rows (position_or_len (λ row. nat_lt new.spa row.spa) rows) new

abbrev pub with_rows : List BadRow → List BadRow → List BadRow
with_rows [] rows = rows
with_rows (row ∷ put) rows = with_rows put (with_row row rows)

-- the rows after some are taken and others put
abbrev pub swapped : List BadRow → List BadRow → List BadRow → List BadRow
swapped taken put rows = with_rows put (without taken rows)
