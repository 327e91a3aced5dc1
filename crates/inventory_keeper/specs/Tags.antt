-- Tags: a text for each of some uuids, ascending by the bytes of the uuid.
use Rattle.std.specs.Prelude.{◌≡◌, ℕ, Bool, not, List, [], ◌∷◌}
use Rattle.std.specs.List.{filter, insert, list_any, position_or_len}
use Rattle.std.specs.Str.{bytes_eq}
use Rattle.std.specs.Cmp.Lexicographic.{slice_cmp}
use Rattle.std.specs.Ordering.{is_lt, nat_cmp}
use Rattle.std.specs.declared.cmp.Ordering.TheVariants.{Less}
use Rattle.inventory_keeper.specs.declared.rows.Tag.{Tag}

-- the tags ascend above a uuid, one for each
abbrev pub AscendAbove : List ℕ → List Tag → Type 0
AscendAbove uuid [] = Unit {0}
AscendAbove uuid (tag ∷ tags) = (slice_cmp nat_cmp uuid tag.uuid ≡ Less) × AscendAbove tag.uuid tags

abbrev pub AreTags : List Tag → Type 0
AreTags [] = Unit {0}
AreTags (tag ∷ tags) = AscendAbove tag.uuid tags

abbrev pub is_of : List ℕ → Tag → Bool
is_of uuid tag = bytes_eq uuid tag.uuid

-- the uuid has a tag
abbrev pub has_tag : List ℕ → List Tag → Bool
has_tag uuid tags = list_any (is_of uuid) tags

-- the tags without that of a uuid
abbrev pub untagged : List ℕ → List Tag → List Tag
untagged uuid tags = filter (λ tag. not (is_of uuid tag)) tags

-- the uuid comes before that of a tag
abbrev pub is_before : List ℕ → Tag → Bool
is_before uuid tag = is_lt (slice_cmp nat_cmp uuid tag.uuid)

-- the tags with one at its place, in place of the one that its uuid had
abbrev pub tagged : Tag → List Tag → List Tag
tagged new tags = insert (untagged new.uuid tags) (position_or_len (is_before new.uuid) (untagged new.uuid tags)) new
