-- The texts of keys.
use Rattle.std.specs.Prelude.{ℕ, List, codes}
use Rattle.view_types.specs.declared.key.Key.{Key}
use Rattle.view_types.specs.declared.key.Key.TheVariants.{Dimm, Region, Size, Name, Mode, SectorSize, Uuid, Namespace}
use Rattle.view_types.specs.declared.key.Key.TheVariants.{Spa, Dpa, Length, Text}

abbrev pub text_of : Key → List ℕ
text_of Dimm = codes "dimm"
text_of Region = codes "region"
text_of Size = codes "size"
text_of Name = codes "name"
text_of Mode = codes "mode"
text_of SectorSize = codes "sector-size"
text_of Uuid = codes "uuid"
text_of Namespace = codes "namespace"
text_of Spa = codes "spa"
text_of Dpa = codes "dpa"
text_of Length = codes "length"
text_of Text = codes "text"
