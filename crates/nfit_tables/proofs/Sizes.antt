-- The lengths of structures.
use Rattle.std.proofs.Common.{◌≡◌, ℕ, ◌+◌, ◌*◌, List, [], ◌∷◌, length, ap, refl, arith, length-append}
use Rattle.std.specs.List.{flat_map}
use Rattle.std.proofs.lemmas.List.Concat.{flat_map-cons}
use Rattle.byteorder.specs.Endian.{little_bytes}
use Rattle.nfit_tables.specs.declared.pieces.RangePiece.{RangePiece}
use Rattle.nfit_tables.specs.declared.pieces.MappingPiece.{MappingPiece}
use Rattle.nfit_tables.specs.declared.pieces.InterleavePiece.{InterleavePiece}
use Rattle.nfit_tables.specs.declared.pieces.ControlPiece.{ControlPiece}
use Rattle.nfit_tables.specs.declared.pieces.Piece.TheVariants.{Range, Mapping, Interleave, Control}
use Rattle.nfit_tables.specs.Spelling.{control_fields, interleave_fields, mapping_fields, range_fields, spelling}

pub length-lines : (lines : List ℕ) → length (flat_map (little_bytes 4) lines) ≡ 4 * length lines
length-lines [] = refl
length-lines (line ∷ lines) = omega (arith, ap length (flat_map-cons (little_bytes 4) line lines), length-lines lines)

pub length-range : (p : RangePiece) → length p.type_guid ≡ 16 → length (spelling (Range p)) ≡ 56 + length p.tail
unfolding spelling range_fields
length-range p guid = simp length-append (omega (arith, guid))

pub length-mapping : (p : MappingPiece) → length (spelling (Mapping p)) ≡ 48 + length p.tail
unfolding spelling mapping_fields
length-mapping p = omega arith

pub length-interleave : (p : InterleavePiece) → length (spelling (Interleave p)) ≡ 16 + 4 * length p.lines + length p.tail
unfolding spelling interleave_fields
length-interleave p = simp length-append (omega (arith, length-lines p.lines))

pub length-control : (p : ControlPiece) → length (spelling (Control p)) ≡ 32 + length p.tail
unfolding spelling control_fields
length-control p = omega arith
