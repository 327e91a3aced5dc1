-- The structure that is read from bytes is spelled by them, and fits.
use Rattle.std.proofs.Common.{◌≡◌, ℕ, zero, suc, ◌+◌, ◌*◌, ◌^◌, ◌<◌, ◌≤◌, true, false, ◌&&◌, eqb, leb, List, ◌++◌, length, take, drop, refl, sym, ap, ◌∙◌, arith}
use Rattle.std.proofs.lemmas.Bool.{leb-true, and_parts, ne_eqb}
use Rattle.std.proofs.lemmas.List.{length-drop, length-take}
use Rattle.std.proofs.lemmas.List.Elements.{All-drop, All-take}
use Rattle.byteorder.specs.Endian.{little_bytes}
use Rattle.byte_ranges.specs.Ranges.{number_at}
use Rattle.nfit_tables.specs.declared.pieces.Piece.{Piece}
use Rattle.nfit_tables.specs.declared.pieces.Piece.TheVariants.{Range, Mapping, Interleave, Control}
use Rattle.nfit_tables.specs.Spelling.{type_of, body_of, spelling}
use Rattle.nfit_tables.specs.Proper.{AreBytes, FitsPiece, is_kept_as_known}
use Rattle.nfit_tables.specs.Reading.{range_in, mapping_in, interleave_in, control_in, piece_by, piece_in, has_least, line_count, told_length, is_structure}
use Rattle.byte_ranges.proofs.Numbers.{number_at-take}
use Rattle.nfit_tables.proofs.NumbersSpelled.{◌followed_by◌}
use Rattle.nfit_tables.proofs.FieldsSpelled.{field_number, number_fits, range_fields_spelled, range_fits, mapping_fields_spelled, mapping_fits, control_fields_spelled, control_fits}
use Rattle.nfit_tables.proofs.LinesSpelled.{interleave_fields_spelled, interleave_fits}

-- what the structure is that some bytes of a type are read as
pub record IsOf (kind : ℕ) (bytes : List ℕ) (p : Piece) : Type 0 where
  pub kind_is : type_of p ≡ kind
  pub body : body_of p ≡ drop 4 bytes
  pub fits : FitsPiece p
  pub known : is_kept_as_known p ≡ false

module _ (bytes : List ℕ) (are : AreBytes bytes) where
  range_is : 56 ≤ length bytes → IsOf 0 bytes (Range (range_in bytes))
  unfolding range_in
  range_is long = record { kind_is = refl; body = sym (range_fields_spelled bytes are long).parts; fits = range_fits bytes are long; known = refl }

  mapping_is : 48 ≤ length bytes → IsOf 1 bytes (Mapping (mapping_in bytes))
  unfolding mapping_in
  mapping_is long = record { kind_is = refl; body = sym (mapping_fields_spelled bytes are long).parts; fits = mapping_fits bytes are; known = refl }

  interleave_is : 16 + 4 * line_count bytes ≤ length bytes → IsOf 2 bytes (Interleave (interleave_in bytes))
  unfolding interleave_in
  interleave_is long = record { kind_is = refl; body = sym (interleave_fields_spelled bytes are long).parts; fits = interleave_fits bytes are; known = refl }

  control_is : 32 ≤ length bytes → IsOf 4 bytes (Control (control_in bytes))
  unfolding control_in
  control_is long = record { kind_is = refl; body = sym (control_fields_spelled bytes are long).parts; fits = control_fits bytes are; known = refl }

  other_is : (kind : ℕ) → kind < 2 ^ 16 → eqb kind 0 ≡ false → eqb kind 1 ≡ false → eqb kind 2 ≡ false → eqb kind 4 ≡ false → IsOf kind bytes (piece_by kind bytes)
  other_is kind lt a b c d = rw (a, b, c, d) (record { kind_is = refl; body = refl; fits = record { kind = lt; tail = All-drop (λ (byte : ℕ). byte < 256) 4 bytes are }; known = rw (a, b, c, d) refl })

  piece_is : (kind : ℕ) → kind < 2 ^ 16 → has_least kind (length bytes) bytes ≡ true → IsOf kind bytes (piece_by kind bytes)
  piece_is zero lt least = range_is (leb-true 56 (length bytes) least)
  piece_is (suc zero) lt least = mapping_is (leb-true 48 (length bytes) least)
  piece_is (suc (suc zero)) lt least =
      let both = and_parts _ _ least in
      interleave_is (leb-true (16 + 4 * line_count bytes) (length bytes) both.1)
  piece_is (suc (suc (suc zero))) lt least = record { kind_is = refl; body = refl; fits = record { kind = lt; tail = All-drop (λ (b : ℕ). b < 256) 4 bytes are }; known = refl }
  piece_is (suc (suc (suc (suc zero)))) lt least = control_is (leb-true 32 (length bytes) least)
  piece_is (suc (suc (suc (suc (suc kind))))) lt least =
      other_is (suc (suc (suc (suc (suc kind))))) lt (ne_eqb _ _ (λ e. omega arith)) (ne_eqb _ _ (λ e. omega arith)) (ne_eqb _ _ (λ e. omega arith)) (ne_eqb _ _ (λ e. omega arith))

-- what a structure is that was read from bytes
pub record IsRead (bytes : List ℕ) (p : Piece) : Type 0 where
  pub spelled : spelling p ≡ bytes
  pub fits : FitsPiece p
  pub known : is_kept_as_known p ≡ false
  pub short : length (spelling p) < 2 ^ 16

module _ (bytes : List ℕ) (are : AreBytes bytes) (long : 4 ≤ length bytes) (told : told_length bytes ≡ length bytes) where
  spelling_is : (p : Piece) → IsOf (number_at 2 bytes 0) bytes p → spelling p ≡ bytes
  unfolding spelling
  spelling_is p is =
      let len : 4 + length (body_of p) ≡ length bytes = omega (arith, ap length is.body, length-drop 4 bytes) in
      let front = field_number bytes are 2 0 2 (type_of p) refl (omega arith) is.kind_is followed_by field_number bytes are 2 2 4 (4 + length (body_of p)) refl (omega arith) (len ∙ sym told) in
      ap (λ (t : List ℕ). little_bytes 2 (type_of p) ++ little_bytes 2 (4 + length (body_of p)) ++ t) is.body ∙ sym front.parts

  piece_read : has_least (number_at 2 bytes 0) (length bytes) bytes ≡ true → IsRead bytes (piece_in bytes)
  piece_read least =
      let is : IsOf (number_at 2 bytes 0) bytes (piece_in bytes) = piece_is bytes are (number_at 2 bytes 0) (number_fits bytes are 2 0) least in
      let spelled : spelling (piece_in bytes) ≡ bytes = spelling_is (piece_in bytes) is in
      let lt : told_length bytes < 2 ^ 16 = number_fits bytes are 2 2 in
      record { spelled = spelled; fits = is.fits; known = is.known; short = rw (spelled, ← told) lt }

has_least-other : (kind len : ℕ) (bytes : List ℕ) → eqb kind 0 ≡ false → eqb kind 1 ≡ false → eqb kind 2 ≡ false → eqb kind 4 ≡ false → has_least kind len bytes ≡ leb 4 len
has_least-other kind len bytes a b c d = rw (a, b, c, d) refl

-- the least length of the bytes in front is told by these alone
has_least-front : (kind len : ℕ) (bytes : List ℕ) → has_least kind len bytes ≡ true → (4 ≤ len) × (has_least kind len (take len bytes) ≡ true)
has_least-front zero len bytes least = (omega (arith, leb-true 56 len least), least)
has_least-front (suc zero) len bytes least = (omega (arith, leb-true 48 len least), least)
has_least-front (suc (suc zero)) len bytes least =
    let both = and_parts _ _ least in
    let sixteen : 16 ≤ len = leb-true 16 len both.0 in
    (omega arith, rw (number_at-take 4 8 len bytes (omega arith)) least)
has_least-front (suc (suc (suc zero))) len bytes least = (leb-true 4 len least, least)
has_least-front (suc (suc (suc (suc zero)))) len bytes least = (omega (arith, leb-true 32 len least), least)
has_least-front (suc (suc (suc (suc (suc kind))))) len bytes least =
    let is : (bs : List ℕ) → has_least (suc (suc (suc (suc (suc kind))))) len bs ≡ leb 4 len = λ bs.
    has_least-other (suc (suc (suc (suc (suc kind))))) len bs (ne_eqb _ _ (λ e. omega arith)) (ne_eqb _ _ (λ e. omega arith)) (ne_eqb _ _ (λ e. omega arith)) (ne_eqb _ _ (λ e. omega arith)) in
    let at_least : leb 4 len ≡ true = sym (is bytes) ∙ least in
    (leb-true 4 len at_least, is (take len bytes) ∙ at_least)

front_read_by : (bytes : List ℕ) (len : ℕ) → AreBytes bytes → told_length bytes ≡ len → len ≤ length bytes → has_least (number_at 2 bytes 0) len bytes ≡ true → IsRead (take len bytes) (piece_in (take len bytes))
front_read_by bytes len are told within least =
    let front = has_least-front (number_at 2 bytes 0) len bytes least in
    let four : 4 ≤ len = front.0 in
    let whole : length (take len bytes) ≡ len = omega (arith, length-take len bytes) in
    let kind : number_at 2 (take len bytes) 0 ≡ number_at 2 bytes 0 = number_at-take 2 0 len bytes (omega arith) in
    let told_there : told_length (take len bytes) ≡ length (take len bytes) = number_at-take 2 2 len bytes (omega arith) ∙ told ∙ sym whole in
    let least_there : has_least (number_at 2 (take len bytes) 0) (length (take len bytes)) (take len bytes) ≡ true = rw (kind, whole) front.1 in
    piece_read (take len bytes) (All-take (λ (byte : ℕ). byte < 256) len bytes are) (omega arith) told_there least_there

-- a structure that stands in front
pub front_read : (bytes : List ℕ) → AreBytes bytes → is_structure bytes ≡ true → IsRead (take (told_length bytes) bytes) (piece_in (take (told_length bytes) bytes))
front_read bytes are is =
    let parts = and_parts (leb 4 (length bytes) && leb (told_length bytes) (length bytes)) (has_least (number_at 2 bytes 0) (told_length bytes) bytes) is in
    let within = leb-true (told_length bytes) (length bytes) (and_parts (leb 4 (length bytes)) (leb (told_length bytes) (length bytes)) parts.0).1 in
    front_read_by bytes (told_length bytes) are refl within parts.1
