-- A table that is read is proper, and its text is the bytes.
use Rattle.std.proofs.Common.{◌≡◌, ℕ, ◌%◌, ◌^◌, ◌<◌, ◌≤◌, not, eqb, ltb, cond, List, ◌++◌, length, get_or, take, drop, sum, Ok, Err, refl, sym, ap, subst, ◌∙◌, arith}
use Rattle.std.specs.Prelude.{codes}
use Rattle.std.specs.Str.{bytes_eq}
use Rattle.std.proofs.lemmas.Bool.{ltb-false, eqb-true, not-false}
use Rattle.std.proofs.lemmas.List.{length-drop}
use Rattle.std.proofs.lemmas.List.Elements.{All-drop}
use Rattle.std.proofs.lemmas.Slice.Eq.{bytes_eq-Decides}
use Rattle.byte_ranges.specs.Ranges.{number_at, range}
use Rattle.nfit_tables.specs.declared.fault.NfitFault.TheVariants.{Short, Signature, Length, Revision, Checksum}
use Rattle.nfit_tables.specs.declared.pieces.Nfit.{Nfit}
use Rattle.nfit_tables.specs.Spelling.{header_with, length_of, spellings, text_with, text}
use Rattle.nfit_tables.specs.Proper.{AreBytes, IsProper}
use Rattle.nfit_tables.specs.Reading.{header_in, pieces_at, checked, table_behind, table_of}
use Rattle.nfit_tables.proofs.NumbersSpelled.{IsBytes-from}
use Rattle.nfit_tables.proofs.FieldsSpelled.{number_fits}
use Rattle.nfit_tables.proofs.PiecesSpelled.{bind_ok, AreRead, pieces_read}
use Rattle.nfit_tables.proofs.ChecksPassed.{guard_ok, Passes, checks_passed}
use Rattle.nfit_tables.proofs.HeaderSpelled.{header_spelled, header_fits}
use Rattle.nfit_tables.proofs.ChecksumFound.{text_is}

-- what the tests before the structures tell
record HasHeader (bytes : List ℕ) : Type 0 where
  long : 40 ≤ length bytes
  signature : range bytes 0 4 ≡ codes "NFIT"
  told : number_at 4 bytes 4 ≡ length bytes
  revision : get_or bytes 8 0 ≡ 1
  none : sum bytes % 256 ≡ 0

module _ (bytes : List ℕ) (are : AreBytes bytes) (has : HasHeader bytes) where
  table_is : (n : Nfit) → n.header ≡ header_in bytes → AreRead (drop 40 bytes) n.pieces → Passes n → IsProper n × (bytes ≡ text n)
  table_is n header read passes =
      let len : length bytes ≡ length_of n = omega (arith, has.long, length-drop 40 bytes, ap length read.spelled) in
      let spelled : bytes ≡ text_with (get_or bytes 9 0) n = header_spelled bytes are has.long has.signature has.told has.revision
      ∙ ap (λ (l : ℕ). header_with (get_or bytes 9 0) l (header_in bytes) ++ drop 40 bytes) len
      ∙ ap (λ (t : List ℕ). header_with (get_or bytes 9 0) (length_of n) (header_in bytes) ++ t) read.spelled
      ∙ ap (λ h. header_with (get_or bytes 9 0) (length_of n) h ++ spellings n.pieces) (sym header) in
      let lt : number_at 4 bytes 4 < 2 ^ 32 = number_fits bytes are 4 4 in (
        record {
          header = rw header (header_fits bytes are has.long);
          pieces = read.fit;
          kinds = read.known;
          short = read.short;
          len = omega (arith, lt, has.told, len);
          differ = passes.differ;
          regions = passes.regions;
          modules = passes.modules;
        },
        text_is bytes (get_or bytes 9 0) n spelled (IsBytes-from bytes are 9) has.none,
      )

  behind_is : (n : Nfit) → table_behind bytes ≡ Ok n → IsProper n × (bytes ≡ text n)
  behind_is n e =
      let b = bind_ok (pieces_at (length bytes) 40 (drop 40 bytes)) (λ pieces. checked (record { header = header_in bytes; pieces = pieces })) n e in
      let made : Nfit = record { header = header_in bytes; pieces = b.0 } in
      let checks = checks_passed made n b.2 in
      let read = pieces_read (length bytes) 40 (drop 40 bytes) b.0 (All-drop (λ (byte : ℕ). byte < 256) 40 bytes are) b.1 in
      subst (λ (m : Nfit). IsProper m × (bytes ≡ text m)) checks.1 (table_is made refl read checks.0)

-- what is read is a proper table, and its text is the bytes
pub table_of-found : (bytes : List ℕ) (n : Nfit) → AreBytes bytes → table_of bytes ≡ Ok n → IsProper n × (bytes ≡ text n)
table_of-found bytes n are e =
    let after_sum = table_behind bytes in
    let after_revision = cond (not (eqb (sum bytes % 256) 0)) (Err (Checksum (sum bytes % 256))) after_sum in
    let after_length = cond (not (eqb (get_or bytes 8 0) 1)) (Err (Revision (get_or bytes 8 0))) after_revision in
    let after_signature = cond (not (eqb (number_at 4 bytes 4) (length bytes))) (Err (Length (number_at 4 bytes 4) (length bytes))) after_length in
    let after_long = cond (not (bytes_eq (take 4 bytes) (codes "NFIT"))) (Err Signature) after_signature in
    let long = guard_ok (ltb (length bytes) 40) (Short (length bytes)) after_long n e in
    let signature = guard_ok (not (bytes_eq (take 4 bytes) (codes "NFIT"))) Signature after_signature n long.1 in
    let told = guard_ok (not (eqb (number_at 4 bytes 4) (length bytes))) (Length (number_at 4 bytes 4) (length bytes)) after_length n signature.1 in
    let revision = guard_ok (not (eqb (get_or bytes 8 0) 1)) (Revision (get_or bytes 8 0)) after_revision n told.1 in
    let none = guard_ok (not (eqb (sum bytes % 256) 0)) (Checksum (sum bytes % 256)) after_sum n revision.1 in
    behind_is bytes are (record {
      long = ltb-false _ _ long.0;
      signature = (bytes_eq-Decides (take 4 bytes) (codes "NFIT")).0 (not-false _ signature.0);
      told = eqb-true _ _ (not-false _ told.0);
      revision = eqb-true _ _ (not-false _ revision.0);
      none = eqb-true _ _ (not-false _ none.0);
    }) n none.1
