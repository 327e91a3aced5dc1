use Rattle.std.proofs.Common.{ℕ, ◌%◌, List, ◌++◌, ap, ◌∙◌, arith}
use Rattle.std.specs.Prelude.{sum}
use Rattle.nfit_tables.specs.declared.pieces.Piece.{Piece}
use Rattle.nfit_tables.specs.Spelling.{header_with, spellings}
use Rattle.nfit_tables.proofs.Checksums.{header_long, parts_appended, put_checksum}
use Rattle.nfit_tables.proofs.writing.write_nfit.Goals as goal

pub index_mut-requires : goal.index_mut-requires
index_mut-requires c =
    let n = c.args.nfit.now in
    let len = rw c.unwrap-len.ensures at c.table_len.ensures in
    let header = c.in_ok-put_header.ensures ∙ ap (λ (start : List ℕ). start ++ header_with 0 c.unwrap-len.result n.header) c.in_ok-bytes.ensures.items in
    let pieces = c.in_ok-put_pieces.ensures ∙ ap (λ (ps : List Piece). c.put_header.new.out.items ++ spellings ps) c.as_slice.ensures in
    let whole = parts_appended n c.unwrap-len.result c.put_header.new.out.items c.put_pieces.new.out.items len.1 header pieces in
    omega (arith, header_long n c.put_pieces.new.out.items whole, c.put_pieces.new.out.ok.0)

pub returns : goal.returns
returns c =
    let n = c.args.nfit.now in
    let len = rw c.unwrap-len.ensures at c.table_len.ensures in
    let header = c.in_ok-put_header.ensures ∙ ap (λ (start : List ℕ). start ++ header_with 0 c.unwrap-len.result n.header) c.in_ok-bytes.ensures.items in
    let pieces = c.in_ok-put_pieces.ensures ∙ ap (λ (ps : List Piece). c.put_header.new.out.items ++ spellings ps) c.as_slice.ensures in
    let whole = parts_appended n c.unwrap-len.result c.put_header.new.out.items c.put_pieces.new.out.items len.1 header pieces in
    put_checksum n c.put_pieces.new.out.items c.sum_of.result whole (c.sum_of.ensures ∙ ap (λ (b : List ℕ). sum b % 256) c.deref.ensures.value)
