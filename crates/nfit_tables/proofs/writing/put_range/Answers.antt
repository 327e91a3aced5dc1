use Rattle.std.proofs.lemmas.Result.{on_ok_weaker}
use Rattle.byteorder.specs.Endian.{little_bytes}
use Rattle.nfit_tables.specs.Spelling.{range_fields}
use Rattle.nfit_tables.proofs.Appends.{eight}
use Rattle.nfit_tables.proofs.writing.put_range.Goals as goal

pub returns : goal.returns
unfolding range_fields
returns c =
    let p = c.args.p.now in
    on_ok_weaker c.push_u64-3.result
    (eight c.args.out.now.items (little_bytes 2 p.index) (little_bytes 2 p.flags) (little_bytes 4 p.reserved) (little_bytes 4 p.proximity) p.type_guid
    (little_bytes 8 p.base) (little_bytes 8 p.length) (little_bytes 8 p.attributes)
    c.in_ok-push_u16.ensures
    c.in_ok-push_u16-2.ensures
    c.in_ok-push_u32.ensures
    c.in_ok-push_u32-2.ensures
    c.in_ok-extend_from_slice.ensures.items
    c.in_ok-push_u64.ensures
    c.in_ok-push_u64-2.ensures)
    c.push_u64-3.ensures
