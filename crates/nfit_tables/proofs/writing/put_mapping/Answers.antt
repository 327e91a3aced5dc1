use Rattle.std.proofs.lemmas.Result.{on_ok_weaker}
use Rattle.byteorder.specs.Endian.{little_bytes}
use Rattle.nfit_tables.specs.Spelling.{mapping_fields}
use Rattle.nfit_tables.proofs.Appends.{and_then}
use Rattle.nfit_tables.proofs.writing.put_mapping.Goals as goal

pub returns : goal.returns
unfolding mapping_fields
returns c =
    let p = c.args.p.now in
    on_ok_weaker c.push_u16-8.result
    (λ last.
    and_then _ (little_bytes 4 p.device_handle) _ c.in_ok-push_u32.ensures
    (and_then _ (little_bytes 2 p.physical_id) _ c.in_ok-push_u16.ensures
    (and_then _ (little_bytes 2 p.region_id) _ c.in_ok-push_u16-2.ensures
    (and_then _ (little_bytes 2 p.range_index) _ c.in_ok-push_u16-3.ensures
    (and_then _ (little_bytes 2 p.control_index) _ c.in_ok-push_u16-4.ensures
    (and_then _ (little_bytes 8 p.region_size) _ c.in_ok-push_u64.ensures
    (and_then _ (little_bytes 8 p.region_offset) _ c.in_ok-push_u64-2.ensures
    (and_then _ (little_bytes 8 p.module_address_base) _ c.in_ok-push_u64-3.ensures
    (and_then _ (little_bytes 2 p.interleave_index) _ c.in_ok-push_u16-5.ensures
    (and_then _ (little_bytes 2 p.ways) _ c.in_ok-push_u16-6.ensures
    (and_then _ (little_bytes 2 p.state_flags) _ c.in_ok-push_u16-7.ensures last)))))))))))
    c.push_u16-8.ensures
