use Rattle.std.proofs.Common.{[], ◌∷◌}
use Rattle.std.proofs.lemmas.Result.{on_ok_weaker}
use Rattle.byteorder.specs.Endian.{little_bytes}
use Rattle.nfit_tables.specs.Spelling.{control_fields}
use Rattle.nfit_tables.proofs.Appends.{and_then}
use Rattle.nfit_tables.proofs.writing.put_control.Goals as goal

pub returns : goal.returns
unfolding control_fields
returns c =
    let p = c.args.p.now in
    on_ok_weaker c.push_u16-11.result
    (λ last.
    and_then _ (little_bytes 2 p.index) _ c.in_ok-push_u16.ensures
    (and_then _ (little_bytes 2 p.vendor) _ c.in_ok-push_u16-2.ensures
    (and_then _ (little_bytes 2 p.device) _ c.in_ok-push_u16-3.ensures
    (and_then _ (little_bytes 2 p.revision) _ c.in_ok-push_u16-4.ensures
    (and_then _ (little_bytes 2 p.subsystem_vendor) _ c.in_ok-push_u16-5.ensures
    (and_then _ (little_bytes 2 p.subsystem_device) _ c.in_ok-push_u16-6.ensures
    (and_then _ (little_bytes 2 p.subsystem_revision) _ c.in_ok-push_u16-7.ensures
    (and_then _ (p.valid_fields ∷ p.manufacturing_location ∷ []) _ c.in_ok-extend_from_slice.ensures.items
    (and_then _ (little_bytes 2 p.manufacturing_date) _ c.in_ok-push_u16-8.ensures
    (and_then _ (little_bytes 2 p.reserved) _ c.in_ok-push_u16-9.ensures
    (and_then _ (little_bytes 4 p.serial_number) _ c.in_ok-push_u32.ensures
    (and_then _ (little_bytes 2 p.format_code) _ c.in_ok-push_u16-10.ensures last))))))))))))
    c.push_u16-11.ensures
