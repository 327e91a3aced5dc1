use Rattle.std.proofs.Common.{◌<◌, ◌/◌, ◌%◌, arith}
use Rattle.std.specs.Prelude.{slice_index}
use Rattle.std.specs.Int.{w8}
use Rattle.std.proofs.lemmas.Nat.Bits.{bit_at_set_same, bit_at_set_other}
use Rattle.index_block.proofs.FreeSlots.{is_free_in-set, is_free_in-set_other}
use Rattle.index_block.proofs.bitmap.set_free.Goals as goal

pub returns-clause-free : goal.returns-clause-free
returns-clause-free c =
    let map = c.args.map.now in
    let slot = c.args.slot in
    let bit : slot % 8 < 8 = omega arith in
    is_free_in-set map slot _ c.requires 1 (bit_at_set_same w8 (slice_index map (slot / 8)) (slot % 8) bit)

pub returns-clause-others : goal.returns-clause-others
returns-clause-others c =
    let map = c.args.map.now in
    let slot = c.args.slot in
    let bit : slot % 8 < 8 = omega arith in
    is_free_in-set_other map slot _ c.requires (λ i below apart. bit_at_set_other w8 (slice_index map (slot / 8)) (slot % 8) bit i apart)
