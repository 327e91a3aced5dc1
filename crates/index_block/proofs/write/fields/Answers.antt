use Rattle.std.proofs.Common.{◌≡◌, ◌*◌, arith}
use Rattle.index_block.specs.Blocks.{label_size_of, minor_of}
use Rattle.index_block.specs.Geometry.{place_offset, other_place, slot_offset}
use Rattle.index_block.proofs.Texts.{fields_put}
use Rattle.index_block.proofs.write.fields.Goals as goal

pub returns : goal.returns
returns c =
    let g = c.args.g.now in
    let place = c.args.place in
    let first : slot_offset g 0 ≡ 2 * g.block = omega arith in
    rw (
      c.put_u16-2.ensures,
      c.minor.ensures,
      c.put_u16.ensures,
      c.put_u32-2.ensures,
      c.put_u64-4.ensures,
      c.put_u64-3.ensures,
      c.from-other.ensures,
      c.place_offset-2.ensures,
      c.other.ensures,
      c.put_u64-2.ensures,
      c.from-block.ensures,
      c.put_u64.ensures,
      c.from-mine.ensures,
      c.place_offset.ensures,
      c.put_u32.ensures,
      c.label_size.ensures,
      c.put.ensures,
      first,
    )
    (fields_put (label_size_of g.label) c.args.seq (place_offset g place) g.block (place_offset g (other_place place)) (2 * g.block) g.slots (minor_of g.label))
