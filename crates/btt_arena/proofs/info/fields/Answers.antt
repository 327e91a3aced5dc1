use Rattle.btt_arena.proofs.Infos.{fields_put}
use Rattle.btt_arena.proofs.info.fields.Goals as goal

pub returns : goal.returns
returns c =
    let a = c.args.layout.now in
    rw (
      c.put_u64-4.ensures,
      c.put_u64-3.ensures,
      c.put_u64-2.ensures,
      c.put_u64.ensures,
      c.put_u32-6.ensures,
      c.put_u32-5.ensures,
      c.put_u32-4.ensures,
      c.put_u32-3.ensures,
      c.put_u32-2.ensures,
      c.put_u32.ensures,
      c.put_u16.ensures,
    )
    (fields_put a.sector a.sectors a.blocks a.map_at a.log_at a.info_at)
