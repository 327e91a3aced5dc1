use Rattle.std.proofs.Common.{length, rules}
use Rattle.index_block.proofs.Texts.{map_put-whole, map_put-more}
use Rattle.index_block.proofs.write.write_map.Goals as goal

pub returns-then-rest-ne0 : goal.returns-then-rest-ne0
returns-then-rest-ne0 c =
    rw (c.put.ensures, c.fill.ensures.after (λ y is. search rules))
    (map_put-more (length c.args.map.now) c.args.slots c.args.free.now c.requires.room c.requires.free)

pub returns-else-rest-ne0 : goal.returns-else-rest-ne0
returns-else-rest-ne0 c =
    rw (c.put.ensures, c.fill.ensures.after (λ y is. search rules))
    (map_put-whole (length c.args.map.now) c.args.slots c.args.free.now c.requires.room c.requires.free c.if-rest-ne0.false)
