use Rattle.std.proofs.Common.{ℕ, List, ap, ◌∙◌, arith}
use Rattle.fletcher64.specs.Sums.{with_checksum}
use Rattle.index_block.specs.Written.{block_text}
use Rattle.index_block.proofs.Sizes.{sizes_of}
use Rattle.index_block.proofs.Texts.{parts_put-block}
use Rattle.index_block.proofs.Usable.{kind_of-block}
use Rattle.index_block.proofs.WrittenBits.{is_free_in-block, is_used_in-block}
use Rattle.index_block.proofs.write.write_block.Goals as goal

pub returns-clause-text : goal.returns-clause-text
unfolding block_text
returns-clause-text c =
    let sizes = sizes_of c.args.g.now c.requires.geometry in
    let fields = rw c.fields.ensures at c.put.ensures in
    let before = parts_put-block c.args.place c.args.seq c.args.g.now c.args.free.now c.args.into.now c.put.new.into c.write_map.new.map c.requires.block (omega arith) c.put.auto.into fields c.write_map.ensures in
    c.put_checksum.ensures.text ∙ ap (λ (bytes : List ℕ). with_checksum bytes 64) before

pub returns-clause-usable : goal.returns-clause-usable
returns-clause-usable c = rw (returns-clause-text c)
    (kind_of-block c.args.place c.args.seq c.args.g.now c.args.free.now (sizes_of c.args.g.now c.requires.geometry) c.requires.seq c.requires.free)

pub returns-clause-free : goal.returns-clause-free
returns-clause-free c n below = rw (returns-clause-text c) (is_free_in-block c.args.place c.args.seq c.args.g.now c.args.free.now c.requires.free n below)

pub returns-clause-past : goal.returns-clause-past
returns-clause-past c n above = rw (returns-clause-text c) (is_used_in-block c.args.place c.args.seq c.args.g.now c.args.free.now c.requires.free n above)
