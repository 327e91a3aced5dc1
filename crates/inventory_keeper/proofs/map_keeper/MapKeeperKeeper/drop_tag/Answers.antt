use Rattle.std.proofs.Common.{sym, subst}
use Rattle.inventory_keeper.specs.Tags.{AreTags}
use Rattle.inventory_keeper.proofs.Order.{untagged_tags}
use Rattle.inventory_keeper.proofs.map_keeper.MapKeeperKeeper.drop_tag.Goals as goal

pub invariant_of-self : goal.invariant_of-self
invariant_of-self c = record {
  rows = c.self.invariant.rows;
  tags = subst AreTags (sym c.take_tag.ensures.tags) (untagged_tags c.args.uuid.now c.self.inside.tags.items c.self.invariant.tags);
}
