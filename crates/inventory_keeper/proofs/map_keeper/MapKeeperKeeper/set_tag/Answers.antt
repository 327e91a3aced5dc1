use Rattle.std.proofs.Common.{sym, subst, rules}
use Rattle.inventory_keeper.specs.Tags.{AreTags}
use Rattle.inventory_keeper.proofs.Order.{tagged_tags}
use Rattle.inventory_keeper.proofs.map_keeper.MapKeeperKeeper.set_tag.Goals as goal

pub invariant_of-self-2 : goal.invariant_of-self-2
invariant_of-self-2 c = record {
  rows = c.self.invariant.rows;
  tags = subst AreTags (sym (search rules)) (tagged_tags (record { uuid = c.args.uuid.now; text = c.args.text.now }) c.self.inside.tags.items c.self.invariant.tags);
}
