use Rattle.std.proofs.Common.{refl, sym, subst, rules}
use Rattle.inventory_keeper.specs.Rows.{AreRows}
use Rattle.inventory_keeper.proofs.map_keeper.MapKeeperKeeper.swap_bad.Goals as goal

pub invariant_of-self-2 : goal.invariant_of-self-2
invariant_of-self-2 c = record {
  rows = subst AreRows (sym (search rules)) (c.requires.form refl);
  tags = c.self.invariant.tags;
}
