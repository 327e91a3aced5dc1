-- A keeper in memory, as it is made.
use Rattle.inventory_keeper.specs.declared.map_keeper.MapKeeper.TheInside.{Inside}
use Rattle.inventory_keeper.specs.Lists.{Lists}
use Rattle.inventory_keeper.specs.Rows.{AreRows}
use Rattle.inventory_keeper.specs.Tags.{AreTags}

abbrev pub lists_in : Inside → Lists
lists_in keeper = record {
  bad = keeper.bad.items;
  tags = keeper.tags.items;
  listed = keeper.listed.items;
  calls = keeper.calls;
  faults = keeper.faults;
}

-- both lists are in form
pub record AreInForm (keeper : Inside) : Type 0 where
  pub rows : AreRows keeper.bad.items
  pub tags : AreTags keeper.tags.items
