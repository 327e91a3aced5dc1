-- A weave as the region that contracts see.
use Rattle.std.specs.Prelude.{◌*◌, length}
use Rattle.spa_translate.specs.declared.weave.Weave.TheInside.{Inside}
use Rattle.spa_translate.specs.Woven.{Woven}
use Rattle.spa_translate.specs.Faults.{all_lines}
use Rattle.spa_translate.specs.Laid.{IsLaid, size_each}
use Rattle.spa_translate.specs.Places.{ArePlaces}

abbrev pub woven_in : Inside → Woven
woven_in a = record { spa = a.spa; len = a.size; strands = a.strands.items }

pub record IsKept (a : Inside) : Type 0 where
  pub laid : IsLaid a.lines a.line_size (size_each a.strands.items) (woven_in a)
  pub places : ArePlaces (all_lines a.strands.items) (length a.strands.items * a.lines) a.places.items
