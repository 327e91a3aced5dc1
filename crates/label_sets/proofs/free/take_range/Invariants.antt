use Rattle.label_sets.proofs.free.take_range.Given as goal

abbrev pub ghosts-take_range_by : goal.ghosts-take_range_by
ghosts-take_range_by a = record { name = a.blank.name; parts = a.blank.parts }
