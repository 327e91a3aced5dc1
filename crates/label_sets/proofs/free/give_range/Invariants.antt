use Rattle.label_sets.proofs.free.give_range.Given as goal

abbrev pub ghosts-give_range_by : goal.ghosts-give_range_by
ghosts-give_range_by a = record { name = a.blank.name; parts = a.blank.parts }
