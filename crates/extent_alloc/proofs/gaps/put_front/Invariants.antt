use Rattle.extent_alloc.proofs.gaps.put_front.Given as goal

abbrev pub ghosts-put_first : goal.ghosts-put_first
ghosts-put_first a = record { name = a.blank.name; parts = a.blank.parts }
