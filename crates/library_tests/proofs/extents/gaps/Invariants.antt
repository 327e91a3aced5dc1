use Rattle.library_tests.proofs.extents.gaps.Given as goal

abbrev pub ghosts-gaps_close : goal.ghosts-gaps_close
ghosts-gaps_close g a = record { name = a.blank.name; parts = a.blank.parts }

abbrev pub ghosts-gaps_are_left_out : goal.ghosts-gaps_are_left_out
ghosts-gaps_are_left_out g a = record { name = a.blank.name; parts = a.blank.parts }
