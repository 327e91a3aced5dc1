use Rattle.library_tests.proofs.extents.wide_wholes.Given as goal

abbrev pub ghosts-near_the_end : goal.ghosts-near_the_end
ghosts-near_the_end g a = record { name = a.blank.name; parts = a.blank.parts }
