use Rattle.extent_alloc.proofs.extents.Extents.spare.Given as goal

abbrev pub ghosts-spare_of : goal.ghosts-spare_of
ghosts-spare_of a = record { name = a.blank.name; parts = a.blank.parts }
