use Rattle.extent_alloc.proofs.extents.Extents.reserve.Given as goal

abbrev pub ghosts-make_room : goal.ghosts-make_room
ghosts-make_room a = record { name = a.blank.name; parts = a.blank.parts }
