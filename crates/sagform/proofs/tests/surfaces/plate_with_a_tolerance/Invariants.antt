use Rattle.sagform.proofs.tests.surfaces.plate_with_a_tolerance.Given as goal

abbrev pub ghosts-knows_a_plate : goal.ghosts-knows_a_plate
ghosts-knows_a_plate g a = record { name = a.blank.name; parts = a.blank.parts }
