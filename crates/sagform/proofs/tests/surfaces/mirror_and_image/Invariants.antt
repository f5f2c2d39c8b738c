use Rattle.sagform.proofs.tests.surfaces.mirror_and_image.Given as goal

abbrev pub ghosts-knows_a_mirror : goal.ghosts-knows_a_mirror
ghosts-knows_a_mirror g a = record { name = a.blank.name; parts = a.blank.parts }
