use Rattle.sagform.proofs.tests.surfaces.asphere_at_six.Given as goal

abbrev pub ghosts-knows_an_asphere : goal.ghosts-knows_an_asphere
ghosts-knows_an_asphere g a = record { name = a.blank.name; parts = a.blank.parts }
