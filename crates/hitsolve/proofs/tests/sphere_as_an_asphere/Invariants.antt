use Rattle.hitsolve.proofs.tests.sphere_as_an_asphere.Given as goal

abbrev pub ghosts-meets_the_same_asphere : goal.ghosts-meets_the_same_asphere
ghosts-meets_the_same_asphere g a = record { name = a.blank.name; parts = a.blank.parts }
