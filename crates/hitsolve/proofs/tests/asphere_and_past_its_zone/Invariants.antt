use Rattle.hitsolve.proofs.tests.asphere_and_past_its_zone.Given as goal

abbrev pub ghosts-meets_a_bent_asphere : goal.ghosts-meets_a_bent_asphere
ghosts-meets_a_bent_asphere g a = record { name = a.blank.name; parts = a.blank.parts }
