use Rattle.hitsolve.proofs.tests.sphere_height_and_past_it.Given as goal

abbrev pub ghosts-meets_a_sphere : goal.ghosts-meets_a_sphere
ghosts-meets_a_sphere g a = record { name = a.blank.name; parts = a.blank.parts }
