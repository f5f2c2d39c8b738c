use Rattle.hitsolve.proofs.tests.rim_tie.Given as goal

abbrev pub ghosts-meets_a_rim : goal.ghosts-meets_a_rim
ghosts-meets_a_rim g a = record { name = a.blank.name; parts = a.blank.parts }
