use Rattle.refract.proofs.tests.leaves.Given as goal

abbrev pub ghosts-leaves_by : goal.ghosts-leaves_by
ghosts-leaves_by g a = record { name = a.blank.name; parts = a.blank.parts }
