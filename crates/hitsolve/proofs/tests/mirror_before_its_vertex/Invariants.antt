use Rattle.hitsolve.proofs.tests.mirror_before_its_vertex.Given as goal

abbrev pub ghosts-meets_a_mirror : goal.ghosts-meets_a_mirror
ghosts-meets_a_mirror g a = record { name = a.blank.name; parts = a.blank.parts }
