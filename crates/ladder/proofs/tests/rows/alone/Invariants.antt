use Rattle.ladder.proofs.tests.rows.alone.Given as goal

abbrev pub ghosts-alone_by : goal.ghosts-alone_by
ghosts-alone_by a = record { name = a.blank.name; parts = a.blank.parts }
