use Rattle.rowtests.proofs.walk.walked.Given as goal

abbrev pub ghosts-walked_by : goal.ghosts-walked_by
ghosts-walked_by g a = record { name = a.blank.name; parts = a.blank.parts }
