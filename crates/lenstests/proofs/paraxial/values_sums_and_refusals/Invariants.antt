use Rattle.lenstests.proofs.paraxial.values_sums_and_refusals.Given as goal

abbrev pub ghosts-tables : goal.ghosts-tables
ghosts-tables g a = record { name = a.blank.name; parts = a.blank.parts }
