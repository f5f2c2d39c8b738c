use Rattle.lenstests.proofs.rows.reports_and_refusals.Given as goal

abbrev pub ghosts-tables : goal.ghosts-tables
ghosts-tables g a = record { name = a.blank.name; parts = a.blank.parts }
