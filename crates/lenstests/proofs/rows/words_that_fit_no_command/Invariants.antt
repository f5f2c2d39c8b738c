use Rattle.lenstests.proofs.rows.words_that_fit_no_command.Given as goal

abbrev pub ghosts-usages : goal.ghosts-usages
ghosts-usages g a = record { name = a.blank.name; parts = a.blank.parts }
