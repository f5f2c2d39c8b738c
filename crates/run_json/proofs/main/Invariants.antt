use Rattle.run_json.proofs.main.Given as goal

abbrev pub ghosts-process : goal.ghosts-process
ghosts-process a = record { name = a.blank.name; parts = a.blank.parts }
