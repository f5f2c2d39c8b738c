use Rattle.lenstests.proofs.rows.too_many_glasses_and_too_many_bytes.Given as goal

abbrev pub ghosts-large_files : goal.ghosts-large_files
ghosts-large_files g a = record { name = a.blank.name; parts = a.blank.parts }
