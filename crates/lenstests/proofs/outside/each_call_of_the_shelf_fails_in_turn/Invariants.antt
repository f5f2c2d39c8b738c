use Rattle.lenstests.proofs.outside.each_call_of_the_shelf_fails_in_turn.Given as goal

abbrev pub ghosts-all_failing_reads : goal.ghosts-all_failing_reads
ghosts-all_failing_reads g a = record { name = a.blank.name; parts = a.blank.parts }
