use Rattle.lenstests.proofs.outside.each_call_of_the_sink_fails_in_turn.Given as goal

abbrev pub ghosts-all_failing_writes : goal.ghosts-all_failing_writes
ghosts-all_failing_writes g a = record { name = a.blank.name; parts = a.blank.parts }
