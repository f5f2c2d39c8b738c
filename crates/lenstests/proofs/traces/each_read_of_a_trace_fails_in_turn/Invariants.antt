use Rattle.lenstests.proofs.traces.each_read_of_a_trace_fails_in_turn.Given as goal

abbrev pub ghosts-failing_shelf : goal.ghosts-failing_shelf
ghosts-failing_shelf g a = record { name = a.blank.name; parts = a.blank.parts }
