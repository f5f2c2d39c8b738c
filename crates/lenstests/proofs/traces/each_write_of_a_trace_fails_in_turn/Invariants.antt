use Rattle.lenstests.proofs.traces.each_write_of_a_trace_fails_in_turn.Given as goal

abbrev pub ghosts-failing_sink : goal.ghosts-failing_sink
ghosts-failing_sink g a = record { name = a.blank.name; parts = a.blank.parts }
