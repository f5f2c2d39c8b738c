use Rattle.sagform.proofs.tests.steps_store_nothing.Given as goal

abbrev pub ghosts-counts_once : goal.ghosts-counts_once
ghosts-counts_once g a = record { name = a.blank.name; parts = a.blank.parts }
