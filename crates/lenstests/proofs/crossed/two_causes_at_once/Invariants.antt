use Rattle.lenstests.proofs.crossed.two_causes_at_once.Given as goal

abbrev pub ghosts-order_of_causes : goal.ghosts-order_of_causes
ghosts-order_of_causes g a = record { name = a.blank.name; parts = a.blank.parts }
