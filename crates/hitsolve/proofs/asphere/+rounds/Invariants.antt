use Rattle.hitsolve.proofs.asphere.+rounds.Given as goal

abbrev pub decreases-rounds : goal.decreases-rounds
decreases-rounds g l = l.left
