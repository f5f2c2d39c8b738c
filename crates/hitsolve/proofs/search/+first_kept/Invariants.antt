use Rattle.hitsolve.proofs.search.+first_kept.Given as goal

abbrev pub decreases-first_kept : goal.decreases-first_kept
decreases-first_kept l = l.n
