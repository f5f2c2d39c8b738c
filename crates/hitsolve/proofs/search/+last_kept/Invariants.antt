use Rattle.hitsolve.proofs.search.+last_kept.Given as goal

abbrev pub decreases-last_kept : goal.decreases-last_kept
decreases-last_kept l = l.n
