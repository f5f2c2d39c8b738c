use Rattle.dispers.proofs.pick.index_at_12.Goals as goal

pub index-requires-clause-known : goal.index-requires-clause-known
index-requires-clause-known c = rw c.copy.ensures c.requires
