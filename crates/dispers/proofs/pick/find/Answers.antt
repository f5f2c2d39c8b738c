use Rattle.lensmodel.specs.Files.Picking.{picked}
use Rattle.dispers.proofs.Sound.{picked-held}
use Rattle.dispers.proofs.pick.find.Goals as goal

pub returns-in-Some-clause-exact : goal.returns-in-Some-clause-exact
unfolding picked
returns-in-Some-clause-exact c = let h = c.in-Some.ensures in rw (← h) c.usable.ensures

pub returns-in-None-clause-exact : goal.returns-in-None-clause-exact
unfolding picked
returns-in-None-clause-exact c = let h = c.in-None.ensures in rw (← h)

pub returns-in-Some-clause-holds : goal.returns-in-Some-clause-holds
returns-in-Some-clause-holds c = picked-held c.args.book.now c.args.name.now.items c.args.wave.now _ (returns-in-Some-clause-exact c)

pub returns-in-None-clause-holds : goal.returns-in-None-clause-holds
returns-in-None-clause-holds c = picked-held c.args.book.now c.args.name.now.items c.args.wave.now _ (returns-in-None-clause-exact c)
