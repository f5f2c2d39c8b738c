use Rattle.skewtrace.specs.Goings.{goes_on}
use Rattle.skewtrace.proofs.turn.pass.Goals as goal

pub returns-clause-on : goal.returns-clause-on
returns-clause-on g c =
    goes_on g.T.Arith.ops g.T.Arith.SCALE g.T.Arith.member c.args.s.now c.args.row.now.word c.args.row.now.places.items c.args.j c.args.r.now c.requires.low c.requires.high
    (rw c.requires.ready at c.turn.ensures.sure) c.turn.result c.turn.new.row.word c.turn.new.row.places.items
    (rw c.requires.ready at c.turn.ensures.going) (rw c.requires.ready at c.turn.ensures.word) (rw c.requires.ready at c.turn.ensures.places)
