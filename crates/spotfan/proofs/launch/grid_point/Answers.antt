use Rattle.spotfan.proofs.Launches.{grid-at}
use Rattle.spotfan.proofs.launch.grid_point.Goals as goal

pub returns : goal.returns
returns c through = rw (c.part.ensures, c.part-2.ensures, c.side.ensures, c.side-2.ensures) (grid-at through c.args.n c.args.i c.requires.number)
