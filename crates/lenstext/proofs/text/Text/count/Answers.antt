use Rattle.std.proofs.Common.{ap, length, arith}
use Rattle.lenstext.proofs.Numbered.{length-cut}
use Rattle.lenstext.proofs.text.Text.count.Goals as goal

pub returns-clause-count : goal.returns-clause-count
returns-clause-count c =
    omega (arith, c.len.ensures, c.self.inside.ends.ok.0, length-cut 0 c.self.inside.units.items c.self.inside.ends.items, ap length c.self.view_is)
