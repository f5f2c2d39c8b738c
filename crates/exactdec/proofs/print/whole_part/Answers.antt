use Rattle.std.proofs.Common.{arith}
use Rattle.std.proofs.Math.Nat.{one-le-pow}
use Rattle.exactdec.proofs.print.whole_part.Goals as goal

pub nonzero_div-result : goal.nonzero_div-result
nonzero_div-result c = let p = one-le-pow c.args.scale 10 (omega arith) in let e = c.pow.ensures in omega arith

pub nonzero_div-result-else-size : goal.nonzero_div-result-else-size
nonzero_div-result-else-size c = let p = one-le-pow c.args.scale 10 (omega arith) in let e = c.pow-else-size.ensures in omega arith
