use Rattle.std.proofs.Common.{arith}
use Rattle.std.proofs.Math.Nat.{one-le-pow}
use Rattle.fixdec.proofs.tens.far_quotient.Goals as goal

pub quotient-requires : goal.quotient-requires
quotient-requires c = let p = one-le-pow c.args.k 10 (omega arith) in let e = c.pow.ensures in omega arith
