use Rattle.std.proofs.Common.{◌≡◌, ℕ, take, drop, length}
use Rattle.lensio.specs.Taken.{Takes}
use Rattle.lensio.proofs.transfer.put.Given as goal

-- a front was taken, and the rest is left
abbrev pub invariant-loop-rest : goal.invariant-loop-rest
invariant-loop-rest g l = record {
  front : (n : ℕ) × (l.rest ≡ drop n l.text) × Takes (g.K.Sink.taken l.fn.out) (g.K.Sink.taken l.out) (take n l.text);
  calm : g.K.Sink.faults l.out ≡ g.K.Sink.faults l.fn.out;
}

abbrev pub decreases-loop-rest : goal.decreases-loop-rest
decreases-loop-rest g l = length l.rest
