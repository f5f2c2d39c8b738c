use Rattle.std.proofs.Common.{◌≡◌, ◌++◌, take}
use Rattle.std.specs.List.{concat}
use Rattle.lensreport.specs.Paraxial.{sums_line}
use Rattle.lensrun.specs.Gathered.{Gathers}
use Rattle.lensrun.specs.Numbered.{numbered}
use Rattle.lensrun.proofs.sums.gather_surfaces.Given as goal

-- the lines of the surfaces before were written or are gathered
abbrev pub invariant-loop-j : goal.invariant-loop-j
invariant-loop-j g l = record {
  gathers : Gathers (g.K.Sink.taken l.fn.out) (g.K.Sink.taken l.out) l.piece.bytes (l.fn.piece.bytes ++ concat (take l.j (numbered (sums_line l.scale) 1 l.per)));
  calm : g.K.Sink.faults l.out ≡ g.K.Sink.faults l.fn.out;
}
