use Rattle.std.proofs.Common.{◌≡◌, ◌++◌, take}
use Rattle.std.specs.List.{concat}
use Rattle.lensrun.specs.Gathered.{Gathers}
use Rattle.lensrun.proofs.report.gather_lines.Given as goal

-- the lines before were written or are gathered
abbrev pub invariant-loop-i : goal.invariant-loop-i
invariant-loop-i g l = record {
  gathers : Gathers (g.K.Sink.taken l.fn.out) (g.K.Sink.taken l.out) l.piece.bytes (l.fn.piece.bytes ++ concat (take l.i (g.L.Lines.lines l.lines)));
  calm : g.K.Sink.faults l.out ≡ g.K.Sink.faults l.fn.out;
}
