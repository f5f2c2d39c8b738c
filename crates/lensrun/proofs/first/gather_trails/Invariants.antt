use Rattle.std.proofs.Common.{◌≡◌, ◌+◌, ◌≤◌, ◌++◌, length, take}
use Rattle.std.specs.List.{All, concat}
use Rattle.lensmodel.specs.Call.First.{FirstHolds, firsts}
use Rattle.lensrun.specs.Gathered.{Gathers}
use Rattle.lensrun.specs.Numbered.{numbered}
use Rattle.lensrun.proofs.Paraxials.{trail_text}
use Rattle.lensrun.proofs.first.gather_trails.Given as goal

-- what the lines before ask for was written or is gathered, and holds
abbrev pub invariant-loop-ask : goal.invariant-loop-ask
invariant-loop-ask g l = record {
  gathers : Gathers (g.K.Sink.taken l.fn.out) (g.K.Sink.taken l.out) l.piece.bytes
      (l.fn.piece.bytes ++ concat (take (length (firsts (take l.ask-index l.asks))) (numbered (trail_text l.s) 1 (firsts l.asks))));
  calm : g.K.Sink.faults l.out ≡ g.K.Sink.faults l.fn.out;
  few : l.i ≤ 1 + l.ask-index;
  next : l.i ≡ 1 + length (firsts (take l.ask-index l.asks));
  holds : All (FirstHolds l.s) (take (length (firsts (take l.ask-index l.asks))) (firsts l.asks));
}
