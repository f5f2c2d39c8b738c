use Rattle.std.proofs.Common.{◌≡◌, ◌+◌, ◌≤◌, ◌++◌, length, take}
use Rattle.std.specs.List.{All, concat}
use Rattle.lensmodel.specs.Call.Seidel.{SumsHold, pairs}
use Rattle.lensrun.specs.Gathered.{Gathers}
use Rattle.lensrun.specs.Numbered.{numbered}
use Rattle.lensrun.proofs.Paraxials.{set_text}
use Rattle.lensrun.proofs.sums.gather_sets.Given as goal

-- what the lines before ask for was written or is gathered, and holds
abbrev pub invariant-loop-ask : goal.invariant-loop-ask
invariant-loop-ask g l = record {
  gathers : Gathers (g.K.Sink.taken l.fn.out) (g.K.Sink.taken l.out) l.piece.bytes
      (l.fn.piece.bytes ++ concat (take (length (pairs (take l.ask-index l.asks))) (numbered (set_text l.s) 1 (pairs l.asks))));
  calm : g.K.Sink.faults l.out ≡ g.K.Sink.faults l.fn.out;
  few : l.i ≤ 1 + l.ask-index;
  next : l.i ≡ 1 + length (pairs (take l.ask-index l.asks));
  holds : All (SumsHold l.s) (take (length (pairs (take l.ask-index l.asks))) (pairs l.asks));
}
