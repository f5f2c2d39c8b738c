use Rattle.std.proofs.Common.{◌≡◌, ◌+◌, ◌++◌, take, map}
use Rattle.std.specs.List.{concat}
use Rattle.lensmodel.specs.Call.Trace.{ask_lines}
use Rattle.lensmodel.specs.Rows.Ray.{row}
use Rattle.lensmodel.specs.Setup.Launches.{job_launches, job_count}
use Rattle.lensreport.specs.Totals.{counts_of}
use Rattle.lensrun.specs.Gathered.{Gathers}
use Rattle.lensrun.specs.Traces.{AllHold}
use Rattle.lensrun.proofs.Asks.{ask_texts}
use Rattle.lensrun.proofs.trace.gather_asks.Given as goal

-- the lines of the asks before were written or are gathered, and their rays counted; what their rows say holds
abbrev pub invariant-loop-ask : goal.invariant-loop-ask
invariant-loop-ask g l = record {
  gathers : Gathers (g.K.Sink.taken l.fn.out) (g.K.Sink.taken l.out) l.piece.bytes
      (l.fn.piece.bytes ++ concat (take l.ask-index (ask_texts (ask_lines l.lens.setup.now) 1 l.asks)));
  calm : g.K.Sink.faults l.out ≡ g.K.Sink.faults l.fn.out;
  next : l.first ≡ 1 + job_count (take l.ask-index l.asks);
  rays : l.totals.rays + 1 ≡ l.first;
  totals : l.totals ≡ counts_of (map (row l.lens.setup.now) (job_launches (take l.ask-index l.asks)));
  holds : AllHold l.lens.setup.now (job_launches (take l.ask-index l.asks));
}
