use Rattle.std.proofs.Common.{◌≡◌, ◌+◌, [], take}
use Rattle.std.specs.List.{concat}
use Rattle.lensmodel.specs.Call.Trace.{rows_of}
use Rattle.lensmodel.specs.Call.TraceJson.{json_lines}
use Rattle.lensmodel.specs.Setup.Launches.{job_launches, job_count}
use Rattle.lensrun.specs.Gathered.{Gathers}
use Rattle.lensrun.specs.Traces.{AllHold}
use Rattle.lensrun.proofs.Asks.{ask_texts}
use Rattle.lensrun.proofs.json.write_asks.Given as goal

-- the rows of the asks before were written; what they say holds
abbrev pub invariant-loop-ask : goal.invariant-loop-ask
invariant-loop-ask g l = record {
  gathers : Gathers (g.K.Sink.taken l.fn.out) (g.K.Sink.taken l.out) []
      (concat (take l.ask-index (ask_texts (λ i a. json_lines i (rows_of l.lens.setup.now a)) 1 l.asks)));
  calm : g.K.Sink.faults l.out ≡ g.K.Sink.faults l.fn.out;
  next : l.first ≡ 1 + job_count (take l.ask-index l.asks);
  holds : AllHold l.lens.setup.now (job_launches (take l.ask-index l.asks));
}
