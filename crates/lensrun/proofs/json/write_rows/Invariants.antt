use Rattle.std.proofs.Common.{◌≡◌, [], take}
use Rattle.std.specs.List.{concat}
use Rattle.lensmodel.specs.Call.Trace.{rows_of}
use Rattle.lensmodel.specs.Setup.Launches.{launches}
use Rattle.lensmodel.specs.Texts.JsonRows.{json_line}
use Rattle.lensrun.specs.Gathered.{Gathers}
use Rattle.lensrun.specs.Numbered.{numbered}
use Rattle.lensrun.specs.Traces.{AllHold}
use Rattle.lensrun.proofs.json.write_rows.Given as goal

-- the rows before were written; what they say holds
abbrev pub invariant-loop-k : goal.invariant-loop-k
invariant-loop-k g l = record {
  gathers : Gathers (g.K.Sink.taken l.fn.out) (g.K.Sink.taken l.out) [] (concat (take l.k (numbered json_line l.first (rows_of l.lens.setup.now l.ask))));
  calm : g.K.Sink.faults l.out ≡ g.K.Sink.faults l.fn.out;
  holds : AllHold l.lens.setup.now (take l.k (launches l.ask));
}
