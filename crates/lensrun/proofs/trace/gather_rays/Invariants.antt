use Rattle.std.proofs.Common.{◌≡◌, ◌+◌, ◌++◌, take}
use Rattle.std.specs.List.{concat}
use Rattle.lensmodel.specs.Call.Trace.{is_single, rows_of}
use Rattle.lensmodel.specs.Setup.Launches.{launches}
use Rattle.lensmodel.specs.Texts.Rows.{ray_lines}
use Rattle.lensrun.specs.Gathered.{Gathers}
use Rattle.lensrun.specs.Numbered.{numbered}
use Rattle.lensrun.specs.Traces.{AllHold, CountsMore}
use Rattle.spotfan.specs.Sums.{sums_of}
use Rattle.lensrun.proofs.trace.gather_rays.Given as goal

-- the lines of the rays before were written or are gathered, and the rays counted; what their rows say holds
abbrev pub invariant-loop-k : goal.invariant-loop-k
invariant-loop-k g l = record {
  gathers : Gathers (g.K.Sink.taken l.fn.out) (g.K.Sink.taken l.out) l.piece.bytes
      (l.fn.piece.bytes ++ concat (take l.k (numbered (ray_lines (is_single l.ask)) l.first (rows_of l.lens.setup.now l.ask))));
  calm : g.K.Sink.faults l.out ≡ g.K.Sink.faults l.fn.out;
  totals : CountsMore l.fn.totals l.totals (take l.k (rows_of l.lens.setup.now l.ask));
  rays : l.totals.rays ≡ l.fn.totals.rays + l.k;
  tally : l.tally ≡ sums_of (take l.k (rows_of l.lens.setup.now l.ask));
  number : l.tally.rows ≡ l.k;
  holds : AllHold l.lens.setup.now (take l.k (launches l.ask));
}
