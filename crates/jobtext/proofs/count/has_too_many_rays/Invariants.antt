use Rattle.std.proofs.Common.{◌≡◌, ◌≤◌, take}
use Rattle.lensmodel.specs.Setup.Launches.{job_count}
use Rattle.jobtext.proofs.count.has_too_many_rays.Given as goal

abbrev pub invariant-loop-ask : goal.invariant-loop-ask
invariant-loop-ask l = record {
  sum : l.total ≡ job_count (take l.ask-index l.asks);
  below : l.total ≤ 10_000;
}
