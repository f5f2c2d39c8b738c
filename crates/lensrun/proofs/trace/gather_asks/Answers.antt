use Rattle.std.proofs.Common.{◌≡◌, length, refl, rules, arith}
use Rattle.std.proofs.lemmas.Option.{slice_get_read}
use Rattle.std.proofs.lemmas.Result.{err_from_is_err_and}
use Rattle.lensmodel.specs.Call.Trace.{ask_lines}
use Rattle.lensrun.proofs.Asks.{asks-are, text-at, job_front, job_end, job_count-next, job_hold-next}
use Rattle.lensrun.proofs.Counted.{job_counts-next}
use Rattle.lensrun.proofs.Gathering.{lines-next}
use Rattle.lensrun.proofs.trace.gather_asks.Goals as goal

pub returns-in_err-gather_ask-clause-front : goal.returns-in_err-gather_ask-clause-front
returns-in_err-gather_ask-clause-front g c =
    let p = err_from_is_err_and c.from_residual.result c.from_residual.ensures.1 in
    let s = c.args.lens.now.setup.now in
    let asks = c.args.asks.now in
    let at = slice_get_read asks (length asks) c.loop-ask.ask-index c.ask-item.result refl c.loop-ask-test.true c.ask-item.is in
    rw p.1 (job_front (ask_lines s) asks _ (asks-are s 1 asks) _ _ _ c.args.piece.now.bytes c.loop-ask.ask-index c.loop-ask.invariant.gathers _ _
    (text-at (ask_lines s) 1 c.loop-ask.ask-index c.loop-ask.first asks c.ask-item.result at c.loop-ask.invariant.next) c.in_err-gather_ask.ensures.front)

pub loop-ask-preserved : goal.loop-ask-preserved
loop-ask-preserved g c =
    let s = c.args.lens.now.setup.now in
    let asks = c.args.asks.now in
    let i = c.loop-ask.ask-index in
    let a = c.ask-item.result in
    let at = slice_get_read asks (length asks) i a refl c.loop-ask-test.true c.ask-item.is in
    record {
      gathers = lines-next _ _ _ _ _ c.args.piece.now.bytes _ i _ (text-at (ask_lines s) 1 i c.loop-ask.first asks a at c.loop-ask.invariant.next)
          c.loop-ask.invariant.gathers c.in_ok-gather_ask.ensures.ok;
      calm = search rules;
      next = omega (arith, job_count-next asks i a at, c.count-first.ensures, c.loop-ask.invariant.next);
      rays = omega (arith, c.in_ok-gather_ask.ensures.rays, c.count-first.ensures, c.loop-ask.invariant.rays);
      totals = job_counts-next _ _ s asks i a at c.loop-ask.invariant.totals c.in_ok-gather_ask.ensures.totals;
      holds = job_hold-next s asks i a at c.loop-ask.invariant.holds c.in_ok-gather_ask.ensures.holds;
    }

pub returns-clause-ok : goal.returns-clause-ok
returns-clause-ok g c =
    let asks = c.args.asks.now in
    let end : length asks ≡ c.loop-ask.ask-index = omega (arith, c.loop-ask-test.false, c.loop-ask.auto.ask-index-end) in
    job_end (ask_lines c.args.lens.now.setup.now) asks _ (asks-are c.args.lens.now.setup.now 1 asks) _ _ _ c.args.piece.now.bytes c.loop-ask.ask-index c.loop-ask.invariant.gathers end
