use Rattle.std.proofs.Common.{◌≡◌, [], length, refl, rules, arith}
use Rattle.std.proofs.lemmas.Option.{slice_get_read}
use Rattle.std.proofs.lemmas.Result.{err_from_is_err_and}
use Rattle.lensmodel.specs.Call.Trace.{rows_of}
use Rattle.lensmodel.specs.Call.TraceJson.{json_lines}
use Rattle.lensrun.proofs.Asks.{jsons-are, text-at, job_front, job_end, job_count-next, job_hold-next}
use Rattle.lensrun.proofs.Gathering.{lines-next}
use Rattle.lensrun.proofs.json.write_asks.Goals as goal

pub returns-in_err-write_rows-clause-front : goal.returns-in_err-write_rows-clause-front
returns-in_err-write_rows-clause-front g c =
    let p = err_from_is_err_and c.from_residual.result c.from_residual.ensures.1 in
    let s = c.args.lens.now.setup.now in
    let asks = c.args.asks.now in
    let at = slice_get_read asks (length asks) c.loop-ask.ask-index c.ask-item.result refl c.loop-ask-test.true c.ask-item.is in
    rw p.1 (job_front (λ i a. json_lines i (rows_of s a)) asks _ (jsons-are s 1 asks) _ _ [] [] c.loop-ask.ask-index c.loop-ask.invariant.gathers _ _
    (text-at (λ i a. json_lines i (rows_of s a)) 1 c.loop-ask.ask-index c.loop-ask.first asks c.ask-item.result at c.loop-ask.invariant.next)
    c.in_err-write_rows.ensures.front)

pub loop-ask-preserved : goal.loop-ask-preserved
loop-ask-preserved g c =
    let s = c.args.lens.now.setup.now in
    let asks = c.args.asks.now in
    let i = c.loop-ask.ask-index in
    let a = c.ask-item.result in
    let at = slice_get_read asks (length asks) i a refl c.loop-ask-test.true c.ask-item.is in
    record {
      gathers = lines-next _ _ _ [] [] [] _ i _ (text-at (λ i a. json_lines i (rows_of s a)) 1 i c.loop-ask.first asks a at c.loop-ask.invariant.next)
          c.loop-ask.invariant.gathers c.in_ok-write_rows.ensures.ok;
      calm = search rules;
      next = omega (arith, job_count-next asks i a at, c.count-first.ensures, c.loop-ask.invariant.next);
      holds = job_hold-next s asks i a at c.loop-ask.invariant.holds c.in_ok-write_rows.ensures.holds;
    }

pub returns-clause-ok : goal.returns-clause-ok
returns-clause-ok g c =
    let asks = c.args.asks.now in
    let s = c.args.lens.now.setup.now in
    let end : length asks ≡ c.loop-ask.ask-index = omega (arith, c.loop-ask-test.false, c.loop-ask.auto.ask-index-end) in
    job_end (λ i a. json_lines i (rows_of s a)) asks _ (jsons-are s 1 asks) _ _ [] [] c.loop-ask.ask-index c.loop-ask.invariant.gathers end
