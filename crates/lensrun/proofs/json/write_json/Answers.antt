use Rattle.std.proofs.lemmas.Result.{on_ok_weaker, on_err_weaker}
use Rattle.lensrun.proofs.Asks.{json_taken, json_front}
use Rattle.lensrun.proofs.json.write_json.Goals as goal

pub returns-clause-ok : goal.returns-clause-ok
returns-clause-ok g c =
    on_ok_weaker c.write_asks.result (λ w. json_taken c.args.s.now c.args.job.now _ c.as_slice.ensures _ _ w) c.write_asks.ensures.ok

pub returns-clause-front : goal.returns-clause-front
returns-clause-front g c =
    on_err_weaker c.write_asks.result (λ w. json_front c.args.s.now c.args.job.now _ c.as_slice.ensures _ _ w) c.write_asks.ensures.front
