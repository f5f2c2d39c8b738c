use Rattle.std.proofs.Common.{◌≡◌, [], length, refl, sym, ap, subst, ◌∙◌, rules, arith}
use Rattle.std.specs.Prelude.{Some}
use Rattle.std.proofs.lemmas.Result.{err_from_is_err_and}
use Rattle.lensmodel.specs.Call.Trace.{rows_of}
use Rattle.lensmodel.specs.Claims.RowClaims.{RowHolds}
use Rattle.lensmodel.specs.Setup.Launches.{count}
use Rattle.lensmodel.specs.Texts.JsonRows.{json_line}
use Rattle.lensrun.proofs.Asks.{rows-count, row-at, hold-next, hold-end, json_rows-are}
use Rattle.lensrun.proofs.Gathering.{gathers-taken, front-none}
use Rattle.lensrun.proofs.RayLines.{text_front, text_next, texts_end}
use Rattle.lensrun.proofs.Reaches.{row-fits}
use Rattle.lensrun.proofs.json.write_rows.Goals as goal

pub json_row-requires-clause-low : goal.json_row-requires-clause-low
json_row-requires-clause-low g c = omega (arith, (row-fits c.args.lens.now.setup.now c.launch.result c.row_into.new.row c.row_into.ensures.exact).low)

pub json_row-requires-clause-high : goal.json_row-requires-clause-high
json_row-requires-clause-high g c = (row-fits c.args.lens.now.setup.now c.launch.result c.row_into.new.row c.row_into.ensures.exact).high

pub returns-in_err-line-clause-front : goal.returns-in_err-line-clause-front
returns-in_err-line-clause-front g c =
    let p = err_from_is_err_and c.from_residual.result c.from_residual.ensures.1 in
    let s = c.args.lens.now.setup.now in
    let a = c.args.ask.now in
    let at = row-at s a c.loop-k.k c.launch.result c.launch.ensures ∙ ap Some (sym c.row_into.ensures.exact) in
    rw p.1 (text_front json_line c.args.first (rows_of s a) _ (json_rows-are c.args.first (rows_of s a)) _ _ _ [] [] [] _ c.loop-k.k _ at refl
    c.loop-k.invariant.gathers (front-none _ _))

pub returns-in_err-put-clause-front : goal.returns-in_err-put-clause-front
returns-in_err-put-clause-front g c =
    let p = err_from_is_err_and c.from_residual-in_err-put.result c.from_residual-in_err-put.ensures.1 in
    let s = c.args.lens.now.setup.now in
    let a = c.args.ask.now in
    let at = row-at s a c.loop-k.k c.launch.result c.launch.ensures ∙ ap Some (sym c.row_into.ensures.exact) in
    rw p.1 (text_front json_line c.args.first (rows_of s a) _ (json_rows-are c.args.first (rows_of s a)) _ _ _ [] [] [] _ c.loop-k.k _ at
    (c.as_slice.ensures.value ∙ c.in_ok-line.ensures) c.loop-k.invariant.gathers c.in_err-put.ensures.front)

pub loop-k-preserved : goal.loop-k-preserved
loop-k-preserved g c =
    let s = c.args.lens.now.setup.now in
    let a = c.args.ask.now in
    let q = c.launch.result in
    let at = row-at s a c.loop-k.k q c.launch.ensures ∙ ap Some (sym c.row_into.ensures.exact) in
    record {
      gathers = text_next json_line c.args.first (rows_of s a) _ (json_rows-are c.args.first (rows_of s a)) _ _ _ [] [] [] _ c.loop-k.k _ at
          (c.as_slice.ensures.value ∙ c.in_ok-line.ensures) c.loop-k.invariant.gathers (gathers-taken _ _ _ c.in_ok-put.ensures.ok);
      calm = search rules;
      holds = hold-next s a c.loop-k.k q c.launch.ensures (subst (RowHolds s q) c.row_into.ensures.exact c.row_into.ensures.encloses) c.loop-k.invariant.holds;
    }

pub returns-clause-ok : goal.returns-clause-ok
returns-clause-ok g c =
    let s = c.args.lens.now.setup.now in
    let a = c.args.ask.now in
    let n : count a ≡ c.loop-k.k = omega (arith, c.loop-k-test.false, c.loop-k.auto.k-end, c.count-k-end.ensures) in
    texts_end json_line c.args.first (rows_of s a) _ (json_rows-are c.args.first (rows_of s a)) _ _ [] [] c.loop-k.k (rows-count s a ∙ n) c.loop-k.invariant.gathers

pub returns-clause-holds : goal.returns-clause-holds
returns-clause-holds g c =
    let n : count c.args.ask.now ≡ c.loop-k.k = omega (arith, c.loop-k-test.false, c.loop-k.auto.k-end, c.count-k-end.ensures) in
    hold-end c.args.lens.now.setup.now c.args.ask.now c.loop-k.k n c.loop-k.invariant.holds
