use Rattle.std.proofs.Common.{◌≡◌, ◌+◌, [], sym, ap, subst, ◌∙◌, rules, arith}
use Rattle.std.specs.Prelude.{Some}
use Rattle.std.proofs.lemmas.Result.{err_from_is_err_and}
use Rattle.lensmodel.specs.Call.Trace.{is_single, rows_of}
use Rattle.lensmodel.specs.Claims.RowClaims.{RowHolds}
use Rattle.lensmodel.specs.Setup.Launches.{count}
use Rattle.lensmodel.specs.Texts.Rows.{ray_lines}
use Rattle.lensrun.proofs.Asks.{rows-count, row-at, hold-next, hold-end}
use Rattle.lensrun.proofs.Counted.{counts-next, counts-end, sums-next, sums-end}
use Rattle.lensrun.proofs.RayLines.{rays-are, text_front, text_next, texts_end}
use Rattle.lensrun.proofs.Reaches.{row-fits}
use Rattle.lensrun.proofs.trace.gather_rays.Goals as goal

pub add-requires-in-loop-k-clause-low : goal.add-requires-in-loop-k-clause-low
add-requires-in-loop-k-clause-low g c = (row-fits c.args.lens.now.setup.now c.launch.result c.row_into.new.row c.row_into.ensures.exact).low

pub add-requires-in-loop-k-clause-high : goal.add-requires-in-loop-k-clause-high
add-requires-in-loop-k-clause-high g c = (row-fits c.args.lens.now.setup.now c.launch.result c.row_into.new.row c.row_into.ensures.exact).high

pub gather_ray-requires-clause-low : goal.gather_ray-requires-clause-low
gather_ray-requires-clause-low g c =
    omega (arith, (row-fits c.args.lens.now.setup.now c.launch.result c.row_into.new.row c.row_into.ensures.exact).low)

pub gather_ray-requires-clause-high : goal.gather_ray-requires-clause-high
gather_ray-requires-clause-high g c = (row-fits c.args.lens.now.setup.now c.launch.result c.row_into.new.row c.row_into.ensures.exact).high

pub returns-in_err-gather_ray-clause-front : goal.returns-in_err-gather_ray-clause-front
returns-in_err-gather_ray-clause-front g c =
    let p = err_from_is_err_and c.from_residual.result c.from_residual.ensures.1 in
    let s = c.args.lens.now.setup.now in
    let a = c.args.ask.now in
    let at = row-at s a c.loop-k.k c.launch.result c.launch.ensures ∙ ap Some (sym c.row_into.ensures.exact) in
    rw p.1 (text_front (ray_lines (is_single a)) c.args.first (rows_of s a) _ (rays-are (is_single a) c.args.first (rows_of s a))
    _ _ _ _ [] c.args.piece.now.bytes _ c.loop-k.k _ at
    (ap (λ b. ray_lines b (c.args.first + c.loop-k.k) c.row_into.new.row) c.is_single-single.ensures)
    c.loop-k.invariant.gathers c.in_err-gather_ray.ensures.front)

pub loop-k-preserved : goal.loop-k-preserved
loop-k-preserved g c =
    let s = c.args.lens.now.setup.now in
    let a = c.args.ask.now in
    let q = c.launch.result in
    let at = row-at s a c.loop-k.k q c.launch.ensures ∙ ap Some (sym c.row_into.ensures.exact) in
    record {
      gathers = text_next (ray_lines (is_single a)) c.args.first (rows_of s a) _ (rays-are (is_single a) c.args.first (rows_of s a))
          _ _ _ _ _ c.args.piece.now.bytes _ c.loop-k.k _ at
          (ap (λ b. ray_lines b (c.args.first + c.loop-k.k) c.row_into.new.row) c.is_single-single.ensures)
          c.loop-k.invariant.gathers c.in_ok-gather_ray.ensures.ok;
      calm = search rules;
      totals = counts-next _ _ _ (rows_of s a) c.loop-k.k _ at c.loop-k.invariant.totals c.add.ensures.counts;
      rays = omega (arith, c.add.ensures.rays, c.loop-k.invariant.rays);
      tally = sums-next _ _ (rows_of s a) c.loop-k.k _ at c.loop-k.invariant.tally c.add-in-loop-k.ensures.sums;
      number = omega (arith, c.add-in-loop-k.ensures.rows, c.loop-k.invariant.number);
      holds = hold-next s a c.loop-k.k q c.launch.ensures (subst (RowHolds s q) c.row_into.ensures.exact c.row_into.ensures.encloses) c.loop-k.invariant.holds;
    }

pub returns-clause-ok : goal.returns-clause-ok
returns-clause-ok g c =
    let s = c.args.lens.now.setup.now in
    let a = c.args.ask.now in
    let n : count a ≡ c.loop-k.k = omega (arith, c.loop-k-test.false, c.loop-k.auto.k-end, c.count-k-end.ensures) in
    texts_end (ray_lines (is_single a)) c.args.first (rows_of s a) _ (rays-are (is_single a) c.args.first (rows_of s a))
    _ _ _ c.args.piece.now.bytes c.loop-k.k (rows-count s a ∙ n) c.loop-k.invariant.gathers

pub returns-clause-totals : goal.returns-clause-totals
returns-clause-totals g c =
    let s = c.args.lens.now.setup.now in
    let a = c.args.ask.now in
    let n : count a ≡ c.loop-k.k = omega (arith, c.loop-k-test.false, c.loop-k.auto.k-end, c.count-k-end.ensures) in
    counts-end _ _ (rows_of s a) c.loop-k.k (rows-count s a ∙ n) c.loop-k.invariant.totals

pub returns-clause-tally : goal.returns-clause-tally
returns-clause-tally g c =
    let s = c.args.lens.now.setup.now in
    let a = c.args.ask.now in
    let n : count a ≡ c.loop-k.k = omega (arith, c.loop-k-test.false, c.loop-k.auto.k-end, c.count-k-end.ensures) in
    sums-end _ (rows_of s a) c.loop-k.k (rows-count s a ∙ n) c.loop-k.invariant.tally

pub returns-clause-holds : goal.returns-clause-holds
returns-clause-holds g c =
    let n : count c.args.ask.now ≡ c.loop-k.k = omega (arith, c.loop-k-test.false, c.loop-k.auto.k-end, c.count-k-end.ensures) in
    hold-end c.args.lens.now.setup.now c.args.ask.now c.loop-k.k n c.loop-k.invariant.holds
