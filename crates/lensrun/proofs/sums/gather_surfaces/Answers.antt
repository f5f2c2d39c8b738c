use Rattle.std.proofs.Common.{◌≡◌, [], length, refl, rules, arith}
use Rattle.std.proofs.lemmas.Option.{slice_get_read}
use Rattle.std.proofs.lemmas.Result.{err_from_is_err_and}
use Rattle.lensreport.specs.Paraxial.{sums_line}
use Rattle.lensrun.proofs.Paraxials.{surfaces-are}
use Rattle.lensrun.proofs.RayLines.{text_front, text_next, texts_end}
use Rattle.lensrun.proofs.sums.gather_surfaces.Goals as goal

pub returns-in_err-gather_line-clause-front : goal.returns-in_err-gather_line-clause-front
returns-in_err-gather_line-clause-front g c =
    let p = err_from_is_err_and c.from_residual.result c.from_residual.ensures.1 in
    let per = c.args.per.now in
    let at = slice_get_read per (length per) c.loop-j.j c.index-per-j.result refl c.loop-j-test.true c.index-per-j.is in
    rw p.1 (text_front (sums_line c.args.scale) 1 per _ (surfaces-are c.args.scale 1 per)
    _ _ _ _ [] c.args.piece.now.bytes _ c.loop-j.j _ at c.print_sums.ensures c.loop-j.invariant.gathers c.in_err-gather_line.ensures.front)

pub loop-j-preserved : goal.loop-j-preserved
loop-j-preserved g c =
    let per = c.args.per.now in
    let at = slice_get_read per (length per) c.loop-j.j c.index-per-j.result refl c.loop-j-test.true c.index-per-j.is in
    record {
      gathers = text_next (sums_line c.args.scale) 1 per _ (surfaces-are c.args.scale 1 per)
          _ _ _ _ _ c.args.piece.now.bytes _ c.loop-j.j _ at c.print_sums.ensures c.loop-j.invariant.gathers c.in_ok-gather_line.ensures.ok;
      calm = search rules;
    }

pub returns-clause-ok : goal.returns-clause-ok
returns-clause-ok g c =
    let per = c.args.per.now in
    let end : length per ≡ c.loop-j.j = omega (arith, c.loop-j-test.false, c.loop-j.auto.j-end) in
    texts_end (sums_line c.args.scale) 1 per _ (surfaces-are c.args.scale 1 per) _ _ _ c.args.piece.now.bytes c.loop-j.j end c.loop-j.invariant.gathers
