use Rattle.std.proofs.Common.{◌+◌, add-one, ◌∙◌}
use Rattle.std.proofs.lemmas.Int.{to_z-of_z}
use Rattle.std.specs.Int.{w128}
use Rattle.seidel.proofs.Loops.{contribution-is}
use Rattle.seidel.proofs.surface.contribution.Goals as goal

pub returns : goal.returns
returns g c =
    let same = to_z-of_z w128 c.args.e c.ranges.e in
    c.short.ensures
    ∙ contribution-is g.T.Arith.ops g.T.Arith.SCALE c.args.s.now c.args.e c.args.j (c.args.j + 1) c.args.m.now c.args.b.now _ _ _ (add-one c.args.j)
    c.surface.ensures c.terms_at-terms.ensures (rw same at c.sums_at-sums.ensures)
