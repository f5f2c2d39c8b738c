use Rattle.std.proofs.Common.{◌+◌, add-one, length-append, ◌∙◌, arith}
use Rattle.std.proofs.lemmas.Int.{to_z-of_z}
use Rattle.std.specs.Int.{w128}
use Rattle.fixdec.specs.IntervalOperations.{operations}
use Rattle.seidel.proofs.Loops.{contributed-here, contributed-all}
use Rattle.seidel.proofs.whole.contributions.Goals as goal

pub loop-j-preserved : goal.loop-j-preserved
loop-j-preserved g c =
    let same = to_z-of_z w128 c.args.e c.ranges.e in
    let here = contributed-here (operations g.row.S) g.row.S c.args.s.now c.args.e c.args.marginal.now c.args.chief.now c.loop-j.j (c.loop-j.j + 1)
    c.index-marginal-j.result c.index-chief-j.result c.loop-j.all.items (omega arith) (omega arith) (add-one c.loop-j.j) c.index-marginal-j.is c.index-chief-j.is in
    let before = rw same at c.loop-j.invariant.rest in
    record {
      count = rw c.push.ensures.items (simp length-append (omega arith));
      within = omega arith;
      rest = rw (c.push.ensures.items, c.contribution.ensures, same) (here ∙ before);
    }

pub returns : goal.returns
returns g c =
    let same = to_z-of_z w128 c.args.e c.ranges.e in
    let whole = rw same at c.loop-j.invariant.rest in
    contributed-all (operations g.row.S) g.row.S c.args.s.now c.args.e c.args.marginal.now c.args.chief.now c.loop-j.j c.loop-j.all.items _ (omega arith) whole
