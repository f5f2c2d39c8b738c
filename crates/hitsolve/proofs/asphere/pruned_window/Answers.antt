use Rattle.std.proofs.Common.{ap, ◌∙◌}
use Rattle.std.proofs.lemmas.Int.{to_z-of_z}
use Rattle.std.specs.Int.{w128}
use Rattle.hitsolve.specs.CellValues.{CellValues, twice_is, twice_pruned_row}
use Rattle.hitsolve.proofs.asphere.pruned_window.Goals as goal

pub returns : goal.returns
returns g c =
    c.twice_pruned.ensures ∙ ap (λ (k : CellValues). twice_pruned_row k) (rw (to_z-of_z w128 c.args.e c.ranges.e) at c.cells_of.ensures)
    ∙ twice_is g.T.Arith.ops g.T.Arith.SCALE c.args.f.now c.args.line c.args.e
