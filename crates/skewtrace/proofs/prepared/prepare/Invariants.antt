use Rattle.std.proofs.Common.{◌≡◌, ◌+◌, ◌++◌, length, map, vec_capacity}
use Rattle.skewtrace.specs.Filled.{all_faces, faces_from}
use Rattle.skewtrace.specs.Readies.{step_of}
use Rattle.skewtrace.proofs.prepared.prepare.Given as goal

abbrev pub invariant-loop-j : goal.invariant-loop-j
invariant-loop-j g l =
    (map step_of l.faces.items ++ faces_from g.T.Arith.ops g.T.Arith.SCALE l.s l.j ≡ all_faces g.T.Arith.ops g.T.Arith.SCALE l.s)
    × (length l.faces.items + 1 ≡ l.j) × (l.steps + 1 ≡ l.initial.steps + l.j) × (vec_capacity l.faces ≡ vec_capacity l.initial.faces)
