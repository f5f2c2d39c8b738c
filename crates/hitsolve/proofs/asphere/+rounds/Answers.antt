use Rattle.std.proofs.Common.{◌≡◌, ◌<◌, arith, rules, sym, ◌∙◌}
use Rattle.std.proofs.lemmas.Int.{to_z-of_z}
use Rattle.std.specs.Int.{w128}
use Rattle.hitsolve.specs.Narrowed.{goes_on, stops}
use Rattle.hitsolve.proofs.asphere.+rounds.Goals as goal

pub returns-then-eq : goal.returns-then-eq
returns-then-eq g t c =
    let same : c.in-Val.narrower ≡ c.args.a = search rules in
    c.last_answer-then-eq.ensures
    ∙ stops g.T.Arith.ops g.T.Arith.SCALE c.args.f.now c.args.line c.args.e c.args.left c.args.a c.in-Val.narrower c.next-answer.result
    (rw (to_z-of_z w128 c.args.e c.ranges.e) at c.next-answer.ensures) (sym c.narrowed.ensures ∙ c.in-Val.is) same

pub returns-else-eq : goal.returns-else-eq
returns-else-eq g t c =
    let some : 0 < c.args.left = omega arith in
    (rw (to_z-of_z w128 c.args.e c.ranges.e) at c.rounds.ensures)
    ∙ goes_on g.T.Arith.ops g.T.Arith.SCALE c.args.f.now c.args.line c.args.e c.args.left c.args.a c.in-Val.narrower c.next-answer.result some
    (rw (to_z-of_z w128 c.args.e c.ranges.e) at c.next-answer.ensures) (sym c.narrowed.ensures ∙ c.in-Val.is)
