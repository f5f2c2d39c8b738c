use Rattle.std.proofs.Common.{arith}
use Rattle.sagform.specs.Used.{taken_over}
use Rattle.sagform.proofs.sag.last_value.Goals as goal

pub term_at-requires-clause-none : goal.term_at-requires-clause-none
term_at-requires-clause-none g c h = c.b.invariant.each 7 h

pub term_at-requires-2-clause-none : goal.term_at-requires-2-clause-none
term_at-requires-2-clause-none g c h = taken_over (c.in-Val-val.ensures.same (omega arith)) (c.b.invariant.each 6 h)

pub term_at-requires-3-clause-none : goal.term_at-requires-3-clause-none
term_at-requires-3-clause-none g c h = taken_over (c.in-Val-val-v6.ensures.same (omega arith)) (c.b.invariant.each 5 h)

pub term_at-requires-4-clause-none : goal.term_at-requires-4-clause-none
term_at-requires-4-clause-none g c h = taken_over (c.in-Val-val-v5.ensures.same (omega arith)) (c.b.invariant.each 4 h)

pub term_at-requires-5-clause-none : goal.term_at-requires-5-clause-none
term_at-requires-5-clause-none g c h = taken_over (c.in-Val-val-v4.ensures.same (omega arith)) (c.b.invariant.each 3 h)

pub term_at-requires-6-clause-none : goal.term_at-requires-6-clause-none
term_at-requires-6-clause-none g c h = taken_over (c.in-Val-val-v3.ensures.same (omega arith)) (c.b.invariant.each 2 h)

pub term_at-requires-7-clause-none : goal.term_at-requires-7-clause-none
term_at-requires-7-clause-none g c h = taken_over (c.in-Val-val-v2.ensures.same (omega arith)) (c.b.invariant.each 1 h)
