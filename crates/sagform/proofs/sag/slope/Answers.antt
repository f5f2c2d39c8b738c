use Rattle.std.proofs.Common.{arith}
use Rattle.sagform.specs.Used.{taken_over}
use Rattle.sagform.proofs.sag.slope.Goals as goal

pub weighted_at-requires-clause-none : goal.weighted_at-requires-clause-none
weighted_at-requires-clause-none g c h = c.b.invariant.each 7 (omega arith)

pub slope_term_at-requires-clause-none : goal.slope_term_at-requires-clause-none
slope_term_at-requires-clause-none g c h = c.b.invariant.each 6 (omega arith)

pub slope_term_at-requires-clause-none_behind : goal.slope_term_at-requires-clause-none_behind
slope_term_at-requires-clause-none_behind g c h = taken_over (c.in-Val-val.ensures.same (omega arith)) (c.b.invariant.each 7 h)

pub slope_term_at-requires-2-clause-none : goal.slope_term_at-requires-2-clause-none
slope_term_at-requires-2-clause-none g c h = c.b.invariant.each 5 (omega arith)

pub slope_term_at-requires-2-clause-none_behind : goal.slope_term_at-requires-2-clause-none_behind
slope_term_at-requires-2-clause-none_behind g c h = taken_over (c.in-Val-val-w7.ensures.same (omega arith)) (c.b.invariant.each 6 h)

pub slope_term_at-requires-3-clause-none : goal.slope_term_at-requires-3-clause-none
slope_term_at-requires-3-clause-none g c h = c.b.invariant.each 4 (omega arith)

pub slope_term_at-requires-3-clause-none_behind : goal.slope_term_at-requires-3-clause-none_behind
slope_term_at-requires-3-clause-none_behind g c h = taken_over (c.in-Val-val-w6.ensures.same (omega arith)) (c.b.invariant.each 5 h)

pub slope_term_at-requires-4-clause-none : goal.slope_term_at-requires-4-clause-none
slope_term_at-requires-4-clause-none g c h = c.b.invariant.each 3 (omega arith)

pub slope_term_at-requires-4-clause-none_behind : goal.slope_term_at-requires-4-clause-none_behind
slope_term_at-requires-4-clause-none_behind g c h = taken_over (c.in-Val-val-w5.ensures.same (omega arith)) (c.b.invariant.each 4 h)

pub slope_term_at-requires-5-clause-none : goal.slope_term_at-requires-5-clause-none
slope_term_at-requires-5-clause-none g c h = c.b.invariant.each 2 (omega arith)

pub slope_term_at-requires-5-clause-none_behind : goal.slope_term_at-requires-5-clause-none_behind
slope_term_at-requires-5-clause-none_behind g c h = taken_over (c.in-Val-val-w4.ensures.same (omega arith)) (c.b.invariant.each 3 h)

pub slope_term_at-requires-6-clause-none : goal.slope_term_at-requires-6-clause-none
slope_term_at-requires-6-clause-none g c h = c.b.invariant.each 1 (omega arith)

pub slope_term_at-requires-6-clause-none_behind : goal.slope_term_at-requires-6-clause-none_behind
slope_term_at-requires-6-clause-none_behind g c h = taken_over (c.in-Val-val-w3.ensures.same (omega arith)) (c.b.invariant.each 2 h)

pub slope_term_at-requires-7-clause-none_behind : goal.slope_term_at-requires-7-clause-none_behind
slope_term_at-requires-7-clause-none_behind g c h = taken_over (c.in-Val-val-w2.ensures.same (omega arith)) (c.b.invariant.each 1 h)
