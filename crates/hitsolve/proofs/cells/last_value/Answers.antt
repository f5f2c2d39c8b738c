use Rattle.std.proofs.Common.{arith}
use Rattle.sagform.specs.Used.{taken_over}
use Rattle.hitsolve.proofs.cells.last_value.Goals as goal

pub term_at-requires-clause-zero : goal.term_at-requires-clause-zero
term_at-requires-clause-zero c h = (rw (← c.b.view_is) at c.k.invariant.6).each 7 h

pub term_at-requires-2-clause-zero : goal.term_at-requires-2-clause-zero
term_at-requires-2-clause-zero c h = taken_over (c.in-Val-val.ensures.same (omega arith)) ((rw (← c.b.view_is) at c.k.invariant.6).each 6 h)

pub term_at-requires-3-clause-zero : goal.term_at-requires-3-clause-zero
term_at-requires-3-clause-zero c h = taken_over (c.in-Val-val-v6.ensures.same (omega arith)) ((rw (← c.b.view_is) at c.k.invariant.6).each 5 h)

pub term_at-requires-4-clause-zero : goal.term_at-requires-4-clause-zero
term_at-requires-4-clause-zero c h = taken_over (c.in-Val-val-v5.ensures.same (omega arith)) ((rw (← c.b.view_is) at c.k.invariant.6).each 4 h)

pub term_at-requires-5-clause-zero : goal.term_at-requires-5-clause-zero
term_at-requires-5-clause-zero c h = taken_over (c.in-Val-val-v4.ensures.same (omega arith)) ((rw (← c.b.view_is) at c.k.invariant.6).each 3 h)

pub term_at-requires-6-clause-zero : goal.term_at-requires-6-clause-zero
term_at-requires-6-clause-zero c h = taken_over (c.in-Val-val-v3.ensures.same (omega arith)) ((rw (← c.b.view_is) at c.k.invariant.6).each 2 h)

pub term_at-requires-7-clause-zero : goal.term_at-requires-7-clause-zero
term_at-requires-7-clause-zero c h = taken_over (c.in-Val-val-v2.ensures.same (omega arith)) ((rw (← c.b.view_is) at c.k.invariant.6).each 1 h)
