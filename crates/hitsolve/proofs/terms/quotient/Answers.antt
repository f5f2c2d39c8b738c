use Rattle.std.proofs.Common.{arith}
use Rattle.sagform.specs.Used.{taken_over}
use Rattle.hitsolve.proofs.terms.quotient.Goals as goal

pub term_at-requires-clause-none : goal.term_at-requires-clause-none
term_at-requires-clause-none g c h = (rw (← c.v.view_is) at c.requires.zero).each 7 h

pub term_at-requires-2-clause-none : goal.term_at-requires-2-clause-none
term_at-requires-2-clause-none g c h = taken_over (c.in-Val-val.ensures.same (omega arith)) ((rw (← c.v.view_is) at c.requires.zero).each 6 h)

pub term_at-requires-3-clause-none : goal.term_at-requires-3-clause-none
term_at-requires-3-clause-none g c h = taken_over (c.in-Val-val-q5.ensures.same (omega arith)) ((rw (← c.v.view_is) at c.requires.zero).each 5 h)

pub term_at-requires-4-clause-none : goal.term_at-requires-4-clause-none
term_at-requires-4-clause-none g c h = taken_over (c.in-Val-val-q4.ensures.same (omega arith)) ((rw (← c.v.view_is) at c.requires.zero).each 4 h)

pub term_at-requires-5-clause-none : goal.term_at-requires-5-clause-none
term_at-requires-5-clause-none g c h = taken_over (c.in-Val-val-q3.ensures.same (omega arith)) ((rw (← c.v.view_is) at c.requires.zero).each 3 h)

pub term_at-requires-6-clause-none : goal.term_at-requires-6-clause-none
term_at-requires-6-clause-none g c h = taken_over (c.in-Val-val-q2.ensures.same (omega arith)) ((rw (← c.v.view_is) at c.requires.zero).each 2 h)

pub term_at-requires-7-clause-none : goal.term_at-requires-7-clause-none
term_at-requires-7-clause-none g c h = taken_over (c.in-Val-val-q1.ensures.same (omega arith)) ((rw (← c.v.view_is) at c.requires.zero).each 1 h)
