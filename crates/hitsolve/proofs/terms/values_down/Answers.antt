use Rattle.std.proofs.Common.{[], ◌∷◌, refl, arith}
use Rattle.sagform.specs.Used.{taken_over}
use Rattle.hitsolve.specs.Used.{values_zero}
use Rattle.hitsolve.proofs.terms.values_down.Goals as goal

pub term_at-requires-clause-none : goal.term_at-requires-clause-none
term_at-requires-clause-none g c h = (rw (← c.b.view_is) at c.requires.zero).each 7 h

pub term_at-requires-2-clause-none : goal.term_at-requires-2-clause-none
term_at-requires-2-clause-none g c h = taken_over (c.in-Val-val.ensures.same (omega arith)) ((rw (← c.b.view_is) at c.requires.zero).each 6 h)

pub term_at-requires-3-clause-none : goal.term_at-requires-3-clause-none
term_at-requires-3-clause-none g c h = taken_over (c.in-Val-val-b6.ensures.same (omega arith)) ((rw (← c.b.view_is) at c.requires.zero).each 5 h)

pub term_at-requires-4-clause-none : goal.term_at-requires-4-clause-none
term_at-requires-4-clause-none g c h = taken_over (c.in-Val-val-b5.ensures.same (omega arith)) ((rw (← c.b.view_is) at c.requires.zero).each 4 h)

pub term_at-requires-5-clause-none : goal.term_at-requires-5-clause-none
term_at-requires-5-clause-none g c h = taken_over (c.in-Val-val-b4.ensures.same (omega arith)) ((rw (← c.b.view_is) at c.requires.zero).each 3 h)

pub term_at-requires-6-clause-none : goal.term_at-requires-6-clause-none
term_at-requires-6-clause-none g c h = taken_over (c.in-Val-val-b3.ensures.same (omega arith)) ((rw (← c.b.view_is) at c.requires.zero).each 2 h)

pub term_at-requires-7-clause-none : goal.term_at-requires-7-clause-none
term_at-requires-7-clause-none g c h = taken_over (c.in-Val-val-b2.ensures.same (omega arith)) ((rw (← c.b.view_is) at c.requires.zero).each 1 h)

pub returns-15-clause-zero : goal.returns-15-clause-zero
returns-15-clause-zero g c =
    values_zero g.T.Arith.ops c.args.used (_ ∷ _ ∷ _ ∷ _ ∷ _ ∷ _ ∷ _ ∷ _ ∷ []) _
    (c.in-Val-val-b1.ensures.same, (c.in-Val-val-b2.ensures.same, (c.in-Val-val-b3.ensures.same, (c.in-Val-val-b4.ensures.same, (c.in-Val-val-b5.ensures.same, (c.in-Val-val-b6.ensures.same, (c.in-Val-val.ensures.same, ((λ h. refl), tt))))))))
    (rw (← c.b.view_is) at c.requires.zero)
