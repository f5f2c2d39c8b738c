use Rattle.std.proofs.Common.{subst}
use Rattle.std.specs.Prelude.{◌≤ℤ◌}
use Rattle.fixdec.specs.Ends.{Ends}
use Rattle.hitsolve.proofs.Cuts.{middle_between, middle_in_bits}
use Rattle.hitsolve.proofs.rounds.middle_of.Goals as goal

order : (c : goal.After-floor_div) → c.args.a.lo ≤ℤ c.args.a.hi
order c = subst (λ (a : Ends). a.lo ≤ℤ a.hi) c.a.view_is c.a.invariant.0

pub returns-clause-value : goal.returns-clause-value
returns-clause-value c =
    rw (← c.a.view_is) (middle_in_bits c.a.inside.lo c.a.inside.hi c.floor_div.result c.a.invariant.0 c.a.invariant.1 c.a.invariant.2 c.floor_div.ensures.value)

pub returns-clause-low : goal.returns-clause-low
returns-clause-low c = rw (returns-clause-value c) (middle_between c.args.a (order c)).low

pub returns-clause-high : goal.returns-clause-high
returns-clause-high c = rw (returns-clause-value c) (middle_between c.args.a (order c)).high
