use Rattle.std.proofs.Common.{subst}
use Rattle.std.specs.Prelude.{◌≤ℤ◌}
use Rattle.fixdec.specs.Ends.{Ends}
use Rattle.hitsolve.proofs.Cuts.{cut_between, cut_in_bits}
use Rattle.hitsolve.proofs.search.cut.Goals as goal

order : (c : goal.After-struct_told-2-1) → c.args.a.lo ≤ℤ c.args.a.hi
order c = subst (λ (a : Ends). a.lo ≤ℤ a.hi) c.a.view_is c.a.invariant.0

pub returns-clause-value : goal.returns-clause-value
returns-clause-value c =
    rw (← c.a.view_is)
    (cut_in_bits c.a.inside.lo c.a.inside.hi c.from.result c.from-2.result c.floor_div.result c.args.i c.a.invariant.0 c.a.invariant.1 c.a.invariant.2 c.requires c.from.ensures c.from-2.ensures
    c.floor_div.ensures.value)

pub returns-clause-low : goal.returns-clause-low
returns-clause-low c = rw (returns-clause-value c) (cut_between c.args.a (order c) c.args.i c.requires).low

pub returns-clause-high : goal.returns-clause-high
returns-clause-high c = rw (returns-clause-value c) (cut_between c.args.a (order c) c.args.i c.requires).high
