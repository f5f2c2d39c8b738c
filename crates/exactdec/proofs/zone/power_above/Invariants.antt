use Rattle.std.proofs.Common.{◌≡◌, ◌-◌}
use Rattle.fixdec.specs.Zone.{least_power}
use Rattle.exactdec.proofs.zone.power_above.Given as goal

-- no power below k is enough
abbrev pub invariant-loop-k : goal.invariant-loop-k
invariant-loop-k l = least_power l.zone (24 - l.k) l.k ≡ least_power l.zone 12 12
