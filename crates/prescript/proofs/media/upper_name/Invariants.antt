use Rattle.std.proofs.Common.{◌≡◌, take}
use Rattle.std.specs.Prelude.{map}
use Rattle.lensmodel.specs.Setup.Media.{upper}
use Rattle.prescript.proofs.media.upper_name.Given as goal

abbrev pub invariant-loop-unit : goal.invariant-loop-unit
invariant-loop-unit l = l.key.items ≡ map upper (take l.unit-index l.unit-items)
