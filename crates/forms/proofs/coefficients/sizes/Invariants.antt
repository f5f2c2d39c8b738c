use Rattle.std.proofs.Common.{◌≡◌, take}
use Rattle.fixdec.specs.Form.{sizes}
use Rattle.forms.proofs.coefficients.sizes.Given as goal

abbrev pub invariant-loop-k : goal.invariant-loop-k
invariant-loop-k l = l.total ≡ sizes (take l.k-index l.ks)
