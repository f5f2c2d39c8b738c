use Rattle.std.proofs.Common.{◌≡◌, arith}
use Rattle.std.specs.Prelude.{◌*ℤ◌}
use Rattle.std.proofs.lemmas.Int.{ints, to_z-of_z}
use Rattle.forms.proofs.coefficients.mixed_at.Goals as goal

pub returns-clause-value : goal.returns-clause-value
returns-clause-value c =
    let x = c.ranges.x in
    let k = c.ranges.k in
    let y = c.ranges.y in
    let l = c.ranges.l in
    let first : c.product.result ≡ c.args.x *ℤ c.args.k = simp to_z-of_z at c.product.ensures.value in
    let second : c.product-2.result ≡ c.args.y *ℤ c.args.l = simp to_z-of_z at c.product-2.ensures.value in
    let p = c.product.ensures.bound in
    let q = c.product-2.ensures.bound in
    rw (← first, ← second) (omega (arith, ints))
