use Rattle.std.proofs.Common.{◌≡◌, ◌∙◌, arith}
use Rattle.std.specs.Int.{w64, w128, cast_signed, cast_unsigned}
use Rattle.std.proofs.lemmas.Int.{ints, to_z-of_z}
use Rattle.fixdec.specs.Form.{has_remainder}
use Rattle.fixdec.specs.Rounding.{floor}
use Rattle.forms.proofs.Floors.{floor_size}
use Rattle.forms.proofs.rounding.Divisor.far_quotient.Goals as goal
use Rattle.forms.proofs.rounding.Divisor.far_quotient.Goals.{After-has_remainder}

divisor : (c : After-has_remainder) → cast_signed w128 (cast_unsigned w128 (cast_signed w64 (cast_unsigned w64 c.self.inside.value))) ≡ c.self.inside.value
divisor c = let low = c.self.invariant.0 in let high = c.self.invariant.1 in omega (arith, ints)

pub returns-clause-remainder : goal.returns-clause-remainder
returns-clause-remainder c =
    c.has_remainder.ensures ∙ (λ i. has_remainder ((divisor c ∙ c.self.view_is) i) (to_z-of_z w128 c.args.n c.ranges.n i))

pub returns-clause-bound : goal.returns-clause-bound
returns-clause-bound c =
    let low = c.self.invariant.0 in
    let high = c.self.invariant.1 in
    let value : c.floor_div-floor.result ≡ floor c.args.n c.self.inside.value
    = c.floor_div-floor.ensures.value ∙ (λ i. floor (to_z-of_z w128 c.args.n c.ranges.n i) (divisor c i)) in
    rw (to_z-of_z w128 c.floor_div-floor.result (record { sfits = c.floor_div-floor.type_inv }), value) (floor_size c.args.n c.self.inside.value (λ e. omega (arith, ints)))
