use Rattle.std.proofs.Common.{◌≡◌, ◌∙◌, arith}
use Rattle.std.specs.Prelude.{pos, ◌-ℤ◌, ◌*ℤ◌, ◌≤ℤ◌, ◌<ℤ◌, FitsSigned}
use Rattle.std.specs.Int.{w64, w128}
use Rattle.std.proofs.lemmas.Int.{ints, to_z-of_z}
use Rattle.fixdec.specs.Rounding.{floor}
use Rattle.forms.proofs.Floors.{floor_from, floor_size, remainder_from}
use Rattle.forms.proofs.rounding.Divisor.quotient.Goals as goal
use Rattle.forms.proofs.rounding.Divisor.quotient.Goals.{After-is_nonzero}

module _ (c : After-is_nonzero) where
  value_is : c.self.inside.value ≡ c.args.self.now
  value_is = c.self.view_is

  left_is : c.left-left.result ≡ c.args.n -ℤ c.one_more_if-floor.result *ℤ c.args.self.now
  left_is =
      let n = c.ranges.n in
      let q : FitsSigned w64 c.one_more_if-floor.result = record { sfits = c.one_more_if-floor.type_inv } in
      simp to_z-of_z at c.left-left.ensures

  floor_is : c.one_more_if-floor.result ≡ floor c.args.n c.args.self.now
  floor_is =
      let value = value_is in
      let positive = c.self.invariant.0 in
      let low : pos 0 ≤ℤ c.left-left.result = (let k = c.if-left-ge0.true in let t = c.left-left.type_inv in grind (arith, ints)) in
      let high : c.left-left.result <ℤ c.args.self.now = (let k = c.if-left-divisor.true in let t = c.left-left.type_inv in let b = c.self.invariant.1 in rw (← value) (grind (arith, ints))) in
      floor_from c.args.n c.args.self.now c.one_more_if-floor.result c.left-left.result (rw (← value) positive) left_is low high

pub returns-then-left-divisor-clause-floor : goal.returns-then-left-divisor-clause-floor
returns-then-left-divisor-clause-floor c =
    let t = c.one_more_if-floor.type_inv in
    omega (arith, ints, floor_is c)

pub returns-then-left-divisor-clause-remainder : goal.returns-then-left-divisor-clause-remainder
returns-then-left-divisor-clause-remainder c =
    let l : FitsSigned w128 c.left-left.result = record { sfits = c.left-left.type_inv } in
    (simp to_z-of_z at c.is_nonzero.ensures) ∙ remainder_from c.args.n c.args.self.now c.one_more_if-floor.result c.left-left.result (left_is c) (floor_is c)

pub returns-then-left-divisor-clause-bound : goal.returns-then-left-divisor-clause-bound
returns-then-left-divisor-clause-bound c =
    let t = c.one_more_if-floor.type_inv in
    let value = value_is c in
    let positive = c.self.invariant.0 in
    let size = floor_size c.args.n c.args.self.now (λ e. omega (arith, ints)) in
    rw (returns-then-left-divisor-clause-floor c) size
