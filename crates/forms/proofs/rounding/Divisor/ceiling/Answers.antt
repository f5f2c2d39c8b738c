use Rattle.std.proofs.Common.{◌≡◌, ◌∙◌, ◌+◌, ap, sym, arith, rules}
use Rattle.std.specs.Prelude.{pos, ◌<ℤ◌, unsigned_abs, FitsSigned}
use Rattle.std.specs.Int.{w128, cast_signed}
use Rattle.std.proofs.lemmas.Int.{ints, to_z-of_z, to_z_pos}
use Rattle.fixdec.specs.Form.{has_remainder}
use Rattle.fixdec.specs.Rounding.{floor}
use Rattle.forms.proofs.Floors.{ceiling_more, ceiling_same, ceiling_size}
use Rattle.forms.proofs.rounding.Divisor.ceiling.Goals as goal
use Rattle.forms.proofs.rounding.Divisor.ceiling.Goals.{After-quotient-quotient}

module _ (c : After-quotient-quotient) where
  number : cast_signed w128 c.args.n ≡ pos c.args.n
  number = to_z_pos w128 c.args.n (let r = c.requires in omega arith)

  positive : pos 0 <ℤ c.args.self.now
  positive = let e = c.self.view_is in let p = c.self.invariant.0 in rw (← e) p

  floor_is : c.quotient-quotient.result.floor ≡ floor (pos c.args.n) c.args.self.now
  floor_is = c.quotient-quotient.ensures.floor ∙ (λ i. floor (number i) c.args.self.now)

  remainder_is : c.quotient-quotient.result.has_remainder ≡ has_remainder c.args.self.now (pos c.args.n)
  remainder_is = c.quotient-quotient.ensures.remainder ∙ (λ i. has_remainder c.args.self.now (number i))

pub returns-then-quotient-clause-value : goal.returns-then-quotient-clause-value
returns-then-quotient-clause-value c =
    let d = c.before.before.before in
    let n = c.args.n in
    let by = c.args.self.now in
    let fits : FitsSigned w128 c.quotient-quotient.result.floor = search rules in
    let size : c.unsigned_abs.result ≡ unsigned_abs c.quotient-quotient.result.floor = simp to_z-of_z at c.unsigned_abs.ensures.value in
    ap (λ k. k + 1) (size ∙ ap unsigned_abs (floor_is d)) ∙ ceiling_more n by (positive d) (sym (remainder_is d) ∙ c.if-quotient.true)

pub returns-then-quotient-clause-bound : goal.returns-then-quotient-clause-bound
returns-then-quotient-clause-bound c =
    let p = positive c.before.before.before in
    rw (returns-then-quotient-clause-value c) (ceiling_size c.args.n (unsigned_abs c.args.self.now) (omega (arith, ints)))

pub returns-else-quotient-clause-value : goal.returns-else-quotient-clause-value
returns-else-quotient-clause-value c =
    let d = c.before.before.before in
    let n = c.args.n in
    let by = c.args.self.now in
    let fits : FitsSigned w128 c.quotient-quotient.result.floor = search rules in
    let size : c.unsigned_abs-else-quotient.result ≡ unsigned_abs c.quotient-quotient.result.floor = simp to_z-of_z at c.unsigned_abs-else-quotient.ensures.value in
    size ∙ ap unsigned_abs (floor_is d) ∙ ceiling_same n by (positive d) (sym (remainder_is d) ∙ c.if-quotient.false)
