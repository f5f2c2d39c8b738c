use Rattle.std.proofs.Common.{ℤ, sym, subst, ◌∙◌, ap, of_z}
use Rattle.std.proofs.lemmas.Int.{to_z-of_z}
use Rattle.std.specs.Int.{w128}
use Rattle.fixdec.specs.Decimal.{Decimal, value, ten_power}
use Rattle.fixdec.specs.Frac.{◌≈◌, ◌*Q◌}
use Rattle.fixdec.specs.Algebra.PowerLaws.{dec_shifted-zero, dec_shifted-some, value-shifted}
use Rattle.fixdec.specs.Scaled.{dec_shifted}
use Rattle.exactdec.proofs.Texts.{fits_mant, fits_exp}
use Rattle.exactdec.proofs.Spans.{fits_shift, zero_from_bits}
use Rattle.exactdec.proofs.scale.shifted.Goals as goal

pub returns-then-v-eq0-clause-value : goal.returns-then-v-eq0-clause-value
returns-then-v-eq0-clause-value c =
    let zero = zero_from_bits c.v.inside.mant (fits_mant c.v.inside.mant c.v.invariant.digits) c.if-v-eq0.true in
    let kept = dec_shifted-zero (record { mant = c.v.inside.mant; exp = c.v.inside.exp }) c.args.k zero in
    ap (λ (e : ℤ). record { mant = c.v.inside.mant; exp = e }) (c.v.invariant.zero zero) ∙ sym kept ∙ ap (λ (d : Decimal). dec_shifted d c.args.k) c.v.view_is

pub returns-then-v-eq0-clause-exact : goal.returns-then-v-eq0-clause-exact
returns-then-v-eq0-clause-exact c =
    subst (λ (d : Decimal). value d ≈ value c.args.v.now *Q ten_power c.args.k) (sym (returns-then-v-eq0-clause-value c)) (value-shifted c.args.v.now c.args.k)

pub invariant_of-result-2 : goal.invariant_of-result-2
invariant_of-result-2 c =
    let mant = fits_mant c.v.inside.mant c.v.invariant.digits in
    let exp = (fits_exp c.v.inside.exp c.v.invariant.low c.v.invariant.high).0 in
    let k = c.ranges.k in
    let sum = fits_shift c.v.inside.exp c.args.k (rw (← c.v.view_is) at c.requires.exponent) c.requires.low c.requires.high in
    let fits = sum.0 in
    simp to_z-of_z (record {
      digits = c.v.invariant.digits;
      low = sum.1;
      high = sum.2;
      zero = λ e. absurd (c.if-v-eq0.false (ap (of_z w128) e));
    })

pub returns-clause-value : goal.returns-clause-value
returns-clause-value c =
    let mant = fits_mant c.v.inside.mant c.v.invariant.digits in
    let exp = (fits_exp c.v.inside.exp c.v.invariant.low c.v.invariant.high).0 in
    let k = c.ranges.k in
    let sum = fits_shift c.v.inside.exp c.args.k (rw (← c.v.view_is) at c.requires.exponent) c.requires.low c.requires.high in
    let fits = sum.0 in
    let kept = dec_shifted-some (record { mant = c.v.inside.mant; exp = c.v.inside.exp }) c.args.k (λ e. c.if-v-eq0.false (ap (of_z w128) e)) in
    simp to_z-of_z (sym kept ∙ ap (λ (d : Decimal). dec_shifted d c.args.k) c.v.view_is)

pub returns-clause-exact : goal.returns-clause-exact
returns-clause-exact c =
    subst (λ (d : Decimal). value d ≈ value c.args.v.now *Q ten_power c.args.k) (sym (returns-clause-value c)) (value-shifted c.args.v.now c.args.k)
