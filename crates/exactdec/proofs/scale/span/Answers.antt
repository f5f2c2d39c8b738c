use Rattle.std.proofs.Common.{sym, subst, arith}
use Rattle.std.proofs.lemmas.Int.{to_z-of_z, to_z_pos}
use Rattle.std.specs.Int.{w32}
use Rattle.fixdec.specs.Decimal.{value}
use Rattle.fixdec.specs.Ends.{Ends}
use Rattle.fixdec.specs.Member.{IsMember}
use Rattle.fixdec.specs.Algebra.PowerLaws.{dec_span_member, dec_floor_is, dec_ceil_is}
use Rattle.fixdec.specs.Scaled.{dec_span, dec_floor, dec_ceil}
use Rattle.fixdec.specs.Steps.{OnVal}
use Rattle.fixdec.specs.declared.step.Step.{Step}
use Rattle.exactdec.proofs.Texts.{fits_mant, fits_exp}
use Rattle.exactdec.proofs.Spans.{fits_sum}
use Rattle.exactdec.proofs.scale.span.Goals as goal

pub returns-clause-value : goal.returns-clause-value
unfolding dec_span dec_floor dec_ceil
returns-clause-value c =
    let mant = fits_mant c.v.inside.mant c.v.invariant.digits in
    let exp = (fits_exp c.v.inside.exp c.v.invariant.low c.v.invariant.high).0 in
    let scale = to_z_pos w32 c.args.scale (omega arith) in
    let sum = fits_sum c.v.inside.exp c.args.scale c.v.invariant.low c.v.invariant.high c.requires in
    let answer = c.ends.ensures in
    rw (← c.v.view_is) (simp (scale, to_z-of_z) at answer)

pub returns-clause-member : goal.returns-clause-member
returns-clause-member c =
    subst (λ (s : Step Ends). OnVal s (λ r. IsMember c.args.scale r (value c.args.v.now))) (sym (returns-clause-value c)) (dec_span_member c.args.scale c.args.v.now)

pub returns-clause-floor : goal.returns-clause-floor
returns-clause-floor c = dec_floor_is c.args.scale c.args.v.now

pub returns-clause-ceiling : goal.returns-clause-ceiling
returns-clause-ceiling c = dec_ceil_is c.args.scale c.args.v.now
