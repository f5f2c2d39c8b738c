use Rattle.std.proofs.Common.{◌∙◌, ap, arith}
use Rattle.std.proofs.lemmas.Int.{to_z-of_z}
use Rattle.fixdec.specs.Ends.{Ends}
use Rattle.fixdec.specs.declared.step.Step.{Step}
use Rattle.fixdec.specs.declared.step.Step.TheVariants.{Val}
use Rattle.exactdec.proofs.Texts.{fits_mant, fits_exp}
use Rattle.exactdec.proofs.Spans.{fits_sum}
use Rattle.exactdec.proofs.Zones.{none_at_most, none_lost, none_above, some_zone, zone_range, zone_ceil, fits_eleven, fits_cap_hi}
use Rattle.exactdec.proofs.zone.zone_of.Goals as goal

abbrev kept : Ends → Step Ends
kept s = Val s

pub returns-then-semi-le0-clause-value : goal.returns-then-semi-le0-clause-value
returns-then-semi-le0-clause-value c =
    let fits = fits_mant c.semi.inside.mant c.semi.invariant.digits in
    let test = c.if-semi-le0.true in
    rw (← c.semi.view_is) (none_at_most (record { mant = c.semi.inside.mant; exp = c.semi.inside.exp }) (simp to_z-of_z at test))

pub returns-in_default-clause-value : goal.returns-in_default-clause-value
returns-in_default-clause-value c =
    let fits = fits_mant c.semi.inside.mant c.semi.invariant.digits in
    let exp = (fits_exp c.semi.inside.exp c.semi.invariant.low c.semi.invariant.high).0 in
    let more = fits_eleven c.semi.inside.mant c.semi.invariant.digits in
    let sum = fits_sum c.semi.inside.exp 8 c.semi.invariant.low c.semi.invariant.high (omega arith) in
    let test = c.if-semi-le0.false in
    let answer = c.ends.ensures in
    let is = simp to_z-of_z at answer in
    rw (← c.semi.view_is) (none_lost (record { mant = c.semi.inside.mant; exp = c.semi.inside.exp }) (simp to_z-of_z at test) (λ s e. c.in_default.not-Val s (is ∙ e)))

pub returns-then-zone-gt-ZONE_LIMIT-clause-value : goal.returns-then-zone-gt-ZONE_LIMIT-clause-value
returns-then-zone-gt-ZONE_LIMIT-clause-value c =
    let fits = fits_mant c.semi.inside.mant c.semi.invariant.digits in
    let exp = (fits_exp c.semi.inside.exp c.semi.invariant.low c.semi.invariant.high).0 in
    let more = fits_eleven c.semi.inside.mant c.semi.invariant.digits in
    let sum = fits_sum c.semi.inside.exp 8 c.semi.invariant.low c.semi.invariant.high (omega arith) in
    let cap = fits_cap_hi c.zone.inside.hi c.zone.invariant.2 in
    let test = c.if-semi-le0.false in
    let answer = c.in-Val.ensures in
    let above = c.if-zone-gt-ZONE_LIMIT.true in
    rw (← c.semi.view_is) (none_above (record { mant = c.semi.inside.mant; exp = c.semi.inside.exp }) (record { lo = c.zone.inside.lo; hi = c.zone.inside.hi }) (simp to_z-of_z at test) (ap (λ (s : Ends). kept s) c.zone.view_is ∙ simp to_z-of_z at answer) (simp to_z-of_z at above))

pub returns-clause-value : goal.returns-clause-value
returns-clause-value c =
    let fits = fits_mant c.semi.inside.mant c.semi.invariant.digits in
    let exp = (fits_exp c.semi.inside.exp c.semi.invariant.low c.semi.invariant.high).0 in
    let more = fits_eleven c.semi.inside.mant c.semi.invariant.digits in
    let sum = fits_sum c.semi.inside.exp 8 c.semi.invariant.low c.semi.invariant.high (omega arith) in
    let cap = fits_cap_hi c.zone.inside.hi c.zone.invariant.2 in
    let test = c.if-semi-le0.false in
    let answer = c.in-Val.ensures in
    let above = c.if-zone-gt-ZONE_LIMIT.false in
    simp to_z-of_z (rw (← c.semi.view_is) (some_zone (record { mant = c.semi.inside.mant; exp = c.semi.inside.exp }) (record { lo = c.zone.inside.lo; hi = c.zone.inside.hi }) (simp to_z-of_z at test) (ap (λ (s : Ends). kept s) c.zone.view_is ∙ simp to_z-of_z at answer) (simp to_z-of_z at above)))

pub returns-clause-range : goal.returns-clause-range
returns-clause-range c =
    let fits = fits_mant c.semi.inside.mant c.semi.invariant.digits in
    let exp = (fits_exp c.semi.inside.exp c.semi.invariant.low c.semi.invariant.high).0 in
    let more = fits_eleven c.semi.inside.mant c.semi.invariant.digits in
    let sum = fits_sum c.semi.inside.exp 8 c.semi.invariant.low c.semi.invariant.high (omega arith) in
    let cap = fits_cap_hi c.zone.inside.hi c.zone.invariant.2 in
    let test = c.if-semi-le0.false in
    let answer = c.in-Val.ensures in
    let above = c.if-zone-gt-ZONE_LIMIT.false in
    simp to_z-of_z (zone_range (record { mant = c.semi.inside.mant; exp = c.semi.inside.exp }) (record { lo = c.zone.inside.lo; hi = c.zone.inside.hi }) (simp to_z-of_z at test) (ap (λ (s : Ends). kept s) c.zone.view_is ∙ simp to_z-of_z at answer) (simp to_z-of_z at above))

pub returns-then-semi-le0-clause-rounded : goal.returns-then-semi-le0-clause-rounded
returns-then-semi-le0-clause-rounded c = zone_ceil c.args.semi.now

pub returns-in_default-clause-rounded : goal.returns-in_default-clause-rounded
returns-in_default-clause-rounded c = zone_ceil c.args.semi.now

pub returns-then-zone-gt-ZONE_LIMIT-clause-rounded : goal.returns-then-zone-gt-ZONE_LIMIT-clause-rounded
returns-then-zone-gt-ZONE_LIMIT-clause-rounded c = zone_ceil c.args.semi.now

pub returns-clause-rounded : goal.returns-clause-rounded
returns-clause-rounded c = zone_ceil c.args.semi.now
