use Rattle.std.proofs.Common.{arith, ap, sym, ◌∙◌, ◌≡◌, ◌-◌, true, false}
use Rattle.fixdec.specs.Decimal.{Decimal}
use Rattle.lensmodel.specs.Setup.WholeFaults.{is_great}
use Rattle.lensmodel.specs.Setup.Zones.{scaled_coefficient}
use Rattle.prescript.proofs.Faults.{readable, found, passed, none_left}
use Rattle.prescript.proofs.asphere.coefficient_fault.Goals as goal

pub scaled-requires-clause-exponent : goal.scaled-requires-clause-exponent
scaled-requires-clause-exponent c =
    let f = c.args.s.now in
    readable f.kind f _ c.requires.asphere (omega arith) c.requires.written

pub returns-then-is_great : goal.returns-then-is_great
returns-then-is_great c =
    let f = c.args.s.now in
    let great : is_great (scaled_coefficient f c.loop-i.i) ≡ true = sym (ap (λ (d : Decimal). is_great d) c.scaled.ensures.value) ∙ sym c.is_great.ensures ∙ c.if-is_great.true in
    sym (c.loop-i.invariant ∙ found c.args.j f c.loop-i.i c.loop-i-test.true great)

pub loop-i-preserved : goal.loop-i-preserved
loop-i-preserved c =
    let f = c.args.s.now in
    let great : is_great (scaled_coefficient f c.loop-i.i) ≡ false = sym (ap (λ (d : Decimal). is_great d) c.scaled.ensures.value) ∙ sym c.is_great.ensures ∙ c.if-is_great.false in
    c.loop-i.invariant ∙ passed c.args.j f c.loop-i.i c.loop-i-test.true great

pub returns : goal.returns
returns c = sym (c.loop-i.invariant ∙ none_left c.args.j c.args.s.now (9 - c.loop-i.i) c.loop-i.i (omega arith))
