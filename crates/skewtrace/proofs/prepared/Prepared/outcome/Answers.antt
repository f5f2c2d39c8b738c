use Rattle.std.proofs.Common.{sym, arith, rules}
use Rattle.std.proofs.lemmas.Grind.{common_steps}
use Rattle.lensmodel.specs.Rows.Constants.{residual_units}
use Rattle.sagform.specs.PreparationLaws.{preparation_rows-encloses}
use Rattle.sagform.specs.ResidualLaws.{covers_residual}
use Rattle.skewtrace.specs.OutcomeLaws.{outcome-started, outcome-empty, outcome-lost, walk-holds}
use Rattle.skewtrace.proofs.prepared.Prepared.outcome.Goals as goal

pub returns-in-Val-clause-word : goal.returns-in-Val-clause-word
returns-in-Val-clause-word g c =
    rw (outcome-started g.T.Arith.SCALE g.T.Arith.ops g.T.Arith.member c.args.s.now c.args.q.now c.in-Val.ray (sym c.in-Val.ensures.exact)) c.walk.ensures.word

pub returns-in-Val-clause-places : goal.returns-in-Val-clause-places
returns-in-Val-clause-places g c =
    rw (outcome-started g.T.Arith.SCALE g.T.Arith.ops g.T.Arith.member c.args.s.now c.args.q.now c.in-Val.ray (sym c.in-Val.ensures.exact)) c.walk.ensures.places

pub returns-in-Val-clause-encloses : goal.returns-in-Val-clause-encloses
returns-in-Val-clause-encloses g c =
    let scale = g.T.Arith.SCALE in
    let o = g.T.Arith.ops in
    let member = g.T.Arith.member in
    let law = g.met.T.Arith.lawful c.requires.scale in
    let s = c.args.s.now in
    rw (c.walk.ensures.word, c.walk.ensures.places)
    (walk-holds scale o member s c.args.q.now law
    (λ i l. preparation_rows-encloses scale o member law s c.requires.well (residual_units scale s.res) (covers_residual scale s.res) i (omega arith))
    c.in-Val.ray c.in-Val.ensures.encloses c.walk.ensures.sure)

pub returns-in-Empty-clause-word : goal.returns-in-Empty-clause-word
returns-in-Empty-clause-word g c =
    rw (outcome-empty g.T.Arith.SCALE g.T.Arith.ops g.T.Arith.member c.args.s.now c.args.q.now (sym c.in-Empty.ensures.exact))
    (first_of (cc, search rules, grind (arith, common_steps)))

pub returns-in-Empty-clause-places : goal.returns-in-Empty-clause-places
returns-in-Empty-clause-places g c =
    rw (outcome-empty g.T.Arith.SCALE g.T.Arith.ops g.T.Arith.member c.args.s.now c.args.q.now (sym c.in-Empty.ensures.exact))
    (first_of (cc, search rules, grind (arith, common_steps)))

pub returns-in-Lost-clause-word : goal.returns-in-Lost-clause-word
returns-in-Lost-clause-word g c =
    rw (outcome-lost g.T.Arith.SCALE g.T.Arith.ops g.T.Arith.member c.args.s.now c.args.q.now c.in-Lost.why (sym c.in-Lost.ensures.exact))
    (first_of (cc, search rules, grind (arith, common_steps)))

pub returns-in-Lost-clause-places : goal.returns-in-Lost-clause-places
returns-in-Lost-clause-places g c =
    rw (outcome-lost g.T.Arith.SCALE g.T.Arith.ops g.T.Arith.member c.args.s.now c.args.q.now c.in-Lost.why (sym c.in-Lost.ensures.exact))
    (first_of (cc, search rules, grind (arith, common_steps)))
