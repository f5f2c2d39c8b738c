use Rattle.std.proofs.Common.{◌≡◌, ◌∙◌, ap, sym, arith}
use Rattle.std.specs.Prelude.{pos, ◌≤ℤ◌}
use Rattle.std.proofs.lemmas.Int.{ints}
use Rattle.fixdec.specs.Ends.{Ends}
use Rattle.fixdec.specs.Form.{LinearForm, lin_hull, lin_of_span}
use Rattle.fixdec.specs.Interval.{iv_root}
use Rattle.fixdec.specs.Steps.{◌>>=◌}
use Rattle.fixdec.specs.declared.step.Step.{Step}
use Rattle.fixdec.specs.declared.step.Step.TheVariants.{Val}
use Rattle.forms.proofs.Roots.{root_of_hull}
use Rattle.forms.proofs.form.roots.root.Given.{Over}
use Rattle.forms.proofs.form.roots.root.Goals as goal
use Rattle.forms.proofs.form.roots.root.Goals.{After-iv_root}

module _ (g : Over) (c : After-iv_root g) where
  below : (lin_hull c.args.a.now).lo ≤ℤ pos 0
  below =
      let same : c.hull.inside.lo ≡ (lin_hull c.args.a.now).lo = ap (λ (e : Ends). e.lo) (c.hull.view_is ∙ c.hull-hull.ensures) in
      let h = c.if-hull-gt0.false in
      let size = c.hull.invariant.1 in
      omega (arith, ints)

  found : c.iv_root.result ≡ iv_root g.row.S (lin_hull c.args.a.now)
  found = c.iv_root.ensures.exact ∙ ap (iv_root g.row.S) c.hull-hull.ensures

pub returns-in-Val : goal.returns-in-Val
returns-in-Val g c =
    let d = c.before.before in
    root_of_hull g.row.S c.args.a.now (below g d)
    (ap (λ (f : LinearForm). Val f) c.of_span.ensures ∙ ap (λ (r : Step Ends). r >>= λ e. Val (lin_of_span e)) (sym c.in-Val.is ∙ found g d))

pub returns-in-Lost : goal.returns-in-Lost
returns-in-Lost g c =
    let d = c.before in
    root_of_hull g.row.S c.args.a.now (below g d) (ap (λ (r : Step Ends). r >>= λ e. Val (lin_of_span e)) (sym c.in-Lost.is ∙ found g d))
