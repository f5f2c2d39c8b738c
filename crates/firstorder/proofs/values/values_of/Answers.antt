use Rattle.std.proofs.Common.{◌≡◌, refl, ap, ◌∙◌, arith}
use Rattle.firstorder.specs.Workings.{worked}
use Rattle.firstorder.proofs.Counts.{well_count}
use Rattle.lensmodel.specs.Paraxial.FirstOrderRows.{Passing, first_of, last_of}
use Rattle.firstorder.proofs.values.values_of.Goals as goal

pub first-first-requires : goal.first-first-requires
first-first-requires g c = let n = well_count c.args.s.now c.requires.well in (omega arith, (omega arith, omega arith))

pub last-last-requires : goal.last-last-requires
last-last-requires g c = let n = well_count c.args.s.now c.requires.well in (omega arith, (omega arith, omega arith))

pub last-last_of_b-requires : goal.last-last_of_b-requires
last-last_of_b-requires g c = let n = well_count c.args.s.now c.requires.well in (omega arith, (omega arith, omega arith))

pub returns : goal.returns
returns g c =
    let first = c.first.view_is ∙ c.first-first.ensures in
    let last = c.last.view_is ∙ c.last-last.ensures in
    let other = c.last_of_b.view_is ∙ c.last-last_of_b.ensures in
    let ca : worked c.last.inside.behind ≡ (last_of c.args.a.now).behind = ap (λ (p : Passing _). p.behind) last in
    let ya : worked c.last.inside.y ≡ (last_of c.args.a.now).y = ap (λ (p : Passing _). p.y) last in
    let nk : worked c.last.inside.n2 ≡ (last_of c.args.a.now).n2 = ap (λ (p : Passing _). p.n2) last in
    let n0 : worked c.first.inside.n ≡ (first_of c.args.a.now).n = ap (λ (p : Passing _). p.n) first in
    let cb : worked c.last_of_b.inside.behind ≡ (last_of c.args.b.now).behind = ap (λ (p : Passing _). p.behind) other in
    rw (c.values_from.ensures, c.entrance_pupil-enp.ensures, ca, ya, nk, n0, cb) refl
