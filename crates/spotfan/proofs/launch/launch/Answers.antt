use Rattle.std.proofs.Common.{◌≡◌, inl, inr, refl, arith}
use Rattle.lensmodel.specs.Setup.Launches.{count, launches}
use Rattle.lensmodel.specs.declared.launch.Launch.TheVariants.{Pupil}
use Rattle.spotfan.proofs.Launches.{none_of_first, none_of_seidel}
use Rattle.spotfan.proofs.launch.launch.Goals as goal

pub fan_point-px-requires-clause-number : goal.fan_point-px-requires-clause-number
unfolding count
fan_point-px-requires-clause-number c = rw c.in-Fan.is at c.requires.number

pub grid_point-px-requires-clause-number : goal.grid_point-px-requires-clause-number
unfolding count
grid_point-px-requires-clause-number c = rw c.in-Spot.is at c.requires.number

pub unreachable-requires : goal.unreachable-requires
unreachable-requires c = elim c.in-First.is [
  | inl w ↦ none_of_first c.args.a.now c.args.i w.0 w.1 w.2 c.requires.number
  | inr w ↦ none_of_seidel c.args.a.now c.args.i w.0 w.1 w.2 w.3 w.4 c.requires.number
]

pub returns-in-Ray : goal.returns-in-Ray
unfolding count launches
returns-in-Ray c =
    let first : c.args.i ≡ 0 = let l = rw c.in-Ray.is at c.requires.number in omega arith in
    rw (c.in-Ray.is, first) refl

pub returns-in-Aim : goal.returns-in-Aim
unfolding count launches
returns-in-Aim c =
    let first : c.args.i ≡ 0 = let l = rw c.in-Aim.is at c.requires.number in omega arith in
    rw (c.in-Aim.is, first, c.whole_ratio.ensures, c.whole_ratio-in-Aim.ensures) refl

pub returns-in-Fan : goal.returns-in-Fan
unfolding launches
returns-in-Fan c = rw c.in-Fan.is (c.fan_point-px.ensures (λ px py. Pupil c.in-Fan.p c.in-Fan.q px py c.in-Fan.z c.in-Fan.r))

pub returns-in-Spot : goal.returns-in-Spot
unfolding launches
returns-in-Spot c = rw c.in-Spot.is (c.grid_point-px.ensures (λ px py. Pupil c.in-Spot.p c.in-Spot.q px py c.in-Spot.z c.in-Spot.r))
