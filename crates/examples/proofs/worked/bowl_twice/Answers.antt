use Rattle.std.proofs.Common.{rules, ◌≡◌, sym, subst}
use Rattle.std.specs.Prelude.{pos}
use Rattle.fixdec.specs.Frac.{◌≈◌}
use Rattle.lensmodel.specs.Equations.Chains.{IsWhole}
use Rattle.lensmodel.specs.Equations.Crossing.{zone_of}
use Rattle.lensmodel.specs.Setup.Values.{surface_at}
use Rattle.examples.specs.Worked.{bowl_setup, bowl_ray}
use Rattle.examples.specs.WorkedChains.{bowl_near, bowl_far}
use Rattle.examples.proofs.Bowl.{bowl_zone, bowl_near_whole, bowl_far_whole}
use Rattle.examples.proofs.worked.bowl_twice.Goals as goal

pub returns-clause-zone : goal.returns-clause-zone
returns-clause-zone c =
    let is_setup : c.setup_in_air.result ≡ bowl_setup = search rules in
    subst (λ s. zone_of (surface_at s 1).semi ≈ record { num = pos 11; less = 1 }) (sym is_setup) bowl_zone

pub returns-clause-near : goal.returns-clause-near
returns-clause-near c symbols =
    let is_setup : c.setup_in_air.result ≡ bowl_setup = search rules in
    let is_ray : c.ray_in_y.result ≡ bowl_ray = search rules in
    subst (λ s. IsWhole s c.ray_in_y.result (bowl_near symbols)) (sym is_setup)
    (subst (λ r. IsWhole bowl_setup r (bowl_near symbols)) (sym is_ray) (bowl_near_whole symbols))

pub returns-clause-far : goal.returns-clause-far
returns-clause-far c symbols =
    let is_setup : c.setup_in_air.result ≡ bowl_setup = search rules in
    let is_ray : c.ray_in_y.result ≡ bowl_ray = search rules in
    subst (λ s. IsWhole s c.ray_in_y.result (bowl_far symbols)) (sym is_setup)
    (subst (λ r. IsWhole bowl_setup r (bowl_far symbols)) (sym is_ray) (bowl_far_whole symbols))
