use Rattle.std.proofs.Common.{rules, ◌≡◌, sym, subst}
use Rattle.std.specs.Prelude.{pos}
use Rattle.lensmodel.specs.Equations.Chains.{IsWhole}
use Rattle.examples.specs.Worked.{sphere_setup, level_ray, whole_decimal}
use Rattle.examples.specs.WorkedChains.{height_chain}
use Rattle.examples.proofs.Height.{height_whole}
use Rattle.examples.proofs.worked.glass_height.Goals as goal

pub returns-clause-chain : goal.returns-clause-chain
returns-clause-chain c symbols =
    let is_setup : c.sphere.result ≡ sphere_setup = search rules in
    let is_ray : c.ray_in_y.result ≡ level_ray (whole_decimal (pos 6)) = search rules in
    subst (λ s. IsWhole s c.ray_in_y.result (height_chain symbols)) (sym is_setup)
    (subst (λ r. IsWhole sphere_setup r (height_chain symbols)) (sym is_ray) (height_whole symbols))
