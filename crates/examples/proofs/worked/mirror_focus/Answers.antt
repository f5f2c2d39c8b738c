use Rattle.std.proofs.Common.{rules, ◌≡◌, sym, subst}
use Rattle.std.specs.Prelude.{pos}
use Rattle.lensmodel.specs.Equations.Chains.{IsWhole}
use Rattle.examples.specs.Worked.{mirror_setup, level_ray, whole_decimal}
use Rattle.examples.specs.WorkedChains.{mirror_chain}
use Rattle.examples.proofs.Parabola.{mirror_whole}
use Rattle.examples.proofs.worked.mirror_focus.Goals as goal

pub returns-clause-chain : goal.returns-clause-chain
returns-clause-chain c symbols =
    let is_setup : c.setup_in_air.result ≡ mirror_setup = search rules in
    let is_ray : c.ray_in_y.result ≡ level_ray (whole_decimal (pos 2)) = search rules in
    subst (λ s. IsWhole s c.ray_in_y.result (mirror_chain symbols)) (sym is_setup)
    (subst (λ r. IsWhole mirror_setup r (mirror_chain symbols)) (sym is_ray) (mirror_whole symbols))
