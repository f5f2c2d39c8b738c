use Rattle.std.proofs.Common.{rules, ◌≡◌, sym, subst}
use Rattle.lensmodel.specs.Equations.Chains.{IsWhole}
use Rattle.examples.specs.Worked.{sphere_setup, axis_ray}
use Rattle.examples.specs.WorkedChains.{axis_chain}
use Rattle.examples.proofs.Axis.{axis_whole, axis_vertex_holds, axis_heading_holds, axis_image_holds}
use Rattle.examples.proofs.worked.glass_axis.Goals as goal

pub returns-clause-chain : goal.returns-clause-chain
returns-clause-chain c symbols =
    let is_setup : c.sphere.result ≡ sphere_setup = search rules in
    let is_ray : c.ray_in_y.result ≡ axis_ray = search rules in
    subst (λ s. IsWhole s c.ray_in_y.result (axis_chain symbols)) (sym is_setup)
    (subst (λ r. IsWhole sphere_setup r (axis_chain symbols)) (sym is_ray) (axis_whole symbols))

pub returns-clause-vertex : goal.returns-clause-vertex
returns-clause-vertex c = axis_vertex_holds

pub returns-clause-heading : goal.returns-clause-heading
returns-clause-heading c = axis_heading_holds

pub returns-clause-image : goal.returns-clause-image
returns-clause-image c = axis_image_holds
