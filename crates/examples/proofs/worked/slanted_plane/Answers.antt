use Rattle.std.proofs.Common.{rules, ◌≡◌, sym, subst}
use Rattle.std.specs.Prelude.{pos}
use Rattle.fixdec.specs.Frac.{◌+Q◌, whole}
use Rattle.lensmodel.specs.Equations.Chains.{IsWhole}
use Rattle.lensmodel.specs.Equations.Residual.{IsWithin}
use Rattle.lensmodel.specs.Setup.Values.{eps}
use Rattle.examples.specs.Worked.{plane_setup, slanted_ray}
use Rattle.examples.specs.WorkedChains.{slanted_chain, slanted_to}
use Rattle.examples.proofs.Residuals.{height_within, height_beyond}
use Rattle.examples.proofs.Slanted.{slanted_whole, slanted_vertex_holds, slanted_heading_holds, slanted_image_holds}
use Rattle.examples.proofs.worked.slanted_plane.Goals as goal

pub returns-clause-chain : goal.returns-clause-chain
returns-clause-chain c symbols =
    let is_setup : c.setup_in_air.result ≡ plane_setup = search rules in
    let is_ray : c.ray_in_y.result ≡ slanted_ray = search rules in
    subst (λ s. IsWhole s c.ray_in_y.result (slanted_chain symbols)) (sym is_setup)
    (subst (λ r. IsWhole plane_setup r (slanted_chain symbols)) (sym is_ray) (slanted_whole symbols))

pub returns-clause-within : goal.returns-clause-within
returns-clause-within c y symbols =
    let is_setup : c.setup_in_air.result ≡ plane_setup = search rules in
    let is_ray : c.ray_in_y.result ≡ slanted_ray = search rules in
    subst (λ s. IsWithin (eps s) y (whole (pos 3)) → IsWhole s c.ray_in_y.result (slanted_to y symbols)) (sym is_setup)
    (subst (λ r. IsWithin (eps plane_setup) y (whole (pos 3)) → IsWhole plane_setup r (slanted_to y symbols)) (sym is_ray) (height_within y symbols))

pub returns-clause-beyond : goal.returns-clause-beyond
returns-clause-beyond c y symbols =
    let is_setup : c.setup_in_air.result ≡ plane_setup = search rules in
    let is_ray : c.ray_in_y.result ≡ slanted_ray = search rules in
    subst (λ s. IsWhole s c.ray_in_y.result (slanted_to y symbols) → IsWithin (eps s +Q eps s) y (whole (pos 3))) (sym is_setup)
    (subst (λ r. IsWhole plane_setup r (slanted_to y symbols) → IsWithin (eps plane_setup +Q eps plane_setup) y (whole (pos 3))) (sym is_ray) (height_beyond y symbols))

pub returns-clause-vertex : goal.returns-clause-vertex
returns-clause-vertex c = slanted_vertex_holds

pub returns-clause-heading : goal.returns-clause-heading
returns-clause-heading c = slanted_heading_holds

pub returns-clause-image : goal.returns-clause-image
returns-clause-image c = slanted_image_holds
