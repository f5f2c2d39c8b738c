use Rattle.std.proofs.Common.{rules, ◌≡◌, sym, subst}
use Rattle.lensmodel.specs.Equations.Chains.{IsChainTo}
use Rattle.lensmodel.specs.Claims.RowClaims.{WordHolds}
use Rattle.examples.specs.Worked.{glass_setup, steep_ray}
use Rattle.examples.specs.WorkedChains.{steep_chain}
use Rattle.lensmodel.specs.declared.row.Word.TheVariants.{Tir}
use Rattle.examples.proofs.Reach.{steep_reaches}
use Rattle.examples.proofs.Steep.{no_exit}
use Rattle.examples.proofs.worked.total_reflection.Goals as goal

pub returns-clause-reaches : goal.returns-clause-reaches
returns-clause-reaches c symbols =
    let is_setup : c.setup_between.result ≡ glass_setup = search rules in
    let is_ray : c.ray_in_y.result ≡ steep_ray = search rules in
    subst (λ s. IsChainTo s c.ray_in_y.result 1 (steep_chain symbols)) (sym is_setup)
    (subst (λ r. IsChainTo glass_setup r 1 (steep_chain symbols)) (sym is_ray) (steep_reaches symbols))

pub returns-clause-tir : goal.returns-clause-tir
returns-clause-tir c =
    let is_setup : c.setup_between.result ≡ glass_setup = search rules in
    let is_ray : c.ray_in_y.result ≡ steep_ray = search rules in
    subst (λ s. WordHolds (Tir 1) s c.ray_in_y.result) (sym is_setup)
    (subst (λ r. WordHolds (Tir 1) glass_setup r) (sym is_ray) no_exit)
