use Rattle.std.proofs.Common.{rules, ◌≡◌, sym, subst}
use Rattle.std.specs.Prelude.{pos}
use Rattle.fixdec.specs.Frac.{◌≤Q◌, ◌<Q◌, whole}
use Rattle.lensmodel.specs.Equations.Chains.{IsWhole, Clears, ClearsAll}
use Rattle.lensmodel.specs.Equations.Residual.{IsWithin}
use Rattle.lensmodel.specs.Setup.Values.{eps}
use Rattle.examples.specs.Worked.{rim_setup, level_ray, whole_decimal}
use Rattle.examples.specs.WorkedChains.{level_chain}
use Rattle.examples.proofs.Rim.{level_whole, at_rim_clears, past_rim_misses}
use Rattle.examples.proofs.worked.rim_tie.Goals as goal

pub returns-clause-chains : goal.returns-clause-chains
returns-clause-chains c y symbols =
    let is_setup : c.setup_in_air.result ≡ rim_setup = search rules in
    let is_ray : c.ray_in_y.result ≡ level_ray (whole_decimal (pos 5)) = search rules in
    subst (λ s. IsWithin (eps s) y (whole (pos 5)) → IsWhole s c.ray_in_y.result (level_chain y symbols)) (sym is_setup)
    (subst (λ r. IsWithin (eps rim_setup) y (whole (pos 5)) → IsWhole rim_setup r (level_chain y symbols)) (sym is_ray) (level_whole symbols y))

pub returns-clause-clears : goal.returns-clause-clears
returns-clause-clears c y symbols =
    let is_setup : c.setup_in_air.result ≡ rim_setup = search rules in
    subst (λ s. whole (pos 0) ≤Q y → y ≤Q whole (pos 5) → ClearsAll s (level_chain y symbols)) (sym is_setup) (at_rim_clears symbols y)

pub returns-clause-misses : goal.returns-clause-misses
returns-clause-misses c y symbols =
    let is_setup : c.setup_in_air.result ≡ rim_setup = search rules in
    subst (λ s. whole (pos 5) <Q y → Clears s (level_chain y symbols) 1 → ⊥) (sym is_setup) (past_rim_misses symbols y)
