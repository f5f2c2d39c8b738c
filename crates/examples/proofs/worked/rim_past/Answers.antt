use Rattle.std.proofs.Common.{rules, ◌≡◌, sym, subst}
use Rattle.lensmodel.specs.Claims.RowClaims.{WordHolds}
use Rattle.examples.specs.Worked.{rim_setup, level_ray, high_height}
use Rattle.lensmodel.specs.declared.row.Word.TheVariants.{Vignetted}
use Rattle.examples.proofs.Level.{high_vignetted}
use Rattle.examples.proofs.worked.rim_past.Goals as goal

pub returns-clause-vignetted : goal.returns-clause-vignetted
returns-clause-vignetted c =
    let is_setup : c.setup_in_air.result ≡ rim_setup = search rules in
    let is_ray : c.ray_in_y.result ≡ level_ray high_height = search rules in
    subst (λ s. WordHolds (Vignetted 1) s c.ray_in_y.result) (sym is_setup)
    (subst (λ r. WordHolds (Vignetted 1) rim_setup r) (sym is_ray) high_vignetted)
