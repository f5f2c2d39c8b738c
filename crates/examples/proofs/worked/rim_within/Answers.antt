use Rattle.std.proofs.Common.{rules, ◌≡◌, sym, subst}
use Rattle.lensmodel.specs.Claims.RowClaims.{WordHolds}
use Rattle.examples.specs.Worked.{rim_setup, level_ray, low_height}
use Rattle.lensmodel.specs.declared.row.Word.TheVariants.{Passes}
use Rattle.examples.proofs.Level.{low_passes}
use Rattle.examples.proofs.worked.rim_within.Goals as goal

pub returns-clause-passes : goal.returns-clause-passes
returns-clause-passes c =
    let is_setup : c.setup_in_air.result ≡ rim_setup = search rules in
    let is_ray : c.ray_in_y.result ≡ level_ray low_height = search rules in
    subst (λ s. WordHolds Passes s c.ray_in_y.result) (sym is_setup)
    (subst (λ r. WordHolds Passes rim_setup r) (sym is_ray) low_passes)
