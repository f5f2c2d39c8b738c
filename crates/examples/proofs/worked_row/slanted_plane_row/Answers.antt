use Rattle.std.proofs.Common.{rules, ◌≡◌, sym, subst}
use Rattle.lensmodel.specs.Claims.RowClaims.{RowHolds}
use Rattle.examples.specs.Worked.{plane_setup, slanted_ray}
use Rattle.examples.specs.WorkedRow.{slanted_row}
use Rattle.lensmodel.specs.declared.row.Word.TheVariants.{Passes}
use Rattle.examples.proofs.SlantedRow.{slanted_row_holds}
use Rattle.examples.proofs.worked_row.slanted_plane_row.Goals as goal

pub returns-clause-holds : goal.returns-clause-holds
returns-clause-holds c =
    let are_places : c.push-2.new.self ≡ slanted_row.places = search rules in
    subst (λ places. RowHolds plane_setup slanted_ray (record { scale = 6; word = Passes; places = places })) (sym are_places) slanted_row_holds
