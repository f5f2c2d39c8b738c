use Rattle.std.proofs.Common.{sym, ap, subst, length, ◌∙◌}
use Rattle.std.specs.Prelude.{map}
use Rattle.lensmodel.specs.Claims.SpotClaims.{HoldsCentroid, image_point}
use Rattle.lensmodel.specs.Rows.Spot.{landings}
use Rattle.spotfan.specs.Sums.{centre_of}
use Rattle.spotfan.specs.Chains.{choice_of}
use Rattle.spotfan.specs.Encloses.{centroid_rows-holds}
use Rattle.spotfan.proofs.Tallies.{centroid-is}
use Rattle.spotfan.proofs.tally.Tally.centre.Goals as goal

pub returns-clause-exact : goal.returns-clause-exact
returns-clause-exact c rows e = c.mean_heights.ensures ∙ ap centre_of e ∙ sym (centroid-is (length rows) (landings rows))

pub returns-clause-encloses : goal.returns-clause-encloses
returns-clause-encloses c rows e = subst (HoldsCentroid (landings rows)) (sym (returns-clause-exact c rows e)) (centroid_rows-holds (landings rows))

pub returns-clause-chains : goal.returns-clause-chains
returns-clause-chains c s rays reached h e chains z some =
    returns-clause-encloses c (map (λ t. t.row) rays) e (map (image_point s) chains) (choice_of s reached rays chains h z some)
