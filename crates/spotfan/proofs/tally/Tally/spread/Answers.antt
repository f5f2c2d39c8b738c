use Rattle.std.proofs.Common.{sym, ap, subst, length, ◌∙◌}
use Rattle.std.specs.Prelude.{map}
use Rattle.lensmodel.specs.Claims.SpotClaims.{HoldsSpread, image_point}
use Rattle.lensmodel.specs.Rows.Spot.{landings}
use Rattle.spotfan.specs.Sums.{spread_of}
use Rattle.spotfan.specs.Chains.{choice_of}
use Rattle.spotfan.specs.Encloses.{spread_rows-holds}
use Rattle.spotfan.proofs.Tallies.{spread-is}
use Rattle.spotfan.proofs.tally.Tally.spread.Goals as goal

pub returns-clause-exact : goal.returns-clause-exact
returns-clause-exact c rows e = c.mean_distance.ensures ∙ ap spread_of e ∙ sym (spread-is (length rows) (landings rows))

pub returns-clause-encloses : goal.returns-clause-encloses
returns-clause-encloses c rows e = subst (HoldsSpread (landings rows)) (sym (returns-clause-exact c rows e)) (spread_rows-holds (landings rows))

pub returns-clause-chains : goal.returns-clause-chains
returns-clause-chains c s rays reached h e chains z some =
    returns-clause-encloses c (map (λ t. t.row) rays) e (map (image_point s) chains) (choice_of s reached rays chains h z some)
