use Rattle.std.proofs.Common.{◌≡◌, true, refl, sym, ◌∙◌}
use Rattle.lensmodel.specs.Rows.Spot.{passes}
use Rattle.spotfan.specs.Landings.{last-scale}
use Rattle.spotfan.proofs.tally.Tally.add_row.Goals as goal

pub returns-then-is_pass : goal.returns-then-is_pass
returns-then-is_pass c =
    let r = c.args.r.now in
    let p : passes r ≡ true = sym c.is_pass.ensures ∙ c.if-is_pass.true in
    rw p (c.add_heights.ensures
    ∙ rw (
      ← c.self.view_is,
      c.at_12.ensures,
      c.at_12-then-is_pass.ensures,
      c.landing-x.ensures.x,
      c.landing-x.ensures.y,
      last-scale r.scale r.places.items,
    ) refl)
