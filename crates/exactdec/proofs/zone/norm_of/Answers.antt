use Rattle.std.proofs.Common.{ℕ, ℤ, ◌≡◌, sym, subst, ◌∙◌, ap, arith}
use Rattle.std.proofs.lemmas.Int.{ints, to_z-of_z}
use Rattle.std.specs.Prelude.{unsigned_abs}
use Rattle.fixdec.specs.Ends.{Ends}
use Rattle.fixdec.specs.Zone.{norm, IsNorm, least_power}
use Rattle.exactdec.proofs.Norms.{norm_is, size_of_zone}
use Rattle.exactdec.proofs.Zones.{fits_cap_hi}
use Rattle.exactdec.proofs.zone.norm_of.Goals as goal

-- the size of the zone
size : (c : goal.After-unsigned_abs) → c.unsigned_abs.result ≡ unsigned_abs c.args.zone.now.hi
size c =
    let fits = fits_cap_hi c.zone.inside.hi c.zone.invariant.2 in
    let is = c.unsigned_abs.ensures.value in
    simp to_z-of_z at is ∙ ap (λ (a : Ends). unsigned_abs a.hi) c.zone.view_is

pub power_above-requires : goal.power_above-requires
power_above-requires c = rw (size c) (size_of_zone c.args.zone.now c.requires)

pub returns-clause-value : goal.returns-clause-value
unfolding norm
returns-clause-value c =
    let fits = fits_cap_hi c.zone.inside.hi c.zone.invariant.2 in
    let is = c.unsigned_abs.ensures.value in
    let size = simp to_z-of_z at is ∙ ap (λ (a : Ends). unsigned_abs a.hi) c.zone.view_is in
    let power : c.power_above.result ≡ least_power (unsigned_abs c.args.zone.now.hi) 12 12 = c.power_above.ensures.value ∙ ap (λ (n : ℕ). least_power n 12 12) size in
    omega (arith, ints)

pub returns-clause-least : goal.returns-clause-least
returns-clause-least c = subst (λ (d : ℤ). IsNorm c.args.zone.now.hi d) (sym (returns-clause-value c)) (norm_is c.args.zone.now.hi (size_of_zone c.args.zone.now c.requires))
