-- The refractive index of a glass at a wavelength, by its catalogue's dispersion formula.
-- Cited by chains, by the index and by the command index.
use Rattle.std.specs.Prelude.{◌≡◌, ◌⊎◌, pos}
use Rattle.fixdec.specs.Decimal.{Decimal, value}
use Rattle.fixdec.specs.Frac.{Frac, ◌≈◌, ◌<Q◌, ◌+Q◌, ◌*Q◌, ◌-Q◌, whole}
use Rattle.lensmodel.specs.Equations.Residual.{IsWithin}
use Rattle.lensmodel.specs.declared.glass.Glass.{Glass}
use Rattle.lensmodel.specs.declared.glass.Medium.{Medium}
use Rattle.lensmodel.specs.declared.glass.Medium.TheVariants.{Air, Of}

-- Schott: f = a0 + a1 l + a2/l + a3/l^2 + a4/l^3 + a5/l^4, where l is the square of the wavelength in micrometres
pub record IsSchott (g : Glass) (l f : Frac) : Type 0 where
  pub r : Frac
  pub inverse : r *Q l ≈ whole (pos 1)
  pub sum : f ≈ value g.c0 +Q value g.c1 *Q l +Q r *Q (value g.c2 +Q r *Q (value g.c3 +Q r *Q (value g.c4 +Q r *Q value g.c5)))

-- a term of Sellmeier's formula: t = l / (l - L)
abbrev pub IsResonance : Decimal → Frac → Frac → Type 0
IsResonance L l t = t *Q (l -Q value L) ≈ l

-- Sellmeier 1: f = 1 + K1 l/(l - L1) + K2 l/(l - L2) + K3 l/(l - L3), where l is the square of the wavelength in micrometres
pub record IsSellmeier (g : Glass) (l f : Frac) : Type 0 where
  pub t1 : Frac
  pub t2 : Frac
  pub t3 : Frac
  pub first : IsResonance g.c1 l t1
  pub second : IsResonance g.c3 l t2
  pub third : IsResonance g.c5 l t3
  pub sum : f ≈ whole (pos 1) +Q value g.c0 *Q t1 +Q value g.c2 *Q t2 +Q value g.c4 *Q t3

-- f is the square of the index by the glass's formula: 1 is Schott, 2 is Sellmeier 1
pub record IsFormula (g : Glass) (l f : Frac) : Type 0 where
  pub schott : g.formula ≡ 1 → IsSchott g l f
  pub sellmeier : g.formula ≡ 2 → IsSellmeier g l f

-- n is an index of the glass at the wavelength: above 0, and its square is the formula's within eps
pub record IsGlassIndex (eps : Frac) (g : Glass) (wave : Decimal) (n : Frac) : Type 0 where
  pub f : Frac
  pub positive : whole (pos 0) <Q n
  pub formula : IsFormula g (value wave *Q value wave) f
  pub square : IsWithin eps (n *Q n) f

-- a medium whose formula is used: air, or a glass of formula 1 or 2
abbrev pub IsKnown : Medium → Type 0
IsKnown Air = Unit {0}
IsKnown (Of g) = (g.formula ≡ 1) ⊎ (g.formula ≡ 2)

-- n is an index of the medium: exactly 1 of air
abbrev pub IsIndex : Frac → Medium → Decimal → Frac → Type 0
IsIndex eps Air wave n = n ≈ whole (pos 1)
IsIndex eps (Of g) wave n = IsGlassIndex eps g wave n
