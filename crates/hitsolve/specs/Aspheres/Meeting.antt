-- An even asphere, a line, and a point where they meet, in fractions; and the values that hold them.
use Rattle.std.proofs.Common.{◌≡◌, [], ◌∷◌, List}
use Rattle.std.specs.Prelude.{ℤ, pos, neg_ℤ}
use Rattle.fixdec.specs.Decimal.{ten_power}
use Rattle.fixdec.specs.Frac.{Frac, ◌≤Q◌, ◌+Q◌, ◌*Q◌, ◌-Q◌, whole}
use Rattle.fixdec.specs.Member.{Symbols}
use Rattle.lensmodel.specs.Equations.Residual.{IsWithin}
use Rattle.lensmodel.specs.Rows.Crossing.{Line}
use Rattle.lensmodel.specs.Rows.Preparation.{Prepared}

-- the curvature, one plus the conic constant, the square of the zone, the power of ten that rho is brought to, and b1, b2, ..
pub record Asphere : Type 0 where
  pub c : Frac
  pub kappa : Frac
  pub zone2 : Frac
  pub power : ℤ
  pub b : List Frac

-- b1 + u (b2 + u (b3 + ..))
abbrev pub polynomial : List Frac → Frac → Frac
polynomial [] u = whole (pos 0)
polynomial (b ∷ more) u = b +Q u *Q polynomial more u

-- one minus (1 + k) c times the conic's sag
abbrev pub w_of : Asphere → Frac → Frac
w_of f conic_sag = whole (pos 1) -Q f.kappa *Q f.c *Q conic_sag

-- the point of a line at z, and the square of its distance from the axis
abbrev pub along : Frac → Frac → Frac → Frac
along x0 p z = x0 +Q p *Q z

abbrev pub rho_at : Line Frac → Frac → Frac
rho_at l z = along l.x0 l.p z *Q along l.x0 l.p z +Q along l.y0 l.q z *Q along l.y0 l.q z

-- a fraction over ten to the power k
abbrev pub over_power : ℤ → Frac → Frac
over_power k x = x *Q ten_power (neg_ℤ k)

-- u, which is rho over ten to the power D
abbrev pub u_at : Asphere → Line Frac → Frac → Frac
u_at f l z = over_power f.power (rho_at l z)

-- the line meets the surface at z within the residual, on the vertex's side of the conic and within the zone
pub record Meets (eps : Frac) (f : Asphere) (l : Line Frac) (z conic_sag : Frac) : Type 0 where
  pub near_vertex : whole (pos 0) ≤Q w_of f conic_sag
  pub conic : IsWithin eps (f.c *Q (rho_at l z +Q f.kappa *Q conic_sag *Q conic_sag)) (whole (pos 2) *Q conic_sag)
  pub sag : IsWithin eps z (conic_sag +Q u_at f l z *Q polynomial f.b (u_at f l z))
  pub zone : rho_at l z ≤Q f.zone2

module _ {A : Type 0} (member : A → Symbols → Frac → Type 0) (sy : Symbols) where
  -- each value of a list holds the fraction at its place
  abbrev pub HoldsAll : List A → List Frac → Type 0
  HoldsAll [] [] = Unit {0}
  HoldsAll (a ∷ more) (v ∷ rest) = member a sy v × HoldsAll more rest
  HoldsAll values fractions = ⊥

  -- a prepared surface holds an even asphere, but for its zone
  pub record HoldsAsphere (f : Asphere) (face : Prepared A) : Type 0 where
    pub c : member face.c sy f.c
    pub ck : member face.ck sy (f.c *Q f.kappa)
    pub norm : face.norm ≡ f.power
    pub b : HoldsAll face.b f.b

  pub record HoldsLine (l : Line Frac) (line : Line A) : Type 0 where
    pub x0 : member line.x0 sy l.x0
    pub y0 : member line.y0 sy l.y0
    pub p : member line.p sy l.p
    pub q : member line.q sy l.q
