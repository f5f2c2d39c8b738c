-- Where a chain crosses an even asphere is a member of what the rows of the crossing answer.
use Rattle.std.proofs.Common.{◌≡◌, ℕ, suc, subst, [], ◌∷◌, List, arith}
use Rattle.std.proofs.lemmas.Int.{ints}
use Rattle.std.specs.Prelude.{ℤ, pos, map, Option, Some, None}
use Rattle.fixdec.specs.Algebra.FracLaws.{≈_refl, ≈_sym, ≈_trans}
use Rattle.fixdec.specs.Algebra.Linear.{linear, name, fact, no_fact, reads}
use Rattle.fixdec.specs.Algebra.OrderLaws.{le_same_left, le_same_right, le_add}
use Rattle.fixdec.specs.Algebra.Order.{le_of_same, le_refl, le_trans}
use Rattle.fixdec.specs.Decimal.{Decimal, tenth_power, ten_power, value}
use Rattle.fixdec.specs.Frac.{Frac, ◌≈◌, ◌≤Q◌, ◌<Q◌, ◌+Q◌, ◌*Q◌, whole}
use Rattle.fixdec.specs.Member.{IsMember, Symbols}
use Rattle.fixdec.specs.Operations.{Operations, IsLawful}
use Rattle.fixdec.specs.Steps.{OnVal}
use Rattle.lensmodel.specs.Claims.Enclosure.{CoversResidual, HoldsEach, HoldsZone, HoldsPrepared}
use Rattle.lensmodel.specs.Equations.Chain.{Chain}
use Rattle.lensmodel.specs.Equations.Crossing.{Crosses, IsSag, IsOnSide, zone_of}
use Rattle.lensmodel.specs.Equations.Residual.{IsWithin}
use Rattle.lensmodel.specs.Rows.Crossing.{Line}
use Rattle.lensmodel.specs.Rows.Laws.{within_right}
use Rattle.lensmodel.specs.Rows.Preparation.{Prepared}
use Rattle.lensmodel.specs.Rows.SlopeRounds.{zone2_of, meet_asphere_rows}
use Rattle.lensmodel.specs.Rows.Spans.{hull_or_zero}
use Rattle.lensmodel.specs.Setup.Values.{surface_at, curvature, conic_factor, coefficients_of, even_terms, eps}
use Rattle.lensmodel.specs.Setup.Zones.{norm_of, scaled_coefficients}
use Rattle.lensmodel.specs.declared.setup.Setup.{Setup}
use Rattle.lensmodel.specs.declared.surface.Surface.{Surface}
use Rattle.lensmodel.specs.declared.surface.SurfaceKind.{SurfaceKind}
use Rattle.lensmodel.specs.declared.surface.SurfaceKind.TheVariants.{EvenAsph}
use Rattle.hitsolve.specs.Aspheres.Answers.{meet_asphere_rows-member}
use Rattle.hitsolve.specs.Aspheres.Meeting.{Asphere, Meets, along, rho_at, u_at, polynomial, HoldsAll, HoldsAsphere, HoldsLine}
use Rattle.hitsolve.specs.Aspheres.Scaling.{scaled_terms}

-- the residual is above 0
pub eps_pos : (r : ℕ) → whole (pos 0) <Q tenth_power r
unfolding whole
eps_pos r = record { cross = omega (arith, ints) }

-- the zone of surface j + 1, squared, is at most the power of ten that it is brought to
abbrev pub ZoneFits : Setup → ℕ → Type 0
ZoneFits s j = zone_of (surface_at s (suc j)).semi *Q zone_of (surface_at s (suc j)).semi ≤Q ten_power (norm_of (surface_at s (suc j)))

-- the even asphere that surface j + 1 is in a chain
abbrev pub asphere_of : Setup → Chain → ℕ → Asphere
asphere_of s c j =
    let f = surface_at s (suc j) in
    record {
      c = curvature s c.symbols (suc j);
      kappa = conic_factor s (suc j);
      zone2 = zone_of f.semi *Q zone_of f.semi;
      power = norm_of f;
      b = map value (scaled_coefficients f);
    }

-- a line on which a chain comes to surface j + 1
pub record IsOnLine (c : Chain) (j : ℕ) (l : Line Frac) : Type 0 where
  pub x : c.x (suc j) ≈ along l.x0 l.p (c.z (suc j))
  pub y : c.y (suc j) ≈ along l.y0 l.q (c.z (suc j))

sag_on : (k : SurfaceKind) (eps : Frac) (f : Surface) (z zc rho : Frac) → k ≡ EvenAsph → IsSag k eps f z zc rho → IsWithin eps z (zc +Q even_terms (coefficients_of EvenAsph f) rho)
sag_on k eps f z zc rho e h = subst (λ (k : SurfaceKind). IsSag k eps f z zc rho) e h

side_on : (k : SurfaceKind) (s : Setup) (c : Chain) (j : ℕ) → k ≡ EvenAsph → IsOnSide k s c j
    → c.rho (suc j) ≤Q zone_of (surface_at s (suc j)).semi *Q zone_of (surface_at s (suc j)).semi
side_on k s c j e h = subst (λ (k : SurfaceKind). IsOnSide k s c j) e h

-- the even terms of equal numbers
even_same : (a : List Decimal) (u v : Frac) → u ≈ v → even_terms a u ≈ even_terms a v
even_same [] u v h = ≈_refl _
even_same (a ∷ more) u v h =
    linear (u ∷ v ∷ value a ∷ even_terms more u ∷ even_terms more v ∷ []) _ _ (search reads depth 20 fits 4000)
    (fact (value a +Q even_terms more u) h (search reads depth 20 fits 4000) (fact v (even_same more u v h) (search reads depth 20 fits 4000) no_fact)) tt

module _ (s : Setup) (c : Chain) (j : ℕ) (kind : (surface_at s (suc j)).kind ≡ EvenAsph) (l : Line Frac) (on : IsOnLine c j l) (h : Crosses s c j) where
  abbrev f : Asphere
  f = asphere_of s c j

  abbrev surface : Surface
  surface = surface_at s (suc j)

  abbrev z : Frac
  z = c.z (suc j)

  abbrev zc : Frac
  zc = c.conic_sag (suc j)

  rho_is : c.rho (suc j) ≈ rho_at l z
  rho_is =
      let X = along l.x0 l.p z in
      let Y = along l.y0 l.q z in
      linear (c.rho (suc j) ∷ c.x (suc j) ∷ c.y (suc j) ∷ l.x0 ∷ l.y0 ∷ l.p ∷ l.q ∷ z ∷ []) _ _ (search reads depth 24 fits 20000)
      (name h.rho (search reads depth 24 fits 20000) (name on.x (search reads depth 24 fits 20000) (name on.y (search reads depth 24 fits 20000) no_fact))) tt

  terms_are : even_terms (coefficients_of EvenAsph surface) (c.rho (suc j)) ≈ u_at f l z *Q polynomial f.b (u_at f l z)
  terms_are = ≈_trans (even_same (coefficients_of EvenAsph surface) (c.rho (suc j)) (rho_at l z) rho_is) (≈_sym (scaled_terms surface kind (rho_at l z)))

  -- a chain's crossing is a point in which its line meets the surface
  pub crossing_meets : Meets (eps s) f l z zc
  crossing_meets = record {
    near_vertex = le_same_right h.near_vertex h.w;
    conic = conic_on;
    sag = within_right (eps s) z _ _ (linear (zc ∷ even_terms (coefficients_of EvenAsph surface) (c.rho (suc j)) ∷ (u_at f l z *Q polynomial f.b (u_at f l z)) ∷ []) _ _ (search reads depth 20 fits 4000)
        (fact (whole (pos 1)) terms_are (search reads depth 20 fits 4000) no_fact) tt) (sag_on surface.kind (eps s) surface z zc (c.rho (suc j)) kind h.sag);
    zone = le_same_left (≈_sym rho_is) (side_on surface.kind s c j kind h.side);
  }
    where
      conic_on : IsWithin (eps s) (f.c *Q (rho_at l z +Q f.kappa *Q zc *Q zc)) (whole (pos 2) *Q zc)
      conic_on =
          let a = h.conic in
          let same : f.c *Q (c.rho (suc j) +Q f.kappa *Q zc *Q zc) ≈ f.c *Q (rho_at l z +Q f.kappa *Q zc *Q zc) =
          linear (f.c ∷ f.kappa ∷ zc ∷ c.rho (suc j) ∷ rho_at l z ∷ []) _ _ (search reads depth 20 fits 4000) (fact f.c rho_is (search reads depth 20 fits 4000) no_fact) tt in
          record {
            above = le_trans a.above (le_add (le_of_same same) (le_refl (eps s)));
            below = le_same_left (≈_sym same) a.below;
          }

module _ {A : Type 0} (scale : ℕ) (o : Operations A) (member : A → Symbols → Frac → Type 0) (law : IsLawful scale o member) where
  each_all : (sy : Symbols) (b : List A) (d : List Decimal) → HoldsEach member b d sy → HoldsAll member sy b (map value d)
  each_all sy [] [] h = tt
  each_all sy [] (d ∷ ds) h = absurd h
  each_all sy (b ∷ bs) [] h = absurd h
  each_all sy (b ∷ bs) (d ∷ ds) h = (h.0, each_all sy bs ds h.1)

  zone_holds : (k : SurfaceKind) (zone2 : Option A) (semi : Option Decimal) (sy : Symbols) → k ≡ EvenAsph → HoldsZone member k zone2 semi sy
      → IsMember scale (hull_or_zero o.hull zone2) (zone_of semi *Q zone_of semi)
  zone_holds k zone2 semi sy e h = by zone2 (subst (λ (k : SurfaceKind). HoldsZone member k zone2 semi sy) e h)
    where
      by : (zone2 : Option A) → HoldsZone member EvenAsph zone2 semi sy → IsMember scale (hull_or_zero o.hull zone2) (zone_of semi *Q zone_of semi)
      by None h = absurd h
      by (Some a) h = law.hull sy a _ h

  module _ (s : Setup) (c : Chain) (j : ℕ) (kind : (surface_at s (suc j)).kind ≡ EvenAsph) (face : Prepared A) (h : HoldsPrepared member s c j face) where
    pub asphere_holds : HoldsAsphere member c.symbols (asphere_of s c j) face
    asphere_holds = record { c = h.c; ck = h.ck; norm = h.norm; b = each_all c.symbols face.b _ h.b }

    pub asphere_zone_holds : IsMember scale (zone2_of o face) (asphere_of s c j).zone2
    asphere_zone_holds = zone_holds (surface_at s (suc j)).kind face.zone2 (surface_at s (suc j)).semi c.symbols kind h.zone2

    -- every crossing is a member of the answer; where that is Empty, no chain crosses
    pub meet_asphere-encloses : ZoneFits s j → (e : ℤ) → CoversResidual scale s e → (l : Line Frac) (line : Line A) → HoldsLine member c.symbols l line
        → IsOnLine c j l → Crosses s c j → OnVal (meet_asphere_rows o scale face line e) (λ z. member z c.symbols (c.z (suc j)))
    meet_asphere-encloses fits e covers l line hl on crosses =
        meet_asphere_rows-member scale o member law c.symbols (eps s) (eps_pos s.res) e covers (asphere_of s c j) fits face asphere_holds asphere_zone_holds l line hl
        (c.z (suc j)) (c.conic_sag (suc j)) (crossing_meets s c j kind l on crosses)
