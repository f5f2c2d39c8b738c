-- Where a chain crosses a standard surface is a member of what the rows answer, and two chains on one line cross close by.
use Rattle.std.proofs.Common.{◌≡◌, ℕ, suc, subst, [], ◌∷◌}
use Rattle.std.specs.Prelude.{ℤ, pos, ◌<ℤ◌}
use Rattle.fixdec.specs.Algebra.FracLaws.{≈_sym}
use Rattle.fixdec.specs.Algebra.Inverse.{inverse}
use Rattle.fixdec.specs.Algebra.Linear.{linear, linear_le, name, order, no_fact, reads}
use Rattle.fixdec.specs.Algebra.OrderLaws.{le_cancel, zero_le_one}
use Rattle.fixdec.specs.Algebra.Within.{HasSize}
use Rattle.fixdec.specs.Frac.{Frac, ◌≈◌, ◌<Q◌, ◌*Q◌, ◌-Q◌, whole}
use Rattle.fixdec.specs.Member.{Symbols}
use Rattle.fixdec.specs.Operations.{Operations, IsLawful}
use Rattle.fixdec.specs.Steps.{OnVal}
use Rattle.fixdec.specs.declared.step.Step.TheVariants.{Val}
use Rattle.lensmodel.specs.Claims.Enclosure.{CoversResidual, HoldsPrepared}
use Rattle.lensmodel.specs.Equations.Chain.{Chain}
use Rattle.lensmodel.specs.Equations.Crossing.{Crosses, IsSag, IsOnSide}
use Rattle.lensmodel.specs.Rows.Crossing.{Line, Root, root_rows, meet_standard_rows}
use Rattle.lensmodel.specs.Rows.Preparation.{Prepared}
use Rattle.lensmodel.specs.Setup.Values.{surface_at, travel, curvature, conic_factor, eps}
use Rattle.lensmodel.specs.declared.setup.Setup.{Setup}
use Rattle.lensmodel.specs.declared.surface.Surface.{Surface}
use Rattle.lensmodel.specs.declared.surface.SurfaceKind.{SurfaceKind}
use Rattle.lensmodel.specs.declared.surface.SurfaceKind.TheVariants.{Standard}
use Rattle.hitsolve.specs.Aspheres.Chains.{IsOnLine}
use Rattle.hitsolve.specs.Aspheres.Close.{at_scale}
use Rattle.hitsolve.specs.Aspheres.Meeting.{rho_at, HoldsLine}
use Rattle.hitsolve.specs.StandardCrossings.{MeetsConic, meet_standard_rows-member, standard_close}

-- the slopes of a line are those of the ray that leaves surface j
pub record HasSlopes (c : Chain) (j : ℕ) (l : Line Frac) : Type 0 where
  pub p : l.p *Q c.n j ≈ c.l j
  pub q : l.q *Q c.n j ≈ c.m j

pub sag_is : (k : SurfaceKind) (eps : Frac) (f : Surface) (z zc rho : Frac) → k ≡ Standard → IsSag k eps f z zc rho → z ≈ zc
sag_is k eps f z zc rho e h = subst (λ (k : SurfaceKind). IsSag k eps f z zc rho) e h

side_is : (k : SurfaceKind) (s : Setup) (c : Chain) (j : ℕ) → k ≡ Standard → IsOnSide k s c j → IsOnSide Standard s c j
side_is k s c j e h = subst (λ (k : SurfaceKind). IsOnSide k s c j) e h

module _ (s : Setup) (c : Chain) (j : ℕ) (kind : (surface_at s (suc j)).kind ≡ Standard) (l : Line Frac) (on : IsOnLine c j l) (slopes : HasSlopes c j l)
    (onwards : whole (pos 0) <Q whole (travel s j) *Q c.n j) (h : Crosses s c j) where
  abbrev z : Frac
  z = c.z (suc j)

  abbrev zc : Frac
  zc = c.conic_sag (suc j)

  abbrev C : Frac
  C = curvature s c.symbols (suc j)

  abbrev K : Frac
  K = conic_factor s (suc j)

  abbrev rho : Frac
  rho = c.rho (suc j)

  rho_is : rho ≈ rho_at l z
  rho_is =
      linear (rho ∷ c.x (suc j) ∷ c.y (suc j) ∷ l.x0 ∷ l.y0 ∷ l.p ∷ l.q ∷ z ∷ []) _ _ (search reads depth 24 fits 20000)
      (name h.rho (search reads depth 24 fits 20000) (name on.x (search reads depth 24 fits 20000) (name on.y (search reads depth 24 fits 20000) no_fact))) tt

  zc_is : zc ≈ z
  zc_is = ≈_sym (sag_is (surface_at s (suc j)).kind (eps s) (surface_at s (suc j)) z zc rho kind h.sag)

  -- a chain's crossing is a point in which its line meets the conic, where the surface faces the ray
  pub crossing_meets : MeetsConic (eps s) C K l z
  crossing_meets = record {
    conic = record {
      above = linear_le (eps s ∷ C ∷ K ∷ z ∷ zc ∷ rho ∷ rho_at l z ∷ []) _ _ (search reads depth 24 fits 20000)
          (name zc_is (search reads depth 24 fits 20000) (name rho_is (search reads depth 24 fits 20000) (order zero_le_one h.conic.above (search reads depth 24 fits 20000) no_fact))) tt;
      below = linear_le (eps s ∷ C ∷ K ∷ z ∷ zc ∷ rho ∷ rho_at l z ∷ []) _ _ (search reads depth 24 fits 20000)
          (name zc_is (search reads depth 24 fits 20000) (name rho_is (search reads depth 24 fits 20000) (order zero_le_one h.conic.below (search reads depth 24 fits 20000) no_fact))) tt;
    };
    faces = le_cancel (whole (travel s j) *Q c.n j) onwards
        (linear_le (whole (travel s j) ∷ c.n j ∷ c.l j ∷ c.m j ∷ c.x (suc j) ∷ c.y (suc j) ∷ c.w (suc j) ∷ C ∷ K ∷ z ∷ zc ∷ l.x0 ∷ l.y0 ∷ l.p ∷ l.q ∷ []) _ _ (search reads depth 24 fits 20000)
        (name h.w (search reads depth 24 fits 20000) (name zc_is (search reads depth 24 fits 20000) (name on.x (search reads depth 24 fits 20000) (name on.y (search reads depth 24 fits 20000)
        (name (≈_sym slopes.p) (search reads depth 24 fits 20000) (name (≈_sym slopes.q) (search reads depth 24 fits 20000)
        (order zero_le_one (side_is (surface_at s (suc j)).kind s c j kind h.side) (search reads depth 24 fits 20000) no_fact))))))) tt);
  }

module _ {A : Type 0} (scale : ℕ) (o : Operations A) (member : A → Symbols → Frac → Type 0) (law : IsLawful scale o member)
    (s : Setup) (j : ℕ) (kind : (surface_at s (suc j)).kind ≡ Standard) (e : ℤ) (covers : CoversResidual scale s e)
    (c : Chain) (face : Prepared A) (h : HoldsPrepared member s c j face) (l : Line Frac) (line : Line A) (hl : HoldsLine member c.symbols l line)
    (on : IsOnLine c j l) (slopes : HasSlopes c j l) (onwards : whole (pos 0) <Q whole (travel s j) *Q c.n j) (crosses : Crosses s c j) where
  -- every crossing is a member of the answer; where that is Empty, no chain crosses
  pub meet_standard-encloses : OnVal (meet_standard_rows o scale face line e) (λ z. member z c.symbols (c.z (suc j)))
  meet_standard-encloses =
      meet_standard_rows-member scale o member law c.symbols (eps s) e covers face (curvature s c.symbols (suc j)) (conic_factor s (suc j)) h.c h.kappa l line hl (c.z (suc j))
      (crossing_meets s c j kind l on slopes onwards crosses)

  -- another chain on the same line
  pub standard_chains_close : (d : Chain) → d.symbols ≡ c.symbols → IsOnLine d j l → HasSlopes d j l → whole (pos 0) <Q whole (travel s j) *Q d.n j → Crosses s d j
      → (r : Root A) → root_rows o scale face line e ≡ Val r → pos 0 <ℤ (o.hull r.r).lo → HasSize (eps s *Q inverse (at_scale scale (o.hull r.r).lo)) (c.z (suc j) -Q d.z (suc j))
  standard_chains_close d same ond sd nd cd r rows least =
      let other : MeetsConic (eps s) (curvature s c.symbols (suc j)) (conic_factor s (suc j)) l (d.z (suc j)) =
      subst (λ (t : Symbols). MeetsConic (eps s) (curvature s t (suc j)) (conic_factor s (suc j)) l (d.z (suc j))) same (crossing_meets s d j kind l ond sd nd cd) in
      standard_close scale o member law c.symbols (eps s) e covers face (curvature s c.symbols (suc j)) (conic_factor s (suc j)) h.c h.kappa l line hl r rows least
      (c.z (suc j)) (d.z (suc j)) (crossing_meets s c j kind l on slopes onwards crosses) other
