-- The sag of an even asphere, and the slope of a surface, hold the exact ones.
use Rattle.std.proofs.Common.{◌≡◌, ℕ, suc, [], ◌∷◌, sym, subst}
use Rattle.std.specs.Prelude.{ℤ, pos}
use Rattle.fixdec.specs.Frac.{Frac, ◌≈◌, ◌+Q◌, ◌-Q◌, ◌*Q◌, whole}
use Rattle.fixdec.specs.Algebra.FracLaws.{≈_refl}
use Rattle.fixdec.specs.Algebra.Linear.{linear, linear_le, order, no_fact, reads}
use Rattle.fixdec.specs.Algebra.OrderLaws.{zero_le_one}
use Rattle.fixdec.specs.Member.{Symbols}
use Rattle.fixdec.specs.Operations.{Operations, IsLawful}
use Rattle.fixdec.specs.Steps.{OnVal, OnVal-then}
use Rattle.fixdec.specs.declared.step.Step.{Step}
use Rattle.lensmodel.specs.Claims.Enclosure.{CoversResidual, HoldsPrepared, HoldsMet}
use Rattle.lensmodel.specs.Equations.Chain.{Chain}
use Rattle.lensmodel.specs.Equations.Residual.{IsWithin}
use Rattle.lensmodel.specs.Rows.Bending.{normal_rows, normal_by, conic_slope_row, polynomial_slope_row}
use Rattle.lensmodel.specs.Rows.Crossing.{Met}
use Rattle.lensmodel.specs.Rows.Laws.{on_same, widened}
use Rattle.lensmodel.specs.Rows.Preparation.{Prepared}
use Rattle.lensmodel.specs.Rows.Sag.{sag_rows, conic_rows, polynomial_row, slope_row}
use Rattle.lensmodel.specs.Setup.Values.{surface_at, curvature, conic_factor, coefficients, coefficients_of, even_terms, slope_terms, eps}
use Rattle.lensmodel.specs.Setup.Zones.{norm_of, scaled_coefficients}
use Rattle.lensmodel.specs.declared.setup.Setup.{Setup}
use Rattle.lensmodel.specs.declared.surface.SurfaceKind.{SurfaceKind}
use Rattle.lensmodel.specs.declared.surface.SurfaceKind.TheVariants.{Standard, EvenAsph}
use Rattle.sagform.specs.ConicLaws.{IsConicAt, conic_rows-member}
use Rattle.sagform.specs.HornerLaws.{polynomial_row-member, slope_row-member}
use Rattle.sagform.specs.Terms.{unit_of, unit_shifted, terms_value, slopes_value, even_terms_by_scaled, slope_terms_by_scaled}

-- zc is the sag at rho of the conic of surface j
abbrev pub IsConicSag : Setup → Symbols → ℕ → Frac → Frac → Frac → Type 0
IsConicSag s sy j rho zc w = IsConicAt (eps s) (curvature s sy j) (conic_factor s j) rho zc w

-- at each rho that is a member, the conic's sag plus the even terms is a member of the answer
abbrev pub EnclosesSag : {A : Type 0} → ℕ → (A → Symbols → Frac → Type 0) → Prepared A → A → ℤ → Step A → Type 0
EnclosesSag scale member face a e r =
    (s : Setup) (c : Chain) (j : ℕ) → HoldsPrepared member s c j face → CoversResidual scale s e
    → (rho zc w : Frac) → member a c.symbols rho → IsConicSag s c.symbols (suc j) rho zc w
    → OnVal r (λ z. member z c.symbols (zc +Q even_terms (coefficients s (suc j)) rho))

-- slope is that of the normal over the height, at the point where the chain meets surface j + 1
abbrev pub IsSlope : Setup → Chain → ℕ → Frac → Type 0
IsSlope s c j slope = IsWithin (eps s) (slope *Q c.w (suc j))
    (curvature s c.symbols (suc j) +Q whole (pos 2) *Q c.w (suc j) *Q slope_terms 1 (coefficients s (suc j)) (c.rho (suc j)))

-- every such slope is a member of the answer
abbrev pub EnclosesSlope : {A : Type 0} → ℕ → (A → Symbols → Frac → Type 0) → Prepared A → Met A → ℤ → Step A → Type 0
EnclosesSlope scale member face h e r =
    (s : Setup) (c : Chain) (j : ℕ) → HoldsPrepared member s c j face → CoversResidual scale s e → HoldsMet member c j h
    → (slope : Frac) → IsSlope s c j slope → OnVal r (λ a. member a c.symbols slope)

module _ {A : Type 0} (scale : ℕ) (o : Operations A) (member : A → Symbols → Frac → Type 0) (law : IsLawful scale o member)
    (s : Setup) (c : Chain) (j : ℕ) (face : Prepared A) (holds : HoldsPrepared member s c j face) where
  -- u of rho
  pub unit-member : (a : A) (rho : Frac) → member a c.symbols rho
      → OnVal (o.shift a face.norm) (λ u. member u c.symbols (unit_of (norm_of (surface_at s (suc j))) rho))
  unit-member a rho h =
      let k = norm_of (surface_at s (suc j)) in
      subst (λ (n : ℤ). OnVal (o.shift a n) (λ u. member u c.symbols (unit_of k rho))) (sym holds.norm)
      (law.shift c.symbols a k rho (unit_of k rho) h (unit_shifted k rho))

  sag_member : (a : A) (e : ℤ) → CoversResidual scale s e → (rho zc w : Frac) → member a c.symbols rho → IsConicSag s c.symbols (suc j) rho zc w
      → OnVal (sag_rows o scale face a e) (λ z. member z c.symbols (zc +Q even_terms (coefficients s (suc j)) rho))
  unfolding sag_rows
  sag_member a e covers rho zc w ha h =
      let f = surface_at s (suc j) in
      let sy = c.symbols in
      let U = unit_of (norm_of f) rho in
      let V = terms_value U (scaled_coefficients f) in
      OnVal-then (conic_rows o scale face a e) _ (λ z. member z sy zc) _
      (conic_rows-member scale o member law sy (eps s) e covers face (curvature s sy (suc j)) (conic_factor s (suc j)) holds.c holds.ck a rho zc w ha h) λ z hz.
      OnVal-then (o.shift a face.norm) _ (λ u. member u sy U) _ (unit-member a rho ha) λ u hu.
      OnVal-then (polynomial_row o scale u face.b) _ (λ v. member v sy V) _
      (polynomial_row-member scale o member law sy u U face.b (scaled_coefficients f) hu holds.b) λ v hv.
      OnVal-then (o.times u v) _ (λ t. member t sy (even_terms (coefficients s (suc j)) rho)) _
      (on_same scale o member law sy (o.times u v) _ _ (even_terms_by_scaled f rho) (law.times sy u v U V hu hv)) λ t ht.
      law.plus sy z t zc (even_terms (coefficients s (suc j)) rho) hz ht

  -- the slope of the even terms
  pub polynomial_slope_row-member : (a : A) (rho : Frac) → member a c.symbols rho
      → OnVal (polynomial_slope_row o scale face a) (λ r. member r c.symbols (slope_terms 1 (coefficients s (suc j)) rho))
  polynomial_slope_row-member a rho ha =
      let f = surface_at s (suc j) in
      let k = norm_of f in
      let sy = c.symbols in
      let U = unit_of k rho in
      let W = slopes_value 1 U (scaled_coefficients f) in
      OnVal-then (o.shift a face.norm) _ (λ u. member u sy U) _ (unit-member a rho ha) λ u hu.
      OnVal-then (slope_row o scale 1 u face.b) _ (λ r. member r sy W) _
      (slope_row-member scale o member law sy 1 u U face.b (scaled_coefficients f) hu holds.b) λ r hr.
      on_same scale o member law sy (o.shift r face.norm) _ _ (slope_terms_by_scaled f rho) (unit-member r W hr)

  -- wd(c)/w holds what is left of the slope without the even terms
  conic_slope-member : (a : A) (e : ℤ) → CoversResidual scale s e → (w q : Frac) → member a c.symbols w
      → IsWithin (eps s) (q *Q w) (curvature s c.symbols (suc j)) → OnVal (conic_slope_row o face a e) (λ r. member r c.symbols q)
  conic_slope-member a e covers w q ha h =
      let sy = c.symbols in
      OnVal-then (o.widen face.c e) _ (λ x. member x sy (q *Q w)) _
      (widened scale o member law sy (eps s) e covers face.c (curvature s sy (suc j)) (q *Q w) holds.c h) λ x hx.
      law.over sy x a (q *Q w) w q hx ha (≈_refl (q *Q w))

-- the slope without twice that of the even terms
conic_slope_near : (eps E w C t : Frac) → IsWithin eps (E *Q w) (C +Q whole (pos 2) *Q w *Q t) → IsWithin eps ((E -Q (t +Q t)) *Q w) C
conic_slope_near eps E w C t h = record {
  above = linear_le (eps ∷ E ∷ w ∷ C ∷ t ∷ []) _ _ (search reads depth 20) (order zero_le_one h.above (search reads depth 20) no_fact) tt;
  below = linear_le (eps ∷ E ∷ w ∷ C ∷ t ∷ []) _ _ (search reads depth 20) (order zero_le_one h.below (search reads depth 20) no_fact) tt;
}

module _ {A : Type 0} (scale : ℕ) (o : Operations A) (member : A → Symbols → Frac → Type 0) (law : IsLawful scale o member)
    (s : Setup) (c : Chain) (j : ℕ) (face : Prepared A) (holds : HoldsPrepared member s c j face) where
  normal_by-member : (kind : SurfaceKind) → (surface_at s (suc j)).kind ≡ kind → (rho w : A) (e : ℤ) → CoversResidual scale s e
      → member rho c.symbols (c.rho (suc j)) → member w c.symbols (c.w (suc j)) → (slope : Frac)
      → IsWithin (eps s) (slope *Q c.w (suc j))
      (curvature s c.symbols (suc j) +Q whole (pos 2) *Q c.w (suc j) *Q slope_terms 1 (coefficients_of kind (surface_at s (suc j))) (c.rho (suc j)))
      → OnVal (normal_by o scale kind face rho w e) (λ a. member a c.symbols slope)
  normal_by-member Standard k rho w e covers hr hw slope h =
      let near = conic_slope_near (eps s) slope (c.w (suc j)) (curvature s c.symbols (suc j)) (whole (pos 0)) h in
      let same : slope -Q (whole (pos 0) +Q whole (pos 0)) ≈ slope = linear (slope ∷ []) _ _ (search reads depth 16) no_fact tt in
      on_same scale o member law c.symbols (conic_slope_row o face w e) _ slope same
      (conic_slope-member scale o member law s c j face holds w e covers (c.w (suc j)) (slope -Q (whole (pos 0) +Q whole (pos 0))) hw near)
  normal_by-member EvenAsph k rho w e covers hr hw slope h =
      let sy = c.symbols in
      let f = surface_at s (suc j) in
      let t = slope_terms 1 (coefficients_of EvenAsph f) (c.rho (suc j)) in
      let q = slope -Q (t +Q t) in
      let at_kind : OnVal (polynomial_slope_row o scale face rho) (λ a. member a sy t) =
      subst (λ (m : SurfaceKind). OnVal (polynomial_slope_row o scale face rho) (λ a. member a sy (slope_terms 1 (coefficients_of m f) (c.rho (suc j))))) k
      (polynomial_slope_row-member scale o member law s c j face holds rho (c.rho (suc j)) hr) in
      OnVal-then (polynomial_slope_row o scale face rho) _ (λ a. member a sy t) _ at_kind λ a ha.
      OnVal-then (conic_slope_row o face w e) _ (λ x. member x sy q) _
      (conic_slope-member scale o member law s c j face holds w e covers (c.w (suc j)) q hw (conic_slope_near (eps s) slope (c.w (suc j)) (curvature s sy (suc j)) t h)) λ x hx.
      OnVal-then (o.plus a a) _ (λ y. member y sy (t +Q t)) _ (law.plus sy a a t t ha ha) λ y hy.
      on_same scale o member law sy (o.plus x y) (q +Q (t +Q t)) slope (linear (slope ∷ t ∷ []) _ _ (search reads depth 16) no_fact tt)
      (law.plus sy x y q (t +Q t) hx hy)

-- the rows of the sag hold the sag
pub sag_rows-encloses : {A : Type 0} (scale : ℕ) (o : Operations A) (member : A → Symbols → Frac → Type 0) (law : IsLawful scale o member)
    (face : Prepared A) (a : A) (e : ℤ) → EnclosesSag scale member face a e (sag_rows o scale face a e)
sag_rows-encloses scale o member law face a e s c j holds covers rho zc w ha h =
    sag_member scale o member law s c j face holds a e covers rho zc w ha h

-- the rows of the normal hold its slope
pub normal_rows-encloses : {A : Type 0} (scale : ℕ) (o : Operations A) (member : A → Symbols → Frac → Type 0) (law : IsLawful scale o member)
    (face : Prepared A) (h : Met A) (e : ℤ) → EnclosesSlope scale member face h e (normal_rows o scale face h e)
unfolding normal_rows
normal_rows-encloses scale o member law face h e s c j holds covers met slope k =
    normal_by-member scale o member law s c j face holds face.kind (sym holds.kind) h.rho h.w e covers met.rho met.w slope
    (subst (λ (m : SurfaceKind). IsWithin (eps s) (slope *Q c.w (suc j))
    (curvature s c.symbols (suc j) +Q whole (pos 2) *Q c.w (suc j) *Q slope_terms 1 (coefficients_of m (surface_at s (suc j))) (c.rho (suc j)))) (sym holds.kind) k)
