-- Fractions that meet the paraxial equations are members of what the rows give, in every lawful arithmetic. Cited by proofs.
use Rattle.std.proofs.Common.{ℕ, [], ◌∷◌}
use Rattle.std.specs.Prelude.{ℤ, pos, negsuc, Option, Some, None}
use Rattle.fixdec.specs.Decimal.{Decimal, value}
use Rattle.fixdec.specs.Frac.{Frac, ◌≈◌, ◌+Q◌, ◌*Q◌, ◌-Q◌, neg_Q, whole}
use Rattle.fixdec.specs.Algebra.Linear.{linear, fact, name, no_fact, reads}
use Rattle.fixdec.specs.Member.{Symbols}
use Rattle.fixdec.specs.Operations.{Operations, IsLawful}
use Rattle.fixdec.specs.Steps.{OnVal, OnVal-then}
use Rattle.lensmodel.specs.Rows.Constants.{decimal_row, whole_row}
use Rattle.lensmodel.specs.Paraxial.FirstOrderRows.{efl_row, minus_over_row, over_row, front_row}
use Rattle.lensmodel.specs.Paraxial.Trace.{even_coefficient}
use Rattle.lensmodel.specs.Paraxial.TraceRows.{vertex_curvature_row, slope_behind_row, next_height_row}
use Rattle.lensmodel.specs.Equations.Residual.{IsWithin}
use Rattle.lensmodel.specs.Rows.Laws.{Covers, within_right, on_same, decimal_member, whole_member, widened}
use Rattle.lensmodel.specs.Setup.Values.{written_thickness, thickness_of}
use Rattle.lensmodel.specs.declared.setup.Setup.{Setup}
use Rattle.lensmodel.specs.declared.surface.Surface.{Surface}

commute : (x y : Frac) → x *Q y ≈ y *Q x
commute x y = linear (x ∷ y ∷ []) _ _ (search reads depth 12) no_fact tt

module _ {A : Type 0} (scale : ℕ) (o : Operations A) (member : A → Symbols → Frac → Type 0) (law : IsLawful scale o member)
    (sy : Symbols) (eps : Frac) (e : ℤ) (covers : Covers scale eps e) where
  -- n' u' = n u - y cv (n' - n)
  pub slope_behind_member : (y u cv n n2 : A) (Y U CV N N' U' : Frac)
      → member y sy Y → member u sy U → member cv sy CV → member n sy N → member n2 sy N'
      → IsWithin eps (N' *Q U') (N *Q U -Q Y *Q CV *Q (N' -Q N))
      → OnVal (slope_behind_row o scale y u cv n n2 e) (λ r. member r sy U')
  slope_behind_member y u cv n n2 Y U CV N N' U' hy hu hc hn hn2 w =
      OnVal-then (o.times n u) _ (λ a. member a sy (N *Q U)) _ (law.times sy n u N U hn hu) λ nu k1.
      OnVal-then (o.times y cv) _ (λ a. member a sy (Y *Q CV)) _ (law.times sy y cv Y CV hy hc) λ yc k2.
      OnVal-then (o.minus n2 n) _ (λ a. member a sy (N' -Q N)) _ (law.minus sy n2 n N' N hn2 hn) λ dn k3.
      OnVal-then (o.times yc dn) _ (λ a. member a sy (Y *Q CV *Q (N' -Q N))) _ (law.times sy yc dn _ _ k2 k3) λ t k4.
      OnVal-then (o.minus nu t) _ (λ a. member a sy (N *Q U -Q Y *Q CV *Q (N' -Q N))) _ (law.minus sy nu t _ _ k1 k4) λ d k5.
      OnVal-then (o.widen d e) _ (λ a. member a sy (N' *Q U')) _ (widened scale o member law sy eps e covers d _ _ k5 w) λ wd k6.
      law.over sy wd n2 (N' *Q U') N' U' k6 hn2 (commute U' N')

  -- y' = y + d u'
  pub next_height_member : (f : Surface) (y u : A) (Y U Y' : Frac) → member y sy Y → member u sy U
      → IsWithin eps Y' (Y +Q written_thickness f.thick *Q U)
      → OnVal (next_height_row o scale f y u e) (λ r. member r sy Y')
  next_height_member f y u Y U Y' hy hu w =
      let D = value (thickness_of f.thick) in
      OnVal-then (decimal_row o scale (thickness_of f.thick)) _ (λ a. member a sy D) _ (decimal_member scale o member law sy (thickness_of f.thick)) λ d k1.
      OnVal-then (o.times d u) _ (λ a. member a sy (D *Q U)) _ (law.times sy d u D U k1 hu) λ du k2.
      OnVal-then (o.plus y du) _ (λ a. member a sy (Y +Q D *Q U)) _ (law.plus sy y du Y (D *Q U) hy k2) λ t k3.
      widened scale o member law sy eps e covers t (Y +Q D *Q U) Y' k3 (thick f.thick w)
    where
      thick : (t : Option Decimal) → IsWithin eps Y' (Y +Q written_thickness t *Q U) → IsWithin eps Y' (Y +Q value (thickness_of t) *Q U)
      thick None w = within_right eps Y' _ _ (linear (Y ∷ U ∷ []) _ _ (search reads depth 16) no_fact tt) w
      thick (Some d) w = w

  -- cv = c + 2 a1, exactly
  pub vertex_curvature_member : (f : Surface)
      → OnVal (vertex_curvature_row o scale f) (λ r. member r sy (value f.curv +Q whole (pos 2) *Q value (even_coefficient f.kind f.a1)))
  vertex_curvature_member f =
      let a = value (even_coefficient f.kind f.a1) in
      OnVal-then (decimal_row o scale (even_coefficient f.kind f.a1)) _ (λ x. member x sy a) _ (decimal_member scale o member law sy (even_coefficient f.kind f.a1)) λ a1 k1.
      OnVal-then (decimal_row o scale f.curv) _ (λ x. member x sy (value f.curv)) _ (decimal_member scale o member law sy f.curv) λ c k2.
      OnVal-then (o.plus a1 a1) _ (λ x. member x sy (a +Q a)) _ (law.plus sy a1 a1 a a k1 k1) λ aa k3.
      on_same scale o member law sy (o.plus c aa) (value f.curv +Q (a +Q a)) (value f.curv +Q whole (pos 2) *Q a)
      (linear (value f.curv ∷ a ∷ []) _ _ (search reads depth 16) no_fact tt) (law.plus sy c aa (value f.curv) (a +Q a) k2 k3)

  -- v b = a within the residual: enp, and ffl
  pub over_member : (a b : A) (u v w : Frac) → member a sy u → member b sy v → IsWithin eps (w *Q v) u
      → (s : Setup) → OnVal (over_row o scale s e a b) (λ r. member r sy w)
  over_member a b u v w ha hb h s =
      OnVal-then (o.widen a e) _ (λ x. member x sy (w *Q v)) _ (widened scale o member law sy eps e covers a u (w *Q v) ha h) λ x k.
      law.over sy x b (w *Q v) v w k hb (linear (v ∷ w ∷ []) _ _ (search reads depth 12) no_fact tt)

  -- v b = -a within the residual: efl, and bfl
  pub minus_over_member : (a b : A) (u v w : Frac) → member a sy u → member b sy v → IsWithin eps (w *Q v) (neg_Q u)
      → (s : Setup) → OnVal (minus_over_row o scale s e a b) (λ r. member r sy w)
  minus_over_member a b u v w ha hb h s =
      OnVal-then (whole_row o scale (pos 0)) _ (λ x. member x sy (whole (pos 0))) _ (whole_member scale o member law sy (pos 0)) λ z k0.
      OnVal-then (o.minus z a) _ (λ x. member x sy (neg_Q u)) _
      (on_same scale o member law sy (o.minus z a) (whole (pos 0) -Q u) (neg_Q u) (linear (u ∷ []) _ _ (search reads depth 12) no_fact tt) (law.minus sy z a (whole (pos 0)) u k0 ha)) λ m k1.
      OnVal-then (o.widen m e) _ (λ x. member x sy (w *Q v)) _ (widened scale o member law sy eps e covers m (neg_Q u) (w *Q v) k1 h) λ x k.
      law.over sy x b (w *Q v) v w k hb (linear (v ∷ w ∷ []) _ _ (search reads depth 12) no_fact tt)

  -- efl Ca = -1
  pub efl_member : (ca : A) (Ca efl : Frac) → member ca sy Ca → IsWithin eps (efl *Q Ca) (whole (negsuc 0))
      → (s : Setup) → OnVal (efl_row o scale s e ca) (λ r. member r sy efl)
  efl_member ca Ca efl h w s =
      OnVal-then (whole_row o scale (pos 1)) _ (λ x. member x sy (whole (pos 1))) _ (whole_member scale o member law sy (pos 1)) λ one k.
      minus_over_member one ca (whole (pos 1)) Ca efl k h (within_right eps (efl *Q Ca) _ _ (linear [] _ _ (search reads depth 12) no_fact tt) w) s

  -- front = ffl - f, where f nk = -n0 efl
  pub front_member : (ffl n0 efl nk : A) (FFL N0 EFL NK f front : Frac) → member ffl sy FFL → member n0 sy N0 → member efl sy EFL → member nk sy NK
      → f *Q NK ≈ neg_Q (N0 *Q EFL) → front ≈ FFL -Q f
      → (s : Setup) → OnVal (front_row o scale s e ffl n0 efl nk) (λ r. member r sy front)
  front_member ffl n0 efl nk FFL N0 EFL NK f front h1 h2 h3 h4 hf hfront s =
      OnVal-then (o.times n0 efl) _ (λ x. member x sy (N0 *Q EFL)) _ (law.times sy n0 efl N0 EFL h2 h3) λ x k1.
      OnVal-then (o.over x nk) _ (λ r. member r sy (neg_Q f)) _
      (law.over sy x nk (N0 *Q EFL) NK (neg_Q f) k1 h4 (linear (f ∷ NK ∷ N0 ∷ EFL ∷ []) _ _ (search reads depth 16) (fact (whole (negsuc 0)) hf (search reads depth 16) no_fact) tt)) λ q k2.
      on_same scale o member law sy (o.plus ffl q) (FFL +Q neg_Q f) front
      (linear (front ∷ FFL ∷ f ∷ []) _ _ (search reads depth 16) (name hfront (search reads depth 16) no_fact) tt) (law.plus sy ffl q FFL (neg_Q f) h1 k2)
