-- Fractions that meet the equations of the Seidel sums are members of what the rows give, in every lawful arithmetic.
-- Cited by proofs.
use Rattle.std.proofs.Common.{ℕ, [], ◌∷◌}
use Rattle.std.specs.Prelude.{pos}
use Rattle.fixdec.specs.Decimal.{value}
use Rattle.fixdec.specs.Frac.{Frac, ◌≈◌, ◌+Q◌, ◌*Q◌, ◌-Q◌, whole}
use Rattle.fixdec.specs.Algebra.FracLaws.{≈_sym}
use Rattle.fixdec.specs.Algebra.Linear.{linear, fact, name, no_fact, reads}
use Rattle.fixdec.specs.Member.{Symbols}
use Rattle.fixdec.specs.Operations.{Operations, IsLawful}
use Rattle.fixdec.specs.Steps.{OnVal, OnVal-then}
use Rattle.lensmodel.specs.Rows.Constants.{decimal_row, whole_row}
use Rattle.lensmodel.specs.Paraxial.Trace.{even_coefficient}
use Rattle.lensmodel.specs.Rows.Laws.{on_same, decimal_member, whole_member}
use Rattle.lensmodel.specs.Paraxial.Seidel.{IsInverse, cube}
use Rattle.lensmodel.specs.Paraxial.SeidelRows.{invariant_row, lagrange_row, petzval_row, slope_change_row, square_change_row, asphericity_row}
use Rattle.lensmodel.specs.declared.surface.Surface.{Surface}

module _ {A : Type 0} (scale : ℕ) (o : Operations A) (member : A → Symbols → Frac → Type 0) (law : IsLawful scale o member) (sy : Symbols) where
  -- A = n (y cv + u)
  pub invariant_member : (n y cv u : A) (N Y CV U a : Frac) → member n sy N → member y sy Y → member cv sy CV → member u sy U
      → a ≈ N *Q (Y *Q CV +Q U) → OnVal (invariant_row o scale n y cv u) (λ r. member r sy a)
  invariant_member n y cv u N Y CV U a hn hy hc hu h =
      OnVal-then (o.times y cv) _ (λ x. member x sy (Y *Q CV)) _ (law.times sy y cv Y CV hy hc) λ x k1.
      OnVal-then (o.plus x u) _ (λ x. member x sy (Y *Q CV +Q U)) _ (law.plus sy x u _ U k1 hu) λ w k2.
      on_same scale o member law sy (o.times n w) _ a (≈_sym h) (law.times sy n w N _ hn k2)

  -- H = Ab y - A yb
  pub lagrange_member : (ab y a yb : A) (AB Y A' YB h : Frac) → member ab sy AB → member y sy Y → member a sy A' → member yb sy YB
      → h ≈ AB *Q Y -Q A' *Q YB → OnVal (lagrange_row o scale ab y a yb) (λ r. member r sy h)
  lagrange_member ab y a yb AB Y A' YB h h1 h2 h3 h4 e =
      OnVal-then (o.times ab y) _ (λ x. member x sy (AB *Q Y)) _ (law.times sy ab y AB Y h1 h2) λ x k1.
      OnVal-then (o.times a yb) _ (λ x. member x sy (A' *Q YB)) _ (law.times sy a yb A' YB h3 h4) λ w k2.
      on_same scale o member law sy (o.minus x w) _ h (≈_sym e) (law.minus sy x w _ _ k1 k2)

  -- P = cv (1/n' - 1/n)
  pub petzval_member : (cv n n2 : A) (CV N N' r r' p : Frac) → member cv sy CV → member n sy N → member n2 sy N'
      → IsInverse N r → IsInverse N' r' → p ≈ CV *Q (r' -Q r) → OnVal (petzval_row o scale cv n n2) (λ x. member x sy p)
  petzval_member cv n n2 CV N N' r r' p h1 h2 h3 i i' e =
      OnVal-then (whole_row o scale (pos 1)) _ (λ x. member x sy (whole (pos 1))) _ (whole_member scale o member law sy (pos 1)) λ one k.
      OnVal-then (o.over one n2) _ (λ x. member x sy r') _ (law.over sy one n2 (whole (pos 1)) N' r' k h3 i') λ x k1.
      OnVal-then (whole_row o scale (pos 1)) _ (λ x. member x sy (whole (pos 1))) _ (whole_member scale o member law sy (pos 1)) λ one' k'.
      OnVal-then (o.over one' n) _ (λ x. member x sy r) _ (law.over sy one' n (whole (pos 1)) N r k' h2 i) λ w k2.
      OnVal-then (o.minus x w) _ (λ x. member x sy (r' -Q r)) _ (law.minus sy x w r' r k1 k2) λ d k3.
      on_same scale o member law sy (o.times cv d) _ p (≈_sym e) (law.times sy cv d CV _ h1 k3)

  -- dun = u'/n' - u/n
  pub slope_change_member : (behind n2 u n : A) (U' N' U N r r' dun : Frac) → member behind sy U' → member n2 sy N' → member u sy U → member n sy N
      → IsInverse N r → IsInverse N' r' → dun ≈ U' *Q r' -Q U *Q r → OnVal (slope_change_row o scale behind n2 u n) (λ x. member x sy dun)
  slope_change_member behind n2 u n U' N' U N r r' dun h1 h2 h3 h4 i i' e =
      OnVal-then (o.over behind n2) _ (λ x. member x sy (U' *Q r')) _
      (law.over sy behind n2 U' N' (U' *Q r') h1 h2 (linear (U' ∷ N' ∷ r' ∷ []) _ _ (search reads depth 16) (fact U' i' (search reads depth 16) no_fact) tt)) λ x k1.
      OnVal-then (o.over u n) _ (λ x. member x sy (U *Q r)) _
      (law.over sy u n U N (U *Q r) h3 h4 (linear (U ∷ N ∷ r ∷ []) _ _ (search reads depth 16) (fact U i (search reads depth 16) no_fact) tt)) λ w k2.
      on_same scale o member law sy (o.minus x w) _ dun (≈_sym e) (law.minus sy x w _ _ k1 k2)

  -- one over a square
  inverse_square : (n : A) (N r : Frac) → member n sy N → IsInverse N r → (one : A) → member one sy (whole (pos 1))
      → OnVal (o.square n) (λ x. member x sy (N *Q N)) × ((x : A) → member x sy (N *Q N) → OnVal (o.over one x) (λ y. member y sy (r *Q r)))
  inverse_square n N r h i one k = (
    law.square sy n N h,
    λ x m. law.over sy one x (whole (pos 1)) (N *Q N) (r *Q r) k m
        (linear (N ∷ r ∷ []) _ _ (search reads depth 16) (fact (r *Q N +Q whole (pos 1)) i (search reads depth 16) no_fact) tt),
  )

  -- dn2 = 1/n'^2 - 1/n^2
  pub square_change_member : (n n2 : A) (N N' r r' dn2 : Frac) → member n sy N → member n2 sy N'
      → IsInverse N r → IsInverse N' r' → dn2 ≈ r' *Q r' -Q r *Q r → OnVal (square_change_row o scale n n2) (λ x. member x sy dn2)
  square_change_member n n2 N N' r r' dn2 h1 h2 i i' e =
      OnVal-then (whole_row o scale (pos 1)) _ (λ x. member x sy (whole (pos 1))) _ (whole_member scale o member law sy (pos 1)) λ one k.
      OnVal-then (o.square n2) _ (λ x. member x sy (N' *Q N')) _ (inverse_square n2 N' r' h2 i' one k).0 λ q m.
      OnVal-then (o.over one q) _ (λ x. member x sy (r' *Q r')) _ ((inverse_square n2 N' r' h2 i' one k).1 q m) λ x k1.
      OnVal-then (whole_row o scale (pos 1)) _ (λ x. member x sy (whole (pos 1))) _ (whole_member scale o member law sy (pos 1)) λ one' k'.
      OnVal-then (o.square n) _ (λ x. member x sy (N *Q N)) _ (inverse_square n N r h1 i one' k').0 λ q' m'.
      OnVal-then (o.over one' q') _ (λ x. member x sy (r *Q r)) _ ((inverse_square n N r h1 i one' k').1 q' m') λ w k2.
      on_same scale o member law sy (o.minus x w) _ dn2 (≈_sym e) (law.minus sy x w _ _ k1 k2)

  -- k8 = ((1 + k) c^3 + 8 a2 - cv^3)(n' - n)
  pub asphericity_member : (f : Surface) (cv n n2 : A) (CV N N' k8 : Frac) → member cv sy CV → member n sy N → member n2 sy N'
      → k8 ≈ ((whole (pos 1) +Q value f.conic) *Q cube (value f.curv) +Q whole (pos 8) *Q value (even_coefficient f.kind f.a2) -Q cube CV) *Q (N' -Q N)
      → OnVal (asphericity_row o scale f cv n n2) (λ x. member x sy k8)
  asphericity_member f cv n n2 CV N N' k8 h1 h2 h3 e =
      let K = value f.conic in let C = value f.curv in let A2 = value (even_coefficient f.kind f.a2) in
      OnVal-then (whole_row o scale (pos 1)) _ (λ x. member x sy (whole (pos 1))) _ (whole_member scale o member law sy (pos 1)) λ one k1.
      OnVal-then (decimal_row o scale f.conic) _ (λ x. member x sy K) _ (decimal_member scale o member law sy f.conic) λ k k2.
      OnVal-then (o.plus one k) _ (λ x. member x sy (whole (pos 1) +Q K)) _ (law.plus sy one k _ K k1 k2) λ kappa k3.
      OnVal-then (decimal_row o scale f.curv) _ (λ x. member x sy C) _ (decimal_member scale o member law sy f.curv) λ c k4.
      OnVal-then (o.square c) _ (λ x. member x sy (C *Q C)) _ (law.square sy c C k4) λ cc k5.
      OnVal-then (o.times c cc) _ (λ x. member x sy (C *Q (C *Q C))) _ (law.times sy c cc C _ k4 k5) λ ccc k6.
      OnVal-then (o.times kappa ccc) _ (λ x. member x sy ((whole (pos 1) +Q K) *Q (C *Q (C *Q C)))) _ (law.times sy kappa ccc _ _ k3 k6) λ conic k7.
      OnVal-then (whole_row o scale (pos 8)) _ (λ x. member x sy (whole (pos 8))) _ (whole_member scale o member law sy (pos 8)) λ eight k8'.
      OnVal-then (decimal_row o scale (even_coefficient f.kind f.a2)) _ (λ x. member x sy A2) _ (decimal_member scale o member law sy (even_coefficient f.kind f.a2)) λ a2 k9.
      OnVal-then (o.times eight a2) _ (λ x. member x sy (whole (pos 8) *Q A2)) _ (law.times sy eight a2 _ A2 k8' k9) λ even m1.
      OnVal-then (o.plus conic even) _ (λ x. member x sy ((whole (pos 1) +Q K) *Q (C *Q (C *Q C)) +Q whole (pos 8) *Q A2)) _ (law.plus sy conic even _ _ k7 m1) λ both m2.
      OnVal-then (o.square cv) _ (λ x. member x sy (CV *Q CV)) _ (law.square sy cv CV h1) λ vv m3.
      OnVal-then (o.times cv vv) _ (λ x. member x sy (CV *Q (CV *Q CV))) _ (law.times sy cv vv CV _ h1 m3) λ vvv m4.
      OnVal-then (o.minus both vvv) _ (λ x. member x sy ((whole (pos 1) +Q K) *Q (C *Q (C *Q C)) +Q whole (pos 8) *Q A2 -Q CV *Q (CV *Q CV))) _ (law.minus sy both vvv _ _ m2 m4) λ d m5.
      OnVal-then (o.minus n2 n) _ (λ x. member x sy (N' -Q N)) _ (law.minus sy n2 n N' N h3 h2) λ dn m6.
      on_same scale o member law sy (o.times d dn) _ k8
      (linear (k8 ∷ K ∷ C ∷ A2 ∷ CV ∷ N ∷ N' ∷ []) _ _ (search reads depth 20 fits 4000) (name e (search reads depth 20 fits 4000) no_fact) tt)
      (law.times sy d dn _ _ m5 m6)
