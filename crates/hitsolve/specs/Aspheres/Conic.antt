-- The sag of the conic and w are members of what their rows give, for each point that meets the conic's equation.
use Rattle.std.proofs.Common.{ℕ, [], ◌∷◌}
use Rattle.std.specs.Prelude.{ℤ, pos}
use Rattle.fixdec.specs.Frac.{Frac, ◌≤Q◌, ◌+Q◌, ◌*Q◌, ◌-Q◌, whole}
use Rattle.fixdec.specs.Algebra.Linear.{linear, linear_le, order, no_fact, reads}
use Rattle.fixdec.specs.Algebra.OrderLaws.{zero_le_one}
use Rattle.fixdec.specs.Member.{Symbols}
use Rattle.fixdec.specs.Operations.{Operations, IsLawful}
use Rattle.fixdec.specs.Steps.{OnVal, OnVal-then}
use Rattle.lensmodel.specs.Equations.Residual.{IsWithin}
use Rattle.lensmodel.specs.Rows.Constants.{whole_row}
use Rattle.lensmodel.specs.Rows.Laws.{Covers, whole_member, widened}
use Rattle.lensmodel.specs.Rows.Preparation.{Prepared}
use Rattle.lensmodel.specs.Rows.Sag.{double_sag_row, conic_w_row, w_row, conic_rows}

-- of a conic with curvature c and factor k: the conic's equation at rho, within the residual
abbrev pub IsConic : Frac → Frac → Frac → Frac → Frac → Type 0
IsConic eps c k rho zc = IsWithin eps (c *Q (rho +Q k *Q zc *Q zc)) (whole (pos 2) *Q zc)

-- what twice the sag of the paraxial sphere is, exactly, for a given sag of the conic
abbrev pub double_sag : Frac → Frac → Frac → Frac
double_sag c k zc = whole (pos 2) *Q zc -Q k *Q c *Q zc *Q zc

pub near_double_sag : (eps c k rho zc : Frac) → IsConic eps c k rho zc → IsWithin eps (double_sag c k zc) (c *Q rho)
near_double_sag eps c k rho zc h = record {
  above = linear_le (eps ∷ c ∷ k ∷ rho ∷ zc ∷ []) _ _ (search reads depth 20 fits 4000) (order zero_le_one h.below (search reads depth 20 fits 4000) no_fact) tt;
  below = linear_le (eps ∷ c ∷ k ∷ rho ∷ zc ∷ []) _ _ (search reads depth 20 fits 4000) (order zero_le_one h.above (search reads depth 20 fits 4000) no_fact) tt;
}

module _ {A : Type 0} (scale : ℕ) (o : Operations A) (member : A → Symbols → Frac → Type 0) (law : IsLawful scale o member)
    (sy : Symbols) (eps : Frac) (e : ℤ) (covers : Covers scale eps e) where
  module _ (face : Prepared A) (c k : Frac) (hc : member face.c sy c) (hck : member face.ck sy (c *Q k)) where
    pub double_sag-member : (rho : A) (r zc : Frac) → member rho sy r → IsConic eps c k r zc
        → OnVal (double_sag_row o face rho e) (λ x. member x sy (double_sag c k zc))
    double_sag-member rho r zc hr h =
        OnVal-then (o.times face.c rho) _ (λ x. member x sy (c *Q r)) _ (law.times sy face.c rho c r hc hr) λ x hx.
        widened scale o member law sy eps e covers x (c *Q r) (double_sag c k zc) hx (near_double_sag eps c k r zc h)

    pub conic_w-member : (f : A) (zc : Frac) → member f sy (double_sag c k zc) → whole (pos 0) ≤Q whole (pos 1) -Q k *Q c *Q zc
        → OnVal (conic_w_row o scale face f) (λ x. member x sy (whole (pos 1) -Q k *Q c *Q zc))
    conic_w-member f zc hf n =
        let w = whole (pos 1) -Q k *Q c *Q zc in
        OnVal-then (whole_row o scale (pos 1)) _ (λ x. member x sy (whole (pos 1))) _ (whole_member scale o member law sy (pos 1)) λ one h1.
        OnVal-then (o.times face.ck f) _ (λ x. member x sy ((c *Q k) *Q double_sag c k zc)) _ (law.times sy face.ck f _ _ hck hf) λ x hx.
        OnVal-then (o.minus one x) _ (λ y. member y sy (whole (pos 1) -Q (c *Q k) *Q double_sag c k zc)) _ (law.minus sy one x _ _ h1 hx) λ y hy.
        law.root sy y w n (law.same sy y _ (w *Q w) (linear (c ∷ k ∷ zc ∷ []) _ _ (search reads depth 20 fits 4000) no_fact tt) hy)

    pub w_row-member : (rho : A) (r zc : Frac) → member rho sy r → IsConic eps c k r zc → whole (pos 0) ≤Q whole (pos 1) -Q k *Q c *Q zc
        → OnVal (w_row o scale face rho e) (λ x. member x sy (whole (pos 1) -Q k *Q c *Q zc))
    w_row-member rho r zc hr h n =
        OnVal-then (double_sag_row o face rho e) _ (λ f. member f sy (double_sag c k zc)) _ (double_sag-member rho r zc hr h) λ f hf.
        conic_w-member f zc hf n

    pub conic_rows-member : (rho : A) (r zc : Frac) → member rho sy r → IsConic eps c k r zc → whole (pos 0) ≤Q whole (pos 1) -Q k *Q c *Q zc
        → OnVal (conic_rows o scale face rho e) (λ x. member x sy zc)
    conic_rows-member rho r zc hr h n =
        let w = whole (pos 1) -Q k *Q c *Q zc in
        OnVal-then (double_sag_row o face rho e) _ (λ f. member f sy (double_sag c k zc)) _ (double_sag-member rho r zc hr h) λ f hf.
        OnVal-then (conic_w_row o scale face f) _ (λ x. member x sy w) _ (conic_w-member f zc hf n) λ x hx.
        OnVal-then (whole_row o scale (pos 1)) _ (λ x. member x sy (whole (pos 1))) _ (whole_member scale o member law sy (pos 1)) λ one h1.
        OnVal-then (o.plus one x) _ (λ y. member y sy (whole (pos 1) +Q w)) _ (law.plus sy one x _ w h1 hx) λ y hy.
        law.over sy f y (double_sag c k zc) (whole (pos 1) +Q w) zc hf hy (linear (c ∷ k ∷ zc ∷ []) _ _ (search reads depth 20 fits 4000) no_fact tt)
