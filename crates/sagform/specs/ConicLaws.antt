-- The rows of a conic's sag hold the sag, and those of w hold w.
use Rattle.std.proofs.Common.{ℕ, [], ◌∷◌}
use Rattle.std.specs.Prelude.{ℤ, pos}
use Rattle.fixdec.specs.Frac.{Frac, ◌≈◌, ◌≤Q◌, ◌+Q◌, ◌-Q◌, ◌*Q◌, whole}
use Rattle.fixdec.specs.Algebra.Linear.{linear, linear_le, name, order, no_fact, reads}
use Rattle.fixdec.specs.Algebra.OrderLaws.{zero_le_one}
use Rattle.fixdec.specs.Member.{Symbols}
use Rattle.fixdec.specs.Operations.{Operations, IsLawful}
use Rattle.fixdec.specs.Steps.{OnVal, OnVal-then}
use Rattle.lensmodel.specs.Equations.Residual.{IsWithin}
use Rattle.lensmodel.specs.Rows.Constants.{whole_row}
use Rattle.lensmodel.specs.Rows.Laws.{Covers, whole_member, on_same, widened}
use Rattle.lensmodel.specs.Rows.Preparation.{Prepared}
use Rattle.lensmodel.specs.Rows.Sag.{double_sag_row, conic_w_row, w_row, conic_sag_row, conic_rows}

-- zc is the sag at rho of the conic with curvature c and conic factor k, on the side of its vertex
pub record IsConicAt (eps c k rho zc w : Frac) : Type 0 where
  pub root : w ≈ whole (pos 1) -Q k *Q c *Q zc
  pub near_vertex : whole (pos 0) ≤Q w
  pub conic : IsWithin eps (c *Q (rho +Q k *Q zc *Q zc)) (whole (pos 2) *Q zc)

-- (1 + w) zc
abbrev pub double_sag : Frac → Frac → Frac → Frac
double_sag c k zc = whole (pos 2) *Q zc -Q k *Q c *Q zc *Q zc

module _ {A : Type 0} (scale : ℕ) (o : Operations A) (member : A → Symbols → Frac → Type 0) (law : IsLawful scale o member) (sy : Symbols)
    (eps : Frac) (e : ℤ) (covers : Covers scale eps e)
    (face : Prepared A) (C K : Frac) (hc : member face.c sy C) (hck : member face.ck sy (C *Q K)) where
  -- the equation of the conic, as f = (1 + w) zc within the residual
  double_sag_near : (q zc w : Frac) → IsConicAt eps C K q zc w → IsWithin eps (double_sag C K zc) (C *Q q)
  double_sag_near q zc w h = record {
    above = linear_le (C ∷ K ∷ q ∷ zc ∷ eps ∷ []) _ _ (search reads depth 20) (order zero_le_one h.conic.below (search reads depth 20) no_fact) tt;
    below = linear_le (C ∷ K ∷ q ∷ zc ∷ eps ∷ []) _ _ (search reads depth 20) (order zero_le_one h.conic.above (search reads depth 20) no_fact) tt;
  }

  pub double_sag_row-member : (rho : A) (q zc w : Frac) → member rho sy q → IsConicAt eps C K q zc w
      → OnVal (double_sag_row o face rho e) (λ f. member f sy (double_sag C K zc))
  double_sag_row-member rho q zc w hr h =
      OnVal-then (o.times face.c rho) _ (λ x. member x sy (C *Q q)) _ (law.times sy face.c rho C q hc hr) λ x hx.
      widened scale o member law sy eps e covers x (C *Q q) (double_sag C K zc) hx (double_sag_near q zc w h)

  -- w is the root of 1 - ck f
  pub conic_w_row-member : (f : A) (q zc w : Frac) → member f sy (double_sag C K zc) → IsConicAt eps C K q zc w
      → OnVal (conic_w_row o scale face f) (λ r. member r sy w)
  conic_w_row-member f q zc w hf h =
      let F = double_sag C K zc in
      OnVal-then (whole_row o scale (pos 1)) _ (λ n. member n sy (whole (pos 1))) _ (whole_member scale o member law sy (pos 1)) λ n hn.
      OnVal-then (o.times face.ck f) _ (λ x. member x sy (C *Q K *Q F)) _ (law.times sy face.ck f (C *Q K) F hck hf) λ x hx.
      OnVal-then (o.minus n x) _ (λ y. member y sy (w *Q w)) _
      (on_same scale o member law sy (o.minus n x) _ _
      (linear (w ∷ C ∷ K ∷ zc ∷ []) (whole (pos 1) -Q C *Q K *Q F) (w *Q w) (search reads depth 20) (name h.root (search reads depth 20) no_fact) tt)
      (law.minus sy n x (whole (pos 1)) (C *Q K *Q F) hn hx)) λ y hy.
      law.root sy y w h.near_vertex hy

  -- w at rho
  pub w_row-member : (rho : A) (q zc w : Frac) → member rho sy q → IsConicAt eps C K q zc w
      → OnVal (w_row o scale face rho e) (λ r. member r sy w)
  w_row-member rho q zc w hr h =
      OnVal-then (double_sag_row o face rho e) _ (λ f. member f sy (double_sag C K zc)) _ (double_sag_row-member rho q zc w hr h) λ f hf.
      conic_w_row-member f q zc w hf h

  -- the sag is f over 1 + w
  pub conic_sag_row-member : (f r : A) (q zc w : Frac) → member f sy (double_sag C K zc) → member r sy w → IsConicAt eps C K q zc w
      → OnVal (conic_sag_row o scale f r) (λ z. member z sy zc)
  conic_sag_row-member f r q zc w hf hw h =
      OnVal-then (whole_row o scale (pos 1)) _ (λ n. member n sy (whole (pos 1))) _ (whole_member scale o member law sy (pos 1)) λ n hn.
      OnVal-then (o.plus n r) _ (λ d. member d sy (whole (pos 1) +Q w)) _ (law.plus sy n r (whole (pos 1)) w hn hw) λ d hd.
      law.over sy f d (double_sag C K zc) (whole (pos 1) +Q w) zc hf hd
      (linear (w ∷ C ∷ K ∷ zc ∷ []) (zc *Q (whole (pos 1) +Q w)) (double_sag C K zc) (search reads depth 20) (name h.root (search reads depth 20) no_fact) tt)

  -- the conic's sag at rho
  pub conic_rows-member : (rho : A) (q zc w : Frac) → member rho sy q → IsConicAt eps C K q zc w
      → OnVal (conic_rows o scale face rho e) (λ z. member z sy zc)
  conic_rows-member rho q zc w hr h =
      OnVal-then (double_sag_row o face rho e) _ (λ f. member f sy (double_sag C K zc)) _ (double_sag_row-member rho q zc w hr h) λ f hf.
      OnVal-then (conic_w_row o scale face f) _ (λ r. member r sy w) _ (conic_w_row-member f q zc w hf h) λ r hw.
      conic_sag_row-member f r q zc w hf hw h
