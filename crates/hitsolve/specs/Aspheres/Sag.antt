-- The sag of an even asphere is a member of what its rows give, at each rho that meets the conic's equation.
use Rattle.std.proofs.Common.{ℕ}
use Rattle.std.specs.Prelude.{ℤ, pos}
use Rattle.fixdec.specs.Frac.{Frac, ◌≤Q◌, ◌+Q◌, ◌*Q◌, whole}
use Rattle.fixdec.specs.Member.{Symbols}
use Rattle.fixdec.specs.Operations.{Operations, IsLawful}
use Rattle.fixdec.specs.Steps.{OnVal, OnVal-then}
use Rattle.lensmodel.specs.Rows.Laws.{Covers}
use Rattle.lensmodel.specs.Rows.Preparation.{Prepared}
use Rattle.lensmodel.specs.Rows.Sag.{conic_rows, polynomial_row, sum_row, sag_rows}
use Rattle.hitsolve.specs.Aspheres.Conic.{IsConic, conic_rows-member}
use Rattle.hitsolve.specs.Aspheres.Meeting.{Asphere, polynomial, w_of, over_power, HoldsAsphere}
use Rattle.hitsolve.specs.Aspheres.Polynomial.{polynomial_row-member}
use Rattle.hitsolve.specs.Aspheres.Powers.{shift-member}

-- the sag of the conic plus u times the polynomial
abbrev pub sag_of : Asphere → Frac → Frac → Frac
sag_of f conic_sag rho = conic_sag +Q over_power f.power rho *Q polynomial f.b (over_power f.power rho)

module _ {A : Type 0} (scale : ℕ) (o : Operations A) (member : A → Symbols → Frac → Type 0) (law : IsLawful scale o member)
    (sy : Symbols) (eps : Frac) (e : ℤ) (covers : Covers scale eps e) where
  pub sum_row-member : (zc u v : A) (z x p : Frac) → member zc sy z → member u sy x → member v sy p → OnVal (sum_row o zc u v) (λ r. member r sy (z +Q x *Q p))
  sum_row-member zc u v z x p hz hu hv =
      OnVal-then (o.times u v) _ (λ t. member t sy (x *Q p)) _ (law.times sy u v x p hu hv) λ t ht.
      law.plus sy zc t z _ hz ht

  pub sag_rows-member : (f : Asphere) (face : Prepared A) (rho : A) (r zc : Frac) → HoldsAsphere member sy f face → member rho sy r
      → IsConic eps f.c f.kappa r zc → whole (pos 0) ≤Q w_of f zc → OnVal (sag_rows o scale face rho e) (λ x. member x sy (sag_of f zc r))
  unfolding sag_rows
  sag_rows-member f face rho r zc h hr c n =
      let x = over_power f.power r in
      OnVal-then (conic_rows o scale face rho e) _ (λ a. member a sy zc) _
      (conic_rows-member scale o member law sy eps e covers face f.c f.kappa h.c h.ck rho r zc hr c n) λ a ha.
      OnVal-then (o.shift rho face.norm) _ (λ u. member u sy x) _ (shift-member scale o member law sy rho face.norm f.power r h.norm hr) λ u hu.
      OnVal-then (polynomial_row o scale u face.b) _ (λ v. member v sy (polynomial f.b x)) _ (polynomial_row-member scale o member law sy u x face.b f.b hu h.b) λ v hv.
      sum_row-member a u v zc x (polynomial f.b x) ha hu hv
