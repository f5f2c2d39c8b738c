-- Two chains that cross an even asphere on one line are close.
use Rattle.std.proofs.Common.{◌≡◌, ℕ, suc, subst, false}
use Rattle.std.specs.Prelude.{ℤ}
use Rattle.fixdec.specs.Algebra.Within.{HasSize}
use Rattle.fixdec.specs.Ends.{Ends}
use Rattle.fixdec.specs.Frac.{Frac, ◌-Q◌}
use Rattle.fixdec.specs.Interval.{holds_zero, iv_size}
use Rattle.fixdec.specs.Member.{Symbols}
use Rattle.fixdec.specs.Operations.{Operations, IsLawful}
use Rattle.fixdec.specs.declared.step.Step.TheVariants.{Val}
use Rattle.lensmodel.specs.Claims.Enclosure.{CoversResidual, HoldsPrepared}
use Rattle.lensmodel.specs.Equations.Chain.{Chain}
use Rattle.lensmodel.specs.Equations.Crossing.{Crosses}
use Rattle.lensmodel.specs.Rows.Crossing.{Line}
use Rattle.lensmodel.specs.Rows.Preparation.{Prepared}
use Rattle.lensmodel.specs.Rows.SlopeRounds.{Round, round_rows, last_window}
use Rattle.lensmodel.specs.Setup.Values.{surface_at, curvature, eps}
use Rattle.lensmodel.specs.declared.setup.Setup.{Setup}
use Rattle.lensmodel.specs.declared.surface.SurfaceKind.TheVariants.{EvenAsph}
use Rattle.hitsolve.specs.Aspheres.Chains.{ZoneFits, IsOnLine, asphere_of, crossing_meets, asphere_holds, asphere_zone_holds, eps_pos}
use Rattle.hitsolve.specs.Aspheres.Close.{crossing_distance, at_scale}
use Rattle.hitsolve.specs.Aspheres.CloseCrossings.{IsSteep, crossings_close, steep}
use Rattle.hitsolve.specs.Aspheres.Meeting.{Meets, HoldsLine}

module _ {A : Type 0} (scale : ℕ) (o : Operations A) (member : A → Symbols → Frac → Type 0) (law : IsLawful scale o member)
    (s : Setup) (j : ℕ) (kind : (surface_at s (suc j)).kind ≡ EvenAsph) (fits : ZoneFits s j) (e : ℤ) (covers : CoversResidual scale s e)
    (c : Chain) (face : Prepared A) (h : HoldsPrepared member s c j face) (l : Line Frac) (line : Line A) (hl : HoldsLine member c.symbols l line)
    (onc : IsOnLine c j l) (cc : Crosses s c j)
    (a : Ends) (r : Round A) (v : A) (window : last_window o scale face line e ≡ Val a) (round : round_rows o scale face line e a ≡ Val r)
    (gap : o.minus r.sag r.middle ≡ Val v) where
  -- a chain's crossing shows that the slope is above 0
  pub asphere_steep : IsSteep scale o member law c.symbols (eps s) (eps_pos s.res) e covers (asphere_of s c j) fits face (asphere_holds scale o member law s c j kind face h)
      (asphere_zone_holds scale o member law s c j kind face h) l line hl a r v window round gap
  asphere_steep =
      steep scale o member law c.symbols (eps s) (eps_pos s.res) e covers (asphere_of s c j) fits face (asphere_holds scale o member law s c j kind face h)
      (asphere_zone_holds scale o member law s c j kind face h) l line hl a r v window round gap
      (c.z (suc j)) (c.conic_sag (suc j)) (crossing_meets s c j kind l onc cc)

  -- another chain on the same line
  pub asphere_chains_close : holds_zero (o.hull r.m) ≡ false → (d : Chain) → d.symbols ≡ c.symbols → IsOnLine d j l → Crosses s d j
      → HasSize (crossing_distance (eps s) (at_scale scale (iv_size (o.hull v)).hi) (at_scale scale (o.hull r.g).lo) (at_scale scale (o.hull r.g).hi) (at_scale scale (iv_size (o.hull r.m)).lo))
      (c.z (suc j) -Q d.z (suc j))
  asphere_chains_close apart d same ond cd =
      let f = asphere_of s c j in
      let other : Meets (eps s) f l (d.z (suc j)) (d.conic_sag (suc j)) =
      subst (λ (t : Symbols). Meets (eps s) (record f { c = curvature s t (suc j) }) l (d.z (suc j)) (d.conic_sag (suc j))) same (crossing_meets s d j kind l ond cd) in
      crossings_close scale o member law c.symbols (eps s) (eps_pos s.res) e covers f fits face (asphere_holds scale o member law s c j kind face h)
      (asphere_zone_holds scale o member law s c j kind face h) l line hl a r v window round gap apart
      (c.z (suc j)) (c.conic_sag (suc j)) (d.z (suc j)) (d.conic_sag (suc j)) (crossing_meets s c j kind l onc cc) other
