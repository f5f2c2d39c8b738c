-- How a ray leaves a surface is a member of what the rows of the bending give.
use Rattle.std.proofs.Common.{ℕ, suc, ◌<◌, Bool, true, false, sym, subst}
use Rattle.std.specs.Prelude.{ℤ, pos, Option, Some, None}
use Rattle.fixdec.specs.Frac.{Frac, ◌≤Q◌, whole}
use Rattle.fixdec.specs.Member.{Symbols}
use Rattle.fixdec.specs.Operations.{Operations, IsLawful}
use Rattle.fixdec.specs.Steps.{OnVal, OnVal-then, OnVal-map}
use Rattle.fixdec.specs.declared.step.Step.{Step}
use Rattle.lensmodel.specs.Claims.Enclosure.{CoversResidual, HoldsIf, HoldsPrepared, HoldsRay, HoldsMet, HoldsDirection, EnclosesBending}
use Rattle.lensmodel.specs.Equations.Bending.{BendsBy, Reflects, Refracts}
use Rattle.lensmodel.specs.Equations.Chain.{Chain, index_behind}
use Rattle.lensmodel.specs.Equations.Crossing.{Transfers}
use Rattle.lensmodel.specs.Rows.Bending.{Direction, Normal, incidence_rows, bend_by, bend_rows}
use Rattle.lensmodel.specs.Rows.Crossing.{Met}
use Rattle.lensmodel.specs.Rows.Preparation.{Prepared}
use Rattle.lensmodel.specs.Rows.Start.{Incoming}
use Rattle.lensmodel.specs.Setup.Values.{image, reflects}
use Rattle.lensmodel.specs.Setup.WellFormed.{IsWellFormed}
use Rattle.lensmodel.specs.declared.setup.Setup.{Setup}
use Rattle.refract.specs.Incidence.{ClipsInCap, HoldsNormal, incidence_rows-member}
use Rattle.refract.specs.Indices.{index_nn}
use Rattle.refract.specs.Reflection.{reflection_rows-member}
use Rattle.refract.specs.Refraction.{refraction_rows-member}

-- at every surface before the image, and with units that cover the residual, each direction in which a chain leaves is a
-- member of the answer
abbrev pub EnclosesBend : {A : Type 0} → ℕ → (A → Symbols → Frac → Type 0) → Prepared A → Incoming A → Met A → ℤ → Step (Direction A) → Type 0
EnclosesBend scale member face ray hit e r =
    (s : Setup) (j : ℕ) → IsWellFormed s → suc j < image s → CoversResidual scale s e → EnclosesBending member s j face ray hit r

module _ {A : Type 0} (scale : ℕ) (o : Operations A) (member : A → Symbols → Frac → Type 0) (law : IsLawful scale o member)
    (s : Setup) (c : Chain) (j : ℕ) (e : ℤ) (covers : CoversResidual scale s e) (face : Prepared A) (ray : Incoming A) (hit : Met A)
    (holds : HoldsPrepared member s c j face) (hr : HoldsRay member c j ray) (hm : HoldsMet member c j hit)
    (k : ClipsInCap o scale face ray hit e) (transfer : Transfers s c j) (nn : whole (pos 0) ≤Q index_behind s c (suc j)) where
  reflected : Reflects s c j → OnVal (incidence_rows o scale face ray hit e) (λ a. OnVal (bend_by o scale true face.n2 face ray hit a e) (λ d. HoldsDirection member c j d))
  reflected r =
      OnVal-map (incidence_rows o scale face ray hit e) (λ a. HoldsNormal member c.symbols r.e r.g r.cos (c.n j) a) _
      (λ a ha. reflection_rows-member scale o member law s c j e covers face ray hit holds hr hm a r ha)
      (incidence_rows-member scale o member law s c j e covers face ray hit holds hr hm k transfer r.e r.g r.cos r.normal)

  refracted : Refracts s c j → (n2 : Option A) → HoldsIf member n2 c.symbols (index_behind s c (suc j))
      → OnVal (incidence_rows o scale face ray hit e) (λ a. OnVal (bend_by o scale false n2 face ray hit a e) (λ d. HoldsDirection member c j d))
  refracted r n2 h2 =
      OnVal-map (incidence_rows o scale face ray hit e) (λ a. HoldsNormal member c.symbols r.e r.g r.cos (c.n j) a) _
      (λ a ha. by n2 h2 a ha)
      (incidence_rows-member scale o member law s c j e covers face ray hit holds hr hm k transfer r.e r.g r.cos r.normal)
    where
      by : (n2 : Option A) → HoldsIf member n2 c.symbols (index_behind s c (suc j)) → (a : Normal A) → HoldsNormal member c.symbols r.e r.g r.cos (c.n j) a
          → OnVal (bend_by o scale false n2 face ray hit a e) (λ d. HoldsDirection member c j d)
      by None h a ha = tt
      by (Some v) h a ha = refraction_rows-member scale o member law s c j e covers face ray hit holds hr hm v a r h nn ha

  bent : (mirror : Bool) → BendsBy mirror false s c j
      → OnVal (incidence_rows o scale face ray hit e) (λ a. OnVal (bend_by o scale mirror face.n2 face ray hit a e) (λ d. HoldsDirection member c j d))
  bent true r = reflected r
  bent false r = refracted r face.n2 holds.n2

  pub bend_rows-member : BendsBy face.mirror false s c j → OnVal (bend_rows o scale face ray hit e) (λ d. HoldsDirection member c j d)
  unfolding bend_rows
  bend_rows-member h =
      OnVal-then (incidence_rows o scale face ray hit e) _ (λ a. OnVal (bend_by o scale face.mirror face.n2 face ray hit a e) (λ d. HoldsDirection member c j d)) _
      (bent face.mirror h) λ a ha. ha

pub bend_rows-encloses : {A : Type 0} (scale : ℕ) (o : Operations A) (member : A → Symbols → Frac → Type 0) (law : IsLawful scale o member)
    (face : Prepared A) (ray : Incoming A) (hit : Met A) (e : ℤ) → ClipsInCap o scale face ray hit e
    → EnclosesBend scale member face ray hit e (bend_rows o scale face ray hit e)
bend_rows-encloses scale o member law face ray hit e k s j w l covers different c indices holds hr hm transfer crosses h =
    bend_rows-member scale o member law s c j e covers face ray hit holds hr hm k transfer (index_nn s c (suc j) w indices l)
    (subst (λ (b : Bool). BendsBy b false s c j) (sym holds.mirror) (subst (λ (b : Bool). BendsBy (reflects s (suc j)) b s c j) different h))
