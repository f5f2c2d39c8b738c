-- What a whole crossing phase encloses, in a well-formed setup, where what it clips lies within the cap.
use Rattle.std.proofs.Common.{ℕ, sym, subst, ◌∙◌}
use Rattle.std.specs.Prelude.{ℤ}
use Rattle.fixdec.specs.Frac.{Frac}
use Rattle.fixdec.specs.Member.{IsMember, Symbols}
use Rattle.fixdec.specs.Operations.{Operations, IsLawful}
use Rattle.lensmodel.specs.Claims.Closeness.{AspheresAreClose, StandardAreClose}
use Rattle.lensmodel.specs.Claims.Enclosure.{CoversResidual, EnclosesCrossing, HoldsPrepared, HoldsRay}
use Rattle.lensmodel.specs.Equations.Chain.{Chain}
use Rattle.lensmodel.specs.Equations.Crossing.{Transfers}
use Rattle.lensmodel.specs.Rows.Crossing.{arrival_rows}
use Rattle.lensmodel.specs.Rows.Hit.{hit_rows}
use Rattle.lensmodel.specs.Rows.Preparation.{Prepared}
use Rattle.lensmodel.specs.Rows.Spans.{side_of}
use Rattle.lensmodel.specs.Rows.Start.{Incoming}
use Rattle.lensmodel.specs.Setup.Values.{travel}
use Rattle.lensmodel.specs.Setup.WellFormed.{IsWellFormed}
use Rattle.lensmodel.specs.declared.setup.Setup.{Setup}
use Rattle.hitsolve.specs.Arrivals.{side_holds}
use Rattle.hitsolve.specs.AsphereCloseness.{aspheres_close}
use Rattle.hitsolve.specs.Aspheres.Zones.{zone_fits}
use Rattle.hitsolve.specs.Caps.{IsInCap, CapsCrossed, clips_within_cap}
use Rattle.hitsolve.specs.Hits.{hit_rows-encloses}
use Rattle.hitsolve.specs.StandardCloseness.{standards_close}

module _ {A : Type 0} (scale : ℕ) (o : Operations A) (member : A → Symbols → Frac → Type 0) (law : IsLawful scale o member)
    (face : Prepared A) (ray : Incoming A) (e : ℤ) (caps : CapsCrossed o scale face e (arrival_rows o face ray e)) (side : IsInCap (o.hull ray.n)) where
  on_side : (s : Setup) (j : ℕ) (c : Chain) → HoldsPrepared member s c j face → HoldsRay member c j ray → Transfers s c j → IsMember scale (side_of face.sign) (c.n j)
  on_side s j c hf hr t =
      subst (λ (z : ℤ). IsMember scale (side_of z) (c.n j)) (sym hf.sign)
      (side_holds scale (o.hull ray.n) (c.n j) (travel s j) side.0 side.1 (law.hull c.symbols ray.n (c.n j) hr.n) t.onwards)

  pub hit-encloses : (s : Setup) → IsWellFormed s → (j : ℕ) → CoversResidual scale s e → EnclosesCrossing member s j face ray (hit_rows o scale face ray e)
  hit-encloses s well j covers c hf hr t h =
      hit_rows-encloses scale o member law s c j e covers t h face hf ray hr (on_side s j c hf hr t) (λ k. zone_fits s well j (sym hf.kind ∙ k))
      (clips_within_cap o scale face ray e caps)

  pub standards-close : (s : Setup) (j : ℕ) → CoversResidual scale s e → StandardAreClose o scale member s j face ray e
  standards-close s j covers = standards_close scale o member law s j e covers face ray (on_side s j)

  pub aspheres-close : (s : Setup) → IsWellFormed s → (j : ℕ) → CoversResidual scale s e → AspheresAreClose o scale member s j face ray e
  aspheres-close s well j covers kind arrival rows window last r round missed gap a b ha hb on =
      aspheres_close scale o member law s j e covers face ray (on_side s j) (λ k. zone_fits s well j (sym ha.prepared.kind ∙ k))
      kind arrival rows window last r round missed gap a b ha hb on
