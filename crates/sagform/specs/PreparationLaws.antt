-- The preparation of a surface holds the values that the surface has in every chain.
use Rattle.std.proofs.Common.{◌≡◌, ℕ, zero, suc, ◌<◌, Bool, true, false, length, refl, arith}
use borrow.Author.Tests.{ltb-true}
use Rattle.std.specs.Prelude.{ℤ, pos, Some, None, nat_lt, if◌then◌else◌}
use Rattle.fixdec.specs.Decimal.{value}
use Rattle.fixdec.specs.Frac.{Frac, ◌*Q◌, whole}
use Rattle.fixdec.specs.Member.{Symbols}
use Rattle.fixdec.specs.Operations.{Operations, IsLawful}
use Rattle.fixdec.specs.Steps.{OnVal, OnVal-then, ◌>>=◌}
use Rattle.fixdec.specs.declared.step.Step.TheVariants.{Val}
use Rattle.lensmodel.specs.Claims.Enclosure.{HasIndices, CoversResidual, HoldsIf, HoldsSquare, HoldsZone, HoldsEach, HoldsPrepared, EnclosesPreparation}
use Rattle.lensmodel.specs.Equations.Chain.{Chain, index_behind}
use Rattle.lensmodel.specs.Rows.Constants.{decimal_row, whole_row}
use Rattle.lensmodel.specs.Rows.Laws.{decimal_member, whole_member}
use Rattle.lensmodel.specs.Rows.Preparation.{distance_by, curvature_by, conic_factor_row, index_by, index_behind_by, square_row, decimal_rows, medium_row, with_symbol, preparation_by, preparation_rows}
use Rattle.lensmodel.specs.Setup.Media.{medium_at}
use Rattle.lensmodel.specs.Setup.Values.{surface_at, image, owner, curvature, conic_factor, distance, thickness_of, written_thickness, rim_of, eps}
use Rattle.lensmodel.specs.Setup.WellFormed.{IsWellFormed}
use Rattle.lensmodel.specs.Setup.Zones.{zone_of, scaled_coefficients}
use Rattle.lensmodel.specs.declared.setup.Setup.{Setup}
use Rattle.lensmodel.specs.declared.tolerance.TolKind.TheVariants.{Curv, Thic, Indx}
use Rattle.sagform.specs.PreparedValues.{thickness-member, medium_row-member, square_row-member, zone_row-member, decimal_rows-member}
use Rattle.sagform.specs.Setups.{well_zoned, well_known}
use Rattle.sagform.specs.SymbolLaws.{with_symbol-member}

module _ {A : Type 0} (scale : ℕ) (o : Operations A) (member : A → Symbols → Frac → Type 0) (law : IsLawful scale o member)
    (s : Setup) (w : IsWellFormed s) (c : Chain) (e : ℤ) (covers : CoversResidual scale s e) (indices : HasIndices s c) where
  distance-member : (j : ℕ) → OnVal (distance_by o scale (with_symbol o scale s) s j) (λ a. member a c.symbols (distance s c.symbols j))
  distance-member zero = whole_member scale o member law c.symbols (pos 0)
  distance-member (suc j) =
      let t = (surface_at s (suc j)).thick in
      OnVal-then (decimal_row o scale (thickness_of t)) _ (λ a. member a c.symbols (written_thickness t)) _ (thickness-member scale o member law c.symbols t) λ a ha.
      with_symbol-member scale o member law c.symbols s Thic (suc j) a (written_thickness t) w.toler.box ha

  curvature-member : (j : ℕ) → OnVal (curvature_by o scale (with_symbol o scale s) s j) (λ a. member a c.symbols (curvature s c.symbols j))
  curvature-member j =
      let d = (surface_at s j).curv in
      OnVal-then (decimal_row o scale d) _ (λ a. member a c.symbols (value d)) _ (decimal_member scale o member law c.symbols d) λ a ha.
      with_symbol-member scale o member law c.symbols s Curv j a (value d) w.toler.box ha

  conic-member : (j : ℕ) → OnVal (conic_factor_row o scale (surface_at s j)) (λ a. member a c.symbols (conic_factor s j))
  conic-member j =
      let d = (surface_at s j).conic in
      OnVal-then (whole_row o scale (pos 1)) _ (λ a. member a c.symbols (whole (pos 1))) _ (whole_member scale o member law c.symbols (pos 1)) λ a ha.
      OnVal-then (decimal_row o scale d) _ (λ b. member b c.symbols (value d)) _ (decimal_member scale o member law c.symbols d) λ b hb.
      law.plus c.symbols a b (whole (pos 1)) (value d) ha hb

  index-member : (j : ℕ) → j < image s → OnVal (index_by o scale (with_symbol o scale s) s e j) (λ a. member a c.symbols (index_behind s c j))
  index-member j l =
      let n = c.glass_index (owner s j) in
      OnVal-then (medium_row o scale (medium_at s j) s.wave e) _ (λ a. member a c.symbols n) _
      (medium_row-member scale o member law c.symbols (medium_at s j) s.wave e (eps s) n (well_known s j w l) covers (indices j l)) λ a ha.
      with_symbol-member scale o member law c.symbols s Indx (owner s j) a n w.toler.box ha

  index_if : (b : Bool) (j : ℕ) → (b ≡ true → j < image s)
      → OnVal (if b then (index_by o scale (with_symbol o scale s) s e j >>= λ n. Val (Some n)) else Val None) (λ a. HoldsIf member a c.symbols (index_behind s c j))
  index_if true j l =
      OnVal-then (index_by o scale (with_symbol o scale s) s e j) _ (λ a. member a c.symbols (index_behind s c j)) _ (index-member j (l refl)) λ a ha. ha
  index_if false j l = tt

  index_behind-member : (j : ℕ) → OnVal (index_behind_by o scale (with_symbol o scale s) s e j) (λ a. HoldsIf member a c.symbols (index_behind s c j))
  index_behind-member j = index_if (nat_lt j (image s)) j (ltb-true j (image s))

  preparation-member : (j : ℕ) → suc j < length s.lens.surfaces.items → OnVal (preparation_rows o scale s e j) (λ f. HoldsPrepared member s c j f)
  unfolding preparation_rows preparation_by
  preparation-member j l =
      let f = surface_at s (suc j) in
      let sy = c.symbols in
      let C = curvature s sy (suc j) in
      let K = conic_factor s (suc j) in
      OnVal-then (distance_by o scale (with_symbol o scale s) s j) _ (λ a. member a sy (distance s sy j)) _ (distance-member j) λ d hd.
      OnVal-then (curvature_by o scale (with_symbol o scale s) s (suc j)) _ (λ a. member a sy C) _ (curvature-member (suc j)) λ v hc.
      OnVal-then (conic_factor_row o scale f) _ (λ a. member a sy K) _ (conic-member (suc j)) λ kappa hk.
      OnVal-then (o.times v kappa) _ (λ a. member a sy (C *Q K)) _ (law.times sy v kappa C K hc hk) λ ck hck.
      OnVal-then (index_by o scale (with_symbol o scale s) s e j) _ (λ a. member a sy (index_behind s c j)) _ (index-member j (omega arith)) λ n hn.
      OnVal-then (index_behind_by o scale (with_symbol o scale s) s e (suc j)) _ (λ a. HoldsIf member a sy (index_behind s c (suc j))) _ (index_behind-member (suc j)) λ n2 hn2.
      OnVal-then (square_row o scale (rim_of f)) _ (λ a. HoldsSquare member a (rim_of f) sy) _ (square_row-member scale o member law sy (rim_of f)) λ rim2 hrim.
      OnVal-then (square_row o scale (zone_of f)) _ (λ a. HoldsZone member f.kind a f.semi sy) _ (zone_row-member scale o member law sy f.kind f.semi (well_zoned s j w l)) λ zone2 hzone.
      OnVal-then (decimal_rows o scale (scaled_coefficients f)) _ (λ a. HoldsEach member a (scaled_coefficients f) sy) _ (decimal_rows-member scale o member law sy (scaled_coefficients f)) λ b hb.
      record { kind = refl; d = hd; c = hc; kappa = hk; ck = hck; n = hn; n2 = hn2; rim2 = hrim; zone2 = hzone; norm = refl; b = hb; sign = refl; mirror = refl }

-- the preparation of surface j + 1, with units that cover the residual, encloses
pub preparation_rows-encloses : {A : Type 0} (scale : ℕ) (o : Operations A) (member : A → Symbols → Frac → Type 0) (law : IsLawful scale o member)
    (s : Setup) (w : IsWellFormed s) (e : ℤ) (covers : CoversResidual scale s e) (j : ℕ) → suc j < length s.lens.surfaces.items
    → EnclosesPreparation member s j (preparation_rows o scale s e j)
preparation_rows-encloses scale o member law s w e covers j l c indices = preparation-member scale o member law s w c e covers indices j l
