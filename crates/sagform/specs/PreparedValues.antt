-- Each row of the preparation of a surface holds its value in every chain.
use Rattle.std.proofs.Common.{ℕ, List, [], ◌∷◌, arith}
use Rattle.std.proofs.lemmas.Int.{ints}
use Rattle.std.specs.Prelude.{ℤ, pos, negsuc, ◌≤ℤ◌, Option, Some, None}
use Rattle.fixdec.specs.Decimal.{Decimal, value, tenth_power}
use Rattle.fixdec.specs.Frac.{Frac, ◌≈◌, ◌*Q◌, whole}
use Rattle.fixdec.specs.Algebra.FracLaws.{≈_refl, ≈_sym, mul_same}
use Rattle.fixdec.specs.Algebra.Linear.{linear, no_fact, reads}
use Rattle.fixdec.specs.Algebra.MemberLaws.{units_nn}
use Rattle.fixdec.specs.Algebra.Order.{le_trans, le_whole, le_whole_out}
use Rattle.fixdec.specs.Algebra.OrderLaws.{mul_nn, square_nn}
use Rattle.fixdec.specs.Algebra.PowerLaws.{dec_span_member}
use Rattle.fixdec.specs.Algebra.Terms.{is, is_mul, is_whole, same_if}
use Rattle.fixdec.specs.Member.{IsMember, Symbols}
use Rattle.fixdec.specs.Operations.{Operations, IsLawful}
use Rattle.fixdec.specs.Scaled.{dec_span}
use Rattle.fixdec.specs.Steps.{OnVal, OnVal-then, ◌>>=◌}
use Rattle.fixdec.specs.Zone.{zone, nano}
use Rattle.lensmodel.specs.Claims.Enclosure.{HoldsSquare, HoldsZone, HoldsEach}
use Rattle.lensmodel.specs.Equations.Dispersion.{IsIndex, IsKnown}
use Rattle.lensmodel.specs.Rows.Constants.{decimal_row, whole_row}
use Rattle.lensmodel.specs.Rows.Laws.{Covers, decimal_member, whole_member, on_same}
use Rattle.lensmodel.specs.Rows.Preparation.{square_row, decimal_rows, medium_row}
use Rattle.lensmodel.specs.Setup.Values.{thickness_of, written_thickness}
use Rattle.lensmodel.specs.Setup.Zones.{zone_by}
use Rattle.lensmodel.specs.declared.glass.Medium.{Medium}
use Rattle.lensmodel.specs.declared.glass.Medium.TheVariants.{Air, Of}
use Rattle.lensmodel.specs.declared.surface.SurfaceKind.{SurfaceKind}
use Rattle.lensmodel.specs.declared.surface.SurfaceKind.TheVariants.{Standard, EvenAsph}
use Rattle.sagform.specs.Faces.{HasZone}
use Rattle.sagform.specs.IndexLaws.{index_rows-encloses}
use Rattle.sagform.specs.Setups.{IsZonedBy}

thickness_value : (t : Option Decimal) → value (thickness_of t) ≈ written_thickness t
thickness_value None = linear [] (whole (pos 0) *Q whole (pos 1)) (whole (pos 0)) (search reads depth 12) no_fact tt
thickness_value (Some d) = ≈_refl (value d)

-- the zone as a decimal is that of the equations
zone_value : (z : ℤ) → value (record { mant = z; exp = negsuc 8 }) ≈ nano z
zone_value z = same_if (is_mul (is_whole z) (is (tenth_power 9))) (is (nano z)) (omega (arith, ints))

-- each symbol 0
no_deviation : Symbols
no_deviation = record { at = λ i. whole (pos 0); low = λ i. le_whole (omega (arith, ints)); high = λ i. le_whole (omega (arith, ints)) }

module _ {A : Type 0} (scale : ℕ) (o : Operations A) (member : A → Symbols → Frac → Type 0) (law : IsLawful scale o member) where
  module _ (sy : Symbols) where
    -- the written thickness
    pub thickness-member : (t : Option Decimal) → OnVal (decimal_row o scale (thickness_of t)) (λ a. member a sy (written_thickness t))
    thickness-member t = on_same scale o member law sy (decimal_row o scale (thickness_of t)) _ _ (thickness_value t) (decimal_member scale o member law sy (thickness_of t))

    -- an index of a medium
    pub medium_row-member : (m : Medium) (wave : Decimal) (e : ℤ) (eps n : Frac) → IsKnown m → Covers scale eps e → IsIndex eps m wave n
        → OnVal (medium_row o scale m wave e) (λ a. member a sy n)
    medium_row-member Air wave e eps n k covers h = on_same scale o member law sy (whole_row o scale (pos 1)) _ _ (≈_sym h) (whole_member scale o member law sy (pos 1))
    medium_row-member (Of g) wave e eps n k covers h =
        OnVal-then (dec_span scale wave) _ (λ a. IsMember scale a (value wave)) _ (dec_span_member scale wave) λ a ha.
        index_rows-encloses scale o member law (Of g) a e k sy wave eps n ha covers h

    -- the square of a decimal, where there is one
    square-member : (d : Decimal) → OnVal (decimal_row o scale d >>= λ v. o.square v) (λ a. member a sy (value d *Q value d))
    square-member d =
        OnVal-then (decimal_row o scale d) _ (λ v. member v sy (value d)) _ (decimal_member scale o member law sy d) λ v hv.
        law.square sy v (value d) hv

    some_square : (d : Decimal) (P : Option A → Type 0) → ((a : A) → member a sy (value d *Q value d) → P (Some a)) → OnVal (square_row o scale (Some d)) P
    some_square d P f =
        OnVal-then (decimal_row o scale d) _ (λ v. member v sy (value d)) _ (decimal_member scale o member law sy d) λ v hv.
        OnVal-then (o.square v) _ (λ a. member a sy (value d *Q value d)) _ (law.square sy v (value d) hv) λ a ha.
        f a ha

    pub square_row-member : (d : Option Decimal) → OnVal (square_row o scale d) (λ a. HoldsSquare member a d sy)
    square_row-member None = tt
    square_row-member (Some d) = some_square d (λ a. HoldsSquare member a (Some d) sy) (λ a h. h)

    -- the square of the zone
    pub zone_row-member : (kind : SurfaceKind) (semi : Option Decimal) → IsZonedBy kind semi
        → OnVal (square_row o scale (zone_by kind semi)) (λ a. HoldsZone member kind a semi sy)
    zone_row-member Standard semi h = tt
    zone_row-member EvenAsph None h = absurd h
    zone_row-member EvenAsph (Some semi) h =
        let z = zone semi in
        some_square (record { mant = z; exp = negsuc 8 }) (λ a. HoldsZone member EvenAsph a (Some semi) sy)
        (λ a k. law.same sy a _ _ (mul_same (zone_value z) (zone_value z)) k)

    -- decimals, one by one
    pub decimal_rows-member : (ds : List Decimal) → OnVal (decimal_rows o scale ds) (λ values. HoldsEach member values ds sy)
    decimal_rows-member [] = tt
    decimal_rows-member (d ∷ ds) =
        OnVal-then (decimal_row o scale d) _ (λ v. member v sy (value d)) _ (decimal_member scale o member law sy d) λ v hv.
        OnVal-then (decimal_rows o scale ds) _ (λ vs. HoldsEach member vs ds sy) _ (decimal_rows-member ds) λ vs hs.
        (hv, hs)

  -- ---- what a face keeps
  square_kept : (a : A) (v : Frac) → member a no_deviation (v *Q v) → pos 0 ≤ℤ (o.hull a).hi
  square_kept a v h =
      let k = law.hull no_deviation a (v *Q v) h in
      le_whole_out (le_trans (mul_nn (square_nn v) (units_nn scale)) k.high)

  pub zone_kept : (kind : SurfaceKind) (semi : Option Decimal) → IsZonedBy kind semi
      → OnVal (square_row o scale (zone_by kind semi)) (λ a. HasZone o.hull kind a)
  zone_kept Standard semi h = tt
  zone_kept EvenAsph None h = absurd h
  zone_kept EvenAsph (Some semi) h =
      let d : Decimal = record { mant = zone semi; exp = negsuc 8 } in
      some_square no_deviation d (λ a. HasZone o.hull EvenAsph a) (λ a k. square_kept a (value d) k)
