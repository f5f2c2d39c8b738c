-- The sample lenses are well formed.
use Rattle.std.proofs.Common.{◌≡◌, ℕ, zero, suc, refl, arith}
use Rattle.std.proofs.lemmas.Int.{ints}
use Rattle.std.specs.Prelude.{◌<◌, slice_index_or, not, Bool, true, false, IsTrue, All, Option, Some, None, ℤ, pos, negsuc}
use Rattle.fixdec.specs.Decimal.{Decimal}
use Rattle.fixdec.specs.Frac.{whole, ◌*Q◌}
use Rattle.fixdec.specs.Interval.{ends, iv_widen}
use Rattle.fixdec.specs.IntervalOperations.{operations}
use Rattle.fixdec.specs.Scaled.{dec_floor, dec_ceil, dec_span}
use Rattle.ladder.specs.Samples.{air, behind_object, boxed, decimal, flat, narrow, rimmed, sample, sphere}
use Rattle.lensmodel.specs.Equations.Dispersion.{IsKnown}
use Rattle.lensmodel.specs.Setup.Media.{has_tolerance}
use Rattle.lensmodel.specs.Setup.Ranges.{has_place, is_not_negative, is_width}
use Rattle.lensmodel.specs.Setup.Values.{plane, zero_decimal, reflects}
use Rattle.lensmodel.specs.Setup.WellFormed.{IsWellFormed, IsWritten, IsWrittenIf, IsWrittenSurface, HasMedia, HasBox, HasGoodIndex}
use Rattle.lensmodel.specs.Setup.WholeFaults.{whole_fault}
use Rattle.lensmodel.specs.declared.glass.Medium.TheVariants.{Air}
use Rattle.lensmodel.specs.declared.surface.Surface.{Surface}
use Rattle.lensmodel.specs.declared.tolerance.Tol.{Tol}
use Rattle.lensmodel.specs.declared.tolerance.TolBox.{TolBox}
use Rattle.lensmodel.specs.declared.tolerance.TolKind.{TolKind}
use Rattle.lensmodel.specs.declared.tolerance.TolKind.TheVariants.{Curv, Thic, Indx}

-- ---- decimals and surfaces as they are written
zero_written : IsWritten zero_decimal
zero_written = record { low = omega (arith, ints); high = omega (arith, ints) }

tenth : (m : ℤ) → IsWritten (decimal m (negsuc 0))
tenth m = record { low = omega (arith, ints); high = omega (arith, ints) }

ones : (m : ℤ) → IsWritten (decimal m (pos 0))
ones m = record { low = omega (arith, ints); high = omega (arith, ints) }

like_plane : (curv : Decimal) (thick semi : Option Decimal) (rim : Bool) → IsWritten curv → IsWrittenIf thick → IsWrittenIf semi
    → IsWrittenSurface (record plane { curv = curv; thick = thick; semi = semi; rim = rim })
like_plane curv thick semi rim c t s = record {
  curv = c;
  conic = zero_written;
  thick = t;
  semi = s;
  a1 = zero_written;
  a2 = zero_written;
  a3 = zero_written;
  a4 = zero_written;
  a5 = zero_written;
  a6 = zero_written;
  a7 = zero_written;
  a8 = zero_written;
}

flat_written : (thick : ℤ) → IsWrittenSurface (flat thick)
flat_written thick = like_plane zero_decimal (Some (decimal thick (pos 0))) None false zero_written (ones thick) tt

sphere_written : IsWrittenSurface sphere
sphere_written = like_plane (decimal (pos 1) (negsuc 0)) (Some (decimal (pos 10) (pos 0))) None false (tenth (pos 1)) (ones (pos 10)) tt

rimmed_written : IsWrittenSurface rimmed
rimmed_written = like_plane zero_decimal (Some (decimal (pos 4) (pos 0))) (Some (decimal (pos 5) (pos 0))) true zero_written (ones (pos 4)) (ones (pos 5))

object_written : IsWrittenSurface (record plane { thick = None })
object_written = like_plane zero_decimal None None false zero_written tt tt

-- ---- boxes
no_box : (f : Surface) (width : Decimal) → HasBox (sample f width None)
no_box f width = record {
  box = record {
    count = omega arith;
    deltas = λ k d h. absurd (omega arith);
    places = λ k d h. absurd (omega arith);
    once = λ i j d h k. absurd (omega arith);
  };
  mirrors = λ j h. refl;
}

-- one tolerance on surface 1, which isn't on an index
box_of : (f : Surface) (width : Decimal) (kind : TolKind) (delta : Decimal) → IsTrue (is_not_negative delta) → IsTrue (has_place 2 kind 1)
    → ((j : ℕ) → IsTrue (not (has_tolerance (boxed kind delta).list.items Indx j))) → HasBox (sample f width (Some (boxed kind delta)))
box_of f width kind delta n p m = record {
  box = record {
    count = omega arith;
    deltas = deltas;
    places = places;
    once = λ i j d h k. absurd (omega arith);
  };
  mirrors = λ j h. m j;
}
  where
    deltas : All (λ (t : Tol). IsTrue (is_not_negative t.delta)) (boxed kind delta).list.items
    deltas zero d h = n
    deltas (suc k) d h = absurd (omega arith)

    places : All (λ (t : Tol). IsTrue (has_place 2 t.kind t.surface)) (boxed kind delta).list.items
    places zero d h = p
    places (suc k) d h = absurd (omega arith)

-- ---- a lens
module _ (f : Surface) (width : Decimal) (toler : Option TolBox) where
  surfaces_written : IsWrittenSurface f → All IsWrittenSurface (behind_object f)
  surfaces_written known zero d h = object_written
  surfaces_written known (suc zero) d h = known
  surfaces_written known (suc (suc zero)) d h = flat_written (pos 0)
  surfaces_written known (suc (suc (suc k))) d h = absurd (omega arith)

  media : HasMedia (sample f width toler)
  media = record { count = refl; known = all; mirrors = mirrors }
    where
      all : All IsKnown air
      all zero d h = tt
      all (suc zero) d h = tt
      all (suc (suc k)) d h = absurd (omega arith)

      mirrors : (j : ℕ) → IsTrue (reflects (sample f width toler) j) → slice_index_or air j Air ≡ Air
      mirrors zero h = refl
      mirrors (suc zero) h = refl
      mirrors (suc (suc j)) h = refl

  index : HasGoodIndex (sample f width toler) 0 → HasGoodIndex (sample f width toler) 1 → (j : ℕ) → j < 2 → HasGoodIndex (sample f width toler) j
  index first second zero h = first
  index first second (suc zero) h = second
  index first second (suc (suc j)) h = absurd (omega arith)

  well_formed : whole_fault (sample f width toler).lens ≡ None → IsWrittenSurface f → IsTrue (is_width width) → HasBox (sample f width toler)
      → HasGoodIndex (sample f width toler) 0 → HasGoodIndex (sample f width toler) 1 → IsWellFormed (sample f width toler)
  unfolding whole ◌*Q◌
  well_formed sound known w box first second = record {
    lens = record { whole = sound; written = record { surfaces = surfaces_written known; waves = λ k d h. absurd (omega arith) } };
    media = media;
    wave = refl;
    residual = refl;
    width = w;
    toler = box;
    index = λ j h k. index first second j h;
  }

pub flat_well_formed : IsWellFormed (sample (flat (pos 4)) narrow None)
unfolding whole_fault operations ends iv_widen dec_floor dec_ceil dec_span whole ◌*Q◌
flat_well_formed = well_formed (flat (pos 4)) narrow None refl (flat_written (pos 4)) refl (no_box (flat (pos 4)) narrow) refl refl

pub far_well_formed : IsWellFormed (sample (flat (pos 10000000)) narrow None)
unfolding whole_fault operations ends iv_widen dec_floor dec_ceil dec_span whole ◌*Q◌
far_well_formed = well_formed (flat (pos 10000000)) narrow None refl (flat_written (pos 10000000)) refl (no_box (flat (pos 10000000)) narrow) refl refl

pub sphere_well_formed : IsWellFormed (sample sphere narrow None)
unfolding whole_fault operations ends iv_widen dec_floor dec_ceil dec_span whole ◌*Q◌
sphere_well_formed = well_formed sphere narrow None refl sphere_written refl (no_box sphere narrow) refl refl

pub rimmed_well_formed : IsWellFormed (sample rimmed narrow None)
unfolding whole_fault operations ends iv_widen dec_floor dec_ceil dec_span whole ◌*Q◌
rimmed_well_formed = well_formed rimmed narrow None refl rimmed_written refl (no_box rimmed narrow) refl refl

pub zero_box_well_formed : IsWellFormed (sample (flat (pos 4)) narrow (Some (boxed Curv zero_decimal)))
unfolding whole_fault operations ends iv_widen dec_floor dec_ceil dec_span whole ◌*Q◌
zero_box_well_formed =
    well_formed (flat (pos 4)) narrow (Some (boxed Curv zero_decimal)) refl (flat_written (pos 4)) refl
    (box_of (flat (pos 4)) narrow Curv zero_decimal refl refl (λ j. refl)) refl refl

pub thickness_box_well_formed : IsWellFormed (sample (flat (pos 4)) (decimal (pos 2) (pos 0)) (Some (boxed Thic (decimal (pos 1) (negsuc 0)))))
unfolding whole_fault operations ends iv_widen dec_floor dec_ceil dec_span whole ◌*Q◌
thickness_box_well_formed =
    well_formed (flat (pos 4)) (decimal (pos 2) (pos 0)) (Some (boxed Thic (decimal (pos 1) (negsuc 0)))) refl (flat_written (pos 4)) refl
    (box_of (flat (pos 4)) (decimal (pos 2) (pos 0)) Thic (decimal (pos 1) (negsuc 0)) refl refl (λ j. refl)) refl refl
