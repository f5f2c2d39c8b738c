-- The sample lenses are well formed.
use Rattle.std.proofs.Common.{◌≡◌, ℕ, zero, suc, inl, refl, ap, arith}
use Rattle.std.proofs.lemmas.Int.{ints}
use Rattle.std.specs.Prelude.{◌<◌, slice_index_or, not, IsTrue, All, None, ℤ, pos, negsuc}
use Rattle.fixdec.specs.Algebra.RootLaws.{root_is, root_unique}
use Rattle.fixdec.specs.Ends.{Ends}
use Rattle.fixdec.specs.Frac.{whole, ◌*Q◌}
use Rattle.fixdec.specs.Interval.{ends, iv_plus, iv_times, iv_square, iv_over, iv_root, iv_widen}
use Rattle.fixdec.specs.IntervalOperations.{operations}
use Rattle.fixdec.specs.Root.{root, IsRoot}
use Rattle.fixdec.specs.Scaled.{dec_floor, dec_ceil, dec_span, dec_shifted}
use Rattle.fixdec.specs.Steps.{◌>>=◌}
use Rattle.fixdec.specs.Zone.{zone, zone_span, norm, least_power}
use Rattle.fixdec.specs.declared.step.Step.{Step}
use Rattle.fixdec.specs.declared.step.Step.TheVariants.{Val}
use Rattle.lensmodel.specs.Equations.Dispersion.{IsKnown}
use Rattle.lensmodel.specs.Files.Picking.{is_good_index}
use Rattle.lensmodel.specs.Rows.Index.{index_rows}
use Rattle.lensmodel.specs.Rows.Preparation.{with_symbol}
use Rattle.lensmodel.specs.Setup.Media.{has_tolerance}
use Rattle.lensmodel.specs.Setup.Ranges.{has_place, is_not_negative}
use Rattle.lensmodel.specs.Setup.Values.{zero_decimal, reflects}
use Rattle.lensmodel.specs.Setup.WellFormed.{IsWellFormed, IsWritten, IsWrittenSurface, HasMedia, HasBox, HasGoodIndex}
use Rattle.lensmodel.specs.Setup.WholeFaults.{whole_fault}
use Rattle.lensmodel.specs.declared.glass.Medium.TheVariants.{Air, Of}
use Rattle.lensmodel.specs.declared.surface.Surface.{Surface}
use Rattle.lensmodel.specs.declared.tolerance.Tol.{Tol}
use Rattle.lensmodel.specs.declared.tolerance.TolKind.TheVariants.{Indx}
use Rattle.sagform.specs.Samples.{alone, asphere, box, decimal, flat, glass, mirror, object, plate}

-- ---- decimals and surfaces as they are written
zero_written : IsWritten zero_decimal
zero_written = record { low = omega (arith, ints); high = omega (arith, ints) }

tenth : (m : ℤ) → IsWritten (decimal m (negsuc 0))
tenth m = record { low = omega (arith, ints); high = omega (arith, ints) }

ones : (m : ℤ) → IsWritten (decimal m (pos 0))
ones m = record { low = omega (arith, ints); high = omega (arith, ints) }

fine : (m : ℤ) → IsWritten (decimal m (negsuc 4))
fine m = record { low = omega (arith, ints); high = omega (arith, ints) }

object_written : IsWrittenSurface object
object_written = record {
  curv = zero_written;
  conic = zero_written;
  thick = tt;
  semi = tt;
  a1 = zero_written;
  a2 = zero_written;
  a3 = zero_written;
  a4 = zero_written;
  a5 = zero_written;
  a6 = zero_written;
  a7 = zero_written;
  a8 = zero_written;
}

flat_written : (thick : ℤ) → IsWrittenSurface (flat thick)
flat_written thick = record {
  curv = zero_written;
  conic = zero_written;
  thick = ones thick;
  semi = tt;
  a1 = zero_written;
  a2 = zero_written;
  a3 = zero_written;
  a4 = zero_written;
  a5 = zero_written;
  a6 = zero_written;
  a7 = zero_written;
  a8 = zero_written;
}

asphere_written : IsWrittenSurface asphere
asphere_written = record {
  curv = tenth (pos 1);
  conic = zero_written;
  thick = ones (pos 10);
  semi = ones (pos 8);
  a1 = zero_written;
  a2 = fine (pos 1);
  a3 = zero_written;
  a4 = zero_written;
  a5 = zero_written;
  a6 = zero_written;
  a7 = zero_written;
  a8 = zero_written;
}

mirror_written : IsWrittenSurface mirror
mirror_written = record {
  curv = tenth (negsuc 0);
  conic = ones (negsuc 0);
  thick = ones (negsuc 4);
  semi = tt;
  a1 = zero_written;
  a2 = zero_written;
  a3 = zero_written;
  a4 = zero_written;
  a5 = zero_written;
  a6 = zero_written;
  a7 = zero_written;
  a8 = zero_written;
}

-- ---- one surface in air
module _ (f : Surface) where
  surfaces_written : IsWrittenSurface f → All IsWrittenSurface (alone f).lens.surfaces.items
  surfaces_written known zero d h = object_written
  surfaces_written known (suc zero) d h = known
  surfaces_written known (suc (suc zero)) d h = flat_written (pos 0)
  surfaces_written known (suc (suc (suc k))) d h = absurd (omega arith)

  media : HasMedia (alone f)
  media = record { count = refl; known = all; mirrors = mirrors }
    where
      all : All IsKnown (alone f).media.items
      all zero d h = tt
      all (suc zero) d h = tt
      all (suc (suc k)) d h = absurd (omega arith)

      mirrors : (j : ℕ) → IsTrue (reflects (alone f) j) → slice_index_or (alone f).media.items j Air ≡ Air
      mirrors zero h = refl
      mirrors (suc zero) h = refl
      mirrors (suc (suc j)) h = refl

  no_box : HasBox (alone f)
  no_box = record {
    box = record {
      count = omega arith;
      deltas = λ k d h. absurd (omega arith);
      places = λ k d h. absurd (omega arith);
      once = λ i j d h k. absurd (omega arith);
    };
    mirrors = λ j h. refl;
  }

  index : HasGoodIndex (alone f) 1 → (j : ℕ) → j < 2 → HasGoodIndex (alone f) j
  unfolding operations ends iv_widen dec_floor dec_ceil dec_span
  index behind zero h = refl
  index behind (suc zero) h = behind
  index behind (suc (suc j)) h = absurd (omega arith)

  alone_well_formed : whole_fault (alone f).lens ≡ None → IsWrittenSurface f → HasGoodIndex (alone f) 1 → IsWellFormed (alone f)
  unfolding whole ◌*Q◌
  alone_well_formed sound known behind = record {
    lens = record { whole = sound; written = record { surfaces = surfaces_written known; waves = λ k d h. absurd (omega arith) } };
    media = media;
    wave = refl;
    residual = refl;
    width = refl;
    toler = no_box;
    index = λ j h k. index behind j h;
  }

pub asphere_well_formed : IsWellFormed (alone asphere)
unfolding whole_fault operations ends iv_widen dec_floor dec_ceil dec_span dec_shifted zone zone_span norm least_power whole ◌*Q◌
asphere_well_formed = alone_well_formed asphere refl asphere_written refl

pub mirror_well_formed : IsWellFormed (alone mirror)
unfolding whole_fault operations ends iv_widen dec_floor dec_ceil dec_span
mirror_well_formed = alone_well_formed mirror refl mirror_written refl

-- ---- the plate
plate_surfaces : All IsWrittenSurface plate.lens.surfaces.items
plate_surfaces zero d h = object_written
plate_surfaces (suc zero) d h = flat_written (pos 4)
plate_surfaces (suc (suc zero)) d h = flat_written (pos 1)
plate_surfaces (suc (suc (suc zero))) d h = flat_written (pos 0)
plate_surfaces (suc (suc (suc (suc k)))) d h = absurd (omega arith)

plate_media : HasMedia plate
plate_media = record { count = refl; known = all; mirrors = mirrors }
  where
    all : All IsKnown plate.media.items
    all zero d h = tt
    all (suc zero) d h = inl refl
    all (suc (suc zero)) d h = tt
    all (suc (suc (suc k))) d h = absurd (omega arith)

    mirrors : (j : ℕ) → IsTrue (reflects plate j) → slice_index_or plate.media.items j Air ≡ Air
    mirrors zero h = refl
    mirrors (suc zero) h = cc
    mirrors (suc (suc zero)) h = refl
    mirrors (suc (suc (suc j))) h = refl

plate_box : HasBox plate
plate_box = record {
  box = record {
    count = omega arith;
    deltas = deltas;
    places = places;
    once = λ i j d h k. absurd (omega arith);
  };
  mirrors = mirrors;
}
  where
    deltas : All (λ (t : Tol). IsTrue (is_not_negative t.delta)) box.list.items
    deltas zero d h = refl
    deltas (suc k) d h = absurd (omega arith)

    places : All (λ (t : Tol). IsTrue (has_place 3 t.kind t.surface)) box.list.items
    places zero d h = refl
    places (suc k) d h = absurd (omega arith)

    mirrors : (j : ℕ) → IsTrue (reflects plate j) → IsTrue (not (has_tolerance box.list.items Indx j))
    mirrors zero h = refl
    mirrors (suc zero) h = cc
    mirrors (suc (suc zero)) h = refl
    mirrors (suc (suc (suc zero))) h = refl
    mirrors (suc (suc (suc (suc j)))) h = cc

-- the roots of 2.25 less and plus a unit at scale 12
root_by : (n r : ℕ) → IsRoot n r → root n ≡ r
root_by n r h = root_unique n (root n) r (root_is n) h

root_low : root 2249999999999000000000000 ≡ 1499999999999
root_low = root_by 2249999999999000000000000 1499999999999 record { low = omega arith; high = omega arith }

root_high : root 2250000000001000000000000 ≡ 1500000000000
root_high = root_by 2250000000001000000000000 1500000000000 record { low = omega arith; high = omega arith }

glass_root : iv_root 12 (record { lo = pos 2249999999999; hi = pos 2250000000001 }) ≡ Val (record { lo = pos 1499999999999; hi = pos 1500000000001 })
unfolding iv_root ends
glass_root = rw (root_low, root_high) refl

glass_index : index_rows (operations 12) 12 (Of glass) (record { lo = pos 500000000000; hi = pos 500000000000 }) (pos 1) ≡ Val (record { lo = pos 1499999999999; hi = pos 1500000000001 })
unfolding index_rows operations ends iv_square iv_plus iv_times iv_over iv_widen dec_floor dec_ceil dec_span
glass_index = glass_root

plate_index : (j : ℕ) → j < 3 → HasGoodIndex plate j
unfolding operations ends iv_widen dec_floor dec_ceil dec_span
plate_index zero h = refl
plate_index (suc zero) h = ap (λ (r : Step Ends). is_good_index (r >>= λ n. with_symbol (operations 12) 12 plate Indx 1 n)) glass_index
plate_index (suc (suc zero)) h = refl
plate_index (suc (suc (suc j))) h = absurd (omega arith)

pub plate_well_formed : IsWellFormed plate
unfolding whole_fault whole ◌*Q◌
plate_well_formed = record {
  lens = record { whole = refl; written = record { surfaces = plate_surfaces; waves = λ k d h. absurd (omega arith) } };
  media = plate_media;
  wave = refl;
  residual = refl;
  width = refl;
  toler = plate_box;
  index = λ j h k. plate_index j h;
}
