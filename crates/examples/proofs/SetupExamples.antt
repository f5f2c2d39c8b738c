-- A setup that is well formed, indices, ranges and rims, worked out.
use Rattle.std.proofs.Common.{◌≡◌, ℕ, zero, suc, refl, arith}
use Rattle.std.proofs.lemmas.Int.{ints}
use Rattle.std.specs.Prelude.{◌<◌, ℤ, slice_index_or, IsTrue, All}
use Rattle.fixdec.specs.Frac.{whole, ◌*Q◌}
use Rattle.fixdec.specs.Interval.{ends, iv_widen}
use Rattle.fixdec.specs.IntervalOperations.{operations}
use Rattle.fixdec.specs.Scaled.{dec_floor, dec_ceil, dec_span}
use Rattle.lensmodel.specs.Equations.Dispersion.{IsKnown}
use Rattle.examples.specs.SetupExamples.{MirrorIsWellFormed, AirIndices, Widths, Residuals, Sides, Places, Rims}
use Rattle.examples.specs.SmallLenses.{whole_dec, tenths}
use Rattle.examples.specs.Worked.{mirror_setup}
use Rattle.lensmodel.specs.Setup.Values.{zero_decimal, reflects}
use Rattle.lensmodel.specs.Setup.WellFormed.{IsWritten, IsWrittenSurface, IsSound, HasMedia, HasBox, HasGoodIndex}
use Rattle.lensmodel.specs.Setup.WholeFaults.{whole_fault}
use Rattle.lensmodel.specs.declared.glass.Medium.TheVariants.{Air}

-- an exponent from -60 to 30
written_0 : IsWritten zero_decimal
written_0 = record { low = omega (arith, ints); high = omega (arith, ints) }

written_1 : (z : ℤ) → IsWritten (whole_dec z)
written_1 z = record { low = omega (arith, ints); high = omega (arith, ints) }

written_tenths : (z : ℤ) → IsWritten (tenths z)
written_tenths z = record { low = omega (arith, ints); high = omega (arith, ints) }

-- ---- a mirror alone is well formed
mirror_surfaces : All IsWrittenSurface mirror_setup.lens.surfaces.items
mirror_surfaces zero d h = record { curv = written_0; conic = written_0; thick = tt; semi = tt; a1 = written_0; a2 = written_0; a3 = written_0; a4 = written_0; a5 = written_0; a6 = written_0; a7 = written_0; a8 = written_0 }
mirror_surfaces (suc zero) d h = record { curv = written_tenths _; conic = written_1 _; thick = written_1 _; semi = tt; a1 = written_0; a2 = written_0; a3 = written_0; a4 = written_0; a5 = written_0; a6 = written_0; a7 = written_0; a8 = written_0 }
mirror_surfaces (suc (suc zero)) d h = record { curv = written_0; conic = written_0; thick = written_0; semi = tt; a1 = written_0; a2 = written_0; a3 = written_0; a4 = written_0; a5 = written_0; a6 = written_0; a7 = written_0; a8 = written_0 }
mirror_surfaces (suc (suc (suc k))) d h = absurd (omega arith)

mirror_sound : IsSound mirror_setup.lens
unfolding whole_fault
mirror_sound = record { whole = refl; written = record { surfaces = mirror_surfaces; waves = λ k d h. absurd (omega arith) } }

mirror_media : HasMedia mirror_setup
mirror_media = record { count = refl; known = known; mirrors = mirrors }
  where
    known : All IsKnown mirror_setup.media.items
    known zero d h = tt
    known (suc zero) d h = tt
    known (suc (suc k)) d h = absurd (omega arith)

    mirrors : (j : ℕ) → IsTrue (reflects mirror_setup j) → slice_index_or mirror_setup.media.items j Air ≡ Air
    mirrors zero h = refl
    mirrors (suc zero) h = refl
    mirrors (suc (suc j)) h = refl

no_box : HasBox mirror_setup
no_box = record {
  box = record {
    count = omega arith;
    deltas = λ k d h. absurd (omega arith);
    places = λ k d h. absurd (omega arith);
    once = λ i j d h k. absurd (omega arith);
  };
  mirrors = λ j h. refl;
}

mirror_index : (j : ℕ) → j < 2 → HasGoodIndex mirror_setup j
unfolding operations ends iv_widen dec_floor dec_ceil dec_span
mirror_index zero h = refl
mirror_index (suc zero) h = refl
mirror_index (suc (suc j)) h = absurd (omega arith)

pub mirror_is_well_formed : MirrorIsWellFormed
unfolding whole ◌*Q◌
mirror_is_well_formed = record {
  lens = mirror_sound;
  media = mirror_media;
  wave = refl;
  residual = refl;
  width = refl;
  toler = no_box;
  index = λ j h k. mirror_index j h;
}

-- ---- indices, ranges, rims
pub air_indices : AirIndices
unfolding operations ends iv_widen dec_floor dec_ceil dec_span
air_indices = refl

pub widths : Widths
unfolding whole ◌*Q◌
widths = refl

pub residuals : Residuals
residuals = refl

pub sides : Sides
sides = (refl, refl)

pub places : Places
places = (refl, refl, refl)

pub rims : Rims
unfolding whole ◌*Q◌
rims = record {
  tie = record { cross = omega (arith, ints) };
  beyond = λ h. let l = h.cross in absurd (omega (arith, ints));
  no_rim = tt;
}
