-- First-order values and Seidel sums of small lenses of one surface, at scale 15.
use Rattle.std.specs.Prelude.{◌≡◌, pos, negsuc, [], ◌∷◌}
use Rattle.fixdec.specs.declared.step.Step.TheVariants.{Val, Lost}
use Rattle.fixdec.specs.declared.step.Why.TheVariants.{Zero}
use Rattle.lensmodel.specs.Paraxial.FirstOrderRows.{first_order}
use Rattle.lensmodel.specs.Paraxial.SeidelRows.{seidel_sums}
use Rattle.examples.specs.SmallLenses.{whole_dec, tenths, interval}
use Rattle.examples.specs.Worked.{plane_setup, sphere_setup, mirror_setup}
use Rattle.lensmodel.specs.Setup.Values.{zero_decimal}

-- a plane in air bends no ray: the values are lost where they divide by its power, and the pupil is at the stop
abbrev pub PlaneInAir : Type 0
PlaneInAir = first_order plane_setup (whole_dec (pos 1)) zero_decimal ≡ record {
  scale = 15;
  efl = Lost Zero;
  bfl = Lost Zero;
  ffl = Lost Zero;
  front = Lost Zero;
  back = Lost Zero;
  enp = Val (interval (negsuc 999) (pos 1000));
  trail = record {
    items =
        (Val (interval (pos 1000000000000000) (pos 1000000000000000)), Val (interval (negsuc 999) (pos 1000)))
        ∷ (Val (interval (pos 999999999995000) (pos 1000000000005000)), Val (interval (negsuc 999) (pos 1000))) ∷ [];
  };
}

-- a sphere of radius 10 with an index of 1.5 behind it has the focal lengths 30 and 20
abbrev pub GlassSphere : Type 0
GlassSphere = first_order sphere_setup (whole_dec (pos 1)) zero_decimal ≡ record {
  scale = 15;
  efl = Val (interval (pos 29999999999342100) (pos 30000000000657601));
  bfl = Val (interval (pos 29999999999342100) (pos 30000000000657601));
  ffl = Val (interval (negsuc 20000000000472860) (negsuc 19999999999526929));
  front = Val (interval (negsuc 915914) (pos 915925));
  back = Val (interval (negsuc 1315500) (pos 1315501));
  enp = Val (interval (negsuc 999) (pos 1000));
  trail = record {
    items =
        (Val (interval (pos 1000000000000000) (pos 1000000000000000)), Val (interval (negsuc 33333333334030) (negsuc 33333333332635)))
        ∷ (Val (interval (pos 666666666658690) (pos 666666666674640)), Val (interval (negsuc 33333333334030) (negsuc 33333333332635))) ∷ [];
  };
}

-- a mirror of radius 10 has the focal length 5, in front of it
abbrev pub MirrorFocus : Type 0
MirrorFocus = first_order mirror_setup (whole_dec (pos 1)) zero_decimal ≡ record {
  scale = 15;
  efl = Val (interval (negsuc 5000000000030000) (negsuc 4999999999969999));
  bfl = Val (interval (negsuc 5000000000030000) (negsuc 4999999999969999));
  ffl = Val (interval (negsuc 5000000000035000) (negsuc 4999999999964999));
  front = Val (interval (negsuc 65000) (pos 65001));
  back = Val (interval (negsuc 60000) (pos 60001));
  enp = Val (interval (negsuc 999) (pos 1000));
  trail = record {
    items =
        (Val (interval (pos 1000000000000000) (pos 1000000000000000)), Val (interval (pos 199999999999000) (pos 200000000001000)))
        ∷ (Val (interval (negsuc 5999) (pos 6000)), Val (interval (pos 199999999999000) (pos 200000000001000))) ∷ [];
  };
}

-- S1 holds 1/4500, and S4 holds 1/3000
abbrev pub SphereSums : Type 0
SphereSums = seidel_sums sphere_setup (whole_dec (pos 1)) zero_decimal zero_decimal (tenths (pos 1)) ≡ record {
  scale = 15;
  per = record { items = (record { s1 = Val (interval (pos 222222221217) (pos 222222223227)); s2 = Val (interval (pos 222222221217) (pos 222222223227)); s3 = Val (interval (pos 222222221217) (pos 222222223227)); s4 = Val (interval (pos 333333332333) (pos 333333334334)); s5 = Val (interval (pos 555555554555) (pos 555555556556)) }) ∷ [] };
  whole = record { s1 = Val (interval (pos 222222221217) (pos 222222223227)); s2 = Val (interval (pos 222222221217) (pos 222222223227)); s3 = Val (interval (pos 222222221217) (pos 222222223227)); s4 = Val (interval (pos 333333332333) (pos 333333334334)); s5 = Val (interval (pos 555555554555) (pos 555555556556)) };
}

-- a paraboloid has no spherical aberration
abbrev pub ParaboloidSums : Type 0
ParaboloidSums = seidel_sums mirror_setup (whole_dec (pos 1)) zero_decimal zero_decimal (tenths (pos 1)) ≡ record {
  scale = 15;
  per = record { items = (record { s1 = Val (interval (negsuc 1009) (pos 1010)); s2 = Val (interval (negsuc 2000000001009) (negsuc 1999999998989)); s3 = Val (interval (pos 1999999998990) (pos 2000000001010)); s4 = Val (interval (negsuc 2000000000999) (negsuc 1999999998999)); s5 = Val (interval (negsuc 999) (pos 1000)) }) ∷ [] };
  whole = record { s1 = Val (interval (negsuc 1009) (pos 1010)); s2 = Val (interval (negsuc 2000000001009) (negsuc 1999999998989)); s3 = Val (interval (pos 1999999998990) (pos 2000000001010)); s4 = Val (interval (negsuc 2000000000999) (negsuc 1999999998999)); s5 = Val (interval (negsuc 999) (pos 1000)) };
}
