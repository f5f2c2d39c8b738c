-- Rows that turn on a side: the side to which rays travel, and that of the normal.
use Rattle.std.specs.Prelude.{◌≡◌, pos, negsuc, true, [], ◌∷◌, Some}
use Rattle.examples.specs.ComputedAspheres.{asphere_setup, into_glass}
use Rattle.examples.specs.ComputedRows.{Gives, place, headed, about, ones, tenths, ray_sloped}
use Rattle.examples.specs.Worked.{far_object, setup_of, level_ray}
use Rattle.examples.specs.WorkedRow.{span}
use Rattle.lensmodel.specs.Setup.Values.{plane}
use Rattle.lensmodel.specs.declared.glass.Medium.TheVariants.{Air}
use Rattle.lensmodel.specs.declared.row.Word.TheVariants.{Passes, Outside}
use Rattle.lensmodel.specs.declared.setup.Setup.{Setup}

abbrev pub two_mirrors_setup : Setup
two_mirrors_setup =
    setup_of
    (far_object
    ∷ record plane { thick = Some record { mant = negsuc 19; exp = pos 0 }; mirror = true }
    ∷ record plane { curv = record { mant = negsuc 0; exp = negsuc 0 }; thick = Some (ones 5); mirror = true }
    ∷ plane ∷ [])
    (Air ∷ Air ∷ Air ∷ [])

-- a mirror of curvature 1/10, at the height 9: its ray goes on forwards, and so there is no chain to the image
abbrev pub SteepMirror : Type 0
SteepMirror =
    Gives 6 (asphere_setup (record plane { curv = tenths 1; thick = Some record { mant = negsuc 4; exp = pos 0 }; mirror = true })) (level_ray (ones 9)) (Outside 2)
    (headed (place (span (pos 80999748) (pos 81000254)) (about 14) (span (pos 8999986) (pos 9000014)) (span (pos 5641061) (pos 5641175)) (span (pos 5641053) (pos 5641183))) (about 4) (span (pos 784533) (pos 784669)) (span (pos 619948) (pos 620057)) ∷ [])

-- a plane mirror, and such a one behind it: its ray goes on backwards
abbrev pub TwoMirrors : Type 0
TwoMirrors =
    Gives 6 two_mirrors_setup (level_ray (ones 9)) (Outside 3)
    (headed (place (span (pos 80999946) (pos 81000056)) (about 3) (span (pos 8999997) (pos 9000003)) (about 1) (about 4)) (about 5) (about 32) (span (negsuc 1000014) (negsuc 999822))
    ∷ headed (place (span (pos 80984664) (pos 81015338)) (about 159) (span (pos 8999148) (pos 9000852)) (span (negsuc 5642906) (negsuc 5639330)) (span (pos 25638939) (pos 25647454))) (about 20) (span (pos 783305) (pos 785773)) (span (negsuc 620958) (negsuc 618945))
    ∷ [])

-- with the residual 10^-4 a ray nearly along a plane: the interval of its cosine would reach below 0
abbrev pub GrazingCoarse : Type 0
GrazingCoarse =
    Gives 9 (record (into_glass plane) { res = 4; width = record { mant = pos 1; exp = pos 2 } }) (ray_sloped (record { mant = pos 2; exp = pos 4 })) Passes
    (headed (place (span (pos 0) (pos 13503784042)) (about 435414) (about 3674749495) (about 50000) (about 3354228933)) (about 133380) (span (pos 595799860) (pos 730803273)) (span (pos 744834067) (pos 745572745))
    ∷ place (span (pos 0) (pos 13505961398)) (about 535450) (about 3675045729) (about 50000) (about 3354731718)
    ∷ [])
