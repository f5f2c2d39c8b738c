-- Rows of worked even aspheres in interval arithmetic, number for number.
use Rattle.std.specs.Prelude.{◌≡◌, pos, negsuc, [], ◌∷◌, Some}
use Rattle.fixdec.specs.declared.step.Why.TheVariants.{Root, Range}
use Rattle.examples.specs.ComputedRows.{Gives, place, headed, about, ones, tenths}
use Rattle.examples.specs.Worked.{flat_glass, level_ray, far_object, setup_of}
use Rattle.fixdec.specs.IntervalOperations.{operations}
use Rattle.lensmodel.specs.Rows.Outcome.{outcome_at}
use Rattle.lensmodel.specs.Setup.Values.{zero_decimal, plane}
use Rattle.examples.specs.WorkedRow.{span}
use Rattle.lensmodel.specs.declared.glass.Medium.TheVariants.{Air, Of}
use Rattle.lensmodel.specs.declared.launch.Launch.{Launch}
use Rattle.lensmodel.specs.declared.launch.Launch.TheVariants.{Plain}
use Rattle.lensmodel.specs.declared.row.Word.TheVariants.{Passes, Outside, Lost}
use Rattle.lensmodel.specs.declared.setup.Setup.{Setup}
use Rattle.lensmodel.specs.declared.surface.Surface.{Surface}
use Rattle.lensmodel.specs.declared.surface.SurfaceKind.TheVariants.{EvenAsph}

-- an even asphere of curvature 1/10, whose semi-diameter is 8 and whose coefficients are 0: a sphere
abbrev pub spherical : Surface
spherical = record plane { kind = EvenAsph; curv = tenths 1; thick = Some record { mant = pos 1; exp = pos 1 }; semi = Some (ones 8) }

-- such a surface in air, and the image 10 behind its vertex
abbrev pub asphere_setup : Surface → Setup
asphere_setup surface = setup_of (far_object ∷ surface ∷ plane ∷ []) (Air ∷ Air ∷ [])

-- the second coefficient is 10^-5
abbrev pub bent : Surface
bent = record spherical { a2 = record { mant = pos 1; exp = negsuc 4 } }

-- at the height 6 the sag of the sphere is 2
abbrev pub SphericalHeight : Type 0
SphericalHeight =
    Gives 6 (asphere_setup spherical) (level_ray (ones 6)) Passes
    (headed (place (span (pos 35999916) (pos 36000086)) (about 7) (span (pos 5999993) (pos 6000007)) (span (pos 1999989) (pos 2000011)) (span (pos 1999985) (pos 2000016))) (about 1) (about 1) (span (pos 999999) (pos 1000001))
    ∷ place (span (pos 35999688) (pos 36000314)) (about 26) (span (pos 5999974) (pos 6000026)) (about 1) (span (pos 9999963) (pos 10000039))
    ∷ [])

-- and that of the other one 2.01296
abbrev pub BentHeight : Type 0
BentHeight =
    Gives 6 (asphere_setup bent) (level_ray (ones 6)) Passes
    (headed (place (span (pos 35999916) (pos 36000086)) (about 7) (span (pos 5999993) (pos 6000007)) (span (pos 2012947) (pos 2012973)) (span (pos 2012942) (pos 2012978))) (about 1) (about 1) (span (pos 999999) (pos 1000001))
    ∷ place (span (pos 35999700) (pos 36000302)) (about 25) (span (pos 5999975) (pos 6000025)) (about 1) (span (pos 9999958) (pos 10000042))
    ∷ [])

-- a height of 9 is past the zone, which is 8.8
abbrev pub PastZone : Type 0
PastZone = Gives 6 (asphere_setup bent) (level_ray (ones 9)) (Outside 1) []

-- a height of 8.8 is the zone itself: rho ends with its square
abbrev pub AtZone : Type 0
AtZone =
    Gives 6 (asphere_setup bent) (level_ray (tenths 88)) Passes
    (headed (place (span (pos 77439771) (pos 77440000)) (about 13) (span (pos 8799987) (pos 8800013)) (span (pos 5310195) (pos 5310272)) (span (pos 5310187) (pos 5310280))) (about 1) (about 1) (span (pos 999999) (pos 1000001))
    ∷ place (span (pos 77439560) (pos 77440442)) (about 25) (span (pos 8799975) (pos 8800025)) (about 1) (span (pos 9999907) (pos 10000093))
    ∷ [])

-- a bowl, of curvature 0 and with the first coefficient 1/10, and a steep ray that crosses it twice
abbrev pub bowl : Surface
bowl = record plane { kind = EvenAsph; thick = Some (ones 4); semi = Some (ones 5); a1 = tenths 1 }

abbrev pub steep_ray : Launch
steep_ray = Plain zero_decimal (record { mant = pos 375; exp = negsuc 2 }) zero_decimal (ones 5)

-- its window makes squares past the cap
abbrev pub BowlLost : Type 0
BowlLost = Gives 15 (asphere_setup bowl) steep_ray (Lost 1 Range) []

-- the same bowl as a paraboloid: the ray crosses it at the height 1/2, where the sag is 0.025
abbrev pub paraboloid : Surface
paraboloid = record plane { curv = tenths 2; conic = record { mant = negsuc 0; exp = pos 0 }; thick = Some (ones 4) }

abbrev pub BowlAsConic : Type 0
BowlAsConic =
    Gives 9 (asphere_setup paraboloid) steep_ray Passes
    (headed (place (span (pos 249999970) (pos 250000032)) (about 3) (span (pos 499999970) (pos 500000030)) (span (pos 24999996) (pos 25000004)) (span (pos 127475460) (pos 127475516))) (about 1) (span (pos 980580664) (pos 980580686)) (span (pos 196116133) (pos 196116137))
    ∷ place (span (pos 415140604951) (pos 415140645051)) (about 29) (span (pos 20374999508) (pos 20375000492)) (about 1) (span (pos 20396077802) (pos 20396078336))
    ∷ [])

-- at scale 12 its squares are within the cap, and no slope round tells the two crossings apart
abbrev pub BowlRoot : Type 0
BowlRoot = outcome_at (operations 12) 12 (asphere_setup bowl) steep_ray ≡ record { scale = 12; word = Lost 1 Root; places = [] }

abbrev pub wide_bowl : Surface
wide_bowl = record plane { kind = EvenAsph; thick = Some record { mant = pos 1; exp = pos 1 }; semi = Some (ones 9); a1 = tenths 1 }

abbrev pub far_conic : Surface
far_conic = record plane { kind = EvenAsph; curv = tenths 1; conic = ones 4; thick = Some (ones 4); semi = Some (ones 5); a2 = record { mant = pos 1; exp = negsuc 3 } }

-- a surface into glass FLAT
abbrev pub into_glass : Surface → Setup
into_glass surface = setup_of (far_object ∷ surface ∷ plane ∷ []) (Air ∷ Of flat_glass ∷ [])

-- a bowl so wide that a ray at its edge crosses it in the last of the 64 cells, where the sag is nearly the window's end
abbrev pub LastCell : Type 0
LastCell =
    Gives 6 (asphere_setup wide_bowl) (level_ray (record { mant = pos 989; exp = negsuc 1 })) Passes
    (headed (place (span (pos 97811664) (pos 97812537)) (about 22) (span (pos 9889978) (pos 9890022)) (span (pos 9781156) (pos 9781264)) (span (pos 9781144) (pos 9781276))) (about 1) (about 1) (span (pos 999999) (pos 1000001))
    ∷ place (span (pos 97811605) (pos 97812596)) (about 25) (span (pos 9889975) (pos 9890025)) (about 1) (span (pos 9999876) (pos 10000124))
    ∷ [])

-- an even asphere of the conic constant 4, into glass
abbrev pub ConicAsphere : Type 0
ConicAsphere =
    Gives 6 (into_glass far_conic) (level_ray (ones 3)) Passes
    (headed (place (span (pos 8999976) (pos 9000026)) (about 4) (span (pos 2999996) (pos 3000004)) (span (pos 524852) (pos 524868)) (span (pos 524849) (pos 524871))) (about 3) (span (negsuc 134671) (negsuc 134642)) (span (pos 990867) (pos 990919))
    ∷ place (span (pos 6389125) (pos 6389875)) (about 20) (span (pos 2527672) (pos 2527820)) (about 1) (span (pos 5785308) (pos 5785649))
    ∷ [])

abbrev pub small_bowl : Surface
small_bowl = record plane { kind = EvenAsph; thick = Some (ones 1); semi = Some record { mant = pos 5000005; exp = negsuc 6 }; a1 = tenths 1 }

-- a zone whose square is from 0.3025 to 0.302502 at scale 6, and a ray whose rho begins between them
abbrev pub ZoneSquare : Type 0
ZoneSquare =
    Gives 6 (asphere_setup small_bowl) (level_ray (record { mant = pos 550005; exp = negsuc 5 })) Passes
    (headed (place (span (pos 302502) (pos 302502)) (about 3) (span (pos 550002) (pos 550008)) (span (pos 30246) (pos 30255)) (span (pos 30243) (pos 30258))) (about 1) (about 1) (span (pos 999999) (pos 1000001))
    ∷ place (span (pos 302497) (pos 302515)) (about 7) (span (pos 549998) (pos 550012)) (about 1) (span (pos 999984) (pos 1000016))
    ∷ [])

-- at the edge of a sphere that is written as an even asphere no slope round is made
abbrev pub AsphereEdge : Type 0
AsphereEdge =
    Gives 15 (into_glass (record spherical { semi = Some record { mant = pos 1; exp = pos 1 } })) (level_ray (record { mant = pos 1; exp = pos 1 })) (Lost 1 Root)
    []
