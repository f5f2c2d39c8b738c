-- Rows of worked setups: their scales, words and places, number for number.
use Rattle.std.specs.Prelude.{◌≡◌, ℕ, ℤ, pos, negsuc, neg_ℤ, [], ◌∷◌, List, Some, None}
use Rattle.fixdec.specs.Decimal.{Decimal}
use Rattle.fixdec.specs.Ends.{Ends}
use Rattle.lensmodel.specs.Rows.Ray.{row}
use Rattle.lensmodel.specs.Setup.Values.{zero_decimal, plane}
use Rattle.examples.specs.Worked.{far_object, setup_of, plane_setup, slanted_ray, sphere_setup, axis_ray, glass_setup, rim_setup, level_ray, mirror_setup}
use Rattle.examples.specs.WorkedRow.{span, slanted_vertex, slanted_image, axis_vertex, axis_image}
use Rattle.lensmodel.specs.declared.glass.Medium.TheVariants.{Air}
use Rattle.lensmodel.specs.declared.launch.Launch.{Launch}
use Rattle.lensmodel.specs.declared.launch.Launch.TheVariants.{Plain, Pupil}
use Rattle.lensmodel.specs.declared.row.Place.{Place}
use Rattle.lensmodel.specs.declared.row.Word.{Word}
use Rattle.lensmodel.specs.declared.row.Word.TheVariants.{Passes, Vignetted, Outside, Tir}
use Rattle.lensmodel.specs.declared.setup.Setup.{Setup}

-- ---- how rows are written
-- raw numbers from -n to n
abbrev pub about : ℕ → Ends
about n = span (neg_ℤ (pos n)) (pos n)

-- a place without a heading: rho, x, y, z and path
abbrev pub place : Ends → Ends → Ends → Ends → Ends → Place
place rho x y z path = record { rho = rho; x = x; y = y; z = z; path = path; heading = None }

-- the place with a heading
abbrev pub headed : Place → Ends → Ends → Ends → Place
headed p l m n = record p { heading = Some (record { l = l; m = m; n = n }) }

-- what the row of a ray is: its scale, its word and its places
abbrev pub Gives : ℕ → Setup → Launch → Word → List Place → Type 0
Gives scale s ray word places = row s ray ≡ record { scale = scale; word = word; places = record { items = places } }

-- ---- decimals, rays and setups
-- n, and n tenths
abbrev pub ones : ℕ → Decimal
ones n = record { mant = pos n; exp = pos 0 }

abbrev pub tenths : ℕ → Decimal
tenths n = record { mant = pos n; exp = negsuc 0 }

-- from the vertex with a slope in y
abbrev pub ray_sloped : Decimal → Launch
ray_sloped q = Plain zero_decimal zero_decimal zero_decimal q

-- a sphere of curvature 1/10 in air, and the image 10 behind it
abbrev pub air_sphere_setup : Setup
air_sphere_setup = setup_of (far_object ∷ record plane { curv = tenths 1; thick = Some record { mant = pos 1; exp = pos 1 } } ∷ plane ∷ []) (Air ∷ Air ∷ [])

-- a plane in air, and the image that far behind it
abbrev pub plane_before : Decimal → Setup
plane_before d = setup_of (far_object ∷ record plane { thick = Some d } ∷ plane ∷ []) (Air ∷ Air ∷ [])

-- a setup with another bound on widths: ten to the power -k
abbrev pub bounded_by : ℤ → Setup → Setup
bounded_by k s = record s { width = record { mant = pos 1; exp = k } }

-- ---- rows that reach the image
abbrev pub SlantedPlane : Type 0
SlantedPlane = Gives 6 plane_setup slanted_ray Passes (slanted_vertex ∷ slanted_image ∷ [])

-- the distance of the object doesn't matter: rays are given in the vertex plane of surface 1
abbrev pub near_object : Setup
near_object = setup_of (record plane { thick = Some (ones 7) } ∷ record plane { thick = Some (ones 4) } ∷ plane ∷ []) (Air ∷ Air ∷ [])

abbrev pub NearObject : Type 0
NearObject = Gives 6 near_object slanted_ray Passes (slanted_vertex ∷ slanted_image ∷ [])

abbrev pub SphereHeight : Type 0
SphereHeight =
    Gives 6 air_sphere_setup (level_ray (ones 6)) Passes
    (headed (place (span (pos 35999916) (pos 36000086)) (about 7) (span (pos 5999993) (pos 6000007)) (span (pos 1999991) (pos 2000012)) (span (pos 1999987) (pos 2000017))) (about 1) (about 1) (span (pos 999999) (pos 1000001))
    ∷ place (span (pos 35999688) (pos 36000314)) (about 26) (span (pos 5999974) (pos 6000026)) (about 1) (span (pos 9999964) (pos 10000038))
    ∷ [])

abbrev pub GlassAxis : Type 0
GlassAxis = Gives 6 sphere_setup axis_ray Passes (axis_vertex ∷ axis_image ∷ [])

-- a ray that a mirror turns: N is below 0 behind it, and x and y at the focus hold 0
abbrev pub MirrorFocus : Type 0
MirrorFocus =
    Gives 6 mirror_setup (level_ray (ones 2)) Passes
    (headed (place (span (pos 3999988) (pos 4000014)) (about 3) (span (pos 1999997) (pos 2000003)) (span (negsuc 200001) (negsuc 199997)) (span (negsuc 200004) (negsuc 199994))) (about 4) (span (negsuc 384628) (negsuc 384601)) (span (negsuc 923101) (negsuc 923054))
    ∷ place (span (pos 0) (pos 2)) (about 30) (span (negsuc 127) (pos 135)) (about 1) (span (pos 4999848) (pos 5000134))
    ∷ [])

-- ---- rows that end before it
-- past the edge of the sphere there is no crossing
abbrev pub PastSphere : Type 0
PastSphere = Gives 6 sphere_setup (level_ray (ones 11)) (Outside 1) []

-- a ray that first meets the sphere behind its equator, where w is below 0, isn't one that crosses it
abbrev pub BehindEquator : Type 0
BehindEquator =
    Gives 6 air_sphere_setup (Plain zero_decimal (ones 19) zero_decimal (record { mant = negsuc 6; exp = negsuc 0 })) (Outside 1) []

-- a slope past the critical angle
abbrev pub TotalReflection : Type 0
TotalReflection = Gives 6 glass_setup (ray_sloped (tenths 12)) (Tir 1) (place (span (pos 0) (pos 2)) (about 3) (about 5) (about 1) (about 8) ∷ [])

-- a rim of 5: a ray outside it, and one inside
abbrev pub OutsideRim : Type 0
OutsideRim =
    Gives 6 rim_setup (level_ray (tenths 51)) (Vignetted 1) (place (span (pos 26009969) (pos 26010032)) (about 3) (span (pos 5099997) (pos 5100003)) (about 1) (about 4) ∷ [])

abbrev pub InsideRim : Type 0
InsideRim =
    Gives 6 rim_setup (level_ray (tenths 49)) Passes
    (headed (place (span (pos 24009970) (pos 24010031)) (about 3) (span (pos 4899997) (pos 4900003)) (about 1) (about 4)) (about 1) (about 1) (span (pos 999999) (pos 1000001))
    ∷ place (span (pos 24009862) (pos 24010139)) (about 14) (span (pos 4899986) (pos 4900014)) (about 1) (span (pos 3999988) (pos 4000013))
    ∷ [])

-- ---- rays by their point in the pupil plane, which is 2 behind the vertex and has the radius 3
-- the point 2/3 below the axis: x = -0.2 and y = -2.4
abbrev pub FanRay : Type 0
FanRay =
    Gives 6 plane_setup (Pupil (tenths 1) (tenths 2) (record { num = zero_decimal; den = 1 }) (record { num = record { mant = negsuc 1; exp = pos 0 }; den = 3 }) (ones 2) (ones 3)) Passes
    (headed (place (span (pos 5799974) (pos 5800022)) (span (negsuc 200002) (negsuc 199996)) (span (negsuc 2400003) (negsuc 2399994)) (about 1) (about 4)) (span (pos 97588) (pos 97592)) (span (pos 195178) (pos 195182)) (span (pos 975899) (pos 975901))
    ∷ place (span (pos 2599928) (pos 2600069)) (span (pos 199982) (pos 200018)) (span (negsuc 1600018) (negsuc 1599979)) (about 1) (span (pos 4098768) (pos 4098793))
    ∷ [])

-- the point 0.5, 0.25: x = 1.3 and y = 1.15
abbrev pub AimedRay : Type 0
AimedRay =
    Gives 6 plane_setup (Pupil (tenths 1) (record { mant = negsuc 1; exp = negsuc 0 }) (record { num = tenths 5; den = 1 }) (record { num = record { mant = pos 25; exp = negsuc 1 }; den = 1 }) (ones 2) (ones 3)) Passes
    (headed (place (span (pos 3012485) (pos 3012515)) (span (pos 1299997) (pos 1300003)) (span (pos 1149997) (pos 1150003)) (about 1) (about 4)) (span (pos 97588) (pos 97592)) (span (negsuc 195181) (negsuc 195177)) (span (pos 975899) (pos 975901))
    ∷ place (span (pos 3012425) (pos 3012575)) (span (pos 1699982) (pos 1700018)) (span (pos 349982) (pos 350018)) (about 1) (span (pos 4098768) (pos 4098793))
    ∷ [])
