-- Rows where a case of a definition turns: a bound that is just met, a rim at the image, and glass between equal glass.
use Rattle.std.specs.Prelude.{◌≡◌, ℕ, pos, negsuc, true, [], ◌∷◌, Some}
use Rattle.fixdec.specs.Decimal.{Decimal}
use Rattle.examples.specs.ComputedBoxes.{boxed}
use Rattle.examples.specs.ComputedRows.{Gives, place, headed, about, ones, tenths}
use Rattle.lensmodel.specs.Setup.Values.{plane}
use Rattle.examples.specs.Worked.{flat_name, flat_glass, far_object, setup_of, plane_setup, slanted_ray, level_ray}
use Rattle.examples.specs.WorkedRow.{span, slanted_heading, slanted_vertex, slanted_image}
use Rattle.lensmodel.specs.declared.glass.Medium.TheVariants.{Air, Of}
use Rattle.lensmodel.specs.declared.row.Word.TheVariants.{Passes, Vignetted, Undecided, Wide}
use Rattle.lensmodel.specs.declared.setup.Setup.{Setup}
use Rattle.lensmodel.specs.declared.tolerance.Tol.{Tol}
use Rattle.lensmodel.specs.declared.tolerance.TolKind.TheVariants.{Curv, Indx}

-- millionths
abbrev pub millionths : ℕ → Decimal
millionths n = record { mant = pos n; exp = negsuc 5 }

-- the widest interval of the slanted ray, rho at the image, is 278 millionths wide: it isn't wider than 278, but
-- than 277, and so the row is at scale 9
abbrev pub BoundMet : Type 0
BoundMet = Gives 6 (record plane_setup { width = millionths 278 }) slanted_ray Passes (slanted_vertex ∷ slanted_image ∷ [])

abbrev pub BoundPassed : Type 0
BoundPassed =
    Gives 9 (record plane_setup { width = millionths 277 }) slanted_ray Passes
    (headed (place (span (pos 0) (pos 2)) (about 3) (about 3) (about 1) (about 4)) (about 1) (span (pos 599999998) (pos 600000002)) (span (pos 799999999) (pos 800000001))
    ∷ place (span (pos 8999999862) (pos 9000000140)) (about 14) (span (pos 2999999977) (pos 3000000023)) (about 1) (span (pos 4999999985) (pos 5000000016))
    ∷ [])

-- a plane in air, and the image with a rim
abbrev pub rimmed_image : Decimal → Setup
rimmed_image semi = setup_of (far_object ∷ record plane { thick = Some (ones 4) } ∷ record plane { semi = Some semi; rim = true } ∷ []) (Air ∷ Air ∷ [])

-- the slanted ray comes to the height 3 at the image: a rim of 3 leaves it undecided at surface 2
abbrev pub ImageTie : Type 0
ImageTie =
    Gives 15 (rimmed_image (ones 3)) slanted_ray (Undecided 2 (span (pos 8999999999924184) (pos 9000000000075800)) (span (pos 9000000000000000) (pos 9000000000000000)))
    (headed (place (span (pos 0) (pos 2)) (about 1002) (about 2127) (about 500) (about 2876)) (about 1000) (span (pos 599999999998699) (pos 600000000001300)) (span (pos 799999999999599) (pos 800000000000400))
    ∷ place (span (pos 8999999999924184) (pos 9000000000075800)) (about 7008) (span (pos 2999999999987364) (pos 3000000000012633)) (about 500) (span (pos 4999999999991124) (pos 5000000000008883))
    ∷ [])

-- and one of 2.9 stops it there
abbrev pub ImageRim : Type 0
ImageRim = Gives 6 (rimmed_image (tenths 29)) slanted_ray (Vignetted 2) (slanted_vertex ∷ slanted_image ∷ [])

-- a plane between glass FLAT and glass FLAT
abbrev pub inside_glass : Setup
inside_glass =
    setup_of (record far_object { glass = Some flat_name } ∷ record plane { thick = Some (ones 4); glass = Some flat_name } ∷ plane ∷ []) (Of flat_glass ∷ Of flat_glass ∷ [])

-- the slanted ray's heading stays as it was at the start
abbrev pub EqualGlass : Type 0
EqualGlass =
    Gives 6 inside_glass slanted_ray Passes
    (record (place (span (pos 0) (pos 2)) (about 3) (about 3) (about 1) (about 6)) { heading = Some slanted_heading }
    ∷ place (span (pos 8999862) (pos 9000140)) (about 14) (span (pos 2999977) (pos 3000023)) (about 1) (span (pos 7499973) (pos 7500029))
    ∷ [])

-- a box without a tolerance on index keeps the media equal
abbrev pub EqualInBox : Type 0
EqualInBox =
    Gives 6 (boxed (record { kind = Curv; surface = 1; delta = ones 0 }) (ones 1) inside_glass) slanted_ray Passes
    (headed (place (about 2) (about 3) (about 3) (about 1) (about 8)) (about 1) (span (pos 599997) (pos 600003)) (span (pos 799998) (pos 800002))
    ∷ place (span (pos 8999788) (pos 9000212)) (about 18) (span (pos 2999965) (pos 3000035)) (about 1) (span (pos 7499953) (pos 7500047))
    ∷ [])

abbrev pub index_tolerance : ℕ → Tol
index_tolerance surface = record { kind = Indx; surface = surface; delta = record { mant = pos 1; exp = negsuc 2 } }

-- one on the index before the plane, or behind it, makes it bend the ray
abbrev pub TolerantBefore : Type 0
TolerantBefore =
    Gives 6 (boxed (index_tolerance 0) (ones 1) inside_glass) slanted_ray Passes
    (headed (place (about 2) (about 3) (about 3) (about 1) (about 8)) (about 4) (span (pos 599589) (pos 600411)) (span (pos 799669) (pos 800331))
    ∷ place (span (pos 8980122) (pos 9019878)) (about 30) (span (pos 2996689) (pos 3003311)) (about 1) (span (pos 7496869) (pos 7503131))
    ∷ [])

abbrev pub TolerantBehind : Type 0
TolerantBehind =
    Gives 6 (boxed (index_tolerance 1) (ones 1) inside_glass) slanted_ray Passes
    (headed (place (about 2) (about 3) (about 3) (about 1) (about 8)) (about 4) (span (pos 599589) (pos 600411)) (span (pos 799669) (pos 800331))
    ∷ place (span (pos 8980098) (pos 9019902)) (about 30) (span (pos 2996685) (pos 3003315)) (about 1) (span (pos 7497492) (pos 7502508))
    ∷ [])

-- a plane in air with a rim of half a millionth past 1/2: at scale 6 its square is from 0.25 to 0.250002
abbrev pub rim_half : Setup
rim_half =
    setup_of (far_object ∷ record plane { thick = Some (ones 4); semi = Some record { mant = pos 5000005; exp = negsuc 6 }; rim = true } ∷ plane ∷ []) (Air ∷ Air ∷ [])

-- rho ends where the square begins: the ray passes at scale 6
abbrev pub RimLeastMet : Type 0
RimLeastMet =
    Gives 6 rim_half (level_ray (millionths 499995)) Passes
    (headed (place (span (pos 249992) (pos 250000)) (about 3) (span (pos 499992) (pos 499998)) (about 1) (about 4)) (about 1) (about 1) (span (pos 999999) (pos 1000001))
    ∷ place (span (pos 249981) (pos 250011)) (about 14) (span (pos 499981) (pos 500009)) (about 1) (span (pos 3999988) (pos 4000013))
    ∷ [])

-- rho ends within the square: the ray passes at scale 9
abbrev pub RimLeastPassed : Type 0
RimLeastPassed =
    Gives 9 rim_half (level_ray (millionths 499996)) Passes
    (headed (place (span (pos 249995997) (pos 249996005)) (about 3) (span (pos 499995997) (pos 499996003)) (about 1) (about 4)) (about 1) (about 1) (span (pos 999999999) (pos 1000000001))
    ∷ place (span (pos 249995986) (pos 249996016)) (about 14) (span (pos 499995986) (pos 499996014)) (about 1) (span (pos 3999999988) (pos 4000000013))
    ∷ [])

-- rho begins where the square ends: the ray is vignetted at scale 9
abbrev pub RimGreatestMet : Type 0
RimGreatestMet =
    Gives 9 rim_half (level_ray (millionths 500005)) (Vignetted 1)
    (place (span (pos 250004997) (pos 250005005)) (about 3) (span (pos 500004997) (pos 500005003)) (about 1) (about 4) ∷ [])
