-- The scale of a row, the order of its words, and the residual, on worked setups.
use Rattle.std.specs.Prelude.{◌≡◌, pos, negsuc, [], ◌∷◌, List}
use Rattle.fixdec.specs.declared.step.Why.TheVariants.{Zero, Range}
use Rattle.examples.specs.ComputedRows.{Gives, place, headed, about, bounded_by, ones, tenths, ray_sloped, plane_before}
use Rattle.examples.specs.Worked.{level_ray, rim_setup, glass_setup, plane_setup, sphere_setup, slanted_ray, axis_ray}
use Rattle.lensmodel.specs.Rows.Constants.{residual_units}
use Rattle.examples.specs.WorkedRow.{span}
use Rattle.lensmodel.specs.Setup.Values.{zero_decimal}
use Rattle.lensmodel.specs.declared.launch.Launch.TheVariants.{Plain}
use Rattle.lensmodel.specs.declared.row.Place.{Place}
use Rattle.lensmodel.specs.declared.row.Word.TheVariants.{Passes, Vignetted, Undecided, Wide, Lost}

-- the places of a ray that meets the rim of 5 itself, at scale 15
abbrev pub rim_places : List Place
rim_places =
    headed (place (span (pos 24999999999989980) (pos 25000000000010022)) (about 1002) (span (pos 4999999999998998) (pos 5000000000001002)) (about 500) (about 2501)) (about 1000) (about 1000) (span (pos 999999999999499) (pos 1000000000000500))
    ∷ place (span (pos 24999999999939920) (pos 25000000000060082)) (about 6008) (span (pos 4999999999993992) (pos 5000000000006008)) (about 500) (span (pos 3999999999992499) (pos 4000000000007506))
    ∷ []

-- it is decided at no scale, and its row is that of the greatest: rho and the rim's square overlap there
abbrev pub RimTie : Type 0
RimTie =
    Gives 15 rim_setup (level_ray (ones 5)) (Undecided 1 (span (pos 24999999999989980) (pos 25000000000010022)) (span (pos 25000000000000000) (pos 25000000000000000))) rim_places

-- where the bound on widths is less than its widths, the same ray is wide and not undecided
abbrev pub WideBeforeUndecided : Type 0
WideBeforeUndecided = Gives 15 (bounded_by (negsuc 11) rim_setup) (level_ray (ones 5)) Wide rim_places

-- whatever the bound, a ray outside the rim is vignetted at the first scale
abbrev pub VignettedBeforeWide : Type 0
VignettedBeforeWide =
    Gives 6 (bounded_by (negsuc 11) rim_setup) (level_ray (tenths 51)) (Vignetted 1) (place (span (pos 26009969) (pos 26010032)) (about 3) (span (pos 5099997) (pos 5100003)) (about 1) (about 4) ∷ [])

-- the slanted ray under the bound 10^-4: wide at scale 6, and so its row is at scale 9
abbrev pub FinerPasses : Type 0
FinerPasses =
    Gives 9 (bounded_by (negsuc 3) plane_setup) slanted_ray Passes
    (headed (place (span (pos 0) (pos 2)) (about 3) (about 3) (about 1) (about 4)) (about 1) (span (pos 599999998) (pos 600000002)) (span (pos 799999999) (pos 800000001))
    ∷ place (span (pos 8999999862) (pos 9000000140)) (about 14) (span (pos 2999999977) (pos 3000000023)) (about 1) (span (pos 4999999985) (pos 5000000016))
    ∷ [])

-- a ray that touches the sphere at its edge is lost at every scale, and its row is that of the greatest
abbrev pub SphereEdge : Type 0
SphereEdge =
    Gives 15 sphere_setup (level_ray (record { mant = pos 1; exp = pos 1 })) (Lost 1 Zero)
    (place (span (pos 99999999999779760) (pos 100000000000220242)) (about 11012) (span (pos 9999999999988988) (pos 10000000000011012)) (span (pos 9999984814490617) (pos 10000000000013024)) (span (pos 9999984814483617) (pos 10000000000020035))
    ∷ [])

-- a ray at the critical angle is lost where the next surface divides by N
abbrev pub GrazingRay : Type 0
GrazingRay =
    Gives 15 glass_setup (ray_sloped (record { mant = pos 894427190999916; exp = negsuc 14 })) (Lost 2 Zero)
    (headed (place (span (pos 0) (pos 2)) (about 1002) (about 2343) (about 500) (about 4020)) (about 2503) (span (pos 999999999995772) (pos 1000000000004231)) (span (negsuc 5244) (pos 2704261151))
    ∷ [])

-- the residual in units of a scale: ten to the power of their difference, and never less than one
abbrev pub CoarseResidual : Type 0
CoarseResidual = (residual_units 6 12 ∷ residual_units 9 12 ∷ residual_units 12 12 ∷ residual_units 15 12 ∷ []) ≡ (pos 1 ∷ pos 1 ∷ pos 1 ∷ pos 1000 ∷ [])

abbrev pub FineResidual : Type 0
FineResidual = (residual_units 6 4 ∷ residual_units 12 14 ∷ residual_units 15 14 ∷ []) ≡ (pos 100 ∷ pos 1 ∷ pos 10 ∷ [])

-- an image far away is wide at the scales 6 and 9 and lost at 12 and 15: the row is that of 9, the greatest that isn't lost
abbrev pub FarImage : Type 0
FarImage =
    Gives 9 (plane_before (record { mant = pos 1; exp = pos 7 })) axis_ray Wide
    (headed (place (span (pos 0) (pos 2)) (about 3) (about 3) (about 1) (about 4)) (about 1) (about 1) (span (pos 999999999) (pos 1000000001))
    ∷ place (span (pos 0) (pos 800002)) (about 20000006) (about 20000006) (about 1) (span (pos 9999999989999992) (pos 10000000010000009))
    ∷ [])

-- a thickness past the cap is lost in the preparation of the image
abbrev pub FarthestImage : Type 0
FarthestImage =
    Gives 15 (plane_before (record { mant = pos 1; exp = pos 30 })) axis_ray (Lost 2 Range) (headed (place (span (pos 0) (pos 2)) (about 1002) (about 1002) (about 500) (about 2501)) (about 1000) (about 1000) (span (pos 999999999999499) (pos 1000000000000500)) ∷ [])

-- with the residual 10^-14 a ray 10^-10 inside the rim passes at scale 12
abbrev pub FinestResidual : Type 0
FinestResidual =
    Gives 12 (record rim_setup { res = 14 }) (level_ray (record { mant = pos 49999999999; exp = negsuc 9 })) Passes
    (headed (place (span (pos 24999999998970) (pos 24999999999032)) (about 3) (span (pos 4999999999897) (pos 4999999999903)) (about 1) (about 4)) (about 1) (about 1) (span (pos 999999999999) (pos 1000000000001))
    ∷ place (span (pos 24999999998860) (pos 24999999999142)) (about 14) (span (pos 4999999999886) (pos 4999999999914)) (about 1) (span (pos 3999999999988) (pos 4000000000013))
    ∷ [])

-- one less far away is lost at 15 alone, and one farther away at all but 6
abbrev pub LessFarImage : Type 0
LessFarImage =
    Gives 12 (bounded_by (negsuc 11) (plane_before (record { mant = pos 1; exp = pos 5 }))) axis_ray Wide
    (headed (place (span (pos 0) (pos 2)) (about 3) (about 3) (about 1) (about 4)) (about 1) (about 1) (span (pos 999999999999) (pos 1000000000001))
    ∷ place (span (pos 0) (pos 2)) (about 200006) (about 200006) (about 1) (span (pos 99999999999899992) (pos 100000000000100009))
    ∷ [])

abbrev pub FartherImage : Type 0
FartherImage =
    Gives 6 (plane_before (record { mant = pos 1; exp = pos 11 })) axis_ray Wide
    (headed (place (span (pos 0) (pos 2)) (about 3) (about 3) (about 1) (about 4)) (about 1) (about 1) (span (pos 999999) (pos 1000001))
    ∷ place (span (pos 0) (pos 80000000004800002)) (about 200000000006) (about 200000000006) (about 1) (span (pos 99999900000099991) (pos 100000100000100009))
    ∷ [])

-- the slanted ray under the bound 2 10^-10 passes at scale 15 alone
abbrev pub FinestPasses : Type 0
FinestPasses =
    Gives 15 (record plane_setup { width = record { mant = pos 2; exp = negsuc 9 } }) slanted_ray Passes
    (headed (place (span (pos 0) (pos 2)) (about 1002) (about 2127) (about 500) (about 2876)) (about 1000) (span (pos 599999999998699) (pos 600000000001300)) (span (pos 799999999999599) (pos 800000000000400))
    ∷ place (span (pos 8999999999924184) (pos 9000000000075800)) (about 7008) (span (pos 2999999999987364) (pos 3000000000012633)) (about 500) (span (pos 4999999999991124) (pos 5000000000008883))
    ∷ [])

-- a ray that starts past the cap is lost at surface 1
abbrev pub StartLost : Type 0
StartLost = Gives 15 plane_setup (Plain (record { mant = pos 1; exp = pos 30 }) zero_decimal zero_decimal zero_decimal) (Lost 1 Range) []
