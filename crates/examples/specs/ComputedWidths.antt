-- Rows of which one kind of interval alone is wider than the bound at scale 6, and none at scale 9: so the row is at scale 9.
use Rattle.std.specs.Prelude.{◌≡◌, ℕ, pos, negsuc, [], ◌∷◌}
use Rattle.examples.specs.ComputedEdges.{millionths}
use Rattle.examples.specs.ComputedRows.{Gives, place, headed, about, ones, tenths, ray_sloped}
use Rattle.examples.specs.Worked.{flat_glass, far_object, setup_of, axis_ray, level_ray}
use Rattle.examples.specs.WorkedRow.{span}
use Rattle.lensmodel.specs.Setup.Values.{zero_decimal, plane}
use Rattle.lensmodel.specs.declared.glass.Medium.{Medium}
use Rattle.lensmodel.specs.declared.glass.Medium.TheVariants.{Air, Of}
use Rattle.lensmodel.specs.declared.launch.Launch.TheVariants.{Plain}
use Rattle.lensmodel.specs.declared.row.Word.TheVariants.{Passes}
use Rattle.lensmodel.specs.declared.setup.Setup.{Setup}
use Rattle.lensmodel.specs.declared.surface.Surface.{Surface}

-- a medium of index 1/100, in which paths are short
abbrev pub thin : Medium
thin = Of record flat_glass { c0 = record { mant = pos 1; exp = negsuc 3 } }

-- a surface between two media, at the image's vertex
abbrev pub single : Surface → Medium → Medium → Setup
single surface before behind = setup_of (far_object ∷ surface ∷ plane ∷ []) (before ∷ behind ∷ [])

-- a sphere of some curvature
abbrev pub sphere_of : ℕ → Surface
sphere_of c = record plane { curv = ones c }

-- a setup whose bound on widths is so many millionths
abbrev pub bounded : ℕ → Setup → Setup
bounded n s = record s { width = millionths n }

-- the path, along the axis
abbrev pub WidePath : Type 0
WidePath =
    Gives 9 (bounded 15 (single plane Air Air)) axis_ray Passes
    (headed (place (span (pos 0) (pos 2)) (about 3) (about 3) (about 1) (about 4)) (about 1) (about 1) (span (pos 999999999) (pos 1000000001))
    ∷ place (span (pos 0) (pos 2)) (about 6) (about 6) (about 1) (about 9)
    ∷ [])

-- x, of a ray that leans to that side
abbrev pub WideX : Type 0
WideX =
    Gives 9 (bounded 15 (single plane thin thin)) (Plain zero_decimal zero_decimal (ones 1) zero_decimal) Passes
    (headed (place (span (pos 0) (pos 2)) (about 5) (about 3) (about 1) (about 2)) (span (pos 707106779) (pos 707106783)) (about 1) (span (pos 707106780) (pos 707106782))
    ∷ place (span (pos 0) (pos 2)) (about 11) (about 6) (about 1) (about 4)
    ∷ [])

-- and y
abbrev pub WideY : Type 0
WideY =
    Gives 9 (bounded 15 (single plane thin thin)) (ray_sloped (ones 1)) Passes
    (headed (place (span (pos 0) (pos 2)) (about 3) (about 5) (about 1) (about 2)) (about 1) (span (pos 707106779) (pos 707106783)) (span (pos 707106780) (pos 707106782))
    ∷ place (span (pos 0) (pos 2)) (about 6) (about 11) (about 1) (about 4)
    ∷ [])

-- z, at the edge of a sphere
abbrev pub WideZ : Type 0
WideZ =
    Gives 9 (bounded 100 (single (sphere_of 5) thin thin)) (level_ray (tenths 2)) Passes
    (headed (place (span (pos 39999998) (pos 40000003)) (about 3) (span (pos 199999997) (pos 200000003)) (span (pos 199954835) (pos 200000014)) (span (pos 1999537) (pos 2000012))) (about 1) (about 1) (span (pos 999999999) (pos 1000000001))
    ∷ place (span (pos 39999997) (pos 40000004)) (about 6) (span (pos 199999994) (pos 200000006)) (about 1) (about 475)
    ∷ [])

-- L, of a ray that a sphere bends to that side
abbrev pub WideL : Type 0
WideL =
    Gives 9 (bounded 200 (single (sphere_of 2) thin Air)) (Plain (tenths 2) zero_decimal (ones 1) zero_decimal) Passes
    (headed (place (span (pos 89999986) (pos 90000019)) (span (pos 299999977) (pos 300000029)) (about 3) (span (pos 99999981) (pos 100000025)) (span (pos 1414205) (pos 1414223))) (span (negsuc 592051171) (negsuc 592050846)) (about 9) (span (pos 805900399) (pos 805900580))
    ∷ place (span (pos 139475704) (pos 139475816)) (span (pos 373464462) (pos 373464609)) (about 7) (about 1) (span (negsuc 122670642) (negsuc 122670533))
    ∷ [])

-- and M
abbrev pub WideM : Type 0
WideM =
    Gives 9 (bounded 200 (single (sphere_of 2) thin Air)) (Plain zero_decimal (tenths 2) zero_decimal (ones 1)) Passes
    (headed (place (span (pos 89999986) (pos 90000019)) (about 3) (span (pos 299999977) (pos 300000029)) (span (pos 99999981) (pos 100000025)) (span (pos 1414205) (pos 1414223))) (about 9) (span (negsuc 592051171) (negsuc 592050846)) (span (pos 805900399) (pos 805900580))
    ∷ place (span (pos 139475704) (pos 139475816)) (about 7) (span (pos 373464462) (pos 373464609)) (about 1) (span (negsuc 122670642) (negsuc 122670533))
    ∷ [])

-- N, along the axis out of glass
abbrev pub WideN : Type 0
WideN =
    Gives 9 (bounded 30 (single plane (Of flat_glass) Air)) axis_ray Passes
    (headed (place (span (pos 0) (pos 2)) (about 3) (about 3) (about 1) (about 6)) (about 5) (about 5) (span (pos 999999973) (pos 1000000028))
    ∷ place (span (pos 0) (pos 2)) (about 6) (about 6) (about 1) (about 11)
    ∷ [])
