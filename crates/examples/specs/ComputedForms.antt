-- The words in linear arithmetic: rows of worked setups with a box that is empty, or whose one
-- tolerance is 0.
use Rattle.std.specs.Prelude.{◌≡◌, ℤ, pos, List, [], ◌∷◌, replicate, Some}
use Rattle.fixdec.specs.Form.{LinearForm, lin_minus, lin_times, lin_over}
use Rattle.fixdec.specs.declared.step.Step.TheVariants.{Val}
use Rattle.examples.specs.ComputedAspheres.{asphere_setup, bent}
use Rattle.examples.specs.ComputedBoxes.{boxed}
use Rattle.examples.specs.ComputedRows.{Gives, place, headed, about, ones, tenths, ray_sloped}
use Rattle.examples.specs.Worked.{level_ray, rim_setup, glass_setup, plane_setup, sphere_setup, slanted_ray}
use Rattle.examples.specs.WorkedRow.{span}
use Rattle.lensmodel.specs.declared.launch.Launch.{Launch}
use Rattle.lensmodel.specs.declared.row.Word.TheVariants.{Passes, Vignetted, Outside, Tir, Undecided}
use Rattle.lensmodel.specs.declared.setup.Setup.{Setup}
use Rattle.lensmodel.specs.declared.tolerance.TolKind.TheVariants.{Curv}

-- a setup with the tolerance 0 on the curvature of surface 1
abbrev pub rigid : Setup → Setup
rigid s = boxed (record { kind = Curv; surface = 1; delta = ones 0 }) s.width s

-- an empty box: the row is in linear arithmetic too
abbrev pub EmptyBox : Type 0
EmptyBox =
    Gives 6 (record plane_setup { toler = Some (record { list = record { items = [] } }) }) slanted_ray Passes
    (headed (place (about 2) (about 3) (about 3) (about 1) (about 5)) (about 1) (span (pos 599997) (pos 600003)) (span (pos 799998) (pos 800002))
    ∷ place (span (pos 8999788) (pos 9000212)) (about 18) (span (pos 2999965) (pos 3000035)) (about 1) (span (pos 4999976) (pos 5000024))
    ∷ [])

abbrev pub PlaneInForms : Type 0
PlaneInForms =
    Gives 6 (rigid plane_setup) slanted_ray Passes
    (headed (place (about 2) (about 3) (about 3) (about 1) (about 5)) (about 1) (span (pos 599997) (pos 600003)) (span (pos 799998) (pos 800002))
    ∷ place (span (pos 8999788) (pos 9000212)) (about 18) (span (pos 2999965) (pos 3000035)) (about 1) (span (pos 4999976) (pos 5000024))
    ∷ [])

abbrev pub AsphereInForms : Type 0
AsphereInForms =
    Gives 6 (rigid (asphere_setup bent)) (level_ray (ones 6)) Passes
    (headed (place (span (pos 35999914) (pos 36000086)) (about 7) (span (pos 5999993) (pos 6000007)) (span (pos 2012944) (pos 2012976)) (span (pos 2012936) (pos 2012984))) (about 1) (about 1) (span (pos 999998) (pos 1000002))
    ∷ place (span (pos 35999698) (pos 36000302)) (about 25) (span (pos 5999975) (pos 6000025)) (about 1) (span (pos 9999940) (pos 10000060))
    ∷ [])

abbrev pub OutsideInForms : Type 0
OutsideInForms = Gives 6 (rigid sphere_setup) (level_ray (ones 11)) (Outside 1) []

abbrev pub ReflectedInForms : Type 0
ReflectedInForms = Gives 6 (rigid glass_setup) (ray_sloped (tenths 12)) (Tir 1) (place (about 2) (about 3) (about 5) (about 1) (about 9) ∷ [])

abbrev pub VignettedInForms : Type 0
VignettedInForms =
    Gives 6 (rigid rim_setup) (level_ray (tenths 51)) (Vignetted 1) (place (span (pos 26009968) (pos 26010032)) (about 3) (span (pos 5099997) (pos 5100003)) (about 1) (about 4) ∷ [])

abbrev pub TieInForms : Type 0
TieInForms =
    Gives 15 (rigid rim_setup) (level_ray (ones 5)) (Undecided 1 (span (pos 24999999999989978) (pos 25000000000010022)) (span (pos 25000000000000000) (pos 25000000000000000)))
    (headed (place (span (pos 24999999999989978) (pos 25000000000010022)) (about 1002) (span (pos 4999999999998998) (pos 5000000000001002)) (about 500) (about 2501)) (about 1000) (about 1000) (span (pos 999999999999499) (pos 1000000000000501))
    ∷ place (span (pos 24999999999939918) (pos 25000000000060082)) (about 6008) (span (pos 4999999999993992) (pos 5000000000006008)) (about 500) (span (pos 3999999999992494) (pos 4000000000007506))
    ∷ [])

-- ---- linear arithmetic at scale 6: the form 2 + s0/10, less itself, over itself and times itself
-- a first coefficient, and 0 for the other symbols
abbrev pub first_symbol : ℤ → List ℤ
first_symbol k = k ∷ replicate 31 (pos 0)

abbrev pub two_and_symbol : LinearForm
two_and_symbol = record { centre = pos 2000000; coefficients = first_symbol (pos 100000); radius = 0 }

abbrev pub FormDifference : Type 0
FormDifference = lin_minus two_and_symbol two_and_symbol ≡ Val (record { centre = pos 0; coefficients = first_symbol (pos 0); radius = 0 })

abbrev pub FormQuotient : Type 0
FormQuotient = lin_over 6 two_and_symbol two_and_symbol ≡ Val (record { centre = pos 1000000; coefficients = first_symbol (pos 0); radius = 0 })

abbrev pub FormProduct : Type 0
FormProduct = lin_times 6 two_and_symbol two_and_symbol ≡ Val (record { centre = pos 4000000; coefficients = first_symbol (pos 400000); radius = 10000 })
