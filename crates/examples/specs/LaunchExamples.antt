-- The rays that small fans and grids ask for.
use Rattle.std.specs.Prelude.{◌≡◌, pos, negsuc, [], ◌∷◌}
use Rattle.fixdec.specs.Decimal.{Decimal}
use Rattle.lensmodel.specs.Setup.Launches.{launches, job_launches, part, middle}
use Rattle.lensmodel.specs.Setup.Values.{zero_decimal}
use Rattle.lensmodel.specs.declared.job.Ask.TheVariants.{Fan, Spot, First}
use Rattle.lensmodel.specs.declared.launch.Launch.{Launch}
use Rattle.lensmodel.specs.declared.launch.Launch.TheVariants.{Pupil}
use Rattle.lensmodel.specs.Setup.Ratio.{Ratio}

abbrev pub three : Decimal
three = record { mant = pos 3; exp = pos 0 }

-- through the pupil of radius 3 at vertex 1, along the axis
abbrev pub through : Ratio → Ratio → Launch
through px py = Pupil zero_decimal zero_decimal px py zero_decimal three

-- a fan of two rays to each side
abbrev pub FanOfTwo : Type 0
FanOfTwo = launches (Fan zero_decimal zero_decimal 2 zero_decimal three)
    ≡ through middle (part 2 (negsuc 1)) ∷ through middle (part 2 (negsuc 0)) ∷ through middle (part 2 (pos 0)) ∷ through middle (part 2 (pos 1)) ∷ through middle (part 2 (pos 2))
    ∷ through (part 2 (negsuc 1)) middle ∷ through (part 2 (negsuc 0)) middle ∷ through (part 2 (pos 0)) middle ∷ through (part 2 (pos 1)) middle ∷ through (part 2 (pos 2)) middle ∷ []

-- a grid of one ray to each side, after a line that asks for none
abbrev pub GridOfOne : Type 0
GridOfOne = job_launches (First zero_decimal zero_decimal ∷ Spot zero_decimal zero_decimal 1 zero_decimal three ∷ [])
    ≡ through (part 1 (negsuc 0)) (part 1 (negsuc 0)) ∷ through (part 1 (negsuc 0)) (part 1 (pos 0)) ∷ through (part 1 (negsuc 0)) (part 1 (pos 1))
    ∷ through (part 1 (pos 0)) (part 1 (negsuc 0)) ∷ through (part 1 (pos 0)) (part 1 (pos 0)) ∷ through (part 1 (pos 0)) (part 1 (pos 1))
    ∷ through (part 1 (pos 1)) (part 1 (negsuc 0)) ∷ through (part 1 (pos 1)) (part 1 (pos 0)) ∷ through (part 1 (pos 1)) (part 1 (pos 1)) ∷ []
