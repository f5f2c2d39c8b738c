-- A setup that is well formed, indices in and out of their range, ranges at their ends, and rims.
use Rattle.std.specs.Prelude.{◌≡◌, pos, negsuc, true, false, [], ◌∷◌, map, Some}
use Rattle.fixdec.specs.Frac.{whole}
use Rattle.fixdec.specs.IntervalOperations.{operations}
use Rattle.lensmodel.specs.Equations.Chains.{IsInside}
use Rattle.lensmodel.specs.Rows.Constants.{residual_units}
use Rattle.lensmodel.specs.Files.Picking.{is_good_index}
use Rattle.lensmodel.specs.Rows.Preparation.{index_row}
use Rattle.lensmodel.specs.Setup.Ranges.{is_width, is_residual, is_fan, is_grid, has_place}
use Rattle.examples.specs.SmallLenses.{dec, whole_dec, tenths, toleranced}
use Rattle.examples.specs.Worked.{mirror_setup}
use Rattle.lensmodel.specs.Setup.Values.{zero_decimal}
use Rattle.lensmodel.specs.Setup.WellFormed.{IsWellFormed}
use Rattle.lensmodel.specs.declared.tolerance.TolKind.TheVariants.{Curv, Thic, Indx}

-- a mirror alone
abbrev pub MirrorIsWellFormed : Type 0
MirrorIsWellFormed = IsWellFormed mirror_setup

-- air has an index of 1, below which there is no room for a tolerance
abbrev pub AirIndices : Type 0
AirIndices =
    map (λ s. is_good_index (index_row (operations 12) 12 s (residual_units 12 12) 0)) (toleranced 0 zero_decimal ∷ toleranced 0 (tenths (pos 1)) ∷ [])
    ≡ true ∷ false ∷ []

abbrev pub Widths : Type 0
Widths = map is_width (zero_decimal ∷ dec (pos 1) (negsuc 59) ∷ whole_dec (pos 1000) ∷ dec (pos 10001) (negsuc 0) ∷ []) ≡ false ∷ true ∷ true ∷ false ∷ []

abbrev pub Residuals : Type 0
Residuals = map is_residual (3 ∷ 4 ∷ 14 ∷ 15 ∷ []) ≡ false ∷ true ∷ true ∷ false ∷ []

-- how many rays a fan and a grid have to a side
abbrev pub Sides : Type 0
Sides =
    (map is_fan (0 ∷ 1 ∷ 1000 ∷ 1001 ∷ []) ≡ false ∷ true ∷ true ∷ false ∷ [])
    × (map is_grid (0 ∷ 1 ∷ 60 ∷ 61 ∷ []) ≡ false ∷ true ∷ true ∷ false ∷ [])

-- where tolerances can stand on a lens whose image is surface 3
abbrev pub Places : Type 0
Places =
    (map (has_place 3 Curv) (0 ∷ 1 ∷ 3 ∷ 4 ∷ []) ≡ false ∷ true ∷ true ∷ false ∷ [])
    × (map (has_place 3 Thic) (0 ∷ 1 ∷ 2 ∷ 3 ∷ []) ≡ false ∷ true ∷ true ∷ false ∷ [])
    × (map (has_place 3 Indx) (0 ∷ 2 ∷ 3 ∷ []) ≡ true ∷ true ∷ false ∷ [])

-- a tie clears a rim of 5, a rho of 25.000001 doesn't, and a semi-diameter that is no rim clips nothing
pub record Rims : Type 0 where
  pub tie : IsInside true (Some (whole_dec (pos 5))) (whole (pos 25))
  pub beyond : IsInside true (Some (whole_dec (pos 5))) (record { num = pos 25000001; less = 999999 }) → ⊥
  pub no_rim : IsInside false (Some (whole_dec (pos 5))) (whole (pos 26))
