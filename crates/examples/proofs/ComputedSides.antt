-- Rows that turn on a side, by computing.
use Rattle.std.proofs.Common.{refl}
use Rattle.std.specs.Prelude.{pos, negsuc, true, Some}
use Rattle.examples.specs.ComputedAspheres.{asphere_setup, into_glass}
use Rattle.examples.specs.ComputedRows.{ones, tenths, ray_sloped}
use Rattle.examples.specs.ComputedSides.{SteepMirror, TwoMirrors, GrazingCoarse, two_mirrors_setup}
use Rattle.examples.specs.Worked.{level_ray}
use Rattle.lensmodel.specs.Setup.Values.{plane}
use Rattle.examples.proofs.ComputedRows.{opened}
use Rattle.examples.proofs.TriedCells.{row_by_trying}

pub steep_mirror : SteepMirror
unfolding opened
steep_mirror = row_by_trying (asphere_setup (record plane { curv = tenths 1; thick = Some record { mant = negsuc 4; exp = pos 0 }; mirror = true })) (level_ray (ones 9)) _ refl refl

pub two_mirrors : TwoMirrors
unfolding opened
two_mirrors = row_by_trying two_mirrors_setup (level_ray (ones 9)) _ refl refl

pub grazing_coarse : GrazingCoarse
unfolding opened
grazing_coarse = row_by_trying (record (into_glass plane) { res = 4; width = record { mant = pos 1; exp = pos 2 } }) (ray_sloped (record { mant = pos 2; exp = pos 4 })) _ refl refl
