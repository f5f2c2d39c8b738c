-- The parts of a meeting with an even asphere, number for number: the window, what the cells leave of it, and the slope rounds.
use Rattle.std.specs.Prelude.{◌≡◌, ℤ, pos, negsuc, [], ◌∷◌, List, Some}
use Rattle.fixdec.specs.Ends.{Ends}
use Rattle.fixdec.specs.IntervalOperations.{operations}
use Rattle.fixdec.specs.Steps.{◌>>=◌}
use Rattle.fixdec.specs.declared.step.Step.{Step}
use Rattle.fixdec.specs.declared.step.Step.TheVariants.{Val}
use Rattle.examples.specs.ComputedAspheres.{asphere_setup, into_glass, bent}
use Rattle.examples.specs.ComputedFolds.{folded_setup, skew_ray, decimal}
use Rattle.examples.specs.ComputedRows.{Gives, place, headed, about, ones, tenths}
use Rattle.examples.specs.Worked.{level_ray}
use Rattle.lensmodel.specs.Rows.Cells.{window_row, cell_rows, pruned}
use Rattle.lensmodel.specs.Rows.Crossing.{arrival_rows}
use Rattle.lensmodel.specs.Rows.Preparation.{preparation_rows}
use Rattle.lensmodel.specs.Rows.SlopeRounds.{hulls, line_hulls, zone2_of, next_rows}
use Rattle.lensmodel.specs.Rows.Start.{start_rows}
use Rattle.lensmodel.specs.Setup.Values.{zero_decimal, plane}
use Rattle.examples.specs.WorkedRow.{span}
use Rattle.lensmodel.specs.declared.launch.Launch.{Launch}
use Rattle.lensmodel.specs.declared.launch.Launch.TheVariants.{Plain}
use Rattle.lensmodel.specs.declared.row.Word.TheVariants.{Passes}
use Rattle.lensmodel.specs.declared.setup.Setup.{Setup}
use Rattle.lensmodel.specs.declared.surface.Surface.{Surface}
use Rattle.lensmodel.specs.declared.surface.SurfaceKind.TheVariants.{EvenAsph}

-- at surface 1 and at scale 6, the residual being e units: the window, what two prunings leave of it, the sag over that, and the
-- answer of the first round
abbrev pub first_parts : ℤ → Setup → Launch → Step (List Ends)
first_parts e s ray = do
  incoming ← start_rows (operations 6) 6 ray e
  face ← preparation_rows (operations 6) 6 s e 0
  arrival ← arrival_rows (operations 6) face incoming e
  w0 ← window_row 6 (hulls (operations 6) face) (zone2_of (operations 6) face) e
  w1 ← pruned 6 (hulls (operations 6) face) (zone2_of (operations 6) face) (line_hulls (operations 6) arrival.line) e w0
  w2 ← pruned 6 (hulls (operations 6) face) (zone2_of (operations 6) face) (line_hulls (operations 6) arrival.line) e w1
  sag ← cell_rows 6 (hulls (operations 6) face) (zone2_of (operations 6) face) (line_hulls (operations 6) arrival.line) e w2
  z ← next_rows (operations 6) 6 face arrival.line e w2
  Val (w0 ∷ w1 ∷ w2 ∷ sag ∷ z ∷ [])

-- of the bent asphere and the ray at the height 6
abbrev pub BentParts : Type 0
BentParts = first_parts (pos 1) (asphere_setup bent) (level_ray (ones 6)) ≡ Val (span (negsuc 7844001) (pos 7844002) ∷ span (pos 1961000) (pos 2206125) ∷ span (pos 2010791) (pos 2014621) ∷ span (pos 2012951) (pos 2012969) ∷ span (pos 2012947) (pos 2012973) ∷ [])

-- of the asphere with eight coefficients and the skew ray
abbrev pub FrontParts : Type 0
FrontParts = first_parts (pos 1) folded_setup skew_ray ≡ Val (span (negsuc 757748801) (pos 757748802) ∷ span (pos 0) (pos 47359300) ∷ span (pos 0) (pos 739989) ∷ span (pos 278368) (pos 289075) ∷ span (pos 283128) (pos 283155) ∷ [])

-- a steep skew ray near the zone of an asphere whose conic constant is 4, with the residual 10^-3: a thousand units
abbrev pub far_asphere : Surface
far_asphere = record plane {
  kind = EvenAsph;
  curv = tenths 1;
  conic = ones 4;
  thick = Some (ones 2);
  semi = Some (ones 3);
  a1 = decimal (pos 2) 2;
  a2 = decimal (pos 2) 3;
}

abbrev pub steep_skew_ray : Launch
steep_skew_ray = Plain (tenths 12) (tenths 19) (tenths 5) (tenths 8)

abbrev pub SkewParts : Type 0
SkewParts = first_parts (pos 1000) (into_glass far_asphere) steep_skew_ray ≡ Val (span (negsuc 23090999) (pos 23091000) ∷ span (pos 0) (pos 1443187) ∷ span (pos 924541) (pos 1127489) ∷ span (pos 945201) (pos 1106912) ∷ span (pos 1007837) (pos 1097503) ∷ [])

abbrev pub SkewRow : Type 0
SkewRow =
    Gives 6 (record (into_glass far_asphere) { res = 3; width = record { mant = pos 1; exp = pos 2 } }) steep_skew_ray Passes
    (headed (place (span (pos 10194061) (pos 10794534)) (span (pos 1700526) (pos 1750968)) (span (pos 2702272) (pos 2780044)) (span (pos 1007837) (pos 1094818)) (span (pos 1382479) (pos 1508257))) (span (negsuc 16952) (pos 23210)) (span (negsuc 23247) (pos 38913)) (span (pos 963350) (pos 1037572))
    ∷ place (span (pos 9997079) (pos 11112934)) (span (pos 1682035) (pos 1775911)) (span (pos 2677282) (pos 2821183)) (about 500) (span (pos 2687625) (pos 3056803))
    ∷ [])

-- a ray so steep on an asphere that the fourth round still narrows the sag, and a fifth one would
abbrev pub steep_asphere : Surface
steep_asphere = record plane { kind = EvenAsph; curv = tenths 1; thick = Some (ones 4); semi = Some (ones 5); a1 = decimal (pos 2) 2; a2 = decimal (pos 5) 4 }

abbrev pub SteepRounds : Type 0
SteepRounds =
    Gives 6 (record (asphere_setup steep_asphere) { width = ones 1 }) (Plain zero_decimal (tenths 21) zero_decimal (tenths 12)) Passes
    (headed (place (span (pos 7901068) (pos 7901475)) (about 4) (span (pos 2810884) (pos 2810956)) (span (pos 592411) (pos 592456)) (span (pos 925370) (pos 925451))) (about 1) (span (pos 768218) (pos 768225)) (span (pos 640183) (pos 640186))
    ∷ place (span (pos 47608633) (pos 47611354)) (about 13) (span (pos 6899901) (pos 6900098)) (about 1) (span (pos 6248106) (pos 6248291))
    ∷ [])
