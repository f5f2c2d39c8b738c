-- The lines of a prescription, and of the tags of its file that aren't used. Cited by the command read.
use Rattle.std.specs.Prelude.{ℕ, zero, suc, List, [], ◌∷◌, ◌++◌, codes, length, nat_eq, unsigned_abs, Option, Some, None, option_map, if◌then◌else◌}
use Rattle.fixdec.specs.Decimal.{Decimal}
use Rattle.fixdec.specs.DecimalText.{dec_text}
use Rattle.fixdec.specs.Ends.{Ends}
use Rattle.lensmodel.specs.Setup.Values.{coefficients_of, rim_of}
use Rattle.lensmodel.specs.Setup.Zones.{surface_zone}
use Rattle.lensmodel.specs.Texts.Pieces.{newline, name_text, span_text, bound_text, spaced_number, spaced}
use Rattle.lensmodel.specs.declared.prescription.Prescription.{Prescription}
use Rattle.lensmodel.specs.declared.surface.Surface.{Surface}
use Rattle.lensmodel.specs.declared.surface.SurfaceKind.{SurfaceKind}
use Rattle.lensmodel.specs.declared.surface.SurfaceKind.TheVariants.{Standard, EvenAsph}

-- lens surfaces n stop s primary i
abbrev pub lens_line : Prescription → List ℕ
lens_line lens =
    codes "lens surfaces" ++ spaced_number (length lens.surfaces.items) ++ codes " stop" ++ spaced_number lens.stop
    ++ codes " primary" ++ spaced_number lens.primary ++ newline

-- ---- a surface
abbrev pub kind_text : SurfaceKind → List ℕ
kind_text Standard = codes "STANDARD"
kind_text EvenAsph = codes "EVENASPH"

abbrev pub thickness_text : Option Decimal → List ℕ
thickness_text None = codes "INFINITY"
thickness_text (Some d) = dec_text d

-- a mirror's mark, - for air, or the name of the glass
abbrev pub glass_text : Option (List ℕ) → List ℕ
glass_text None = codes "-"
glass_text (Some name) = name_text name

abbrev pub medium_text : Surface → List ℕ
medium_text f = if f.mirror then codes "MIRROR" else glass_text (option_map (λ n. n.items) f.glass)

-- surf j TYPE c DEC k DEC
abbrev pub surface_shape : ℕ → Surface → List ℕ
surface_shape j f = codes "surf" ++ spaced_number j ++ codes " " ++ kind_text f.kind ++ codes " c " ++ dec_text f.curv ++ codes " k " ++ dec_text f.conic

-- d DEC rim DEC glass NAME
abbrev pub surface_rest : Surface → List ℕ
surface_rest f = codes " d " ++ thickness_text f.thick ++ codes " rim " ++ bound_text (rim_of f) ++ codes " glass " ++ medium_text f

abbrev pub surface_line : ℕ → Surface → List ℕ
surface_line j f = surface_shape j f ++ surface_rest f ++ newline

-- parm j i DEC, of a coefficient that isn't 0
abbrev pub coefficient_line : ℕ → ℕ → Decimal → List ℕ
coefficient_line j i a =
    if nat_eq (unsigned_abs a.mant) 0 then [] else codes "parm" ++ spaced_number j ++ spaced_number i ++ spaced a ++ newline

-- those of the coefficients from a_i on
abbrev pub coefficient_lines : ℕ → ℕ → List Decimal → List ℕ
coefficient_lines j i [] = []
coefficient_lines j i (a ∷ more) = coefficient_line j i a ++ coefficient_lines j (suc i) more

-- zone j [a,b]; the object has none
abbrev pub zone_line : ℕ → Option Ends → List ℕ
zone_line zero ends = []
zone_line (suc j) None = []
zone_line (suc j) (Some ends) = codes "zone" ++ spaced_number (suc j) ++ codes " " ++ span_text 9 ends ++ newline

abbrev pub asphere_lines : SurfaceKind → ℕ → Surface → List ℕ
asphere_lines Standard j f = []
asphere_lines EvenAsph j f = coefficient_lines j 1 (coefficients_of EvenAsph f) ++ zone_line j (surface_zone f)

abbrev pub surface_lines : ℕ → List Surface → List ℕ
surface_lines j [] = []
surface_lines j (f ∷ more) = surface_line j f ++ asphere_lines f.kind j f ++ surface_lines (suc j) more

-- ---- wavelengths and tags
-- wave i DEC, where it is given
abbrev pub wave_line : ℕ → Option Decimal → List ℕ
wave_line i None = []
wave_line i (Some wave) = codes "wave" ++ spaced_number i ++ spaced wave ++ newline

abbrev pub wave_lines : ℕ → List (Option Decimal) → List ℕ
wave_lines i [] = []
wave_lines i (w ∷ more) = wave_line i w ++ wave_lines (suc i) more

-- unused TAG count
abbrev pub unused_lines : List (List ℕ × ℕ) → List ℕ
unused_lines [] = []
unused_lines (t ∷ more) = codes "unused " ++ name_text t.0 ++ spaced_number t.1 ++ newline ++ unused_lines more

-- the whole report
unfoldable pub lens_text : Prescription → List (List ℕ × ℕ) → List ℕ
lens_text lens unused = lens_line lens ++ surface_lines 0 lens.surfaces.items ++ wave_lines 1 lens.waves.items ++ unused_lines unused
