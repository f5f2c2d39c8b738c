-- Lines of numbered things.
use Rattle.std.specs.Prelude.{ℕ, suc, List, [], ◌∷◌, ◌++◌, codes, Option}
use Rattle.fixdec.specs.Decimal.{Decimal}
use Rattle.lensmodel.specs.Texts.Lens as texts
use Rattle.lensmodel.specs.Texts.Pieces.{newline, name_text, spaced_number}
use Rattle.lensmodel.specs.declared.surface.Surface.{Surface}

-- the line of each thing, numbered from i on
abbrev pub numbered : {A : Type 0} → (ℕ → A → List ℕ) → ℕ → List A → List (List ℕ)
numbered line i [] = []
numbered line i (a ∷ more) = line i a ∷ numbered line (suc i) more

-- the lines of a surface
abbrev pub surface_text : ℕ → Surface → List ℕ
surface_text j f = texts.surface_line j f ++ texts.asphere_lines f.kind j f

abbrev pub surface_lines : List Surface → List (List ℕ)
surface_lines surfaces = numbered surface_text 0 surfaces

abbrev pub wave_lines : List (Option Decimal) → List (List ℕ)
wave_lines waves = numbered texts.wave_line 1 waves

-- the line of a tag
abbrev pub unused_line : List ℕ × ℕ → List ℕ
unused_line t = codes "unused " ++ name_text t.0 ++ spaced_number t.1 ++ newline
