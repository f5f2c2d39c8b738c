-- Reports as lists of lines.
use Rattle.std.proofs.Common.{◌≡◌, ℕ, suc, List, [], ◌∷◌, ◌++◌, map, Option, Some, refl, ap}
use Rattle.std.specs.List.{concat}
use Rattle.lensmodel.specs.Texts.Book.{glass_line, glass_lines}
use Rattle.lensmodel.specs.Texts.Lens as texts
use Rattle.lensmodel.specs.declared.glass.Glass.{Glass}
use Rattle.fixdec.specs.Decimal.{Decimal}
use Rattle.lensmodel.specs.declared.surface.Surface.{Surface}
use Rattle.lensrun.specs.Numbered.{numbered, surface_text, unused_line}

pub glass_lines-are : (book : List Glass) → concat (map glass_line book) ≡ glass_lines book
glass_lines-are [] = refl
glass_lines-are (g ∷ more) = ap (λ l. glass_line g ++ l) (glass_lines-are more)

pub surface_lines-are : (j : ℕ) (surfaces : List Surface) → concat (numbered surface_text j surfaces) ≡ texts.surface_lines j surfaces
surface_lines-are j [] = refl
surface_lines-are j (f ∷ more) =
    ap (λ l. surface_text j f ++ l) (surface_lines-are (suc j) more)

pub wave_lines-are : (i : ℕ) (waves : List (Option Decimal)) → concat (numbered texts.wave_line i waves) ≡ texts.wave_lines i waves
wave_lines-are i [] = refl
wave_lines-are i (w ∷ more) = ap (λ l. texts.wave_line i w ++ l) (wave_lines-are (suc i) more)

pub unused_lines-are : (unused : List (List ℕ × ℕ)) → concat (map unused_line unused) ≡ texts.unused_lines unused
unused_lines-are [] = refl
unused_lines-are (t ∷ more) =
    ap (λ l. unused_line t ++ l) (unused_lines-are more)
