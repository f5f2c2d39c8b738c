-- Lens files worked out: what they say, and why others are refused.
use Rattle.std.specs.Prelude.{◌≡◌, ℕ, pos, negsuc, true, codes, List, [], ◌∷◌, map, replicate, Some, None, Ok, Err}
use Rattle.lensmodel.specs.Files.Lens.{prescription}
use Rattle.lensmodel.specs.Setup.Values.{plane, zero_decimal}
use Rattle.lensmodel.specs.declared.fault.ZmxFault.TheVariants.{NotSequential, SurfaceOrder, SurfaceType, MissingWord, BadNumber, LongName, ModelGlass, TooFewSurfaces, StopCount, MirrorAtObject, InnerInfinity}
use Rattle.lensmodel.specs.declared.surface.Surface.{Surface}
use Rattle.lensmodel.specs.declared.surface.SurfaceKind.TheVariants.{EvenAsph}
use Rattle.examples.specs.SmallLenses.{whole_dec, tenths}
use Rattle.examples.specs.TextOfLines.{file}
use Rattle.examples.specs.Worked.{far_object}

-- one line at fault: each cause, and in one line the first
abbrev pub LineFaults : Type 0
LineFaults =
    map (λ lines. prescription (file lines))
    ((codes "MODE NSC" ∷ []) ∷ (codes "SURF 1" ∷ []) ∷ (codes "SURF" ∷ []) ∷ (codes "SURF x" ∷ [])
    ∷ (codes "SURF 0" ∷ codes "TYPE COORDBRK" ∷ []) ∷ (codes "SURF 0" ∷ codes "CURV" ∷ [])
    ∷ (codes "SURF 0" ∷ [] ∷ codes "CURV 1x" ∷ []) ∷ (codes "SURF 0" ∷ codes "DISZ INFINITE" ∷ [])
    ∷ (codes "SURF 0" ∷ codes "GLAS AAAAAAAAAAAAAAAAAAAAAAAAAAAAAAAAAAAAAAAAA" ∷ [])
    ∷ (codes "SURF 0" ∷ codes "GLAS ___BLANK 1 0" ∷ []) ∷ (codes "SURF 0" ∷ codes "DIAM -1" ∷ [])
    ∷ (codes "SURF 0" ∷ codes "PARM x" ∷ []) ∷ (codes "SURF 0" ∷ codes "PARM x y" ∷ [])
    ∷ (codes "SURF 0" ∷ codes "PARM 1 y" ∷ []) ∷ (codes "WAVM 65536 1" ∷ []) ∷ (codes "PWAV 0.5" ∷ []) ∷ [])
    ≡ Err (NotSequential 1) ∷ Err (SurfaceOrder 1) ∷ Err (MissingWord 1) ∷ Err (BadNumber 1 2) ∷ Err (SurfaceType 2)
    ∷ Err (MissingWord 2) ∷ Err (BadNumber 3 2) ∷ Err (BadNumber 2 2) ∷ Err (LongName 2) ∷ Err (ModelGlass 2)
    ∷ Err (BadNumber 2 2) ∷ Err (MissingWord 2) ∷ Err (BadNumber 2 2) ∷ Err (BadNumber 2 3) ∷ Err (BadNumber 1 2)
    ∷ Err (BadNumber 1 2) ∷ []

-- no line at fault, and each fault of the whole but for those of aspheres; a line before the first SURF is not used
abbrev pub WholeFaults : Type 0
WholeFaults =
    map (λ lines. prescription (file lines))
    ((codes "CURV x" ∷ []) ∷ (codes "SURF 0" ∷ codes "SURF 1" ∷ []) ∷ (codes "SURF 0" ∷ codes "SURF 1" ∷ codes "SURF 2" ∷ [])
    ∷ (codes "SURF 0" ∷ codes "STOP" ∷ codes "SURF 1" ∷ codes "STOP" ∷ codes "SURF 2" ∷ [])
    ∷ (codes "SURF 0" ∷ codes "GLAS MIRROR" ∷ codes "SURF 1" ∷ codes "STOP" ∷ codes "SURF 2" ∷ [])
    ∷ (codes "SURF 0" ∷ codes "SURF 1" ∷ codes "STOP" ∷ codes "DISZ INFINITY" ∷ codes "SURF 2" ∷ []) ∷ [])
    ≡ Err TooFewSurfaces ∷ Err TooFewSurfaces ∷ Err StopCount ∷ Err StopCount ∷ Err MirrorAtObject ∷ Err (InnerInfinity 1)
    ∷ []

-- the last line of a tag stands, and of a coefficient and a wavelength that of its number; a tag is not used where it is unknown
-- or before the first SURF
abbrev pub lens_lines : List (List ℕ)
lens_lines =
    codes "VERS 1" ∷ codes "CURV 1 0" ∷ codes "MODE SEQ" ∷ codes "WAVM 2 0.55 1" ∷ codes "SURF 0"
    ∷ codes "  DISZ INFINITY" ∷ codes "SURF 1" ∷ codes "  STOP" ∷ codes "  TYPE EVENASPH" ∷ codes "  CURV 1"
    ∷ codes "  CURV 0.5 0 0" ∷ codes "  DIAM 5 1.0" ∷ codes "  PARM 1 0.1" ∷ codes "  PARM 2 3"
    ∷ codes "  PARM 1 0.2" ∷ codes "  CONI -1" ∷ codes "  GLAS MIRROR" ∷ codes "  GLAS F2 1 2" ∷ codes "  DISZ 4"
    ∷ codes "VERS" ∷ codes "SURF 2" ∷ codes "WAVM 25 1" ∷ codes "WAVM 2 0.6" ∷ codes "PWAV 2" ∷ codes "  HIDE"
    ∷ codes "VERS 2" ∷ []

abbrev pub asphere_of_file : Surface
asphere_of_file = record plane {
  kind = EvenAsph;
  curv = tenths (pos 5);
  conic = whole_dec (negsuc 0);
  thick = Some (whole_dec (pos 4));
  glass = Some (record { items = codes "F2" });
  semi = Some (whole_dec (pos 5));
  rim = true;
  a1 = tenths (pos 2);
  a2 = whole_dec (pos 3);
}

abbrev pub ReadLens : Type 0
ReadLens =
    prescription (file lens_lines)
    ≡ Ok (record {
      lens = record {
        surfaces = record { items = far_object ∷ asphere_of_file ∷ plane ∷ [] };
        stop = 1;
        waves = record { items = None ∷ Some (tenths (pos 6)) ∷ replicate 22 None };
        primary = 2;
      };
      unused = (codes "VERS", 3) ∷ (codes "CURV", 1) ∷ (codes "HIDE", 1) ∷ [];
    })
