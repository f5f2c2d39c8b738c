-- The lines behind the line of an even asphere, one behind the other.
use Rattle.std.proofs.Common.{◌≡◌, ℕ, List, [], ◌++◌, append_assoc}
use Rattle.std.proofs.lemmas.List.{append-nil}
use Rattle.lensmodel.specs.Setup.Zones.{surface_zone}
use Rattle.lensmodel.specs.Texts.Lens.{coefficient_line, zone_line, asphere_lines}
use Rattle.lensmodel.specs.declared.surface.Surface.{Surface}
use Rattle.lensmodel.specs.declared.surface.SurfaceKind.{SurfaceKind}
use Rattle.lensmodel.specs.declared.surface.SurfaceKind.TheVariants.{Standard, EvenAsph}

nine_lists : (a b c d e f g h z : List ℕ)
    → a ++ b ++ c ++ d ++ e ++ f ++ g ++ h ++ z ≡ a ++ (b ++ (c ++ (d ++ (e ++ (f ++ (g ++ (h ++ []))))))) ++ z
nine_lists a b c d e f g h z = simp (append_assoc, append-nil)

pub asphere_steps : (kind : SurfaceKind) (j : ℕ) (s : Surface) (o a b c d e f g h z : List ℕ) → kind ≡ EvenAsph → o ≡ []
    → a ≡ o ++ coefficient_line j 1 s.a1
    → b ≡ a ++ coefficient_line j 2 s.a2
    → c ≡ b ++ coefficient_line j 3 s.a3
    → d ≡ c ++ coefficient_line j 4 s.a4
    → e ≡ d ++ coefficient_line j 5 s.a5
    → f ≡ e ++ coefficient_line j 6 s.a6
    → g ≡ f ++ coefficient_line j 7 s.a7
    → h ≡ g ++ coefficient_line j 8 s.a8
    → z ≡ h ++ zone_line j (surface_zone s)
    → z ≡ asphere_lines kind j s
asphere_steps Standard j s o a b c d e f g h z k eo ea eb ec ed ee ef eg eh ez = cc
asphere_steps EvenAsph j s o a b c d e f g h z k eo ea eb ec ed ee ef eg eh ez =
    rw (ez, eh, eg, ef, ee, ed, ec, eb, ea, eo)
    (nine_lists (coefficient_line j 1 s.a1) (coefficient_line j 2 s.a2) (coefficient_line j 3 s.a3) (coefficient_line j 4 s.a4) (coefficient_line j 5 s.a5) (coefficient_line j 6 s.a6) (coefficient_line j 7 s.a7) (coefficient_line j 8 s.a8) (zone_line j (surface_zone s)))
