-- Three planes in air or glass, the second maybe a mirror, are a lens that can be used; and a job without rays is in its ranges.
use Rattle.std.proofs.Common.{ℕ, Bool, false, [], ◌∷◌, refl, arith}
use Rattle.std.proofs.lemmas.Int.{ints}
use Rattle.std.proofs.lemmas.List.Elements.{All-cons}
use Rattle.std.specs.Prelude.{Option, IsTrue, All, pos, negsuc}
use Rattle.arrayvec.specs.ArrayVec.{ArrayVec}
use Rattle.fixdec.specs.Decimal.{Decimal}
use Rattle.fixdec.specs.Frac.{◌*Q◌, whole}
use Rattle.lensmodel.specs.Setup.Ranges.{is_ask, is_wave}
use Rattle.lensmodel.specs.Setup.Values.{plane, zero_decimal}
use Rattle.lensmodel.specs.Setup.WellFormed.{IsInRange, IsSound, IsWritten, IsWrittenIf, IsWrittenSurface}
use Rattle.lensmodel.specs.Setup.WholeFaults.{whole_fault}
use Rattle.lensmodel.specs.declared.surface.Surface.{Surface}

all_of_none : {A : Type 0} (P : A → Type 0) → All P []
all_of_none P = λ k d l. absurd (omega arith)

zero_written : IsWritten zero_decimal
zero_written = record { low = omega (arith, ints); high = omega (arith, ints) }

abbrev pub plane_of : Option (ArrayVec ℕ) → Bool → Surface
plane_of glass mirror = record plane { glass = glass; mirror = mirror }

plane_written : (glass : Option (ArrayVec ℕ)) (mirror : Bool) → IsWrittenSurface (plane_of glass mirror)
plane_written glass mirror = record {
  curv = zero_written;
  conic = zero_written;
  thick = zero_written;
  semi = tt;
  a1 = zero_written;
  a2 = zero_written;
  a3 = zero_written;
  a4 = zero_written;
  a5 = zero_written;
  a6 = zero_written;
  a7 = zero_written;
  a8 = zero_written;
}

pub planes_sound : (f g h : Option (ArrayVec ℕ)) (mirror : Bool) (wave : Option Decimal) → IsWrittenIf wave
    → IsSound (record {
      surfaces = record { items = plane_of f false ∷ plane_of g mirror ∷ plane_of h false ∷ [] };
      stop = 1;
      waves = record { items = wave ∷ [] };
      primary = 1;
    })
unfolding whole_fault
planes_sound f g h mirror wave w = record {
  whole = refl;
  written = record {
    surfaces = All-cons IsWrittenSurface (plane_of f false) (plane_of g mirror ∷ plane_of h false ∷ []) (plane_written f false)
        (All-cons IsWrittenSurface (plane_of g mirror) (plane_of h false ∷ []) (plane_written g mirror)
        (All-cons IsWrittenSurface (plane_of h false) [] (plane_written h false) (all_of_none IsWrittenSurface)));
    waves = All-cons IsWrittenIf wave [] w (all_of_none IsWrittenIf);
  };
}

pub job_in_range : (wave : Option Decimal) → IsTrue (is_wave wave)
    → IsInRange (record { wave = wave; res = 12; width = record { mant = pos 1; exp = negsuc 2 }; asks = [] })
unfolding ◌*Q◌ whole
job_in_range wave h = record { wave = h; residual = refl; width = refl; asks = all_of_none (λ a. IsTrue (is_ask a)); rays = omega arith }
