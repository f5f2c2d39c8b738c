-- Each number that a lens file gives has an exponent that is read.
use Rattle.std.specs.Prelude.{◌≡◌, ℕ, pos, neg_ℤ, ◌≤ℤ◌, int_le, nat_le, ◌&&◌, Bool, true, false, List, [], ◌∷◌, codes, length, map, Option, Some, None, if◌then◌else◌, refl}
use Rattle.std.specs.List.{All}
use Rattle.std.proofs.Common.{arith}
use Rattle.std.proofs.lemmas.Int.{ints}
use Rattle.std.proofs.lemmas.List.Elements.{All-cons}
use Rattle.fixdec.specs.Decimal.{Decimal}
use Rattle.fixdec.specs.Reading.{decimal_of, split, is_whole, is_readable}
use Rattle.fixdec.specs.Word.{significant, kept_decimal}
use Rattle.lensmodel.specs.Files.Lens.{decimal_in, thickness_in, semi_in, last_of, last_of_index, surface_of, all_surfaces, wavelength, wavelength_in, lens_of}
use Rattle.lensmodel.specs.Files.LensFaults.{is_SURF, is_infinity}
use Rattle.lensmodel.specs.Files.Records.{Words, word_at, block_before, decimal_at, decimal_or_0}
use Rattle.lensmodel.specs.Setup.Values.{zero_decimal}
use Rattle.lensmodel.specs.Setup.WellFormed.{IsWritten, IsWrittenIf, IsWrittenSurface, IsWrittenLens}
use Rattle.zmxread.proofs.Waves.{from}

zero-written : IsWritten zero_decimal
zero-written = record { low = omega (arith, ints); high = omega (arith, ints) }

from-readable : (d : Decimal) → is_readable d.exp ≡ true → IsWritten d
from-readable d h = record {
  low = elim (int_le (neg_ℤ (pos 60)) d.exp) as (λ b. int_le (neg_ℤ (pos 60)) d.exp ≡ b → (b && int_le d.exp (pos 30)) ≡ true → neg_ℤ (pos 60) ≤ℤ d.exp) [
    | true ↦ (λ e k. omega (arith, ints))
    | false ↦ (λ e k. cc)
  ] refl h;
  high = elim (int_le d.exp (pos 30)) as (λ b. int_le d.exp (pos 30) ≡ b → (int_le (neg_ℤ (pos 60)) d.exp && b) ≡ true → d.exp ≤ℤ pos 30) [
    | true ↦ (λ e k. omega (arith, ints))
    | false ↦ (λ e k. elim (int_le (neg_ℤ (pos 60)) d.exp) as (λ b. (b && false) ≡ true → d.exp ≤ℤ pos 30) [ true ↦ (λ z. cc) | false ↦ (λ z. cc) ] k)
  ] refl h;
}

read-written : (a : Bool) (d : Decimal) → IsWritten (decimal_or_0 (if a && is_readable d.exp then Some d else None))
read-written false d = zero-written
read-written true d =
    elim (is_readable d.exp) as (λ b. is_readable d.exp ≡ b → IsWritten (decimal_or_0 (if b then Some d else None))) [
      | true ↦ (λ e. from-readable d e)
      | false ↦ (λ e. zero-written)
    ] refl

word-written : (w : List ℕ) → IsWritten (decimal_or_0 (decimal_of w))
unfolding decimal_of
word-written w = read-written (is_whole (split w) && nat_le (length (significant (split w).parts)) 30) (kept_decimal (split w).parts)

decimal-written : (k : ℕ) (o : Option Words) → IsWritten (decimal_in k o)
decimal-written k None = zero-written
decimal-written k (Some l) = word-written (word_at k l)

thickness-written : (o : Option Words) → IsWrittenIf (thickness_in o)
thickness-written None = zero-written
thickness-written (Some l) = elim (is_infinity (word_at 1 l)) as (λ b. IsWrittenIf (if b then None else Some (decimal_at 1 l))) [ true ↦ tt | false ↦ word-written (word_at 1 l) ]

semi-written : (o : Option Words) → IsWrittenIf (semi_in o)
semi-written None = tt
semi-written (Some l) = word-written (word_at 1 l)

wave-written : (o : Option Words) → IsWrittenIf (wavelength_in o)
wave-written None = tt
wave-written (Some l) = word-written (word_at 2 l)

surface-written : (surf : Words) (block : List Words) → IsWrittenSurface (surface_of surf block)
surface-written surf block = record {
  curv = decimal-written 1 (last_of (codes "CURV") block);
  conic = decimal-written 1 (last_of (codes "CONI") block);
  thick = thickness-written (last_of (codes "DISZ") block);
  semi = semi-written (last_of (codes "DIAM") block);
  a1 = decimal-written 2 (last_of_index (codes "PARM") 1 block);
  a2 = decimal-written 2 (last_of_index (codes "PARM") 2 block);
  a3 = decimal-written 2 (last_of_index (codes "PARM") 3 block);
  a4 = decimal-written 2 (last_of_index (codes "PARM") 4 block);
  a5 = decimal-written 2 (last_of_index (codes "PARM") 5 block);
  a6 = decimal-written 2 (last_of_index (codes "PARM") 6 block);
  a7 = decimal-written 2 (last_of_index (codes "PARM") 7 block);
  a8 = decimal-written 2 (last_of_index (codes "PARM") 8 block);
}

none-written : {A : Type 0} (P : A → Type 0) → All P []
none-written P k d h = absurd (omega arith)

pub surfaces-written : (ls : List Words) → All IsWrittenSurface (all_surfaces ls)
surfaces-written [] = none-written IsWrittenSurface
surfaces-written (l ∷ ls) = elim (is_SURF l) as (λ b. All IsWrittenSurface (if b then surface_of l (block_before is_SURF ls) ∷ all_surfaces ls else all_surfaces ls)) [
  | true ↦ All-cons IsWrittenSurface (surface_of l (block_before is_SURF ls)) (all_surfaces ls) (surface-written l (block_before is_SURF ls)) (surfaces-written ls)
  | false ↦ surfaces-written ls
]

waves-written : (ls : List Words) (is : List ℕ) → All IsWrittenIf (map (wavelength ls) is)
waves-written ls [] = none-written IsWrittenIf
waves-written ls (i ∷ is) = All-cons IsWrittenIf (wavelength ls i) (map (wavelength ls) is) (wave-written (last_of_index (codes "WAVM") i ls)) (waves-written ls is)

pub lens-written : (ls : List Words) → IsWrittenLens (lens_of ls)
lens-written ls = record { surfaces = surfaces-written ls; waves = waves-written ls (from 1 24) }
