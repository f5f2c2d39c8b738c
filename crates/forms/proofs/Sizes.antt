-- How large numbers are, and that they fit.
use Rattle.std.proofs.Common.{ℕ, ◌≡◌, ◌≤◌, ◌^◌, arith}
use Rattle.std.specs.Prelude.{ℤ, unsigned_abs, FitsSigned}
use Rattle.std.specs.Int.{w64, w128, cast_signed, cast_unsigned}
use Rattle.std.proofs.lemmas.Int.{to_z-of_z, fits_signed_from_abs}
use Rattle.std.proofs.Math.Nat.{pow-le-pow_right}
use Rattle.fixdec.specs.Ends.{InCap}

-- a number of at most 38 digits fits, and stays what it is
pub fits : (z : ℤ) → unsigned_abs z ≤ 10 ^ 38 → FitsSigned w128 z
fits z h = fits_signed_from_abs w128 z (omega arith)

pub as_is : (z : ℤ) → unsigned_abs z ≤ 10 ^ 38 → cast_signed w128 (cast_unsigned w128 z) ≡ z
as_is z h = to_z-of_z w128 z (fits z h)

-- ten to a power of at most 15
pub power_size : (k : ℕ) → k ≤ 15 → 10 ^ k ≤ 10 ^ 15
power_size k h = pow-le-pow_right (omega arith) h

-- a number within the cap fits 64 bits
pub narrow_is : (z : ℤ) → InCap z → cast_signed w64 (cast_unsigned w64 z) ≡ z
narrow_is z h = to_z-of_z w64 z (fits_signed_from_abs w64 z (omega arith))

pub wide_is : (z : ℤ) → InCap z → cast_signed w128 (cast_unsigned w128 (cast_signed w64 (cast_unsigned w64 z))) ≡ z
wide_is z h = rw (narrow_is z h) (as_is z (omega arith))
