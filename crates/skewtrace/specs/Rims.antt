-- Rims, and the points that they let pass or clip. Cited by the laws of the walk.
use Rattle.std.proofs.Common.{◌≡◌, ℕ, Bool, true, false, arith}
use Rattle.std.proofs.lemmas.Int.{ints}
use Rattle.std.specs.Prelude.{ℤ, ◌<ℤ◌, ◌≤ℤ◌, int_lt, Option, Some, None, if◌then◌else◌}
use Rattle.fixdec.specs.Algebra.MemberLaws.{units_pos, units_nn}
use Rattle.fixdec.specs.Algebra.Order.{le_trans, le_whole}
use Rattle.fixdec.specs.Algebra.OrderLaws.{le_mul, le_cancel, lt_whole, lt_not_le}
use Rattle.fixdec.specs.Decimal.{Decimal, value}
use Rattle.fixdec.specs.Ends.{Ends}
use Rattle.fixdec.specs.Frac.{Frac, ◌*Q◌}
use Rattle.fixdec.specs.Member.{IsMember, units}
use Rattle.lensmodel.specs.Equations.Chains.{IsInside}
use Rattle.lensmodel.specs.Rows.Outcome.{overlaps}

-- an interval that is there holds the square of the rim that is there
abbrev pub HoldsRim : ℕ → Option Ends → Option Decimal → Type 0
HoldsRim scale None None = Unit {0}
HoldsRim scale (Some a) (Some d) = IsMember scale a (value d *Q value d)
HoldsRim scale a d = ⊥

above : (a b : ℤ) → int_lt a b ≡ true → a <ℤ b
above a b e = omega (arith, ints)

not_above : (a b : ℤ) → int_lt a b ≡ false → b ≤ℤ a
not_above a b e = omega (arith, ints)

-- every point clears a surface without a rim
pub clears_open : (scale : ℕ) (rim : Bool) (semi : Option Decimal) (rho : Frac) → HoldsRim scale None (if rim then semi else None) → IsInside rim semi rho
clears_open scale true None rho h = tt
clears_open scale true (Some d) rho h = absurd h
clears_open scale false semi rho h = tt

-- so does every point whose rho is certainly at most the square of the rim
pub clears_rim : (scale : ℕ) (rim : Bool) (semi : Option Decimal) (a b : Ends) (rho : Frac) → HoldsRim scale (Some a) (if rim then semi else None)
    → IsMember scale b rho → overlaps b a ≡ false → IsInside rim semi rho
clears_rim scale true None a b rho h m e = absurd h
clears_rim scale true (Some d) a b rho h m e =
    le_cancel (units scale) (units_pos scale) (le_trans m.high (le_trans (le_whole (not_above a.lo b.hi e)) h.low))
clears_rim scale false semi a b rho h m e = tt

-- no point does whose rho is certainly above the square of the rim
pub clipped_by_rim : (scale : ℕ) (rim : Bool) (semi : Option Decimal) (a b : Ends) (rho : Frac) → HoldsRim scale (Some a) (if rim then semi else None)
    → IsMember scale b rho → int_lt a.hi b.lo ≡ true → IsInside rim semi rho → ⊥
clipped_by_rim scale true None a b rho h m e inside = h
clipped_by_rim scale true (Some d) a b rho h m e inside =
    lt_not_le (lt_whole (above a.hi b.lo e)) (le_trans m.low (le_trans (le_mul (units scale) (units_nn scale) inside) h.high))
clipped_by_rim scale false semi a b rho h m e inside = h
