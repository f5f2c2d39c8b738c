-- The power of ten of a scaled coefficient stays small.
use Rattle.std.proofs.Common.{to_z, of_z, ◌≡◌, ℕ, suc, ◌*◌, ◌≤◌, arith}
use Rattle.std.proofs.lemmas.Int.{ints, to_z-of_z}
use Rattle.std.specs.Int.{w32}
use Rattle.std.specs.Prelude.{ℤ, pos, negsuc, ◌≤ℤ◌, ◌*ℤ◌, FitsSigned}
use native.Mathlib.Nat.{mul-le-mul}

pub record IsSmall (z : ℤ) : Type 0 where
  pub low : negsuc 47 ≤ℤ z
  pub high : z ≤ℤ pos 48
  pub fits : FitsSigned w32 z

pub norm_times : (d : ℤ) (i : ℕ) → negsuc 5 ≤ℤ d → d ≤ℤ pos 6 → i ≤ 8 → IsSmall (d *ℤ pos i)
norm_times (pos n) i l h k =
    let n6 : n ≤ 6 = omega (arith, ints) in
    let m : n * i ≤ 6 * 8 = mul-le-mul n6 k in
    record { low = omega (arith, ints); high = omega (arith, ints); fits = record { sfits = omega (arith, ints) } }
norm_times (negsuc n) i l h k =
    let n6 : suc n ≤ 6 = omega (arith, ints) in
    let m : suc n * i ≤ 6 * 8 = mul-le-mul n6 k in
    record { low = omega (arith, ints, m); high = omega (arith, ints, m); fits = record { sfits = omega (arith, ints, m) } }

pub computed_times : (d k : ℤ) (i : ℕ) → FitsSigned w32 d → FitsSigned w32 k → k ≡ pos i → FitsSigned w32 (d *ℤ pos i)
    → to_z w32 (of_z w32 (to_z w32 (of_z w32 d) *ℤ to_z w32 (of_z w32 k))) ≡ d *ℤ pos i
computed_times d k i fd fk e f = rw (to_z-of_z w32 d fd, to_z-of_z w32 k fk, e) (to_z-of_z w32 (d *ℤ pos i) f)
