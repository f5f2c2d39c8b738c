-- The power of ten of a scaled coefficient stays small.
use Rattle.std.proofs.Common.{to_z, of_z, ◌≡◌, ℕ, suc, ◌*◌, ◌≤◌, arith}
use Rattle.std.proofs.lemmas.Int.{ints, to_z-of_z, to_z_pos}
use Rattle.std.specs.Int.{w32}
use Rattle.std.specs.Prelude.{ℤ, pos, negsuc, ◌≤ℤ◌, ◌*ℤ◌, FitsSigned}
use native.Mathlib.Nat.{mul-le-mul}

norm_times : (d : ℤ) (i : ℕ) → negsuc 5 ≤ℤ d → d ≤ℤ pos 6 → i ≤ 8 → FitsSigned w32 (d *ℤ pos i)
norm_times (pos n) i l h k =
    let n6 : n ≤ 6 = omega (arith, ints) in
    let m : n * i ≤ 6 * 8 = mul-le-mul n6 k in
    record { sfits = omega (arith, ints) }
norm_times (negsuc n) i l h k =
    let n6 : suc n ≤ 6 = omega (arith, ints) in
    let m : suc n * i ≤ 6 * 8 = mul-le-mul n6 k in
    record { sfits = omega (arith, ints, m) }

-- the product as 32 bits give it
pub computed_times : (d : ℤ) (i : ℕ) → FitsSigned w32 d → negsuc 5 ≤ℤ d → d ≤ℤ pos 6 → i ≤ 8
    → to_z w32 (of_z w32 (to_z w32 (of_z w32 d) *ℤ to_z w32 i)) ≡ d *ℤ pos i
computed_times d i f l h k = rw (to_z-of_z w32 d f, to_z_pos w32 i (omega arith)) (to_z-of_z w32 (d *ℤ pos i) (norm_times d i l h k))
