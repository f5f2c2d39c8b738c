-- Roots in order, and how large they are.
use Rattle.std.proofs.Common.{ℕ, suc, ◌≡◌, ◌*◌, ◌^◌, ◌≤◌, true, false, refl, arith, inl, inr}
use Rattle.std.specs.Prelude.{ℤ, pos, negsuc, ◌≤ℤ◌, int_lt}
use Rattle.std.proofs.lemmas.Bool.{cases_lt}
use Rattle.std.proofs.lemmas.Int.{ints}
use native.Mathlib.Nat.{mul-le-mul, mul-le-mul_right}
use Rattle.fixdec.specs.Ends.{Ends}
use Rattle.fixdec.specs.Interval.{ends, positive_part, iv_root}
use Rattle.fixdec.specs.Root.{root, root_up_by}
use Rattle.fixdec.specs.Algebra.RootLaws.{root_is, root_up_by_is, root_least}
use Rattle.fixdec.specs.declared.step.Step.TheVariants.{Empty}

le_of_square : (x y : ℕ) → x * x ≤ y * y → x ≤ y
le_of_square x y h = elim (cases_lt y x) [
  | inl l ↦ (let g : suc y * suc y ≤ x * x = mul-le-mul l l in absurd (omega arith))
  | inr l ↦ l
]

roots_in_order : (m n : ℕ) → m ≤ n → root m ≤ root_up_by n
roots_in_order m n h = let l = (root_is m).low in let g = (root_up_by_is n).high in le_of_square _ _ (omega arith)

part_le : (x y : ℤ) → x ≤ℤ y → positive_part x ≤ positive_part y
part_le (pos m) (pos n) h = omega (arith, ints)
part_le (pos m) (negsuc n) h = absurd (omega (arith, ints))
part_le (negsuc m) y h = omega arith

-- the roots of two ends are in order
pub ends_of_root : (x y : ℤ) (u : ℕ) → x ≤ℤ y → root (positive_part x * u) ≤ root_up_by (positive_part y * u)
ends_of_root x y u h = roots_in_order _ _ (mul-le-mul_right u (part_le x y h))

-- the root of a number of at most 33 digits
pub root_up_small : (n : ℕ) → n ≤ 10 ^ 33 → root_up_by n ≤ 10 ^ 17
root_up_small n h = root_least n _ (10 ^ 17) (root_up_by_is n) (omega arith)

pub root_small : (n : ℕ) → n ≤ 10 ^ 33 → root n ≤ 10 ^ 17
root_small n h = let l = roots_in_order n n (omega arith) in let g = root_up_small n h in omega arith

-- the answer by the sign of the greatest end
pub root_none : (scale : ℕ) (a : Ends) → int_lt a.hi (pos 0) ≡ true → Empty ≡ iv_root scale a
unfolding iv_root
root_none scale a t = rw t refl

pub root_some : (scale : ℕ) (a : Ends) → int_lt a.hi (pos 0) ≡ false
    → iv_root scale a ≡ ends (pos (root (positive_part a.lo * 10 ^ scale))) (pos (root_up_by (positive_part a.hi * 10 ^ scale)))
unfolding iv_root
root_some scale a t = rw t refl
