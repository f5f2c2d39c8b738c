-- The order of products by a common factor.
use Rattle.std.proofs.Common.{◌≡◌, zero, suc, arith, [], ◌∷◌}
use Rattle.std.specs.Prelude.{ℤ, pos, negsuc, ◌≤ℤ◌, ◌*ℤ◌}
use Rattle.std.proofs.lemmas.Int.{ints}
use lib.IntN.{neg_ℤ, *ℤ_comm}
use Rattle.fixdec.specs.Algebra.Ring.{var, ◌⊗◌, neg}
use Rattle.fixdec.specs.Algebra.IntLaws.{ringℤ}
use Rattle.fixdec.specs.Algebra.Order.{scale_le}

-- a factor that isn't negative keeps the order, one that isn't positive turns it
pub keeps : (x y k : ℤ) → pos 0 ≤ℤ k → x ≤ℤ y → (x *ℤ k) ≤ℤ (y *ℤ k)
keeps x y (pos zero) h l = omega (arith, ints)
keeps x y (pos (suc k)) h l = scale_le x y k l
keeps x y (negsuc k) h l = absurd (omega (arith, ints))

pub turns : (x y k : ℤ) → k ≤ℤ pos 0 → x ≤ℤ y → (y *ℤ k) ≤ℤ (x *ℤ k)
turns x y k h l =
    let m = keeps x y (neg_ℤ k) (omega (arith, ints)) l in
    let A = var 0 in let B = var 1 in
    let e : (z : ℤ) → z *ℤ neg_ℤ k ≡ neg_ℤ (z *ℤ k) = λ z. ringℤ (z ∷ k ∷ []) (A ⊗ neg B) (neg (A ⊗ B)) tt in
    let p = e x in
    let q = e y in
    omega (arith, ints)

pub keeps_left : (x y k : ℤ) → pos 0 ≤ℤ k → x ≤ℤ y → (k *ℤ x) ≤ℤ (k *ℤ y)
keeps_left x y k h l = let m = keeps x y k h l in rw (*ℤ_comm k x, *ℤ_comm k y) m

pub turns_left : (x y k : ℤ) → k ≤ℤ pos 0 → x ≤ℤ y → (k *ℤ y) ≤ℤ (k *ℤ x)
turns_left x y k h l = let m = turns x y k h l in rw (*ℤ_comm k x, *ℤ_comm k y) m

pub chain : {x y z : ℤ} → x ≤ℤ y → y ≤ℤ z → x ≤ℤ z
chain p q = omega (arith, ints)
