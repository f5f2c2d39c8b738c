-- Fractions over powers of ten: what a shift gives, and that rho over the power of the zone lies from 0 to 1.
use Rattle.std.proofs.Common.{◌≡◌, ℕ, subst, sym, [], ◌∷◌, arith}
use Rattle.std.proofs.lemmas.Int.{ints}
use Rattle.std.specs.Prelude.{ℤ, pos, negsuc, neg_ℤ, ◌+ℤ◌}
use Rattle.fixdec.specs.Algebra.FracLaws.{≈_refl, ≈_sym, ≈_trans}
use Rattle.fixdec.specs.Algebra.Linear.{linear, fact, no_fact, reads}
use Rattle.fixdec.specs.Algebra.Order.{nn_in}
use Rattle.fixdec.specs.Algebra.OrderLaws.{le_mul, mul_nn, add_nn, square_nn, zero_le_whole, le_same_right}
use Rattle.fixdec.specs.Algebra.PowerLaws.{ten_power-add}
use Rattle.fixdec.specs.Decimal.{ten_power}
use Rattle.fixdec.specs.Frac.{Frac, ◌≈◌, ◌≤Q◌, ◌*Q◌, whole}
use Rattle.fixdec.specs.Member.{IsShifted, Symbols}
use Rattle.fixdec.specs.Operations.{Operations, IsLawful}
use Rattle.fixdec.specs.Steps.{OnVal}
use Rattle.lensmodel.specs.Rows.Crossing.{Line}
use Rattle.hitsolve.specs.Aspheres.Meeting.{along, rho_at, over_power}

-- ten to the power k times ten to the power -k
pub power_inverse : (k : ℤ) → ten_power k *Q ten_power (neg_ℤ k) ≈ whole (pos 1)
power_inverse k =
    let e : k +ℤ neg_ℤ k ≡ pos 0 = omega (arith, ints) in
    ≈_trans (≈_sym (ten_power-add k (neg_ℤ k))) (subst (λ (z : ℤ). ten_power z ≈ ten_power (pos 0)) (sym e) (≈_refl _))

pub power_nn : (k : ℤ) → whole (pos 0) ≤Q ten_power k
power_nn (pos n) = zero_le_whole _
power_nn (negsuc n) = nn_in record { num = omega (arith, ints) }

-- a fraction over a power of ten is the shifted one
pub is_shifted : (k : ℤ) (x : Frac) → IsShifted k x (over_power k x)
is_shifted (pos k) x =
    let T = ten_power (neg_ℤ (pos k)) in
    let P = ten_power (pos k) in
    linear (x ∷ T ∷ P ∷ []) _ _ (search reads depth 20 fits 4000) (fact x (power_inverse (pos k)) (search reads depth 20 fits 4000) no_fact) tt
is_shifted (negsuc k) x = ≈_refl _

-- back from it
pub power_back : (k : ℤ) (x : Frac) → over_power k x *Q ten_power k ≈ x
power_back k x =
    let T = ten_power (neg_ℤ k) in
    let P = ten_power k in
    linear (x ∷ T ∷ P ∷ []) _ _ (search reads depth 20 fits 4000) (fact x (power_inverse k) (search reads depth 20 fits 4000) no_fact) tt

pub shift-member : {A : Type 0} (scale : ℕ) (o : Operations A) (member : A → Symbols → Frac → Type 0) (law : IsLawful scale o member)
    (sy : Symbols) (a : A) (j k : ℤ) (x : Frac) → j ≡ k → member a sy x → OnVal (o.shift a j) (λ r. member r sy (over_power k x))
shift-member scale o member law sy a j k x e h = subst (λ (z : ℤ). OnVal (o.shift a z) (λ r. member r sy (over_power k x))) (sym e) (law.shift sy a k x _ h (is_shifted k x))

-- ---- rho and u
pub rho_nn : (l : Line Frac) (z : Frac) → whole (pos 0) ≤Q rho_at l z
rho_nn l z = add_nn (square_nn (along l.x0 l.p z)) (square_nn (along l.y0 l.q z))

pub over_power_nn : (k : ℤ) (x : Frac) → whole (pos 0) ≤Q x → whole (pos 0) ≤Q over_power k x
over_power_nn k x n = mul_nn n (power_nn (neg_ℤ k))

pub over_power_le : (k : ℤ) (x : Frac) → x ≤Q ten_power k → over_power k x ≤Q whole (pos 1)
over_power_le k x h = le_same_right (le_mul (ten_power (neg_ℤ k)) (power_nn (neg_ℤ k)) h) (power_inverse k)
