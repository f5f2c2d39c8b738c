-- The units of a scale that stand for the residual cover it.
use Rattle.std.proofs.Common.{◌≡◌, ℕ, ◌+◌, ◌-◌, ◌≤◌, ◌^◌, [], ◌∷◌, inl, inr, subst, arith}
use Rattle.std.specs.Prelude.{pos}
use Rattle.std.proofs.Math.Nat.{pow-le-pow_right}
use Rattle.std.proofs.lemmas.Bool.Decides.{leb_tells}
use Rattle.std.proofs.lemmas.Int.{ints}
use Rattle.fixdec.specs.Decimal.{tenth_power}
use Rattle.fixdec.specs.Frac.{◌≈◌, ◌≤Q◌, ◌*Q◌, whole}
use Rattle.fixdec.specs.Algebra.Linear.{linear, fact, no_fact, reads}
use Rattle.fixdec.specs.Algebra.Order.{le_of_same, le_whole, nn_in}
use Rattle.fixdec.specs.Algebra.OrderLaws.{le_mul_left, le_same_right}
use Rattle.fixdec.specs.Algebra.PowerLaws.{whole_power-add, is_tenth}
use Rattle.fixdec.specs.Algebra.Terms.{is_mul, is_whole, same_if}
use Rattle.fixdec.specs.Member.{units}
use Rattle.lensmodel.specs.Rows.Constants.{residual_units}
use Rattle.lensmodel.specs.Rows.Laws.{Covers}

-- ten to the power r times its inverse
pub tenth_of : (r : ℕ) → tenth_power r *Q units r ≈ whole (pos 1)
tenth_of r = same_if (is_mul (is_tenth r) (is_whole (pos (10 ^ r)))) (is_whole (pos 1)) (omega (arith, ints))

pub tenth_nn : (r : ℕ) → whole (pos 0) ≤Q tenth_power r
tenth_nn r = nn_in (record { num = omega (arith, ints) })

covers_more : (k r : ℕ) → tenth_power r *Q units (k + r) ≤Q whole (pos (10 ^ k))
covers_more k r =
    let T = tenth_power r in
    let U = units (k + r) in
    let K = units k in
    let R = units r in
    le_of_same (linear (T ∷ U ∷ K ∷ R ∷ []) (T *Q U) K (search reads depth 12)
    (fact T (whole_power-add k r) (search reads depth 12) (fact K (tenth_of r) (search reads depth 12) no_fact)) tt)

covers_less : (scale r : ℕ) → scale ≤ r → tenth_power r *Q units scale ≤Q whole (pos 1)
covers_less scale r h =
    let most : 10 ^ scale ≤ 10 ^ r = pow-le-pow_right {n = 10} (omega arith) {i = scale} {j = r} h in
    le_same_right (le_mul_left (tenth_power r) (tenth_nn r) (le_whole (omega (arith, ints)))) (tenth_of r)

-- 10^-r is at most its units of the scale
pub covers_residual : (scale r : ℕ) → Covers scale (tenth_power r) (residual_units scale r)
covers_residual scale r = elim (leb_tells r scale) [
  | inl h ↦ rw h.0 (let e : scale - r + r ≡ scale = (let l = h.1 in omega arith) in
      subst (λ (m : ℕ). tenth_power r *Q units m ≤Q whole (pos (10 ^ (scale - r)))) e (covers_more (scale - r) r))
  | inr h ↦ rw h.0 (covers_less scale r (let l = h.1 in omega arith))
]
