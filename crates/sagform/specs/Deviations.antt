-- The span of a tolerance: of a number that isn't below 0, and at most one unit wide.
use Rattle.std.proofs.Common.{◌≡◌, ℕ, suc, ◌^◌, sym, subst, arith}
use Rattle.std.proofs.lemmas.Int.{ints}
use Rattle.std.specs.Prelude.{ℤ, pos, negsuc, ◌≤ℤ◌, ◌+ℤ◌, int_le, IsTrue}
use Rattle.fixdec.specs.Decimal.{Decimal, value, ten_power}
use Rattle.fixdec.specs.Ends.{Ends}
use Rattle.fixdec.specs.Algebra.PowerLaws.{value_between, OnVal-ends, dec_floor_is, dec_ceil_is}
use Rattle.fixdec.specs.Frac.{◌≤Q◌, whole}
use Rattle.fixdec.specs.Algebra.MemberLaws.{units_nn}
use Rattle.fixdec.specs.Algebra.OrderLaws.{mul_nn, zero_le_whole, le_of_lt, lt_from_not}
use Rattle.fixdec.specs.Member.{IsMember}
use Rattle.fixdec.specs.Scaled.{dec_span, dec_floor, dec_ceil}
use Rattle.fixdec.specs.Operations.{Operations}
use Rattle.fixdec.specs.Steps.{OnVal, ◌>>=◌}
use Rattle.fixdec.specs.declared.step.Step.{Step}
use Rattle.fixdec.specs.declared.step.Step.TheVariants.{Val}
use Rattle.lensmodel.specs.Setup.Ranges.{is_not_negative}
use Rattle.sagform.specs.ResidualLaws.{tenth_nn}

not_above : (z : ℤ) → (z +ℤ pos 1) ≤ℤ z → ⊥
not_above z h = omega (arith, ints)

-- a value with symbol i, whose tolerance is a decimal
abbrev pub symbol_row : {A : Type 0} → Operations A → ℕ → A → ℕ → Decimal → Step A
symbol_row o scale v i delta = dec_span scale delta >>= λ d. o.symbol v i d

-- what `symbol` asks of a deviation
pub record IsDeviation (d : Ends) : Type 0 where
  pub sign : pos 0 ≤ℤ d.lo
  pub narrow : d.hi ≤ℤ (d.lo +ℤ pos 1)

ten_power_nn : (e : ℤ) → whole (pos 0) ≤Q ten_power e
ten_power_nn (pos k) = zero_le_whole (10 ^ k)
ten_power_nn (negsuc k) = tenth_nn (suc k)

value_nn : (m e : ℤ) → IsTrue (int_le (pos 0) m) → whole (pos 0) ≤Q value (record { mant = m; exp = e })
value_nn (pos n) e h = mul_nn (zero_le_whole n) (ten_power_nn e)
value_nn (negsuc n) e h = cc

deviation_ends : (scale : ℕ) (d : Decimal) → IsTrue (is_not_negative d) → IsDeviation (record { lo = dec_floor scale d; hi = dec_ceil scale d })
deviation_ends scale d h =
    let below = dec_floor_is scale d in
    let above = dec_ceil_is scale d in
    record {
      sign = below.greatest (pos 0) (mul_nn (value_nn d.mant d.exp h) (units_nn scale));
      narrow = above.least (dec_floor scale d +ℤ pos 1) (le_of_lt (lt_from_not (λ q. not_above (dec_floor scale d) (below.greatest (dec_floor scale d +ℤ pos 1) q))));
    }

pub deviation_span : (scale : ℕ) (d : Decimal) → IsTrue (is_not_negative d) → OnVal (dec_span scale d) (λ a. IsMember scale a (value d) × IsDeviation a)
unfolding dec_span
deviation_span scale d h = OnVal-ends (dec_floor scale d) (dec_ceil scale d) (λ a. IsMember scale a (value d) × IsDeviation a) (value_between scale d, deviation_ends scale d h)

-- the same of a span that is there
pub deviation_of : (scale : ℕ) (d : Decimal) (a : Ends) → IsTrue (is_not_negative d) → Val a ≡ dec_span scale d → IsDeviation a
deviation_of scale d a h e =
    (subst (λ (r : Step Ends). OnVal r (λ b. IsMember scale b (value d) × IsDeviation b)) (sym e) (deviation_span scale d h)).1
