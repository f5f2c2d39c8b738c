-- A width bound has a span at every scale.
use Rattle.std.proofs.Common.{◌≡◌, ℕ, ◌≤◌, ◌^◌, Bool, true, false, refl, ◌∙◌, ap, [], ◌∷◌, arith}
use borrow.Author.Tests.{le-leb}
use Rattle.std.proofs.Math.Nat.{pow-le-pow_right}
use Rattle.std.proofs.lemmas.Int.{ints}
use Rattle.std.specs.Prelude.{ℤ, pos, negsuc, ◌≤ℤ◌, ◌&&◌, not, int_lt, IsTrue}
use Rattle.fixdec.specs.Algebra.Linear.{linear_le, no_fact, reads}
use Rattle.fixdec.specs.Algebra.MemberLaws.{units_nn}
use Rattle.fixdec.specs.Algebra.Order.{le_trans, le_whole, le_whole_out}
use Rattle.fixdec.specs.Algebra.OrderLaws.{le_mul, le_same_right, mul_nn, whole_mul, zero_le_whole}
use Rattle.fixdec.specs.Algebra.FracLaws.{≈_sym}
use Rattle.fixdec.specs.Algebra.PowerLaws.{dec_floor_is, dec_ceil_is}
use Rattle.fixdec.specs.Decimal.{Decimal, value, ten_power}
use Rattle.fixdec.specs.Ends.{Ends}
use Rattle.fixdec.specs.Frac.{◌≤Q◌, ◌*Q◌, whole}
use Rattle.fixdec.specs.Interval.{ends}
use Rattle.fixdec.specs.Member.{units}
use Rattle.fixdec.specs.Scaled.{dec_span, dec_floor, dec_ceil}
use Rattle.fixdec.specs.declared.step.Step.TheVariants.{Val, Empty, Lost}
use Rattle.fixdec.specs.declared.step.Why.{Why}
use Rattle.lensmodel.specs.Setup.Comparison.{is_below}
use Rattle.lensmodel.specs.Setup.Ranges.{is_width}
use Rattle.sagform.specs.ResidualLaws.{tenth_nn}

ten_power_nn : (e : ℤ) → whole (pos 0) ≤Q ten_power e
ten_power_nn (pos k) = zero_le_whole (10 ^ k)
ten_power_nn (negsuc k) = tenth_nn _

both : (a b : Bool) → IsTrue (a && not b) → (a ≡ true) × (b ≡ false)
both true false h = (refl, refl)
both true true h = cc
both false b h = cc

-- above 0 and at most 1000
record IsBounded (d : Decimal) : Type 0 where
  above : whole (pos 0) ≤Q value d
  below : value d ≤Q value (record { mant = pos 1000; exp = pos 0 })

bounded : (d : Decimal) → IsTrue (is_width d) → IsBounded d
bounded d h =
    let b = both (int_lt (pos 0) d.mant) (is_below (value (record { mant = pos 1000; exp = pos 0 })) (value d)) h in
    let positive = b.0 in
    let small = b.1 in
    record {
      above = mul_nn (le_whole (omega (arith, ints))) (ten_power_nn d.exp);
      below = record { cross = omega (arith, ints) };
    }

thousand : (scale : ℕ) → scale ≤ 15 → value (record { mant = pos 1000; exp = pos 0 }) *Q units scale ≤Q whole (pos 1_000_000_000_000_000_000)
thousand scale l =
    let p : 10 ^ scale ≤ 10 ^ 15 = pow-le-pow_right (omega arith) l in
    le_trans
    (linear_le (units scale ∷ []) _ (whole (pos 1000) *Q units scale) (search reads depth 20 fits 4000) no_fact tt)
    (le_trans (le_same_right (linear_le (units scale ∷ []) _ _ (search reads depth 20 fits 4000) no_fact tt) (≈_sym (whole_mul (pos 1000) (pos (10 ^ scale)))))
    (le_whole (omega (arith, ints))))

in_cap : (lo hi : ℤ) → pos 0 ≤ℤ lo → lo ≤ℤ hi → hi ≤ℤ pos 1_000_000_000_000_000_000 → ends lo hi ≡ Val (record { lo = lo; hi = hi })
unfolding ends
in_cap (pos m) (pos n) a b c =
    rw (le-leb m 1_000_000_000_000_000_000 (omega (arith, ints)), le-leb n 1_000_000_000_000_000_000 (omega (arith, ints))) refl
in_cap (pos m) (negsuc n) a b c = absurd (omega (arith, ints))
in_cap (negsuc m) hi a b c = absurd (omega (arith, ints))

pub width_span : (scale : ℕ) (d : Decimal) → scale ≤ 15 → IsTrue (is_width d) → dec_span scale d ≡ Val (record { lo = dec_floor scale d; hi = dec_ceil scale d })
unfolding dec_span
width_span scale d l h =
    let b = bounded d h in
    let floor = dec_floor_is scale d in
    let ceil = dec_ceil_is scale d in
    let most : value d *Q units scale ≤Q whole (pos 1_000_000_000_000_000_000) = le_trans (le_mul (units scale) (units_nn scale) b.below) (thousand scale l) in
    in_cap (dec_floor scale d) (dec_ceil scale d) (floor.greatest (pos 0) (mul_nn b.above (units_nn scale))) (le_whole_out (le_trans floor.below ceil.above)) (ceil.least _ most)

pub rounded_lo : (scale : ℕ) (d : Decimal) (a : Ends) → scale ≤ 15 → IsTrue (is_width d) → Val a ≡ dec_span scale d → a.lo ≡ dec_floor scale d
rounded_lo scale d a l h e =
    let k : Val a ≡ Val (record { lo = dec_floor scale d; hi = dec_ceil scale d }) = e ∙ width_span scale d l h in
    let same : a ≡ record { lo = dec_floor scale d; hi = dec_ceil scale d } = cc in
    ap (λ (x : Ends). x.lo) same

pub never_empty : (scale : ℕ) (d : Decimal) → scale ≤ 15 → IsTrue (is_width d) → Empty ≡ dec_span scale d → ⊥
never_empty scale d l h e = let k = e ∙ width_span scale d l h in cc

pub never_lost : (scale : ℕ) (d : Decimal) (why : Why) → scale ≤ 15 → IsTrue (is_width d) → Lost why ≡ dec_span scale d → ⊥
never_lost scale d why l h e = let k = e ∙ width_span scale d l h in cc
