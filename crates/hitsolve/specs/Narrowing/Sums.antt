-- Sums, differences, widenings, shifts and clips of narrower intervals.
use Rattle.std.proofs.Common.{◌≡◌, ℕ, zero, suc, ◌^◌, true, false, arith}
use Rattle.std.proofs.lemmas.Bool.{cond_both}
use Rattle.std.proofs.lemmas.Int.{ints, clamps}
use Rattle.std.specs.Int.{int_min, int_max}
use Rattle.std.specs.Prelude.{ℤ, pos, negsuc, ◌*ℤ◌, ◌≤ℤ◌, ◌<ℤ◌, int_le, if◌then◌else◌}
use lib.IntN.{neg_ℤ}
use Rattle.fixdec.specs.Algebra.FracLaws.{≈_sym}
use Rattle.fixdec.specs.Algebra.MemberLaws.{unit_pos, ends_in_order}
use Rattle.fixdec.specs.Algebra.Order.{le_trans, le_whole, le_whole_out, scale_le}
use Rattle.fixdec.specs.Algebra.OrderLaws.{le_same_right}
use Rattle.fixdec.specs.Algebra.PowerLaws.{value_between}
use Rattle.fixdec.specs.Algebra.RoundingLaws.{floor_under, floor_is, ceil_is, ratio_is}
use Rattle.fixdec.specs.Decimal.{Decimal, value}
use Rattle.fixdec.specs.Ends.{Ends}
use Rattle.fixdec.specs.Interval.{ends, iv_plus, iv_minus, iv_widen, iv_shift, iv_clip}
use Rattle.fixdec.specs.Rounding.{floor, ceil, ratio}
use Rattle.fixdec.specs.Scaled.{dec_span, dec_floor, dec_ceil}
use Rattle.fixdec.specs.declared.step.Step.TheVariants.{Empty}
use Rattle.hitsolve.specs.Narrowing.Parts.{IsPart, IsNarrower, empty_narrower, ends_narrower}

-- ---- rounding
nonzero : (d : ℤ) → pos 0 <ℤ d → d ≡ pos 0 → ⊥
nonzero d h e = omega (arith, ints)

pub floor_mono : (m n d : ℤ) → pos 0 <ℤ d → m ≤ℤ n → floor m d ≤ℤ floor n d
floor_mono m n d p h =
    (floor_is n d (nonzero d p)).greatest (floor m d) (floor_under m d (ratio n d) p (le_same_right (le_whole h) (≈_sym (ratio_is n d (nonzero d p)))))

pub ceil_mono : (m n d : ℤ) → pos 0 <ℤ d → m ≤ℤ n → ceil m d ≤ℤ ceil n d
ceil_mono m n d p h = let f = floor_mono (neg_ℤ n) (neg_ℤ m) d p (omega (arith, ints)) in omega (arith, ints)

pub floor_le_ceil : (n d : ℤ) → (d ≡ pos 0 → ⊥) → floor n d ≤ℤ ceil n d
floor_le_ceil n d h = le_whole_out (le_trans (floor_is n d h).below (ceil_is n d h).above)

-- rounded outward
pub outward_narrower : (l h m k d : ℤ) → pos 0 <ℤ d → m ≤ℤ l → l ≤ℤ h → h ≤ℤ k → IsNarrower IsPart (ends (floor l d) (ceil h d)) (ends (floor m d) (ceil k d))
outward_narrower l h m k d p low o high =
    let f = floor_le_ceil l d (nonzero d p) in
    let c = ceil_mono l h d p o in
    ends_narrower (floor l d) (ceil h d) (floor m d) (ceil k d) (floor_mono m l d p low) (omega (arith, ints)) (ceil_mono h k d p high)

-- a decimal has one span
pub dec_span-narrower : (scale : ℕ) (d : Decimal) → IsNarrower IsPart (dec_span scale d) (dec_span scale d)
unfolding dec_span
dec_span-narrower scale d =
    ends_narrower (dec_floor scale d) (dec_ceil scale d) (dec_floor scale d) (dec_ceil scale d) (omega (arith, ints)) (ends_in_order scale _ (value d) (value_between scale d)) (omega (arith, ints))

module _ {a b : Ends} (p : IsPart a b) where
  pub iv_widen-narrower : (e : ℤ) → pos 0 ≤ℤ e → IsNarrower IsPart (iv_widen a e) (iv_widen b e)
  unfolding iv_widen
  iv_widen-narrower e n = let l = p.low in let o = p.order in let h = p.high in ends_narrower _ _ _ _ (omega (arith, ints)) (omega (arith, ints)) (omega (arith, ints))

  pub iv_shift-narrower : (k : ℤ) → IsNarrower IsPart (iv_shift a k) (iv_shift b k)
  unfolding iv_shift
  iv_shift-narrower (pos k) = outward_narrower a.lo a.hi b.lo b.hi (pos (10 ^ k)) (unit_pos k) p.low p.order p.high
  iv_shift-narrower (negsuc k) = ends_narrower _ _ _ _ (times b.lo a.lo p.low) (times a.lo a.hi p.order) (times a.hi b.hi p.high)
    where
      times : (x y : ℤ) → x ≤ℤ y → (x *ℤ pos (10 ^ suc k)) ≤ℤ (y *ℤ pos (10 ^ suc k))
      times x y h = by (10 ^ suc k)
        where
          by : (n : ℕ) → (x *ℤ pos n) ≤ℤ (y *ℤ pos n)
          by zero = omega (arith, ints)
          by (suc n) = scale_le x y n h

  pub iv_clip-narrower : (s : Ends) → IsNarrower IsPart (iv_clip a s) (iv_clip b s)
  unfolding iv_clip
  iv_clip-narrower s =
      let l = p.low in
      let h = p.high in
      cond_both (int_le (int_max b.lo s.lo) (int_min b.hi s.hi)) (ends (int_max b.lo s.lo) (int_min b.hi s.hi)) Empty
      (λ t. IsNarrower IsPart (if int_le (int_max a.lo s.lo) (int_min a.hi s.hi) then ends (int_max a.lo s.lo) (int_min a.hi s.hi) else Empty) t)
      (λ e. cond_both (int_le (int_max a.lo s.lo) (int_min a.hi s.hi)) (ends (int_max a.lo s.lo) (int_min a.hi s.hi)) Empty
      (λ r. IsNarrower IsPart r (ends (int_max b.lo s.lo) (int_min b.hi s.hi)))
      (λ d. ends_narrower _ _ _ _ (omega (arith, ints, clamps)) (grind (arith, ints, d)) (omega (arith, ints, clamps))) (λ d. empty_narrower IsPart _))
      (λ e. cond_both (int_le (int_max a.lo s.lo) (int_min a.hi s.hi)) (ends (int_max a.lo s.lo) (int_min a.hi s.hi)) Empty (λ r. IsNarrower IsPart r Empty)
      (λ d. absurd (apart e d)) (λ d. tt))
    where
      apart : int_le (int_max b.lo s.lo) (int_min b.hi s.hi) ≡ false → int_le (int_max a.lo s.lo) (int_min a.hi s.hi) ≡ true → ⊥
      apart e d =
          let l = p.low in
          let h = p.high in
          let low : int_max b.lo s.lo ≤ℤ int_max a.lo s.lo = omega (arith, ints, clamps) in
          let high : int_min a.hi s.hi ≤ℤ int_min b.hi s.hi = omega (arith, ints, clamps) in
          grind (arith, ints, low, high, e, d)

module _ {a b c d : Ends} (p : IsPart a b) (q : IsPart c d) where
  pub iv_plus-narrower : IsNarrower IsPart (iv_plus a c) (iv_plus b d)
  unfolding iv_plus
  iv_plus-narrower =
      let l = p.low in let o = p.order in let h = p.high in let m = q.low in let n = q.order in let k = q.high in
      ends_narrower _ _ _ _ (omega (arith, ints)) (omega (arith, ints)) (omega (arith, ints))

  pub iv_minus-narrower : IsNarrower IsPart (iv_minus a c) (iv_minus b d)
  unfolding iv_minus
  iv_minus-narrower =
      let l = p.low in let o = p.order in let h = p.high in let m = q.low in let n = q.order in let k = q.high in
      ends_narrower _ _ _ _ (omega (arith, ints)) (omega (arith, ints)) (omega (arith, ints))
