-- Interval arithmetic encloses: what is computed from intervals holds what is computed from their members.
use Rattle.std.proofs.Common.{ℕ, suc, ◌*◌, ◌^◌, true, false, ◌&&◌, arith, ◌⊎◌, inl, inr}
use Rattle.std.proofs.lemmas.Bool.{cond_both}
use Rattle.std.proofs.lemmas.Int.{ints}
use Rattle.std.specs.Prelude.{ℤ, pos, negsuc, ◌≤ℤ◌, int_le, int_lt, if◌then◌else◌}
use Rattle.std.specs.Int.{int_min, int_max}
use Rattle.fixdec.specs.Ends.{Ends}
use Rattle.fixdec.specs.Frac.{Frac, ◌≈◌, ◌≤Q◌, ◌+Q◌, ◌*Q◌, ◌-Q◌, neg_Q, whole}
use Rattle.fixdec.specs.Algebra.FracLaws.{≈_refl}
use Rattle.fixdec.specs.Interval.{fits_cap, ends, holds_zero, least_quotient, greatest_quotient, positive_part, iv_plus, iv_minus, iv_times, iv_square, iv_over, iv_root, iv_widen, iv_shift, iv_clip, iv_size}
use Rattle.fixdec.specs.Frac.{size}
use Rattle.fixdec.specs.Member.{IsMember, IsNear, IsShifted, Symbols}
use Rattle.fixdec.specs.Algebra.MemberLaws.{unit_pos, ends_in_order, plus_law, minus_law, widen_law, divide_law, multiply_law, clip_law, symbol_law}
use Rattle.fixdec.specs.Algebra.Order.{nn_in}
use Rattle.fixdec.specs.Algebra.Products.{product_law, square_law, size_law}
use Rattle.fixdec.specs.Algebra.Quotients.{over_law}
use Rattle.fixdec.specs.Root.{root, root_up_by}
use Rattle.fixdec.specs.Algebra.Roots.{holds_square, root_law}
use Rattle.fixdec.specs.Steps.{OnVal}
use Rattle.fixdec.specs.declared.step.Step.TheVariants.{Val, Empty, Lost}
use Rattle.fixdec.specs.declared.step.Why.TheVariants.{Zero, Range}
use Rattle.enclose.specs.EndLaws.{least_product_is, greatest_product_is, least_quotient_is, greatest_quotient_is, without_zero, least_size_is, greatest_size_is, root_low, root_high}

-- what holds of an interval of two ends holds on the value of `ends`
on_ends : (lo hi : ℤ) (P : Ends → Type 0) → P (record { lo = lo; hi = hi }) → OnVal (ends lo hi) P
unfolding ends
on_ends lo hi P h = elim (fits_cap lo && fits_cap hi) as (λ b. OnVal (if b then Val (record { lo = lo; hi = hi }) else Lost Range) P) [ true ↦ h | false ↦ tt ]

-- the size of a fraction is it or its negation, and isn't negative
size_nn : (x : Frac) → whole (pos 0) ≤Q size x
size_nn x = nn_in record { num = omega (arith, ints) }

size_cases : (x : Frac) → (size x ≈ x) ⊎ (size x ≈ neg_Q x)
unfolding neg_Q
size_cases x = by x.num x.less
  where
    by : (n : ℤ) (d : ℕ) → (size (record { num = n; less = d }) ≈ record { num = n; less = d }) ⊎ (size (record { num = n; less = d }) ≈ neg_Q (record { num = n; less = d }))
    by (pos n) d = inl (≈_refl _)
    by (negsuc n) d = inr (≈_refl _)

module _ (scale : ℕ) where
  pub iv_plus-encloses : (a b : Ends) (u v : Frac) → IsMember scale a u → IsMember scale b v → OnVal (iv_plus a b) (λ r. IsMember scale r (u +Q v))
  unfolding iv_plus
  iv_plus-encloses a b u v p q = on_ends _ _ (λ r. IsMember scale r (u +Q v)) (plus_law scale a b u v p q)

  pub iv_minus-encloses : (a b : Ends) (u v : Frac) → IsMember scale a u → IsMember scale b v → OnVal (iv_minus a b) (λ r. IsMember scale r (u -Q v))
  unfolding iv_minus
  iv_minus-encloses a b u v p q = on_ends _ _ (λ r. IsMember scale r (u -Q v)) (minus_law scale a b u v p q)

  pub iv_times-encloses : (a b : Ends) (u v : Frac) → IsMember scale a u → IsMember scale b v → OnVal (iv_times scale a b) (λ r. IsMember scale r (u *Q v))
  unfolding iv_times
  iv_times-encloses a b u v p q =
      on_ends _ _ (λ r. IsMember scale r (u *Q v)) (product_law scale a b u v _ _ (least_product_is a b) (greatest_product_is a b) p q)

  pub iv_square-encloses : (a : Ends) (u : Frac) → IsMember scale a u → OnVal (iv_square scale a) (λ r. IsMember scale r (u *Q u))
  unfolding iv_square
  iv_square-encloses a u p = on_ends _ _ (λ r. IsMember scale r (u *Q u)) (square_law scale a u _ _ (least_size_is a) (greatest_size_is a) p)

  -- each quotient of members
  pub iv_over-encloses : (a b : Ends) (u v q : Frac) → IsMember scale a u → IsMember scale b v → q *Q v ≈ u → OnVal (iv_over scale a b) (λ r. IsMember scale r q)
  unfolding iv_over
  iv_over-encloses a b u v q p r e =
      cond_both (holds_zero b) (Lost Zero) (ends (least_quotient scale a b) (greatest_quotient scale a b)) (λ o. OnVal o (λ s. IsMember scale s q))
      (λ z. tt)
      (λ z. on_ends _ _ (λ s. IsMember scale s q) (over_law scale a b q u v e p r _ _ (least_quotient_is scale a b) (greatest_quotient_is scale a b) (without_zero b z)))

  -- each root that isn't negative of a member
  pub iv_root-encloses : (a : Ends) (u : Frac) → whole (pos 0) ≤Q u → IsMember scale a (u *Q u) → OnVal (iv_root scale a) (λ r. IsMember scale r u)
  unfolding iv_root
  iv_root-encloses a u n p =
      let nn = holds_square scale a u p in
      cond_both (int_lt a.hi (pos 0)) Empty (ends (pos (root (positive_part a.lo * 10 ^ scale))) (pos (root_up_by (positive_part a.hi * 10 ^ scale)))) (λ o. OnVal o (λ s. IsMember scale s u))
      (λ z. grind (arith, ints))
      (λ z. on_ends _ _ (λ s. IsMember scale s u) (root_law scale a u _ _ (root_low scale a) (root_high scale a) n p))

  pub iv_widen-encloses : (a : Ends) (e : ℤ) (u v : Frac) → IsMember scale a u → IsNear scale e u v → OnVal (iv_widen a e) (λ r. IsMember scale r v)
  unfolding iv_widen
  iv_widen-encloses a e u v p n = on_ends _ _ (λ r. IsMember scale r v) (widen_law scale a e u v p n)

  pub iv_shift-encloses : (a : Ends) (k : ℤ) (u v : Frac) → IsMember scale a u → IsShifted k u v → OnVal (iv_shift a k) (λ r. IsMember scale r v)
  unfolding iv_shift
  iv_shift-encloses a (pos k) u v p e = on_ends _ _ (λ r. IsMember scale r v) (divide_law scale a (pos (10 ^ k)) u v (unit_pos k) p e)
  iv_shift-encloses a (negsuc k) u v p e = on_ends _ _ (λ r. IsMember scale r v) (multiply_law scale a (pos (10 ^ suc k)) u v (omega (arith, ints)) p e)

  pub iv_clip-encloses : (a s : Ends) (u : Frac) → IsMember scale a u → IsMember scale s u → OnVal (iv_clip a s) (λ r. IsMember scale r u)
  unfolding iv_clip
  iv_clip-encloses a s u p q =
      let m = clip_law scale a s u p q in
      let order = ends_in_order scale (record { lo = int_max a.lo s.lo; hi = int_min a.hi s.hi }) u m in
      cond_both (int_le (int_max a.lo s.lo) (int_min a.hi s.hi)) (ends (int_max a.lo s.lo) (int_min a.hi s.hi)) Empty (λ o. OnVal o (λ r. IsMember scale r u))
      (λ z. on_ends _ _ (λ r. IsMember scale r u) m)
      (λ z. grind (arith, ints))

  -- a member plus a deviation times a symbol
  pub iv_symbol-encloses : (a delta : Ends) (s : Symbols) (i : ℕ) (u d : Frac) → pos 0 ≤ℤ delta.lo → IsMember scale a u → IsMember scale delta d → OnVal (iv_widen a delta.hi) (λ r. IsMember scale r (u +Q d *Q s.at i))
  unfolding iv_widen
  iv_symbol-encloses a delta s i u d h p q = on_ends _ _ (λ r. IsMember scale r (u +Q d *Q s.at i)) (symbol_law scale a delta s i u d h p q)

  pub iv_size-encloses : (a : Ends) (u : Frac) → IsMember scale a u → IsMember scale (iv_size a) (size u)
  unfolding iv_size
  iv_size-encloses a u p = size_law scale a u (size u) _ _ (least_size_is a) (greatest_size_is a) p (size_nn u) (size_cases u)
