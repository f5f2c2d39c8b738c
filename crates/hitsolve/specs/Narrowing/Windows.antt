-- The window of an even asphere is an interval around 0, and so is what is cut from an interval.
use Rattle.std.proofs.Common.{ℕ, [], ◌∷◌, List, arith, ◌&&◌}
use Rattle.std.proofs.lemmas.Bool.{cond_both}
use Rattle.std.proofs.lemmas.Int.{ints, clamps}
use Rattle.std.specs.Prelude.{ℤ, pos, ◌*ℤ◌, ◌≤ℤ◌}
use Rattle.fixdec.specs.Algebra.MemberLaws.{unit_pos}
use Rattle.fixdec.specs.Algebra.Order.{nn_mul}
use Rattle.fixdec.specs.Ends.{Ends}
use Rattle.fixdec.specs.Interval.{ends, fits_cap, unit, greatest, greatest_product, greatest_size, least_size, iv_plus, iv_times, iv_size, iv_widen}
use Rattle.fixdec.specs.IntervalOperations.{operations}
use Rattle.fixdec.specs.Operations.{Operations}
use Rattle.fixdec.specs.Rounding.{ceil}
use Rattle.fixdec.specs.declared.step.Step.TheVariants.{Val, Lost}
use Rattle.fixdec.specs.declared.step.Why.TheVariants.{Range}
use Rattle.lensmodel.specs.Rows.Cells.{added_sizes, bound_row, window_row}
use Rattle.lensmodel.specs.Rows.Preparation.{Prepared}
use Rattle.hitsolve.specs.Narrowing.Sums.{ceil_mono}
use Rattle.hitsolve.specs.Values.{IfVal, if_val-then}

-- the greatest number of an interval isn't below 0
abbrev pub ReachesZero : Ends → Type 0
ReachesZero a = pos 0 ≤ℤ a.hi

on_ends : (lo hi : ℤ) → pos 0 ≤ℤ hi → IfVal (ends lo hi) ReachesZero
unfolding ends
on_ends lo hi h =
    cond_both (fits_cap lo && fits_cap hi) (Val (record { lo = lo; hi = hi })) (Lost Range) (λ s. IfVal s ReachesZero) (λ e. h) (λ e. tt)

ceil_nn : (n d : ℤ) → pos 0 ≤ℤ n → (k : ℕ) → pos 0 ≤ℤ ceil n (unit k)
ceil_nn n d h k = let z = ceil_mono (pos 0) n (unit k) (unit_pos k) h in omega (arith, ints)

module _ (scale : ℕ) where
  abbrev o : Operations Ends
  o = operations scale

  times_size : (c z : Ends) → ReachesZero z → IfVal (o.times (iv_size c) z) ReachesZero
  unfolding operations iv_times iv_size
  times_size c z h =
      let p = nn_mul (pos (greatest_size c)) z.hi (omega (arith, ints)) h in
      on_ends _ _ (ceil_nn (greatest_product (record { lo = pos (least_size c); hi = pos (greatest_size c) }) z) (pos 0) (most (pos (least_size c) *ℤ z.lo) (pos (least_size c) *ℤ z.hi) (pos (greatest_size c) *ℤ z.lo) (pos (greatest_size c) *ℤ z.hi) p) scale)
    where
      most : (p q r s : ℤ) → pos 0 ≤ℤ s → pos 0 ≤ℤ greatest p q r s
      most p q r s h = omega (arith, ints, clamps)

  plus_size : (a c : Ends) → ReachesZero a → IfVal (o.plus a (iv_size c)) ReachesZero
  unfolding operations iv_plus iv_size
  plus_size a c h = on_ends _ _ (omega (arith, ints))

  widened : (a : Ends) (e : ℤ) → pos 0 ≤ℤ e → ReachesZero a → IfVal (o.widen a e) ReachesZero
  unfolding operations iv_widen
  widened a e n h = on_ends _ _ (omega (arith, ints))

  sizes_added : (a : Ends) (b : List Ends) → ReachesZero a → IfVal (added_sizes scale a b) ReachesZero
  sizes_added a [] h = h
  sizes_added a (b ∷ more) h = if_val-then (o.plus a (iv_size b)) _ ReachesZero ReachesZero (plus_size a b h) λ r k. sizes_added r more k

  pub bound_row-reaches : (face : Prepared Ends) (zone2 : Ends) (e : ℤ) → ReachesZero zone2 → pos 0 ≤ℤ e → IfVal (bound_row scale face zone2 e) ReachesZero
  bound_row-reaches face zone2 e h n =
      if_val-then (o.times (iv_size face.c) zone2) _ ReachesZero ReachesZero (times_size face.c zone2 h) λ a k.
      if_val-then (added_sizes scale a face.b) _ ReachesZero ReachesZero (sizes_added a face.b k) λ b m.
      if_val-then (o.widen b e) _ ReachesZero ReachesZero (widened b e n m) λ c l. widened c e n l

  -- so the window's ends are in order
  pub window_row-order : (face : Prepared Ends) (zone2 : Ends) (e : ℤ) → ReachesZero zone2 → pos 0 ≤ℤ e → IfVal (window_row scale face zone2 e) (λ a. a.lo ≤ℤ a.hi)
  window_row-order face zone2 e h n =
      if_val-then (bound_row scale face zone2 e) _ ReachesZero (λ a. a.lo ≤ℤ a.hi) (bound_row-reaches face zone2 e h n) λ b k. omega (arith, ints)
