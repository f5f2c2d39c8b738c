-- The least floor and the greatest ceiling of the quotients of ends, by the signs of the ends.
use Rattle.std.proofs.Common.{ℕ, ◌≡◌, zero, suc, ◌≤◌, ◌*◌, ◌/◌, refl, arith, ◌⊎◌, inl, inr}
use Rattle.std.specs.Prelude.{ℤ, pos, negsuc, ◌≤ℤ◌, ◌<ℤ◌}
use Rattle.std.proofs.lemmas.Nat.{le-div}
use native.Mathlib.Nat.{div-mul-le_self, mul-le-mul_left}
use Rattle.std.proofs.lemmas.Int.{ints}
use lib.IntN.{neg_ℤ}
use Rattle.fixdec.specs.Interval.{least, greatest}
use Rattle.fixdec.specs.Rounding.{floor, ceil}
use Rattle.enclose.proofs.ProductOrder.{chain}
use Rattle.enclose.proofs.Selection.{least_first, least_second, least_third, least_fourth, greatest_first, greatest_second, greatest_third, greatest_fourth}

div_keeps : (a b d : ℕ) → a ≤ b → a / suc d ≤ b / suc d
div_keeps a b d h = let l = div-mul-le_self a (suc d) in le-div (a / suc d) b (suc d) (omega arith) (omega arith)

div_falls : (a d e : ℕ) → d ≤ e → a / suc e ≤ a / suc d
div_falls a d e h =
    let l = div-mul-le_self a (suc e) in
    let m : a / suc e * suc d ≤ a / suc e * suc e = mul-le-mul_left (a / suc e) (omega arith) in
    le-div (a / suc e) a (suc d) (omega arith) (omega arith)

-- ---- a divisor above 0
floor_keeps : (x y d : ℤ) → pos 0 <ℤ d → x ≤ℤ y → floor x d ≤ℤ floor y d
floor_keeps x y (pos zero) h l = absurd (omega (arith, ints))
floor_keeps (pos a) (pos b) (pos (suc d)) h l =
    let k : a / suc d ≤ b / suc d = div_keeps _ _ d (omega (arith, ints)) in
    omega (arith, ints)
floor_keeps (pos a) (negsuc b) (pos (suc d)) h l = absurd (omega (arith, ints))
floor_keeps (negsuc a) (pos b) (pos (suc d)) h l = omega (arith, ints)
floor_keeps (negsuc a) (negsuc b) (pos (suc d)) h l =
    let k : b / suc d ≤ a / suc d = div_keeps _ _ d (omega (arith, ints)) in
    omega (arith, ints)
floor_keeps x y (negsuc d) h l = absurd (omega (arith, ints))

-- the greater divisor brings the quotient nearer to 0
floor_falls : (x d e : ℤ) → pos 0 <ℤ d → d ≤ℤ e → pos 0 ≤ℤ x → floor x e ≤ℤ floor x d
floor_falls x (pos zero) e h l p = absurd (omega (arith, ints))
floor_falls (pos a) (pos (suc d)) (pos zero) h l p = absurd (omega (arith, ints))
floor_falls (pos a) (pos (suc d)) (pos (suc e)) h l p =
    let k : a / suc e ≤ a / suc d = div_falls a d e (omega (arith, ints)) in
    omega (arith, ints)
floor_falls (pos a) (pos (suc d)) (negsuc e) h l p = absurd (omega (arith, ints))
floor_falls (negsuc a) (pos (suc d)) e h l p = absurd (omega (arith, ints))
floor_falls x (negsuc d) e h l p = absurd (omega (arith, ints))

floor_rises : (x d e : ℤ) → pos 0 <ℤ d → d ≤ℤ e → x ≤ℤ pos 0 → floor x d ≤ℤ floor x e
floor_rises x (pos zero) e h l p = absurd (omega (arith, ints))
floor_rises x (pos (suc d)) (pos zero) h l p = absurd (omega (arith, ints))
floor_rises (pos a) (pos (suc d)) (pos (suc e)) h l p =
    let k : a / suc d ≤ 0 / suc d = div_keeps a 0 d (omega (arith, ints)) in
    omega (arith, ints)
floor_rises (negsuc a) (pos (suc d)) (pos (suc e)) h l p =
    let k : a / suc e ≤ a / suc d = div_falls a d e (omega (arith, ints)) in
    omega (arith, ints)
floor_rises x (pos (suc d)) (negsuc e) h l p = absurd (omega (arith, ints))
floor_rises x (negsuc d) e h l p = absurd (omega (arith, ints))

-- ---- a divisor below 0: both are turned
turned : (x d : ℤ) → d <ℤ pos 0 → floor x d ≡ floor (neg_ℤ x) (neg_ℤ d)
turned x (pos d) h = absurd (omega (arith, ints))
turned x (negsuc d) h = refl

turned_keeps : (x y d : ℤ) → d <ℤ pos 0 → x ≤ℤ y → floor y d ≤ℤ floor x d
turned_keeps x y d h l = rw (turned x d h, turned y d h) (floor_keeps (neg_ℤ y) (neg_ℤ x) (neg_ℤ d) (omega (arith, ints)) (omega (arith, ints)))

turned_falls : (x d e : ℤ) → e <ℤ pos 0 → d ≤ℤ e → pos 0 ≤ℤ x → floor x e ≤ℤ floor x d
turned_falls x d e h l p =
    rw (turned x d (omega (arith, ints)), turned x e h)
    (floor_rises (neg_ℤ x) (neg_ℤ e) (neg_ℤ d) (omega (arith, ints)) (omega (arith, ints)) (omega (arith, ints)))

turned_rises : (x d e : ℤ) → e <ℤ pos 0 → d ≤ℤ e → x ≤ℤ pos 0 → floor x d ≤ℤ floor x e
turned_rises x d e h l p =
    rw (turned x d (omega (arith, ints)), turned x e h)
    (floor_falls (neg_ℤ x) (neg_ℤ e) (neg_ℤ d) (omega (arith, ints)) (omega (arith, ints)) (omega (arith, ints)))

opposed : {x y : ℤ} → x ≤ℤ y → neg_ℤ y ≤ℤ neg_ℤ x
opposed l = omega (arith, ints)

module _ (al ah bl bh : ℤ) (a : al ≤ℤ ah) (b : bl ≤ℤ bh) where
  abbrev Least : ℤ → Type 0
  Least m = m ≡ least (floor al bl) (floor al bh) (floor ah bl) (floor ah bh)

  abbrev Greatest : ℤ → Type 0
  Greatest m = m ≡ greatest (ceil al bl) (ceil al bh) (ceil ah bl) (ceil ah bh)

  module _ (h : pos 0 <ℤ bl) where
    above : pos 0 <ℤ bh
    above = omega (arith, ints)

    pub least_above_above : pos 0 ≤ℤ al → Least (floor al bh)
    least_above_above p =
        let l = floor_falls al bl bh h b p in
        least_second _ _ _ _ l (chain l (floor_keeps al ah bl h a)) (floor_keeps al ah bh above a)

    pub least_below_above : al ≤ℤ pos 0 → Least (floor al bl)
    least_below_above p =
        let l = floor_rises al bl bh h b p in
        least_first _ _ _ _ l (floor_keeps al ah bl h a) (chain l (floor_keeps al ah bh above a))

    pub greatest_above_above : pos 0 ≤ℤ ah → Greatest (ceil ah bl)
    greatest_above_above p =
        let l = opposed (floor_rises (neg_ℤ ah) bl bh h b (omega (arith, ints))) in
        greatest_third _ _ _ _ (opposed (floor_keeps (neg_ℤ ah) (neg_ℤ al) bl h (opposed a)))
        (chain (opposed (floor_keeps (neg_ℤ ah) (neg_ℤ al) bh above (opposed a))) l) l

    pub greatest_below_above : ah ≤ℤ pos 0 → Greatest (ceil ah bh)
    greatest_below_above p =
        let l = opposed (floor_falls (neg_ℤ ah) bl bh h b (omega (arith, ints))) in
        greatest_fourth _ _ _ _ (chain (opposed (floor_keeps (neg_ℤ ah) (neg_ℤ al) bl h (opposed a))) l)
        (opposed (floor_keeps (neg_ℤ ah) (neg_ℤ al) bh above (opposed a))) l

  module _ (h : bh <ℤ pos 0) where
    below : bl <ℤ pos 0
    below = omega (arith, ints)

    pub least_above_below : pos 0 ≤ℤ ah → Least (floor ah bh)
    least_above_below p =
        let l = turned_falls ah bl bh h b p in
        least_fourth _ _ _ _ (chain l (turned_keeps al ah bl below a)) (turned_keeps al ah bh h a) l

    pub least_below_below : ah ≤ℤ pos 0 → Least (floor ah bl)
    least_below_below p =
        let l = turned_rises ah bl bh h b p in
        least_third _ _ _ _ (turned_keeps al ah bl below a) (chain l (turned_keeps al ah bh h a)) l

    pub greatest_above_below : pos 0 ≤ℤ al → Greatest (ceil al bl)
    greatest_above_below p =
        let l = opposed (turned_rises (neg_ℤ al) bl bh h b (omega (arith, ints))) in
        greatest_first _ _ _ _ l (opposed (turned_keeps (neg_ℤ ah) (neg_ℤ al) bl below (opposed a)))
        (chain (opposed (turned_keeps (neg_ℤ ah) (neg_ℤ al) bh h (opposed a))) l)

    pub greatest_below_below : al ≤ℤ pos 0 → Greatest (ceil al bh)
    greatest_below_below p =
        let l = opposed (turned_falls (neg_ℤ al) bl bh h b (omega (arith, ints))) in
        greatest_second _ _ _ _ l (chain (opposed (turned_keeps (neg_ℤ ah) (neg_ℤ al) bl below (opposed a))) l)
        (opposed (turned_keeps (neg_ℤ ah) (neg_ℤ al) bh h (opposed a)))

-- divisors without 0 that aren't above it lie below it
pub below_zero : {bl bh : ℤ} → (pos 0 <ℤ bl) ⊎ (bh <ℤ pos 0) → bl ≤ℤ pos 0 → bh <ℤ pos 0
below_zero (inl h) l = absurd (omega (arith, ints))
below_zero (inr h) l = h
