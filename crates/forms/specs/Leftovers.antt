-- What a first guess of a quotient or of a root leaves: how far the quotient lies from it, and what one correction leaves.
use Rattle.std.proofs.Common.{ℕ, suc, ◌+◌, ◌-◌, ◌*◌, ◌<◌, [], ◌∷◌, arith, ◌⊎◌, inl, inr}
use Rattle.std.proofs.lemmas.Int.{ints}
use Rattle.std.specs.Int.{div_ceil}
use Rattle.std.specs.Prelude.{ℤ, pos, negsuc, ◌+ℤ◌, unsigned_abs}
use Rattle.fixdec.specs.Frac.{Frac, ◌≈◌, ◌≤Q◌, ◌+Q◌, ◌*Q◌, ◌-Q◌, neg_Q, whole}
use Rattle.fixdec.specs.Algebra.FracLaws.{≈_sym, ≈_trans}
use Rattle.fixdec.specs.Algebra.Linear.{linear, linear_le, fact, name, order, no_fact, reads}
use Rattle.fixdec.specs.Algebra.Order.{le_trans}
use Rattle.fixdec.specs.Algebra.OrderLaws.{le_mul_left, lt_of_lt_le, lt_whole, whole_add, whole_mul, whole_neg, whole_same, zero_le_one, zero_le_whole}
use Rattle.fixdec.specs.Algebra.Within.{HasSize, within_cancel, within_more, within_mul, within_neg, within_same, within_sub, within_to}
use Rattle.forms.specs.Divided.{div_ceil-times}

-- two numbers are at most the sum of their quotients, each rounded up, times the divisor
pub ceils_cover : (m n d : ℕ) → 0 < d → whole (pos m) +Q whole (pos n) ≤Q whole (pos (div_ceil m d + div_ceil n d)) *Q whole (pos d)
ceils_cover m n d h =
    let K = whole (pos d) in
    let M = whole (pos (div_ceil m d)) in
    let N = whole (pos (div_ceil n d)) in
    linear_le (whole (pos m) ∷ whole (pos n) ∷ K ∷ M ∷ N ∷ whole (pos (div_ceil m d + div_ceil n d)) ∷ []) _ _ (search reads depth 12)
    (name (whole_add (pos (div_ceil m d)) (pos (div_ceil n d))) (search reads depth 12)
    (order zero_le_one (div_ceil-times m d h) (search reads depth 12) (order zero_le_one (div_ceil-times n d h) (search reads depth 12) no_fact))) tt

-- y has at least the size k
abbrev pub IsFar : Frac → Frac → Type 0
IsFar k y = (k ≤Q y) ⊎ (k ≤Q neg_Q y)

-- a factor of at least e, above 0, cancels: where z y has at most the size n, z has at most n / e
cancel_above : (n e : ℕ) (z y : Frac) → 0 < e → whole (pos e) ≤Q y → HasSize (whole (pos n)) (z *Q y) → HasSize (whole (pos (div_ceil n e))) z
cancel_above n e z y h f w =
    within_cancel y (lt_of_lt_le (lt_whole (omega (arith, ints))) f)
    (within_more (le_trans (div_ceil-times n e h) (le_mul_left (whole (pos (div_ceil n e))) (zero_le_whole (div_ceil n e)) f)) w)

-- and so does one of either sign and of at least the size e
pub far_cancel : (n e : ℕ) (z y t : Frac) → 0 < e → IsFar (whole (pos e)) y → z *Q y ≈ t → HasSize (whole (pos n)) t
    → HasSize (whole (pos (div_ceil n e))) z
far_cancel n e z y t h (inl f) p w = cancel_above n e z y h f (within_same (≈_sym p) w)
far_cancel n e z y t h (inr f) p w =
    cancel_above n e z (neg_Q y) h f
    (within_same (linear (z ∷ y ∷ t ∷ []) _ _ (search reads depth 12) (name (≈_sym p) (search reads depth 12) no_fact) tt) (within_neg w))

-- what lies within d of a whole number of a greater size is as far from 0 as the size and d differ
pub far_from : (c : ℤ) (d : ℕ) (y : Frac) → d < unsigned_abs c → HasSize (whole (pos d)) (y -Q whole c)
    → IsFar (whole (pos (unsigned_abs c - d))) y
far_from (pos n) d y h w =
    let e : whole (pos n) ≈ whole (pos (n - d)) +Q whole (pos d) = ≈_trans (whole_same (omega (arith, ints))) (whole_add (pos (n - d)) (pos d)) in
    inl (linear_le (y ∷ whole (pos n) ∷ whole (pos (n - d)) ∷ whole (pos d) ∷ []) _ _ (search reads depth 12)
    (name e (search reads depth 12) (order zero_le_one w.below (search reads depth 12) no_fact)) tt)
far_from (negsuc n) d y h w =
    let m = pos (suc n - d) in
    let e : whole (negsuc n) ≈ neg_Q (whole (m +ℤ pos d)) = ≈_trans (whole_same (omega (arith, ints))) (whole_neg (m +ℤ pos d)) in
    inr (linear_le (y ∷ whole (negsuc n) ∷ whole m ∷ whole (pos d) ∷ whole (m +ℤ pos d) ∷ []) _ _ (search reads depth 12)
    (name e (search reads depth 12) (name (whole_add m (pos d)) (search reads depth 12)
    (order zero_le_one w.above (search reads depth 12) no_fact))) tt)

-- a size and a product of sizes
size_and_product : (r x d : ℕ) → whole (pos r) +Q whole (pos x) *Q whole (pos d) ≈ whole (pos r) +Q whole (pos (x * d))
size_and_product r x d =
    linear (whole (pos x) ∷ whole (pos d) ∷ whole (pos r) ∷ whole (pos (x * d)) ∷ []) _ _ (search reads depth 12)
    (name (whole_mul (pos x) (pos d)) (search reads depth 12) no_fact) tt

-- z y is t and an error: z times c differs from t by that error, and by z times what y and c differ by
pub quotient_left : (z y c t error : Frac) (x d r : ℕ) → z *Q y ≈ t +Q error
    → HasSize (whole (pos x)) z → HasSize (whole (pos d)) (y -Q c) → HasSize (whole (pos r)) error
    → HasSize (whole (pos r) +Q whole (pos (x * d))) (z *Q c -Q t)
quotient_left z y c t error x d r h p q e =
    within_to (size_and_product r x d)
    (within_same (linear (z ∷ y ∷ c ∷ t ∷ error ∷ []) _ _ (search reads depth 12) (fact (neg_Q (whole (pos 1))) h (search reads depth 12) no_fact) tt)
    (within_sub e (within_mul p q)))

-- the squares of z and g differ by t and an error: z - g, times 2 g, differs from t by that error, and by the square of z - g
pub root_left : (z g t error : Frac) (x r : ℕ) → z *Q z -Q g *Q g ≈ t +Q error
    → HasSize (whole (pos x)) (z -Q g) → HasSize (whole (pos r)) error
    → HasSize (whole (pos r) +Q whole (pos (x * x))) ((z -Q g) *Q (whole (pos 2) *Q g) -Q t)
root_left z g t error x r h p e =
    within_to (size_and_product r x x)
    (within_same (linear (z ∷ g ∷ t ∷ error ∷ []) _ _ (search reads depth 12) (fact (neg_Q (whole (pos 1))) h (search reads depth 12) no_fact) tt)
    (within_sub e (within_mul p p)))
