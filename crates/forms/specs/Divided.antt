-- Forms over a whole number that isn't 0, of either sign: what the rounded quotients leave.
use Rattle.std.proofs.Common.{◌≡◌, ℕ, zero, suc, ◌+◌, ◌<◌, Bool, true, false, cond, refl, [], ◌∷◌, List, arith, ap}
use Rattle.std.proofs.lemmas.Grind.{div_ceil_times}
use Rattle.std.proofs.lemmas.Int.{ints, by_lt_z}
use Rattle.std.proofs.lemmas.List.Sums.{sum_by-cons}
use Rattle.std.specs.Cmp.{signed_Decides}
use Rattle.std.specs.Int.{div_ceil}
use Rattle.std.specs.Ordering.{int_eq}
use Rattle.std.specs.Prelude.{ℤ, pos, negsuc, ◌-ℤ◌, ◌*ℤ◌, ◌≤ℤ◌, ◌<ℤ◌, not, unsigned_abs}
use Rattle.fixdec.specs.Form.{divided_form, has_remainder, quotients, remainders}
use Rattle.fixdec.specs.FormMember.{swing}
use Rattle.fixdec.specs.Frac.{Frac, ◌≈◌, ◌≤Q◌, ◌<Q◌, ◌+Q◌, ◌*Q◌, ◌-Q◌, neg_Q, whole}
use Rattle.fixdec.specs.Algebra.FracLaws.{Q-IsRing, ≈_sym, ≈_trans}
use Rattle.fixdec.specs.Algebra.Linear.{by_ring, linear, fact, name, no_fact, reads}
use Rattle.fixdec.specs.Member.{Symbols}
use Rattle.fixdec.specs.Algebra.Order.{le_whole}
use Rattle.fixdec.specs.Algebra.OrderLaws.{le_same_right, lt_whole, whole_add, whole_mul, whole_neg, whole_same, whole_sub}
use Rattle.fixdec.specs.Rounding.{floor}
use Rattle.fixdec.specs.Algebra.RoundingLaws.{floor_pos, floor_pos_next, floor_neg, floor_neg_next}
use Rattle.fixdec.specs.Algebra.Within.{HasSize, within_add, within_cancel, within_more, within_mul, within_neg, within_same, within_to, within_whole, within_zero}
use Rattle.forms.specs.FormMembers.{aim}
use Rattle.forms.specs.Swings.{symbol-within}

-- a numerator rounded up, times the divisor, is at least that numerator
pub div_ceil-times : (r d : ℕ) → 0 < d → whole (pos r) ≤Q whole (pos (div_ceil r d)) *Q whole (pos d)
div_ceil-times r d h =
    let l = (div_ceil_times r d h).0 in
    le_same_right (le_whole (omega (arith, ints))) (whole_mul (pos (div_ceil r d)) (pos d))

-- 1 where n / d has a remainder, and else 0
abbrev pub remainder : ℤ → ℤ → ℕ
remainder d n = cond (has_remainder d n) 1 0

-- the remainders of one more numerator
pub remainders_more : (d n : ℤ) (ns : List ℤ) → whole (pos (remainders d (n ∷ ns))) ≈ whole (pos (remainder d n)) +Q whole (pos (remainders d ns))
remainders_more d n ns =
    ≈_trans (whole_same (ap pos (sum_by-cons (remainder d) n ns))) (whole_add (pos (remainder d n)) (pos (remainders d ns)))

size_pos : (d : ℤ) → (d ≡ pos 0 → ⊥) → pos 0 <ℤ pos (unsigned_abs d)
size_pos (pos zero) h = absurd (h refl)
size_pos (pos (suc d)) h = omega (arith, ints)
size_pos (negsuc d) h = omega (arith, ints)

module _ (d : ℤ) (nonzero : d ≡ pos 0 → ⊥) where
  -- the size of the divisor
  abbrev pub divisor_size : Frac
  divisor_size = whole (pos (unsigned_abs d))

  -- a rounded quotient is off by less than 1
  floor_off : (n : ℤ) → HasSize divisor_size (whole n -Q whole (floor n d) *Q whole d)
  floor_off n =
      within_same left
      (within_more (le_whole (by_lt_z {P = pos (unsigned_abs (n -ℤ f *ℤ d)) ≤ℤ pos (unsigned_abs d)} d (pos 0) below above)) (within_whole (n -ℤ f *ℤ d)))
    where
      f : ℤ
      f = floor n d

      left : whole (n -ℤ f *ℤ d) ≈ whole n -Q whole f *Q whole d
      left =
          linear (whole n ∷ whole f ∷ whole d ∷ whole (f *ℤ d) ∷ whole (n -ℤ f *ℤ d) ∷ []) _ _ (search reads depth 12)
          (name (whole_sub n (f *ℤ d)) (search reads depth 12) (name (whole_mul f d) (search reads depth 12) no_fact)) tt

      below : d <ℤ pos 0 → pos (unsigned_abs (n -ℤ f *ℤ d)) ≤ℤ pos (unsigned_abs d)
      below h = let p = floor_neg n d h in let q = floor_neg_next n d h in omega (arith, ints)

      above : pos 0 ≤ℤ d → pos (unsigned_abs (n -ℤ f *ℤ d)) ≤ℤ pos (unsigned_abs d)
      above h =
          let g : pos 0 <ℤ d = by_lt_z {P = pos 0 <ℤ d} (pos 0) d (λ l. l) (λ l. absurd (nonzero (omega (arith, ints)))) in
          let p = floor_pos n d g in
          let q = floor_pos_next n d g in
          omega (arith, ints)

  exact : (n : ℤ) → floor n d *ℤ d ≡ n → HasSize (whole (pos 0) *Q divisor_size) (whole n -Q whole (floor n d) *Q whole d)
  exact n e =
      within_to (by_ring (divisor_size ∷ []) _ _ (search reads depth 12) tt)
      (within_same (linear (whole n ∷ whole (floor n d) ∷ whole d ∷ []) _ _ (search reads depth 12)
      (fact (whole (pos 1)) (≈_trans (≈_sym (whole_mul (floor n d) d)) (whole_same e)) (search reads depth 12) no_fact) tt) (within_whole (pos 0)))

  -- and exact where there is no remainder
  pub left_over : (n : ℤ) → HasSize (whole (pos (remainder d n)) *Q divisor_size) (whole n -Q whole (floor n d) *Q whole d)
  left_over n = by (int_eq (floor n d *ℤ d) n) (signed_Decides (floor n d *ℤ d) n).0
    where
      by : (b : Bool) → (b ≡ true → floor n d *ℤ d ≡ n) → HasSize (whole (pos (cond (not b) 1 0)) *Q divisor_size) (whole n -Q whole (floor n d) *Q whole d)
      by true h = exact n (h refl)
      by false h = within_to (by_ring (divisor_size ∷ []) _ _ (search reads depth 12) tt) (floor_off n)

  -- what the quotients of a list leave
  pub swing-left_over : (s : Symbols) (ns : List ℤ) (i : ℕ)
      → HasSize (whole (pos (remainders d ns)) *Q divisor_size) (swing ns s i -Q swing (quotients d ns) s i *Q whole d)
  swing-left_over s [] i = within_to (by_ring (divisor_size ∷ []) _ _ (search reads depth 12) tt) (within_same (by_ring (whole d ∷ []) _ _ (search reads depth 12) tt) (within_zero 0))
  swing-left_over s (n ∷ ns) i =
      let R = whole (pos (remainder d n)) in
      let M = whole (pos (remainders d ns)) in
      let F = whole (floor n d) in
      let A = swing ns s (suc i) in
      let B = swing (quotients d ns) s (suc i) in
      within_to
      (linear (R ∷ M ∷ divisor_size ∷ whole (pos (remainders d (n ∷ ns))) ∷ []) _ _ (search reads depth 12)
      (name (remainders_more d n ns) (search reads depth 12) no_fact) tt)
      (within_same (by_ring (whole n ∷ F ∷ whole d ∷ s.at i ∷ A ∷ B ∷ []) _ _ (search reads depth 16) tt)
      (within_add (within_mul (left_over n) (symbol-within s i)) (swing-left_over s ns (suc i))))

  -- the size of the divisor lies above 0
  pub divisor_size_pos : whole (pos 0) <Q divisor_size
  divisor_size_pos = lt_whole (size_pos d nonzero)

  -- what is within r is within r over the divisor, rounded up, times the divisor
  pub within_div_ceil : (r : ℕ) (x : Frac) → HasSize (whole (pos r)) x → HasSize (whole (pos (div_ceil r (unsigned_abs d))) *Q divisor_size) x
  within_div_ceil r x h = let l = size_pos d nonzero in within_more (div_ceil-times r (unsigned_abs d) (omega (arith, ints))) h

  -- the size of the divisor cancels
  pub within_over : (p x : Frac) → HasSize (p *Q divisor_size) (x *Q whole d) → HasSize p x
  within_over p x h = by_lt_z {P = HasSize p x} d (pos 0) below above
    where
      above : pos 0 ≤ℤ d → HasSize p x
      above g = within_cancel divisor_size divisor_size_pos (within_same (Q-IsRing.mul_same (Q-IsRing.refl x) (whole_same (omega (arith, ints)))) h)

      below : d <ℤ pos 0 → HasSize p x
      below g =
          let turned : whole d ≈ neg_Q divisor_size = ≈_trans (whole_same (omega (arith, ints))) (whole_neg (pos (unsigned_abs d))) in
          within_cancel divisor_size divisor_size_pos
          (within_same (linear (x ∷ divisor_size ∷ whole d ∷ []) _ _ (search reads depth 12) (name turned (search reads depth 12) no_fact) tt) (within_neg h))

  -- where x d is within r d of n and a list's swing, x is within r and the quotients' remainders of the form of the quotients
  pub divided-law : (s : Symbols) (n : ℤ) (ns : List ℤ) (r : ℕ) (x : Frac) → HasSize (whole (pos r) *Q divisor_size) (x *Q whole d -Q (whole n +Q swing ns s 0))
      → HasSize (whole (pos (divided_form d n ns r).radius)) (x -Q aim (divided_form d n ns r) s)
  divided-law s n ns r x h =
      let R = whole (pos (remainder d n)) in
      let M = whole (pos (remainders d ns)) in
      let N = whole (pos (remainders d (n ∷ ns))) in
      let S = swing ns s 0 in
      let F = whole (floor n d) in
      let G = swing (quotients d ns) s 0 in
      within_over _ _
      (within_to
      (linear (whole (pos r) ∷ R ∷ M ∷ N ∷ divisor_size ∷ whole (pos (r + remainders d (n ∷ ns))) ∷ []) _ _ (search reads depth 12)
      (name (whole_add (pos r) (pos (remainders d (n ∷ ns)))) (search reads depth 12) (name (remainders_more d n ns) (search reads depth 12) no_fact)) tt)
      (within_same (by_ring (x ∷ whole d ∷ whole n ∷ S ∷ F ∷ G ∷ []) _ ((x -Q (F +Q G)) *Q whole d) (search reads depth 16) tt)
      (within_add h (within_add (left_over n) (swing-left_over s ns 0)))))
