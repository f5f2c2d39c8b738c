-- What a first root leaves of a form whose hull lies above 0, and of the root of a member.
use Rattle.std.proofs.Common.{ℕ, ◌-◌, ◌*◌, ◌^◌, ◌<◌, ◌≤◌, max, List, [], ◌∷◌, arith, inr}
use Rattle.std.proofs.lemmas.Int.{ints}
use Rattle.std.proofs.Math.Nat.{one-le-pow}
use native.Mathlib.Nat.{mul-le-mul}
use Rattle.std.specs.Prelude.{ℤ, pos, negsuc, ◌-ℤ◌, ◌*ℤ◌, ◌<ℤ◌, map, unsigned_abs}
use Rattle.fixdec.specs.Form.{LinearForm, lin_hull, root_above}
use Rattle.fixdec.specs.FormMember.{IsFormMember, swing}
use Rattle.fixdec.specs.Frac.{Frac, ◌≈◌, ◌≤Q◌, ◌+Q◌, ◌*Q◌, ◌-Q◌, whole}
use Rattle.fixdec.specs.Algebra.FracLaws.{≈_sym}
use Rattle.fixdec.specs.Interval.{unit}
use Rattle.fixdec.specs.Algebra.Linear.{linear, linear_le, name, order, no_fact, reads}
use Rattle.fixdec.specs.Member.{IsMember, Symbols, units}
use Rattle.fixdec.specs.Algebra.Order.{le_whole}
use Rattle.fixdec.specs.Algebra.OrderLaws.{le_same_right, whole_add, whole_mul, whole_sub, zero_le_one}
use Rattle.fixdec.specs.Root.{root, root_up_by}
use Rattle.fixdec.specs.Algebra.RootLaws.{root_is, root_up_by_is, root_greatest}
use Rattle.fixdec.specs.Algebra.Roots.{IsAboveRoot, IsBelowRoot, root_law}
use Rattle.fixdec.specs.Algebra.Within.{HasSize, within_mul, within_same, within_to, within_whole}
use Rattle.forms.specs.Corrections.{corrected_law}
use Rattle.forms.specs.FormMembers.{aim, member-hull, member-within}
use Rattle.forms.specs.Leftovers.{root_left}
use Rattle.forms.specs.Swings.{swing-map}

-- the root of a least end above 0, rounded down, and of a greatest end above 0, rounded up
root_below : (scale : ℕ) (lo hi : ℤ) → pos 0 <ℤ lo → IsBelowRoot scale (root (unsigned_abs lo * 10 ^ scale)) record { lo = lo; hi = hi }
root_below scale (pos n) hi h = inr (let l = (root_is (n * 10 ^ scale)).low in omega (arith, ints))
root_below scale (negsuc n) hi h = absurd (omega (arith, ints))

root_over : (scale : ℕ) (lo hi : ℤ) → pos 0 <ℤ hi → IsAboveRoot scale (root_up_by (unsigned_abs hi * 10 ^ scale)) record { lo = lo; hi = hi }
root_over scale lo (pos n) h = let l = (root_up_by_is (n * 10 ^ scale)).high in omega (arith, ints)
root_over scale lo (negsuc n) h = absurd (omega (arith, ints))

-- the root of a number from 1 on isn't 0
root_some : (scale : ℕ) (c : ℤ) → pos 0 <ℤ c → 0 < root (unsigned_abs c * 10 ^ scale)
root_some scale (pos n) h =
    let l : 1 ≤ n = omega (arith, ints) in
    let m : 1 * 1 ≤ n * 10 ^ scale = mul-le-mul l (one-le-pow scale 10 (omega arith)) in
    root_greatest (n * 10 ^ scale) (root (n * 10 ^ scale)) 1 (root_is (n * 10 ^ scale)) m
root_some scale (negsuc n) h = absurd (omega (arith, ints))

-- what lies between l and h is within the greater distance of these from g
between-within : (g l h : ℕ) (z : Frac) → whole (pos l) ≤Q z → z ≤Q whole (pos h) → HasSize (whole (pos (max (g - l) (h - g)))) (z -Q whole (pos g))
between-within g l h z low high =
    let x = max (g - l) (h - g) in
    let a : whole (pos g) ≤Q whole (pos l) +Q whole (pos x) = le_same_right (le_whole (omega (arith, ints))) (whole_add (pos l) (pos x)) in
    let b : whole (pos h) ≤Q whole (pos g) +Q whole (pos x) = le_same_right (le_whole (omega (arith, ints))) (whole_add (pos g) (pos x)) in
    record {
      above = linear_le (z ∷ whole (pos g) ∷ whole (pos h) ∷ whole (pos x) ∷ []) _ _ (search reads depth 12)
          (order zero_le_one high (search reads depth 12) (order zero_le_one b (search reads depth 12) no_fact)) tt;
      below = linear_le (z ∷ whole (pos g) ∷ whole (pos l) ∷ whole (pos x) ∷ []) _ _ (search reads depth 12)
          (order zero_le_one low (search reads depth 12) (order zero_le_one a (search reads depth 12) no_fact)) tt;
    }

-- a coefficient in units
scaled : (scale : ℕ) (k : ℤ) → whole (k *ℤ unit scale) ≈ units scale *Q whole k
scaled scale k =
    linear (whole k ∷ units scale ∷ whole (k *ℤ unit scale) ∷ []) _ _ (search reads depth 12)
    (name (whole_mul k (unit scale)) (search reads depth 12) no_fact) tt

-- the hull of a lies above 0, u isn't negative, and its square is a member of a
module _ (scale : ℕ) (s : Symbols) (a : LinearForm) (u : Frac) (above : pos 0 <ℤ (lin_hull a).lo) (nn : whole (pos 0) ≤Q u)
    (p : IsFormMember scale a s (u *Q u)) where
  abbrev U : Frac
  U = units scale

  -- the first root, that of the centre
  abbrev first : ℕ
  first = root (unsigned_abs a.centre * 10 ^ scale)

  -- the roots of the ends of the hull
  abbrev least : ℕ
  least = root (unsigned_abs (lin_hull a).lo * 10 ^ scale)

  abbrev greatest : ℕ
  greatest = root_up_by (unsigned_abs (lin_hull a).hi * 10 ^ scale)

  -- how far the root may lie from the first one
  abbrev reach : ℕ
  reach = max (first - least) (greatest - first)

  between : IsMember scale record { lo = pos least; hi = pos greatest } u
  between =
      let hull = lin_hull a in
      root_law scale hull u least greatest (root_below scale hull.lo hull.hi above) (root_over scale hull.lo hull.hi (omega (arith, ints)))
      nn (member-hull scale a s (u *Q u) p)

  -- the root lies within the reach of the first one
  near : HasSize (whole (pos reach)) (u *Q U -Q whole (pos first))
  near = between-within first least greatest (u *Q U) between.low between.high

  -- what the first root leaves of the centre, of the coefficients and of the radius
  abbrev left_centre : ℤ
  left_centre = a.centre *ℤ unit scale -ℤ pos (first * first)

  abbrev left_coefficients : List ℤ
  left_coefficients = map (λ k. k *ℤ unit scale) a.coefficients

  abbrev left_radius : ℕ
  left_radius = a.radius * 10 ^ scale

  abbrev Sa : Frac
  Sa = swing a.coefficients s 0

  abbrev Sl : Frac
  Sl = swing left_coefficients s 0

  -- what the square differs by from the form's aim, in units
  abbrev error : Frac
  error = ((u *Q u) *Q U -Q aim a s) *Q U

  -- the square less that of the first root is what the first root leaves
  squares : (u *Q U) *Q (u *Q U) -Q whole (pos first) *Q whole (pos first) ≈ (whole left_centre +Q Sl) +Q error
  squares =
      let n = pos (first * first) in
      linear (u ∷ U ∷ whole (pos first) ∷ whole n ∷ whole a.centre ∷ whole (a.centre *ℤ unit scale) ∷ whole left_centre ∷ Sa ∷ Sl ∷ []) _ _
      (search reads depth 20 fits 4000)
      (name (whole_sub (a.centre *ℤ unit scale) n) (search reads depth 20 fits 4000)
      (name (whole_mul (pos first) (pos first)) (search reads depth 20 fits 4000)
      (name (scaled scale a.centre) (search reads depth 20 fits 4000)
      (name (swing-map s (λ k. k *ℤ unit scale) U (scaled scale) a.coefficients 0) (search reads depth 20 fits 4000) no_fact)))) tt

  error_within : HasSize (whole (pos left_radius)) error
  error_within = within_to (≈_sym (whole_mul (pos a.radius) (unit scale))) (within_mul (member-within scale a s (u *Q u) p) (within_whole (unit scale)))

  -- the root less the first one, times twice the first, differs from what the first one leaves by the radius of that, and by the
  -- square of how far the root may lie from the first one
  left_law : HasSize (whole (pos left_radius) +Q whole (pos (reach * reach)))
      ((u *Q U -Q whole (pos first)) *Q whole (pos (2 * first)) -Q (whole left_centre +Q Sl))
  left_law =
      within_same
      (linear (u ∷ U ∷ whole (pos first) ∷ whole (pos (2 * first)) ∷ whole left_centre ∷ Sl ∷ []) _ _ (search reads depth 12)
      (name (whole_mul (pos 2) (pos first)) (search reads depth 12) no_fact) tt)
      (root_left (u *Q U) (whole (pos first)) (whole left_centre +Q Sl) error reach left_radius squares near error_within)

  pub root_above_law : IsFormMember scale (root_above scale a) s u
  root_above_law =
      let some : 0 < 2 * first = (let f = root_some scale a.centre (omega (arith, ints)) in omega arith) in
      corrected_law scale s (pos first) u (pos (2 * first)) left_centre left_coefficients left_radius (reach * reach) some left_law
