-- What a first quotient leaves of two forms, and of the quotient of their members.
use Rattle.std.proofs.Common.{ℕ, ◌+◌, ◌-◌, ◌*◌, ◌^◌, ◌<◌, List, [], ◌∷◌, arith}
use Rattle.std.specs.Int.{div_ceil}
use Rattle.std.specs.Prelude.{ℤ, pos, ◌*ℤ◌, unsigned_abs}
use Rattle.fixdec.specs.Form.{LinearForm, coefficientwise, dev, quotient_rest, sizes}
use Rattle.fixdec.specs.FormMember.{IsFormMember, swing}
use Rattle.fixdec.specs.Frac.{Frac, ◌≈◌, ◌+Q◌, ◌*Q◌, ◌-Q◌, neg_Q, whole}
use Rattle.fixdec.specs.Algebra.FracLaws.{≈_sym}
use Rattle.fixdec.specs.Interval.{unit}
use Rattle.fixdec.specs.Algebra.Linear.{linear, name, no_fact, reads}
use Rattle.fixdec.specs.Member.{Symbols, units}
use Rattle.fixdec.specs.Algebra.OrderLaws.{whole_add, whole_mul, whole_sub}
use Rattle.fixdec.specs.Algebra.Within.{HasSize, within_add, within_mul, within_sub, within_to, within_whole}
use Rattle.forms.specs.FormMembers.{aim, member-within, member-dev}
use Rattle.forms.specs.Leftovers.{far_cancel, far_from, quotient_left}
use Rattle.forms.specs.Swings.{swing-combined, swing-within}

-- what a first quotient g leaves of a and b: of the centres, of the coefficients and of the radii
module _ (scale : ℕ) (g : ℤ) (a b : LinearForm) where
  abbrev pub left_centre : ℤ
  left_centre = quotient_rest scale g a.centre b.centre

  abbrev pub left_coefficients : List ℤ
  left_coefficients = coefficientwise (quotient_rest scale g) a.coefficients b.coefficients

  abbrev pub left_radius : ℕ
  left_radius = a.radius * 10 ^ scale + unsigned_abs g * b.radius

  -- how far the quotient may lie from the first one
  abbrev pub reach : ℕ
  reach = div_ceil (unsigned_abs left_centre + sizes left_coefficients + left_radius) (unsigned_abs b.centre - dev b)

-- what is left of two numbers, as a fraction
left_is : (scale : ℕ) (g x y : ℤ) → whole (quotient_rest scale g x y) ≈ units scale *Q whole x +Q neg_Q (whole g) *Q whole y
left_is scale g x y =
    let m = x *ℤ unit scale in
    let n = g *ℤ y in
    linear (units scale ∷ whole x ∷ whole g ∷ whole y ∷ whole m ∷ whole n ∷ whole (quotient_rest scale g x y) ∷ []) _ _ (search reads depth 12)
    (name (whole_sub m n) (search reads depth 12)
    (name (whole_mul x (unit scale)) (search reads depth 12) (name (whole_mul g y) (search reads depth 12) no_fact))) tt

-- u and v are members of a and b under the same symbols, and q v is u
module _ (scale : ℕ) (g : ℤ) (s : Symbols) (a b : LinearForm) (u v q : Frac) (p : IsFormMember scale a s u) (r : IsFormMember scale b s v)
    (same : q *Q v ≈ u) where
  abbrev U : Frac
  U = units scale

  abbrev centre : ℤ
  centre = left_centre scale g a b

  abbrev coefficients : List ℤ
  coefficients = left_coefficients scale g a b

  abbrev radius : ℕ
  radius = left_radius scale g a b

  abbrev Sa : Frac
  Sa = swing a.coefficients s 0

  abbrev Sb : Frac
  Sb = swing b.coefficients s 0

  abbrev Sl : Frac
  Sl = swing coefficients s 0

  -- what the first quotient leaves of what the members differ by from their aims
  abbrev error : Frac
  error = (u *Q U -Q aim a s) *Q U -Q whole g *Q (v *Q U -Q aim b s)

  -- the quotient less the first one, times the divisor, is what the first one leaves
  product : (q *Q U -Q whole g) *Q (v *Q U) ≈ (whole centre +Q Sl) +Q error
  product =
      linear (q ∷ v ∷ u ∷ U ∷ whole g ∷ whole a.centre ∷ whole b.centre ∷ Sa ∷ Sb ∷ whole centre ∷ Sl ∷ []) _ _ (search reads depth 20 fits 20000)
      (name (≈_sym same) (search reads depth 20 fits 20000)
      (name (left_is scale g a.centre b.centre) (search reads depth 20 fits 20000)
      (name (swing-combined s (quotient_rest scale g) U (neg_Q (whole g)) (left_is scale g) a.coefficients b.coefficients 0) (search reads depth 20 fits 20000)
      no_fact))) tt

  error_within : HasSize (whole (pos radius)) error
  error_within =
      let k = unsigned_abs g in
      let m = a.radius * 10 ^ scale in
      let n = k * b.radius in
      within_to
      (linear (whole (pos a.radius) ∷ whole (pos b.radius) ∷ U ∷ whole (pos k) ∷ whole (pos radius) ∷ whole (pos m) ∷ whole (pos n) ∷ []) _ _
      (search reads depth 12)
      (name (whole_add (pos m) (pos n)) (search reads depth 12)
      (name (whole_mul (pos a.radius) (unit scale)) (search reads depth 12)
      (name (whole_mul (pos k) (pos b.radius)) (search reads depth 12) no_fact))) tt)
      (within_sub (within_mul (member-within scale a s u p) (within_whole (unit scale))) (within_mul (within_whole g) (member-within scale b s v r)))

  left_within : HasSize (whole (pos (unsigned_abs centre + sizes coefficients + radius))) ((whole centre +Q Sl) +Q error)
  left_within =
      let m = unsigned_abs centre in
      let n = sizes coefficients in
      within_to
      (linear (whole (pos m) ∷ whole (pos n) ∷ whole (pos radius) ∷ whole (pos (m + n)) ∷ whole (pos (m + n + radius)) ∷ []) _ _ (search reads depth 12)
      (name (whole_add (pos (m + n)) (pos radius)) (search reads depth 12) (name (whole_add (pos m) (pos n)) (search reads depth 12) no_fact)) tt)
      (within_add (within_add (within_whole centre) (swing-within s coefficients 0)) error_within)

  module _ (h : dev b < unsigned_abs b.centre) where
    -- the quotient lies within the reach of the first one
    near : HasSize (whole (pos (reach scale g a b))) (q *Q U -Q whole g)
    near =
        far_cancel _ _ _ (v *Q U) _ (omega arith) (far_from b.centre (dev b) (v *Q U) h (member-dev scale b s v r)) product left_within

    -- the quotient less the first one, times the divisor's centre, differs from what the first one leaves by the radius of that,
    -- and by how far the quotient and the divisor may lie from the first quotient and from the centre
    pub quotient_left_law : HasSize (whole (pos radius) +Q whole (pos (reach scale g a b * dev b)))
        ((q *Q U -Q whole g) *Q whole b.centre -Q (whole centre +Q Sl))
    quotient_left_law = quotient_left _ (v *Q U) (whole b.centre) _ error _ _ _ product near (member-dev scale b s v r) error_within
