-- Linear arithmetic encloses: forms of intervals, sums, differences, widenings, clips and symbols.
use Rattle.std.proofs.Common.{ℕ, ◌+◌, ◌∷◌, [], replicate, max, arith}
use Rattle.std.proofs.lemmas.Bool.{cond_both}
use Rattle.std.proofs.lemmas.Int.{ints}
use Rattle.std.specs.Prelude.{ℤ, pos, ◌+ℤ◌, ◌-ℤ◌, ◌≤ℤ◌, ◌||◌, int_div, int_lt, unsigned_abs}
use Rattle.fixdec.specs.Ends.{Ends}
use Rattle.fixdec.specs.Form.{LinearForm, added_at, coefficientwise, lin_clip, lin_hull, lin_minus, lin_of_span, lin_plus, lin_symbol, lin_widen}
use Rattle.fixdec.specs.FormMember.{IsFormMember, swing}
use Rattle.fixdec.specs.Frac.{Frac, ◌≈◌, ◌+Q◌, ◌*Q◌, ◌-Q◌, neg_Q, whole}
use Rattle.fixdec.specs.Algebra.FracLaws.{≈_sym}
use Rattle.fixdec.specs.Algebra.Linear.{by_ring, linear, linear_le, name, order, no_fact, reads}
use Rattle.fixdec.specs.Member.{IsMember, IsNear, Symbols, units}
use Rattle.fixdec.specs.Algebra.MemberLaws.{clip_meets}
use Rattle.fixdec.specs.Algebra.Order.{le_whole}
use Rattle.fixdec.specs.Algebra.OrderLaws.{le_same_left, whole_add, whole_sub, zero_le_one}
use Rattle.fixdec.specs.Steps.{OnVal}
use Rattle.fixdec.specs.declared.step.Step.TheVariants.{Val, Empty}
use Rattle.fixdec.specs.Algebra.Within.{HasSize, within_add, within_more, within_mul, within_same, within_sub, within_to, within_whole}
use Rattle.forms.specs.FormMembers.{aim, member-from, member-hull, member-within, on_kept}
use Rattle.forms.specs.Swings.{symbol-within, swing-added_at, swing-combined, swing-zeros}

module _ (scale : ℕ) (s : Symbols) where
  abbrev U : Frac
  U = units scale

  -- a number between two ends is within the greater of their distances of each number
  between : (a : Ends) (c : ℤ) (r : ℕ) (v : Frac) → IsMember scale a v → (a.hi -ℤ c) ≤ℤ pos r → (c -ℤ a.lo) ≤ℤ pos r → HasSize (whole (pos r)) (v *Q U -Q whole c)
  between a c r v p above below =
      let h = le_same_left (≈_sym (whole_sub a.hi c)) (le_whole above) in
      let l = le_same_left (≈_sym (whole_sub c a.lo)) (le_whole below) in
      record {
        above = linear_le (v ∷ U ∷ whole c ∷ whole a.hi ∷ whole (pos r) ∷ []) _ _ (search reads depth 12)
            (order zero_le_one p.high (search reads depth 12) (order zero_le_one h (search reads depth 12) no_fact)) tt;
        below = linear_le (v ∷ U ∷ whole c ∷ whole a.lo ∷ whole (pos r) ∷ []) _ _ (search reads depth 12)
            (order zero_le_one p.low (search reads depth 12) (order zero_le_one l (search reads depth 12) no_fact)) tt;
      }

  pub lin_of_span-encloses : (a : Ends) (v : Frac) → IsMember scale a v → IsFormMember scale (lin_of_span a) s v
  unfolding lin_of_span
  lin_of_span-encloses a v p =
      let c = int_div (a.lo +ℤ a.hi) (pos 2) in
      let Z = swing (replicate 32 (pos 0)) s 0 in
      member-from scale _ s v
      (within_same
      (linear (v ∷ U ∷ whole c ∷ Z ∷ []) _ (v *Q U -Q (whole c +Q Z)) (search reads depth 12) (name (swing-zeros s 32 0) (search reads depth 12) no_fact) tt)
      (between a c (max (unsigned_abs (a.hi -ℤ c)) (unsigned_abs (c -ℤ a.lo))) v p (omega (arith, ints)) (omega (arith, ints))))

  -- the aims of a sum and a difference
  aim_plus : (a b : LinearForm) (r : ℕ)
      → aim (record { centre = a.centre +ℤ b.centre; coefficients = coefficientwise ◌+ℤ◌ a.coefficients b.coefficients; radius = r }) s ≈ aim a s +Q aim b s
  aim_plus a b r =
      let A = swing a.coefficients s 0 in
      let B = swing b.coefficients s 0 in
      let one = whole (pos 1) in
      linear (whole a.centre ∷ whole b.centre ∷ whole (a.centre +ℤ b.centre) ∷ A ∷ B ∷ swing (coefficientwise ◌+ℤ◌ a.coefficients b.coefficients) s 0 ∷ []) _ _ (search reads depth 12)
      (name (whole_add a.centre b.centre) (search reads depth 12)
      (name (swing-combined s ◌+ℤ◌ one one each a.coefficients b.coefficients 0) (search reads depth 12) no_fact)) tt
    where
      each : (x y : ℤ) → whole (x +ℤ y) ≈ whole (pos 1) *Q whole x +Q whole (pos 1) *Q whole y
      each x y = linear (whole x ∷ whole y ∷ whole (x +ℤ y) ∷ []) _ _ (search reads depth 12) (name (whole_add x y) (search reads depth 12) no_fact) tt

  aim_minus : (a b : LinearForm) (r : ℕ)
      → aim (record { centre = a.centre -ℤ b.centre; coefficients = coefficientwise ◌-ℤ◌ a.coefficients b.coefficients; radius = r }) s ≈ aim a s -Q aim b s
  aim_minus a b r =
      let A = swing a.coefficients s 0 in
      let B = swing b.coefficients s 0 in
      linear (whole a.centre ∷ whole b.centre ∷ whole (a.centre -ℤ b.centre) ∷ A ∷ B ∷ swing (coefficientwise ◌-ℤ◌ a.coefficients b.coefficients) s 0 ∷ []) _ _ (search reads depth 12)
      (name (whole_sub a.centre b.centre) (search reads depth 12)
      (name (swing-combined s ◌-ℤ◌ (whole (pos 1)) (neg_Q (whole (pos 1))) each a.coefficients b.coefficients 0) (search reads depth 12) no_fact)) tt
    where
      each : (x y : ℤ) → whole (x -ℤ y) ≈ whole (pos 1) *Q whole x +Q neg_Q (whole (pos 1)) *Q whole y
      each x y = linear (whole x ∷ whole y ∷ whole (x -ℤ y) ∷ []) _ _ (search reads depth 12) (name (whole_sub x y) (search reads depth 12) no_fact) tt

  pub lin_plus-encloses : (a b : LinearForm) (u v : Frac) → IsFormMember scale a s u → IsFormMember scale b s v → OnVal (lin_plus a b) (λ r. IsFormMember scale r s (u +Q v))
  unfolding lin_plus
  lin_plus-encloses a b u v p q =
      let r = a.radius + b.radius in
      let f : LinearForm = record { centre = a.centre +ℤ b.centre; coefficients = coefficientwise ◌+ℤ◌ a.coefficients b.coefficients; radius = r } in
      on_kept f (λ g. IsFormMember scale g s (u +Q v))
      (member-from scale f s (u +Q v)
      (within_to (≈_sym (whole_add (pos a.radius) (pos b.radius)))
      (within_same
      (linear (u ∷ v ∷ U ∷ aim a s ∷ aim b s ∷ aim f s ∷ []) _ ((u +Q v) *Q U -Q aim f s) (search reads depth 12) (name (aim_plus a b r) (search reads depth 12) no_fact) tt)
      (within_add (member-within scale a s u p) (member-within scale b s v q)))))

  pub lin_minus-encloses : (a b : LinearForm) (u v : Frac) → IsFormMember scale a s u → IsFormMember scale b s v → OnVal (lin_minus a b) (λ r. IsFormMember scale r s (u -Q v))
  unfolding lin_minus
  lin_minus-encloses a b u v p q =
      let r = a.radius + b.radius in
      let f : LinearForm = record { centre = a.centre -ℤ b.centre; coefficients = coefficientwise ◌-ℤ◌ a.coefficients b.coefficients; radius = r } in
      on_kept f (λ g. IsFormMember scale g s (u -Q v))
      (member-from scale f s (u -Q v)
      (within_to (≈_sym (whole_add (pos a.radius) (pos b.radius)))
      (within_same
      (linear (u ∷ v ∷ U ∷ aim a s ∷ aim b s ∷ aim f s ∷ []) _ ((u -Q v) *Q U -Q aim f s) (search reads depth 12) (name (aim_minus a b r) (search reads depth 12) no_fact) tt)
      (within_sub (member-within scale a s u p) (member-within scale b s v q)))))

  -- a member that is moved by at most e
  pub lin_widen-encloses : (a : LinearForm) (e : ℤ) (u v : Frac) → IsFormMember scale a s u → IsNear scale e u v → OnVal (lin_widen a e) (λ r. IsFormMember scale r s v)
  unfolding lin_widen
  lin_widen-encloses a e u v p n =
      let f : LinearForm = record a { radius = a.radius + unsigned_abs e } in
      let near : HasSize (whole e) (v *Q U -Q u *Q U) = record {
        above = le_same_left (by_ring (u ∷ v ∷ U ∷ []) _ _ (search reads depth 12) tt) n.above;
        below = linear_le (u ∷ v ∷ U ∷ whole e ∷ []) _ _ (search reads depth 12) (order zero_le_one n.below (search reads depth 12) no_fact) tt;
      } in
      on_kept f (λ g. IsFormMember scale g s v)
      (member-from scale f s v
      (within_to (≈_sym (whole_add (pos a.radius) (pos (unsigned_abs e))))
      (within_same (by_ring (u ∷ v ∷ U ∷ aim a s ∷ []) _ _ (search reads depth 12) tt)
      (within_add (member-within scale a s u p) (within_more (within_whole e).above near)))))

  -- a member of two
  pub lin_clip-encloses : (a : LinearForm) (b : Ends) (u : Frac) → IsFormMember scale a s u → IsMember scale b u → OnVal (lin_clip a b) (λ r. IsFormMember scale r s u)
  unfolding lin_clip
  lin_clip-encloses a b u p q =
      let m = clip_meets scale (lin_hull a) b u (member-hull scale a s u p) q in
      cond_both (int_lt (lin_hull a).hi b.lo || int_lt b.hi (lin_hull a).lo) Empty (Val a) (λ o. OnVal o (λ r. IsFormMember scale r s u))
      (λ z. grind (arith, ints))
      (λ z. p)

  -- a member plus a deviation times a symbol
  pub lin_symbol-encloses : (a : LinearForm) (i : ℕ) (delta : Ends) (u d : Frac) → IsFormMember scale a s u → IsMember scale delta d
      → OnVal (lin_symbol a i delta) (λ r. IsFormMember scale r s (u +Q d *Q s.at i))
  unfolding lin_symbol
  lin_symbol-encloses a i delta u d p q =
      let w = unsigned_abs (delta.hi -ℤ delta.lo) in
      let f : LinearForm = record a { coefficients = added_at i delta.lo a.coefficients; radius = a.radius + w } in
      let W = whole (pos w) in
      let T = s.at i in
      let A = swing a.coefficients s 0 in
      on_kept f (λ g. IsFormMember scale g s (u +Q d *Q T))
      (member-from scale f s (u +Q d *Q T)
      (within_to
      (linear (whole (pos a.radius) ∷ W ∷ whole (pos (a.radius + w)) ∷ []) _ _ (search reads depth 12) (name (whole_add (pos a.radius) (pos w)) (search reads depth 12) no_fact) tt)
      (within_same
      (linear (u ∷ d ∷ U ∷ T ∷ whole a.centre ∷ whole delta.lo ∷ A ∷ swing f.coefficients s 0 ∷ []) _ _ (search reads depth 16)
      (name (swing-added_at s i i delta.lo a.coefficients 0 (omega arith)) (search reads depth 16) no_fact) tt)
      (within_add (member-within scale a s u p) (within_mul (between delta delta.lo w d q (omega (arith, ints)) (omega (arith, ints))) (symbol-within s i))))))
