-- Linear arithmetic encloses: forms over and times powers of ten.
use Rattle.std.proofs.Common.{ℕ, zero, suc, ◌^◌, ◌≡◌, map, ◌∷◌, [], arith}
use Rattle.std.proofs.lemmas.Bool.{cond_both}
use Rattle.std.proofs.lemmas.Int.{ints}
use Rattle.std.specs.Int.{div_ceil}
use Rattle.std.specs.Prelude.{ℤ, pos, negsuc, ◌*ℤ◌, int_lt}
use Rattle.fixdec.specs.Form.{LinearForm, divided_form, within_cap, lin_shift, multiplied_form}
use Rattle.fixdec.specs.FormMember.{IsFormMember, swing}
use Rattle.fixdec.specs.Frac.{Frac, ◌≈◌, ◌*Q◌, ◌-Q◌, whole}
use Rattle.fixdec.specs.Algebra.FracLaws.{≈_sym}
use Rattle.fixdec.specs.Algebra.Linear.{linear, fact, name, no_fact, reads}
use Rattle.fixdec.specs.Member.{IsShifted, Symbols, units}
use Rattle.fixdec.specs.Algebra.MemberLaws.{unit_pos}
use Rattle.fixdec.specs.Algebra.OrderLaws.{whole_mul}
use Rattle.fixdec.specs.Steps.{OnVal}
use Rattle.fixdec.specs.Algebra.Within.{within_mul, within_same, within_to, within_whole}
use Rattle.forms.specs.Divided.{divided-law, within_div_ceil}
use Rattle.forms.specs.FormMembers.{aim, member-from, member-within, on_kept}
use Rattle.forms.specs.Swings.{swing-map}

module _ (scale : ℕ) (s : Symbols) (a : LinearForm) (u v : Frac) (p : IsFormMember scale a s u) where
  abbrev U : Frac
  U = units scale

  abbrev A : Frac
  A = swing a.coefficients s 0

  -- a member over a whole number above 0
  over : (n : ℕ) → (pos n ≡ pos 0 → ⊥) → v *Q whole (pos n) ≈ u → IsFormMember scale (divided_form (pos n) a.centre a.coefficients (div_ceil a.radius n)) s v
  over n h e =
      member-from scale _ s v
      (divided-law (pos n) h s a.centre a.coefficients (div_ceil a.radius n) (v *Q U)
      (within_div_ceil (pos n) h a.radius _
      (within_same
      (linear (u ∷ v ∷ U ∷ whole (pos n) ∷ aim a s ∷ []) _ (v *Q U *Q whole (pos n) -Q aim a s) (search reads depth 16)
      (name (≈_sym e) (search reads depth 16) no_fact) tt)
      (member-within scale a s u p))))

  -- a member times a whole number
  times : (n : ℕ) → v ≈ u *Q whole (pos n) → IsFormMember scale (multiplied_form n a) s v
  times n e =
      let N = whole (pos n) in
      let C = whole a.centre in
      member-from scale _ s v
      (within_to (≈_sym (whole_mul (pos a.radius) (pos n)))
      (within_same
      (linear (u ∷ v ∷ U ∷ N ∷ C ∷ whole (a.centre *ℤ pos n) ∷ A ∷ swing (map (λ k. k *ℤ pos n) a.coefficients) s 0 ∷ []) _ _ (search reads depth 16)
      (name e (search reads depth 16)
      (name (whole_mul a.centre (pos n)) (search reads depth 16)
      (name (swing-map s (λ k. k *ℤ pos n) N each a.coefficients 0) (search reads depth 16) no_fact))) tt)
      (within_mul (member-within scale a s u p) (within_whole (pos n)))))
    where
      each : (k : ℤ) → whole (k *ℤ pos n) ≈ whole (pos n) *Q whole k
      each k = linear (whole k ∷ whole (pos n) ∷ whole (k *ℤ pos n) ∷ []) _ _ (search reads depth 12) (name (whole_mul k (pos n)) (search reads depth 12) no_fact) tt

  shifted : (k : ℤ) → IsShifted k u v → OnVal (lin_shift a k) (λ r. IsFormMember scale r s v)
  unfolding lin_shift
  shifted (pos zero) e =
      let same : v *Q whole (pos 1) ≈ u = e in
      on_kept (multiplied_form 1 a) (λ r. IsFormMember scale r s v)
      (times 1 (linear (u ∷ v ∷ []) _ _ (search reads depth 12) (fact (whole (pos 1)) same (search reads depth 12) no_fact) tt))
  shifted (pos (suc k)) e =
      let n = 10 ^ suc k in
      let f = divided_form (pos n) a.centre a.coefficients (div_ceil a.radius n) in
      cond_both (int_lt (pos 0) (pos (suc k))) (within_cap f) (within_cap (multiplied_form n a)) (λ o. OnVal o (λ r. IsFormMember scale r s v))
      (λ z. on_kept f (λ r. IsFormMember scale r s v) (over n (let h = unit_pos (suc k) in λ d. absurd (omega (arith, ints))) e))
      (λ z. absurd (grind (arith, ints)))
  shifted (negsuc k) e = on_kept (multiplied_form (10 ^ suc k) a) (λ r. IsFormMember scale r s v) (times (10 ^ suc k) e)

-- a member over ten to the power k
pub lin_shift-encloses : (scale : ℕ) (s : Symbols) (a : LinearForm) (k : ℤ) (u v : Frac) → IsFormMember scale a s u → IsShifted k u v
    → OnVal (lin_shift a k) (λ r. IsFormMember scale r s v)
lin_shift-encloses scale s a k u v p e = shifted scale s a u v p k e
