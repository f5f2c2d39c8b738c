-- Linear arithmetic encloses: products and squares of forms.
use Rattle.std.proofs.Common.{ℕ, ◌+◌, ◌*◌, ◌^◌, ◌∷◌, [], ◌≡◌, arith}
use Rattle.std.proofs.lemmas.Int.{ints}
use Rattle.std.specs.Int.{div_ceil}
use Rattle.std.specs.Prelude.{ℤ, pos, ◌+ℤ◌, ◌*ℤ◌, unsigned_abs}
use Rattle.fixdec.specs.Form.{LinearForm, error_terms, dev, divided_form, lin_times, cross_terms}
use Rattle.fixdec.specs.FormMember.{IsFormMember, swing}
use Rattle.fixdec.specs.Frac.{Frac, ◌≈◌, ◌+Q◌, ◌*Q◌, ◌-Q◌, whole}
use Rattle.fixdec.specs.Interval.{unit}
use Rattle.fixdec.specs.Algebra.Linear.{linear, name, no_fact, reads}
use Rattle.fixdec.specs.Member.{Symbols, units}
use Rattle.fixdec.specs.Algebra.MemberLaws.{unit_pos}
use Rattle.fixdec.specs.Algebra.OrderLaws.{whole_add, whole_mul}
use Rattle.fixdec.specs.Steps.{OnVal}
use Rattle.fixdec.specs.Algebra.Within.{HasSize, within_add, within_mul, within_same, within_to, within_whole}
use Rattle.forms.specs.Divided.{divided-law, within_div_ceil}
use Rattle.forms.specs.FormMembers.{aim, member-dev, member-from, member-within, on_kept}
use Rattle.forms.specs.Swings.{swing-combined}

module _ (scale : ℕ) (s : Symbols) where
  abbrev U : Frac
  U = units scale

  module _ (a b : LinearForm) (u v : Frac) (p : IsFormMember scale a s u) (q : IsFormMember scale b s v) where
    abbrev ca : Frac
    ca = whole a.centre

    abbrev cb : Frac
    cb = whole b.centre

    abbrev A : Frac
    A = swing a.coefficients s 0

    abbrev B : Frac
    B = swing b.coefficients s 0

    mixed_is : swing (cross_terms a b) s 0 ≈ cb *Q A +Q ca *Q B
    mixed_is = swing-combined s (λ k l. a.centre *ℤ l +ℤ b.centre *ℤ k) cb ca each a.coefficients b.coefficients 0
      where
        each : (k l : ℤ) → whole (a.centre *ℤ l +ℤ b.centre *ℤ k) ≈ cb *Q whole k +Q ca *Q whole l
        each k l =
            linear (ca ∷ cb ∷ whole k ∷ whole l ∷ whole (a.centre *ℤ l) ∷ whole (b.centre *ℤ k) ∷ whole (a.centre *ℤ l +ℤ b.centre *ℤ k) ∷ []) _ _ (search reads depth 12)
            (name (whole_add (a.centre *ℤ l) (b.centre *ℤ k)) (search reads depth 12)
            (name (whole_mul a.centre l) (search reads depth 12) (name (whole_mul b.centre k) (search reads depth 12) no_fact))) tt

    -- what the product has beside the centres' product and the mixed swing
    beside-within : HasSize (whole (pos (error_terms a b))) (ca *Q (v *Q U -Q aim b s) +Q cb *Q (u *Q U -Q aim a s) +Q (u *Q U -Q ca) *Q (v *Q U -Q cb))
    beside-within =
        let x = within_mul (within_whole a.centre) (member-within scale b s v q) in
        let y = within_mul (within_whole b.centre) (member-within scale a s u p) in
        let z = within_mul (member-dev scale a s u p) (member-dev scale b s v q) in
        let m = unsigned_abs a.centre * b.radius in
        let n = unsigned_abs b.centre * a.radius in
        let o = dev a * dev b in
        let w = λ (k : ℕ). whole (pos k) in
        within_to
        (linear (w (unsigned_abs a.centre) ∷ w b.radius ∷ w (unsigned_abs b.centre) ∷ w a.radius ∷ w (dev a) ∷ w (dev b) ∷ w m ∷ w n ∷ w o ∷ w (m + n) ∷ w (m + n + o) ∷ []) _ _ (search reads depth 16)
        (name (whole_add (pos (m + n)) (pos o)) (search reads depth 16)
        (name (whole_add (pos m) (pos n)) (search reads depth 16)
        (name (whole_mul (pos (unsigned_abs a.centre)) (pos b.radius)) (search reads depth 16)
        (name (whole_mul (pos (unsigned_abs b.centre)) (pos a.radius)) (search reads depth 16)
        (name (whole_mul (pos (dev a)) (pos (dev b))) (search reads depth 16) no_fact))))) tt)
        (within_add (within_add x y) z)

    pub lin_times-encloses : OnVal (lin_times scale a b) (λ r. IsFormMember scale r s (u *Q v))
    unfolding lin_times
    lin_times-encloses =
        let n = a.centre *ℤ b.centre in
        let r = div_ceil (error_terms a b) (10 ^ scale) in
        let f = divided_form (unit scale) n (cross_terms a b) r in
        let nonzero : unit scale ≡ pos 0 → ⊥ = (let h = unit_pos scale in λ e. absurd (omega (arith, ints))) in
        let M = swing (cross_terms a b) s 0 in
        on_kept f (λ g. IsFormMember scale g s (u *Q v))
        (member-from scale f s (u *Q v)
        (divided-law (unit scale) nonzero s n (cross_terms a b) r (u *Q v *Q U)
        (within_div_ceil (unit scale) nonzero (error_terms a b) _
        (within_same
        (linear (u ∷ v ∷ U ∷ ca ∷ cb ∷ A ∷ B ∷ M ∷ whole n ∷ []) _ (u *Q v *Q U *Q U -Q (whole n +Q M)) (search reads depth 20 fits 4000)
        (name mixed_is (search reads depth 20 fits 4000) (name (whole_mul a.centre b.centre) (search reads depth 20 fits 4000) no_fact)) tt)
        beside-within))))

  pub lin_square-encloses : (a : LinearForm) (u : Frac) → IsFormMember scale a s u → OnVal (lin_times scale a a) (λ r. IsFormMember scale r s (u *Q u))
  lin_square-encloses a u p = lin_times-encloses a a u u p p
