-- A quotient of members of linear forms is a member of the forms' quotient.
use Rattle.std.proofs.Common.{ℕ, ◌+◌, ◌*◌, ◌<◌, arith, ◌⊎◌, inl, inr}
use Rattle.std.proofs.lemmas.Bool.{cond_both}
use Rattle.std.proofs.lemmas.Int.{ints}
use Rattle.std.specs.Int.{div_ceil}
use Rattle.std.specs.Prelude.{ℤ, pos, ◌*ℤ◌, ◌<ℤ◌, unsigned_abs, if◌then◌else◌}
use Rattle.fixdec.specs.Form.{LinearForm, dev, divided_form, within_cap, lin_hull, lin_over, moved_form, quotient_about}
use Rattle.fixdec.specs.FormMember.{IsFormMember}
use Rattle.fixdec.specs.Frac.{Frac, ◌≈◌, ◌*Q◌}
use Rattle.fixdec.specs.Interval.{fits_cap, holds_zero, unit}
use Rattle.fixdec.specs.Member.{Symbols}
use Rattle.fixdec.specs.Rounding.{floor}
use Rattle.fixdec.specs.Steps.{OnVal}
use Rattle.fixdec.specs.declared.step.Step.{Step}
use Rattle.fixdec.specs.declared.step.Step.TheVariants.{Lost}
use Rattle.fixdec.specs.declared.step.Why.TheVariants.{Range, Zero}
use Rattle.enclose.specs.EndLaws.{without_zero}
use Rattle.forms.specs.Corrections.{corrected_law}
use Rattle.forms.specs.FormMembers.{on_kept}
use Rattle.forms.specs.QuotientParts.{left_centre, left_coefficients, left_radius, reach, quotient_left_law}

-- the centre of what doesn't hold 0 has a greater size than the deviation
centre_beyond : (b : LinearForm) → (pos 0 <ℤ (lin_hull b).lo) ⊎ ((lin_hull b).hi <ℤ pos 0) → dev b < unsigned_abs b.centre
centre_beyond b (inl h) = omega (arith, ints)
centre_beyond b (inr h) = omega (arith, ints)

-- the form of the quotient about a first quotient g, before it is known to fit
abbrev form_about : ℕ → ℤ → LinearForm → LinearForm → LinearForm
form_about scale g a b =
    let c = unsigned_abs b.centre in
    let radius = div_ceil (left_radius scale g a b) c + div_ceil (reach scale g a b * dev b) c in
    moved_form g (divided_form b.centre (left_centre scale g a b) (left_coefficients scale g a b) radius)

-- u and v are members of a and b under the same symbols, and q v is u
module _ (scale : ℕ) (s : Symbols) (a b : LinearForm) (u v q : Frac) (p : IsFormMember scale a s u) (r : IsFormMember scale b s v) (same : q *Q v ≈ u) where
  abbrev Encloses : Step LinearForm → Type 0
  Encloses o = OnVal o (λ f. IsFormMember scale f s q)

  -- about each first quotient
  about : (g : ℤ) → dev b < unsigned_abs b.centre → Encloses (quotient_about scale g a b)
  about g h =
      let member = corrected_law scale s g q b.centre _ _ _ _ (omega arith) (quotient_left_law scale g s a b u v q p r same h) in
      cond_both (fits_cap (pos (reach scale g a b))) (within_cap (form_about scale g a b)) (Lost Range) Encloses
      (λ e. on_kept (form_about scale g a b) (λ f. IsFormMember scale f s q) member)
      (λ e. tt)

  pub lin_over-encloses : OnVal (lin_over scale a b) (λ f. IsFormMember scale f s q)
  unfolding lin_over
  lin_over-encloses =
      let g = floor (a.centre *ℤ unit scale) b.centre in
      let by_first = if fits_cap g then quotient_about scale g a b else Lost Range in
      cond_both (holds_zero (lin_hull b)) (Lost Zero) by_first Encloses
      (λ e. tt)
      (λ e. cond_both (fits_cap g) (quotient_about scale g a b) (Lost Range) Encloses
      (λ k. about g (centre_beyond b (without_zero (lin_hull b) e)))
      (λ k. tt))
