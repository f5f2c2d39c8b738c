-- The root that isn't negative of a member of a linear form is a member of the form's root.
use Rattle.std.proofs.Common.{◌≡◌, ℕ, true, false, arith}
use Rattle.std.proofs.lemmas.Bool.{cond_both}
use Rattle.std.proofs.lemmas.Int.{ints}
use Rattle.std.specs.Prelude.{ℤ, pos, ◌≤ℤ◌, ◌<ℤ◌, int_le, int_lt, if◌then◌else◌}
use Rattle.fixdec.specs.Ends.{Ends}
use Rattle.fixdec.specs.Form.{LinearForm, within_cap, lin_hull, lin_of_span, lin_root, root_above}
use Rattle.fixdec.specs.FormMember.{IsFormMember}
use Rattle.fixdec.specs.Frac.{Frac, ◌≤Q◌, ◌*Q◌, whole}
use Rattle.fixdec.specs.Interval.{iv_root}
use Rattle.fixdec.specs.Member.{IsMember, Symbols}
use Rattle.fixdec.specs.Algebra.Roots.{holds_square}
use Rattle.fixdec.specs.Steps.{◌>>=◌, OnVal, OnVal-then}
use Rattle.fixdec.specs.declared.step.Step.{Step}
use Rattle.fixdec.specs.declared.step.Step.TheVariants.{Val, Empty}
use Rattle.enclose.specs.IntervalLaws.{iv_root-encloses}
use Rattle.forms.specs.FormMembers.{member-hull, on_kept}
use Rattle.forms.specs.RootParts.{root_above_law}
use Rattle.forms.specs.SumLaws.{lin_of_span-encloses}

-- a least end that isn't at most 0 lies above it, and a greatest end from 0 on doesn't lie below it
above_zero : (lo : ℤ) → int_le lo (pos 0) ≡ false → pos 0 <ℤ lo
above_zero lo e = grind (arith, ints)

not_below_zero : (hi : ℤ) → pos 0 ≤ℤ hi → int_lt hi (pos 0) ≡ true → ⊥
not_below_zero hi h e = grind (arith, ints)

-- u isn't negative, and its square is a member of a
module _ (scale : ℕ) (s : Symbols) (a : LinearForm) (u : Frac) (nn : whole (pos 0) ≤Q u) (p : IsFormMember scale a s (u *Q u)) where
  abbrev Encloses : Step LinearForm → Type 0
  Encloses o = OnVal o (λ f. IsFormMember scale f s u)

  abbrev hull : Ends
  hull = lin_hull a

  held : IsMember scale hull (u *Q u)
  held = member-hull scale a s (u *Q u) p

  -- where the hull reaches down to 0: the form of its interval root
  spanned : Encloses (iv_root scale hull >>= (λ e. Val (lin_of_span e)))
  spanned =
      OnVal-then (iv_root scale hull) (λ e. Val (lin_of_span e)) (λ e. IsMember scale e u) (λ f. IsFormMember scale f s u)
      (iv_root-encloses scale hull u nn held) (λ e m. lin_of_span-encloses scale s e u m)

  pub lin_root-encloses : OnVal (lin_root scale a) (λ f. IsFormMember scale f s u)
  unfolding lin_root
  lin_root-encloses =
      let low = iv_root scale hull >>= (λ e. Val (lin_of_span e)) in
      let high = within_cap (root_above scale a) in
      cond_both (int_lt hull.hi (pos 0)) Empty (if int_le hull.lo (pos 0) then low else high) Encloses
      (λ e. absurd (not_below_zero hull.hi (holds_square scale hull u held) e))
      (λ e. cond_both (int_le hull.lo (pos 0)) low high Encloses
      (λ k. spanned)
      (λ k. on_kept (root_above scale a) (λ f. IsFormMember scale f s u) (root_above_law scale s a u (above_zero hull.lo k) nn p)))
