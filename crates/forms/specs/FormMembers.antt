-- Members of linear forms as fractions within a radius, and how far a member lies from the centre.
use Rattle.std.proofs.Common.{ℕ, ◌+◌, true, false, [], ◌∷◌}
use Rattle.std.specs.Prelude.{ℤ, pos, ◌+ℤ◌, if◌then◌else◌, unsigned_abs}
use Rattle.fixdec.specs.Form.{LinearForm, dev, within_cap, lin_hull, moved_form, sizes}
use Rattle.fixdec.specs.FormMember.{IsFormMember, swing}
use Rattle.fixdec.specs.Frac.{Frac, ◌≈◌, ◌+Q◌, ◌*Q◌, ◌-Q◌, whole}
use Rattle.fixdec.specs.Algebra.FracLaws.{≈_sym}
use Rattle.fixdec.specs.Interval.{fits_cap}
use Rattle.fixdec.specs.Algebra.Linear.{by_ring, linear, linear_le, fact, name, order, no_fact, reads}
use Rattle.fixdec.specs.Member.{IsMember, Symbols, units}
use Rattle.fixdec.specs.Algebra.OrderLaws.{le_same_left, le_same_right, whole_add, whole_sub, zero_le_one}
use Rattle.fixdec.specs.Steps.{OnVal}
use Rattle.fixdec.specs.declared.step.Step.TheVariants.{Val, Lost}
use Rattle.fixdec.specs.declared.step.Why.TheVariants.{Range}
use Rattle.fixdec.specs.Algebra.Within.{HasSize, within_add, within_same, within_to}
use Rattle.forms.specs.Swings.{swing-within}

-- what a form says of its members: the centre and the swing of the coefficients
abbrev pub aim : LinearForm → Symbols → Frac
aim f s = whole f.centre +Q swing f.coefficients s 0

-- the aim of a form that is moved
pub aim-moved : (q : ℤ) (f : LinearForm) (s : Symbols) → aim (moved_form q f) s ≈ whole q +Q aim f s
aim-moved q f s =
    linear (whole q ∷ whole f.centre ∷ whole (q +ℤ f.centre) ∷ swing f.coefficients s 0 ∷ []) _ _ (search reads depth 12)
    (name (whole_add q f.centre) (search reads depth 12) no_fact) tt

-- what holds of a form holds on the value of `kept`
pub on_kept : (f : LinearForm) (P : LinearForm → Type 0) → P f → OnVal (within_cap f) P
on_kept f P h = elim (fits_cap (pos (unsigned_abs f.centre + dev f))) as (λ b. OnVal (if b then Val f else Lost Range) P) [ true ↦ h | false ↦ tt ]

module _ (scale : ℕ) (f : LinearForm) (s : Symbols) where
  -- a member differs from the aim by at most the radius, and what differs so is a member
  pub member-within : (v : Frac) → IsFormMember scale f s v → HasSize (whole (pos f.radius)) (v *Q units scale -Q aim f s)
  member-within v p = record {
    above = p.above;
    below = linear_le (v ∷ units scale ∷ aim f s ∷ whole (pos f.radius) ∷ []) _ _ (search reads depth 12) (order zero_le_one p.below (search reads depth 12) no_fact) tt;
  }

  pub member-from : (v : Frac) → HasSize (whole (pos f.radius)) (v *Q units scale -Q aim f s) → IsFormMember scale f s v
  member-from v p = record {
    above = p.above;
    below = linear_le (v ∷ units scale ∷ aim f s ∷ whole (pos f.radius) ∷ []) _ _ (search reads depth 12) (order zero_le_one p.below (search reads depth 12) no_fact) tt;
  }

  -- a member stays one along ≈
  pub member-same : (u v : Frac) → u ≈ v → IsFormMember scale f s u → IsFormMember scale f s v
  member-same u v e p =
      member-from v
      (within_same (linear (u ∷ v ∷ units scale ∷ aim f s ∷ []) _ _ (search reads depth 12) (fact (units scale) e (search reads depth 12) no_fact) tt)
      (member-within u p))

  -- it differs from the centre by at most the deviation
  pub member-dev : (v : Frac) → IsFormMember scale f s v → HasSize (whole (pos (dev f))) (v *Q units scale -Q whole f.centre)
  member-dev v p =
      within_to (≈_sym (whole_add (pos (sizes f.coefficients)) (pos f.radius)))
      (within_same (by_ring (v ∷ units scale ∷ whole f.centre ∷ swing f.coefficients s 0 ∷ []) _ _ (search reads depth 12) tt)
      (within_add (swing-within s f.coefficients 0) (member-within v p)))

  -- so it lies within the hull
  pub member-hull : (v : Frac) → IsFormMember scale f s v → IsMember scale (lin_hull f) v
  member-hull v p =
      let d = member-dev v p in
      record {
        low = le_same_left (whole_sub f.centre (pos (dev f)))
            (linear_le (v ∷ units scale ∷ whole f.centre ∷ whole (pos (dev f)) ∷ []) _ _ (search reads depth 12) (order zero_le_one d.below (search reads depth 12) no_fact) tt);
        high = le_same_right
            (linear_le (v ∷ units scale ∷ whole f.centre ∷ whole (pos (dev f)) ∷ []) _ (whole f.centre +Q whole (pos (dev f))) (search reads depth 12)
            (order zero_le_one d.above (search reads depth 12) no_fact) tt) (≈_sym (whole_add f.centre (pos (dev f))));
      }
