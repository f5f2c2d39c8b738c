-- A first guess, corrected by what it leaves over a divisor.
use Rattle.std.proofs.Common.{◌≡◌, ℕ, ◌+◌, ◌<◌, List, [], ◌∷◌, arith}
use Rattle.std.proofs.lemmas.Int.{ints}
use Rattle.std.specs.Int.{div_ceil}
use Rattle.std.specs.Prelude.{ℤ, pos, unsigned_abs}
use Rattle.fixdec.specs.Form.{LinearForm, divided_form, moved_form}
use Rattle.fixdec.specs.FormMember.{IsFormMember, swing}
use Rattle.fixdec.specs.Frac.{Frac, ◌+Q◌, ◌*Q◌, ◌-Q◌, whole}
use Rattle.fixdec.specs.Algebra.Linear.{linear, name, no_fact, reads}
use Rattle.fixdec.specs.Member.{Symbols, units}
use Rattle.fixdec.specs.Algebra.Within.{HasSize, within_more, within_same}
use Rattle.forms.specs.Divided.{divided-law}
use Rattle.forms.specs.FormMembers.{aim, aim-moved, member-from}
use Rattle.forms.specs.Leftovers.{ceils_cover}

-- g is a first guess of v in units
module _ (scale : ℕ) (s : Symbols) (g : ℤ) (v : Frac) where
  -- where v less g is within a form's radius of its aim, v is a member of the form moved by g
  moved_law : (f : LinearForm) → HasSize (whole (pos f.radius)) ((v *Q units scale -Q whole g) -Q aim f s) → IsFormMember scale (moved_form g f) s v
  moved_law f h =
      member-from scale (moved_form g f) s v
      (within_same
      (linear (v ∷ units scale ∷ whole g ∷ aim f s ∷ aim (moved_form g f) s ∷ []) _ _ (search reads depth 12)
      (name (aim-moved g f s) (search reads depth 12) no_fact) tt) h)

  -- where v less g, times d, is within k + m of n and the swing of ns, v is a member of the form of n and ns over d, moved by g
  pub corrected_law : (d n : ℤ) (ns : List ℤ) (k m : ℕ) → 0 < unsigned_abs d
      → HasSize (whole (pos k) +Q whole (pos m)) ((v *Q units scale -Q whole g) *Q whole d -Q (whole n +Q swing ns s 0))
      → IsFormMember scale (moved_form g (divided_form d n ns (div_ceil k (unsigned_abs d) + div_ceil m (unsigned_abs d)))) s v
  corrected_law d n ns k m some h =
      let c = unsigned_abs d in
      let radius = div_ceil k c + div_ceil m c in
      moved_law (divided_form d n ns radius)
      (divided-law d nonzero s n ns radius (v *Q units scale -Q whole g) (within_more (ceils_cover k m c some) h))
    where
      nonzero : d ≡ pos 0 → ⊥
      nonzero e = omega (arith, ints)
