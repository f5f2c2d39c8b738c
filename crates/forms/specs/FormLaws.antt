-- Linear arithmetic encloses: it meets the laws of an arithmetic.
use Rattle.std.specs.Prelude.{ℕ}
use Rattle.fixdec.specs.Form.{linear_operations}
use Rattle.fixdec.specs.FormMember.{IsFormMember}
use Rattle.fixdec.specs.Operations.{IsLawful}
use Rattle.forms.specs.FormMembers.{member-same, member-hull}
use Rattle.forms.specs.ProductLaw.{lin_times-encloses, lin_square-encloses}
use Rattle.forms.specs.QuotientLaw.{lin_over-encloses}
use Rattle.forms.specs.RootLaw.{lin_root-encloses}
use Rattle.forms.specs.ShiftLaw.{lin_shift-encloses}
use Rattle.forms.specs.SumLaws.{lin_of_span-encloses, lin_plus-encloses, lin_minus-encloses, lin_widen-encloses, lin_clip-encloses, lin_symbol-encloses}

-- each law, at each scale, for all forms, whatever the lengths of their coefficients
pub linear_lawful : (scale : ℕ) → IsLawful scale (linear_operations scale) (IsFormMember scale)
linear_lawful scale = record {
  same = λ s a u v e p. member-same scale a s u v e p;
  of_span = λ s a v p. lin_of_span-encloses scale s a v p;
  hull = λ s a v p. member-hull scale a s v p;
  plus = λ s a b u v p q. lin_plus-encloses scale s a b u v p q;
  minus = λ s a b u v p q. lin_minus-encloses scale s a b u v p q;
  times = λ s a b u v p q. lin_times-encloses scale s a b u v p q;
  square = λ s a u p. lin_square-encloses scale s a u p;
  over = λ s a b u v q p r e. lin_over-encloses scale s a b u v q p r e;
  root = λ s a u n p. lin_root-encloses scale s a u n p;
  widen = λ s a e u v p n. lin_widen-encloses scale s a e u v p n;
  shift = λ s a k u v p e. lin_shift-encloses scale s a k u v p e;
  clip = λ s a b u p q. lin_clip-encloses scale s a b u p q;
  symbol = λ s a i delta u d _ _ p q. lin_symbol-encloses scale s a i delta u d p q;
}
