-- Interval arithmetic as an arithmetic: its members, and that it is lawful.
use Rattle.std.specs.Prelude.{ℕ}
use Rattle.fixdec.specs.Ends.{Ends}
use Rattle.fixdec.specs.Frac.{Frac}
use Rattle.fixdec.specs.IntervalOperations.{operations}
use Rattle.fixdec.specs.Member.{IsMember, Symbols}
use Rattle.fixdec.specs.Algebra.MemberLaws.{same_law}
use Rattle.fixdec.specs.Operations.{IsLawful}
use Rattle.enclose.specs.IntervalLaws.{iv_plus-encloses, iv_minus-encloses, iv_times-encloses, iv_square-encloses, iv_over-encloses, iv_root-encloses, iv_widen-encloses, iv_shift-encloses, iv_clip-encloses, iv_symbol-encloses}

-- a member of an interval lies between its ends, whatever the symbols
abbrev pub iv_member : (S : ℕ) → Ends → Symbols → Frac → Type 0
iv_member S a s v = IsMember S a v

pub iv_lawful : (S : ℕ) → IsLawful S (operations S) (iv_member S)
unfolding operations
iv_lawful S = record {
  same = λ s a u v e p. same_law S a u v e p;
  of_span = λ s a v p. p;
  hull = λ s a v p. p;
  plus = λ s a b u v p q. iv_plus-encloses S a b u v p q;
  minus = λ s a b u v p q. iv_minus-encloses S a b u v p q;
  times = λ s a b u v p q. iv_times-encloses S a b u v p q;
  square = λ s a u p. iv_square-encloses S a u p;
  over = λ s a b u v q p r e. iv_over-encloses S a b u v q p r e;
  root = λ s a u n p. iv_root-encloses S a u n p;
  widen = λ s a e u v p n. iv_widen-encloses S a e u v p n;
  shift = λ s a k u v p e. iv_shift-encloses S a k u v p e;
  clip = λ s a b u p q. iv_clip-encloses S a b u p q;
  symbol = λ s a i delta u d l n p q. iv_symbol-encloses S a delta s i u d n p q;
}
