-- An arithmetic on intervals whose operations answer narrower intervals on narrower ones; interval arithmetic is one.
use Rattle.std.proofs.Common.{ℕ}
use Rattle.std.specs.Prelude.{ℤ, pos, ◌≤ℤ◌}
use Rattle.fixdec.specs.Ends.{Ends}
use Rattle.fixdec.specs.IntervalOperations.{operations}
use Rattle.fixdec.specs.Operations.{Operations}
use Rattle.hitsolve.specs.Narrowing.Parts.{IsPart, IsNarrower}
use Rattle.hitsolve.specs.Narrowing.Products.{iv_times-narrower, iv_square-narrower}
use Rattle.hitsolve.specs.Narrowing.Quotients.{iv_over-narrower}
use Rattle.hitsolve.specs.Narrowing.Roots.{iv_root-narrower}
use Rattle.hitsolve.specs.Narrowing.Sums.{iv_plus-narrower, iv_minus-narrower, iv_widen-narrower, iv_shift-narrower, iv_clip-narrower}

pub record Narrows (o : Operations Ends) : Type 0 where
  pub of_span : {a b : Ends} → IsPart a b → IsPart (o.of_span a) (o.of_span b)
  pub plus : {a b c d : Ends} → IsPart a b → IsPart c d → IsNarrower IsPart (o.plus a c) (o.plus b d)
  pub minus : {a b c d : Ends} → IsPart a b → IsPart c d → IsNarrower IsPart (o.minus a c) (o.minus b d)
  pub times : {a b c d : Ends} → IsPart a b → IsPart c d → IsNarrower IsPart (o.times a c) (o.times b d)
  pub over : {a b c d : Ends} → IsPart a b → IsPart c d → IsNarrower IsPart (o.over a c) (o.over b d)
  pub square : {a b : Ends} → IsPart a b → IsNarrower IsPart (o.square a) (o.square b)
  pub root : {a b : Ends} → IsPart a b → IsNarrower IsPart (o.root a) (o.root b)
  pub widen : {a b : Ends} → IsPart a b → (e : ℤ) → pos 0 ≤ℤ e → IsNarrower IsPart (o.widen a e) (o.widen b e)
  pub shift : {a b : Ends} → IsPart a b → (k : ℤ) → IsNarrower IsPart (o.shift a k) (o.shift b k)
  pub clip : {a b : Ends} → IsPart a b → (s : Ends) → IsNarrower IsPart (o.clip a s) (o.clip b s)

pub intervals_narrow : (scale : ℕ) → Narrows (operations scale)
unfolding operations
intervals_narrow scale = record {
  of_span = λ p. p;
  plus = λ p q. iv_plus-narrower p q;
  minus = λ p q. iv_minus-narrower p q;
  times = λ p q. iv_times-narrower p q scale;
  over = λ p q. iv_over-narrower p q scale;
  square = λ p. iv_square-narrower p scale;
  root = λ p. iv_root-narrower p scale;
  widen = λ p e n. iv_widen-narrower p e n;
  shift = λ p k. iv_shift-narrower p k;
  clip = λ p s. iv_clip-narrower p s;
}
