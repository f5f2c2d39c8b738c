-- The operations of an arithmetic, and the laws that make its answers enclose.
use Rattle.std.specs.Prelude.{ℕ, ℤ, pos, ◌<◌, ◌≤ℤ◌}
use Rattle.fixdec.specs.Ends.{Ends}
use Rattle.fixdec.specs.Frac.{Frac, ◌≈◌, ◌≤Q◌, ◌+Q◌, ◌*Q◌, ◌-Q◌, whole}
use Rattle.fixdec.specs.Member.{IsMember, IsNear, IsShifted, Symbols}
use Rattle.fixdec.specs.Steps.{OnVal}
use Rattle.fixdec.specs.declared.step.Step.{Step}

-- the operations of an arithmetic on A
pub record Operations (A : Type 0) : Type 0 where
  pub of_span : Ends → A
  pub hull : A → Ends
  pub plus : A → A → Step A
  pub minus : A → A → Step A
  pub times : A → A → Step A
  pub square : A → Step A
  pub over : A → A → Step A
  pub root : A → Step A
  pub widen : A → ℤ → Step A
  pub shift : A → ℤ → Step A
  pub clip : A → Ends → Step A
  pub symbol : A → ℕ → Ends → Step A

-- the laws: what is computed from values has as members what is computed from their members, under the same symbols.
-- OnVal says two things at once: it is a member of the answer, and the answer isn't Empty
pub record IsLawful {A : Type 0} (scale : ℕ) (o : Operations A) (member : A → Symbols → Frac → Type 0) : Type 0 where
  pub same : (s : Symbols) (a : A) (u v : Frac) → u ≈ v → member a s u → member a s v
  pub of_span : (s : Symbols) (a : Ends) (v : Frac) → IsMember scale a v → member (o.of_span a) s v
  pub hull : (s : Symbols) (a : A) (v : Frac) → member a s v → IsMember scale (o.hull a) v
  pub plus : (s : Symbols) (a b : A) (u v : Frac) → member a s u → member b s v → OnVal (o.plus a b) (λ r. member r s (u +Q v))
  pub minus : (s : Symbols) (a b : A) (u v : Frac) → member a s u → member b s v → OnVal (o.minus a b) (λ r. member r s (u -Q v))
  pub times : (s : Symbols) (a b : A) (u v : Frac) → member a s u → member b s v → OnVal (o.times a b) (λ r. member r s (u *Q v))
  pub square : (s : Symbols) (a : A) (u : Frac) → member a s u → OnVal (o.square a) (λ r. member r s (u *Q u))
  pub over : (s : Symbols) (a b : A) (u v q : Frac) → member a s u → member b s v → q *Q v ≈ u → OnVal (o.over a b) (λ r. member r s q)
  pub root : (s : Symbols) (a : A) (u : Frac) → whole (pos 0) ≤Q u → member a s (u *Q u) → OnVal (o.root a) (λ r. member r s u)
  pub widen : (s : Symbols) (a : A) (e : ℤ) (u v : Frac) → member a s u → IsNear scale e u v → OnVal (o.widen a e) (λ r. member r s v)
  pub shift : (s : Symbols) (a : A) (k : ℤ) (u v : Frac) → member a s u → IsShifted k u v → OnVal (o.shift a k) (λ r. member r s v)
  pub clip : (s : Symbols) (a : A) (b : Ends) (u : Frac) → member a s u → IsMember scale b u → OnVal (o.clip a b) (λ r. member r s u)
  pub symbol : (s : Symbols) (a : A) (i : ℕ) (delta : Ends) (u d : Frac) → i < 32 → pos 0 ≤ℤ delta.lo → member a s u → IsMember scale delta d → OnVal (o.symbol a i delta) (λ r. member r s (u +Q d *Q s.at i))
