-- Values within the cap, as all values that code holds are, and what they keep where they are clipped to one side of 0.
use Rattle.std.proofs.Common.{ℕ, [], ◌∷◌, arith, subst, inl, inr}
use Rattle.std.proofs.lemmas.Int.{ints}
use Rattle.std.specs.Prelude.{ℤ, pos, negsuc}
use Rattle.fixdec.specs.Ends.{Ends, InCap}
use Rattle.fixdec.specs.Frac.{Frac, ◌≤Q◌, ◌*Q◌, whole}
use Rattle.fixdec.specs.Algebra.Linear.{linear_le, order, no_fact, reads}
use Rattle.fixdec.specs.Algebra.MemberLaws.{units_nn}
use Rattle.fixdec.specs.Algebra.Order.{le_trans, le_whole}
use Rattle.fixdec.specs.Algebra.OrderLaws.{mul_nn, zero_le_one}
use Rattle.fixdec.specs.Member.{IsMember, Symbols, units}
use Rattle.fixdec.specs.Operations.{Operations, IsLawful}
use Rattle.fixdec.specs.Steps.{OnVal, ◌>>=◌}
use Rattle.fixdec.specs.declared.step.Step.{Step}
use Rattle.fixdec.specs.declared.step.Step.TheVariants.{Val, Empty, Lost}
use Rattle.lensmodel.specs.Rows.Spans.{positive, side_of}
use Rattle.refract.specs.Signs.{IsSign}

-- P of the value, where there is one
abbrev pub IfVal : {A : Type 0} → Step A → (A → Type 0) → Type 0
IfVal (Val a) P = P a
IfVal Empty P = Unit {0}
IfVal (Lost w) P = Unit {0}

-- a first step, of which this is told, handed to a second
pub OnVal-if : {A B : Type 0} (r : Step A) (f : A → Step B) (Q K : A → Type 0) (P : B → Type 0) → OnVal r Q → IfVal r K
    → ((x : A) → Q x → K x → OnVal (f x) P) → OnVal (r >>= f) P
OnVal-if (Val a) f Q K P h i k = k a h i
OnVal-if Empty f Q K P h i k = absurd h
OnVal-if (Lost w) f Q K P h i k = tt

-- the same where it is told of what follows the first step elsewhere
pub OnVal-along : {A B C : Type 0} (r : Step A) (f : A → Step B) (g : A → Step C) (Q : A → Type 0) (K : C → Type 0) (P : B → Type 0) → OnVal r Q
    → IfVal (r >>= g) K → ((x : A) → Q x → IfVal (g x) K → OnVal (f x) P) → OnVal (r >>= f) P
OnVal-along (Val a) f g Q K P h i k = k a h i
OnVal-along Empty f g Q K P h i k = absurd h
OnVal-along (Lost w) f g Q K P h i k = tt

-- both ends within the cap
pub record AreInCap (a : Ends) : Type 0 where
  pub lo : InCap a.lo
  pub hi : InCap a.hi

-- a number of an interval within the cap, on one side of 0
pub positive_member : (scale : ℕ) (a : Ends) (v : Frac) → AreInCap a → IsMember scale a v → whole (pos 0) ≤Q v → IsMember scale positive v
positive_member scale a v c m n = record {
  low = mul_nn n (units_nn scale);
  high = le_trans m.high (le_whole (let q = c.hi in omega (arith, ints)));
}

negative_member : (scale : ℕ) (a : Ends) (v : Frac) → AreInCap a → IsMember scale a v → v ≤Q whole (pos 0) → IsMember scale (side_of (negsuc 0)) v
negative_member scale a v c m n = record {
  low = le_trans (le_whole (let q = c.lo in omega (arith, ints))) m.low;
  high = linear_le (v ∷ units scale ∷ []) _ _ (search reads depth 20) (order (units_nn scale) n (search reads depth 20) no_fact) tt;
}

-- where rays travel to the side of z
pub side_member : (scale : ℕ) (a : Ends) (v : Frac) (z : ℤ) → IsSign z → AreInCap a → IsMember scale a v → whole (pos 0) ≤Q whole z *Q v
    → IsMember scale (side_of z) v
side_member scale a v z (inl e) c m n =
    let k : whole (pos 0) ≤Q whole (pos 1) *Q v = subst (λ (y : ℤ). whole (pos 0) ≤Q whole y *Q v) e n in
    rw e (positive_member scale a v c m (linear_le (v ∷ []) _ _ (search reads depth 20) (order zero_le_one k (search reads depth 20) no_fact) tt))
side_member scale a v z (inr e) c m n =
    let k : whole (pos 0) ≤Q whole (negsuc 0) *Q v = subst (λ (y : ℤ). whole (pos 0) ≤Q whole y *Q v) e n in
    rw e (negative_member scale a v c m (linear_le (v ∷ []) _ _ (search reads depth 20) (order zero_le_one k (search reads depth 20) no_fact) tt))

module _ {A : Type 0} (scale : ℕ) (o : Operations A) (member : A → Symbols → Frac → Type 0) (law : IsLawful scale o member) (sy : Symbols) where
  pub clip_side-member : (a : A) (v : Frac) (z : ℤ) → IsSign z → AreInCap (o.hull a) → member a sy v → whole (pos 0) ≤Q whole z *Q v
      → OnVal (o.clip a (side_of z)) (λ r. member r sy v)
  clip_side-member a v z sign c h n = law.clip sy a (side_of z) v h (side_member scale (o.hull a) v z sign c (law.hull sy a v h) n)

  pub clip_positive-member : (a : A) (v : Frac) → AreInCap (o.hull a) → member a sy v → whole (pos 0) ≤Q v → OnVal (o.clip a positive) (λ r. member r sy v)
  clip_positive-member a v c h n = law.clip sy a positive v h (positive_member scale (o.hull a) v c (law.hull sy a v h) n)
