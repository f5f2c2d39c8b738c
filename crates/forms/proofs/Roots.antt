-- Roots of numbers above 0, and what the root of a form answers.
use Rattle.std.proofs.Common.{ℕ, zero, suc, ◌≡◌, ◌∙◌, ◌<◌, ◌≤◌, ◌*◌, ◌^◌, ap, true, false, refl, arith}
use Rattle.std.proofs.Math.Nat.{one-le-pow}
use native.Mathlib.Nat.{mul-le-mul}
use Rattle.std.specs.Prelude.{pos, ◌≤ℤ◌, ◌<ℤ◌, int_le, int_lt}
use Rattle.std.proofs.lemmas.Int.{ints, by_lt_z}
use Rattle.fixdec.specs.Ends.{Ends}
use Rattle.fixdec.specs.Form.{LinearForm, within_cap, lin_hull, lin_of_span, lin_root, root_above}
use Rattle.fixdec.specs.Interval.{iv_root}
use Rattle.fixdec.specs.Steps.{◌>>=◌}
use Rattle.fixdec.specs.declared.step.Step.{Step}
use Rattle.fixdec.specs.declared.step.Step.TheVariants.{Val, Empty}
use Rattle.fixdec.specs.Root.{root, IsRoot}
use Rattle.fixdec.specs.Algebra.RootLaws.{root_is}

positive : (n r : ℕ) → IsRoot n r → 0 < n → 0 < r
positive n zero h l = let k = h.high in absurd (omega arith)
positive n (suc r) h l = omega arith

-- the root of a number above 0, in units, is above 0
pub root_positive : (n scale : ℕ) → 0 < n → 0 < root (n * 10 ^ scale)
root_positive n scale h =
    let p : 1 ≤ 10 ^ scale = one-le-pow scale 10 (omega arith) in
    let m : 1 * 1 ≤ n * 10 ^ scale = mul-le-mul h p in
    positive (n * 10 ^ scale) (root (n * 10 ^ scale)) (root_is (n * 10 ^ scale)) (omega arith)

root_none : (scale : ℕ) (e : Ends) → int_lt e.hi (pos 0) ≡ true → iv_root scale e ≡ Empty
unfolding iv_root
root_none scale e t = rw t refl

-- what the root of a form answers, by its hull
module _ (scale : ℕ) (a : LinearForm) where
  pub root_of_above : {r : Step LinearForm} → pos 0 <ℤ (lin_hull a).lo → r ≡ within_cap (root_above scale a) → r ≡ lin_root scale a
  unfolding lin_root
  root_of_above h e =
      let t : int_lt (lin_hull a).hi (pos 0) ≡ false = grind (arith, ints) in
      let u : int_le (lin_hull a).lo (pos 0) ≡ false = grind (arith, ints) in
      rw (t, u) e

  -- where the hull reaches down to 0, what the root of the hull's interval answers
  pub root_of_hull : {r : Step LinearForm} → (lin_hull a).lo ≤ℤ pos 0 → r ≡ (iv_root scale (lin_hull a) >>= λ e. Val (lin_of_span e)) → r ≡ lin_root scale a
  unfolding lin_root
  root_of_hull h e =
      by_lt_z (lin_hull a).hi (pos 0)
      (λ l. let t : int_lt (lin_hull a).hi (pos 0) ≡ true = grind (arith, ints) in
      rw t (e ∙ ap (λ r. r >>= λ e. Val (lin_of_span e)) (root_none scale (lin_hull a) t)))
      (λ l. let t : int_lt (lin_hull a).hi (pos 0) ≡ false = grind (arith, ints) in
      let u : int_le (lin_hull a).lo (pos 0) ≡ true = grind (arith, ints) in
      rw (t, u) e)
