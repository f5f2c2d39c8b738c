-- Roots of narrower intervals.
use Rattle.std.proofs.Common.{◌≡◌, ℕ, ◌+◌, ◌*◌, ◌≤◌, ◌^◌, true, false, arith}
use Rattle.std.proofs.lemmas.Bool.{cond_both}
use Rattle.std.proofs.lemmas.Int.{ints}
use Rattle.std.specs.Prelude.{ℤ, pos, negsuc, ◌≤ℤ◌, int_lt, nat_eq, if◌then◌else◌}
use native.Mathlib.Nat.{mul-le-mul_right}
use Rattle.fixdec.specs.Algebra.RootLaws.{root_is, root_greatest, root_least, root_up_by_is}
use Rattle.fixdec.specs.Ends.{Ends}
use Rattle.fixdec.specs.Interval.{ends, positive_part, iv_root}
use Rattle.fixdec.specs.Root.{root, root_up_by}
use Rattle.fixdec.specs.declared.step.Step.TheVariants.{Empty}
use Rattle.hitsolve.specs.Narrowing.Parts.{IsPart, IsNarrower, empty_narrower, ends_narrower}

root_mono : (m n : ℕ) → m ≤ n → root m ≤ root n
root_mono m n h = root_greatest n (root n) (root m) (root_is n) (let l = (root_is m).low in omega arith)

root_up_mono : (m n : ℕ) → m ≤ n → root_up_by m ≤ root_up_by n
root_up_mono m n h = root_least m (root_up_by m) (root_up_by n) (root_up_by_is m) (let l = (root_up_by_is n).high in omega arith)

root_le_up : (n : ℕ) → root n ≤ root_up_by n
root_le_up n = cond_both (nat_eq (root n * root n) n) (root n) (root n + 1) (λ r. root n ≤ r) (λ e. omega arith) (λ e. omega arith)

positive_mono : (x y : ℤ) → x ≤ℤ y → positive_part x ≤ positive_part y
positive_mono (pos m) (pos n) h = omega (arith, ints)
positive_mono (pos m) (negsuc n) h = absurd (omega (arith, ints))
positive_mono (negsuc m) (pos n) h = omega arith
positive_mono (negsuc m) (negsuc n) h = omega arith

in_units : (scale : ℕ) (x y : ℤ) → x ≤ℤ y → positive_part x * 10 ^ scale ≤ positive_part y * 10 ^ scale
in_units scale x y h = mul-le-mul_right (10 ^ scale) (positive_mono x y h)

pub iv_root-narrower : {a b : Ends} → IsPart a b → (scale : ℕ) → IsNarrower IsPart (iv_root scale a) (iv_root scale b)
unfolding iv_root
iv_root-narrower {a} {b} p scale =
    let A = ends (pos (root (positive_part a.lo * 10 ^ scale))) (pos (root_up_by (positive_part a.hi * 10 ^ scale))) in
    let B = ends (pos (root (positive_part b.lo * 10 ^ scale))) (pos (root_up_by (positive_part b.hi * 10 ^ scale))) in
    cond_both (int_lt b.hi (pos 0)) Empty B (λ s. IsNarrower IsPart (if int_lt a.hi (pos 0) then Empty else A) s)
    (λ e. cond_both (int_lt a.hi (pos 0)) Empty A (λ r. IsNarrower IsPart r Empty) (λ d. tt) (λ d. absurd (below e d)))
    (λ e. cond_both (int_lt a.hi (pos 0)) Empty A (λ r. IsNarrower IsPart r B) (λ d. empty_narrower IsPart B) (λ d. values))
  where
    below : int_lt b.hi (pos 0) ≡ true → int_lt a.hi (pos 0) ≡ false → ⊥
    below e d = let h = p.high in grind (arith, ints, h, e, d)

    values : IsNarrower IsPart (ends (pos (root (positive_part a.lo * 10 ^ scale))) (pos (root_up_by (positive_part a.hi * 10 ^ scale))))
        (ends (pos (root (positive_part b.lo * 10 ^ scale))) (pos (root_up_by (positive_part b.hi * 10 ^ scale))))
    values =
        let low = root_mono _ _ (in_units scale b.lo a.lo p.low) in
        let mid = root_mono _ _ (in_units scale a.lo a.hi p.order) in
        let up = root_le_up (positive_part a.hi * 10 ^ scale) in
        let high = root_up_mono _ _ (in_units scale a.hi b.hi p.high) in
        ends_narrower _ _ _ _ (omega (arith, ints)) (omega (arith, ints)) (omega (arith, ints))
