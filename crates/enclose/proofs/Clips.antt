-- What a clip answers.
use Rattle.std.proofs.Common.{◌≡◌, ◌∙◌, true, false, sym, refl}
use Rattle.std.specs.Prelude.{ℤ, int_le, if◌then◌else◌}
use Rattle.std.specs.Int.{int_min, int_max}
use Rattle.fixdec.specs.Ends.{Ends, InCap}
use Rattle.fixdec.specs.Interval.{ends, iv_clip}
use Rattle.fixdec.specs.declared.step.Step.{Step}
use Rattle.fixdec.specs.declared.step.Step.TheVariants.{Val, Empty}
use Rattle.enclose.specs.EndLaws.{ends_kept}

-- the answer of a clip, by the order of its ends
unfoldable choice : ℤ → ℤ → Step Ends
choice lo hi = if int_le lo hi then ends lo hi else Empty

choice_some : (lo hi : ℤ) → int_le lo hi ≡ true → choice lo hi ≡ ends lo hi
unfolding choice
choice_some lo hi t = rw t refl

choice_none : (lo hi : ℤ) → int_le lo hi ≡ false → choice lo hi ≡ Empty
unfolding choice
choice_none lo hi t = rw t refl

clip_is : (a s : Ends) → choice (int_max a.lo s.lo) (int_min a.hi s.hi) ≡ iv_clip a s
unfolding choice iv_clip
clip_is a s = refl

module _ (a s : Ends) {lo hi : ℤ} (l : lo ≡ int_max a.lo s.lo) (h : hi ≡ int_min a.hi s.hi) where
  pub clip_some : int_le lo hi ≡ true → InCap lo → InCap hi → Val (record { lo = lo; hi = hi }) ≡ iv_clip a s
  clip_some t p q = sym (ends_kept lo hi p q) ∙ sym (choice_some lo hi t) ∙ (λ i. choice (l i) (h i)) ∙ clip_is a s

  pub clip_none : int_le lo hi ≡ false → Empty ≡ iv_clip a s
  clip_none t = sym (choice_none lo hi t) ∙ (λ i. choice (l i) (h i)) ∙ clip_is a s
