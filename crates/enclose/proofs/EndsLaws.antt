-- The answer of two ends, along equations of the ends.
use Rattle.std.proofs.Common.{◌≡◌, ◌∙◌}
use Rattle.std.specs.Prelude.{ℤ}
use Rattle.fixdec.specs.Ends.{Ends}
use Rattle.fixdec.specs.Interval.{ends, least, greatest}
use Rattle.fixdec.specs.declared.step.Step.{Step}

pub ends_at : {r : Step Ends} {x y : ℤ} (lo hi : ℤ) → r ≡ ends x y → x ≡ lo → y ≡ hi → r ≡ ends lo hi
ends_at lo hi e p q = e ∙ (λ i. ends (p i) (q i))

pub least_at : {z x y u v : ℤ} (p q r s : ℤ) → z ≡ least x y u v → x ≡ p → y ≡ q → u ≡ r → v ≡ s → z ≡ least p q r s
least_at p q r s e a b c d = e ∙ (λ i. least (a i) (b i) (c i) (d i))

pub greatest_at : {z x y u v : ℤ} (p q r s : ℤ) → z ≡ greatest x y u v → x ≡ p → y ≡ q → u ≡ r → v ≡ s → z ≡ greatest p q r s
greatest_at p q r s e a b c d = e ∙ (λ i. greatest (a i) (b i) (c i) (d i))
