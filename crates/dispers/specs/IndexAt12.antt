-- The index at scale 12 holds every index of its glass within 10^-12.
use Rattle.std.specs.Prelude.{◌≡◌, ◌⊎◌, pos, negsuc}
use Rattle.std.proofs.Common.{refl, subst, arith}
use Rattle.std.proofs.lemmas.Int.{ints}
use Rattle.enclose.specs.IvLaws.{iv_member, iv_lawful}
use Rattle.fixdec.specs.Decimal.{Decimal, value}
use Rattle.fixdec.specs.Ends.{Ends}
use Rattle.fixdec.specs.Frac.{Frac, ◌≤Q◌, ◌*Q◌, whole}
use Rattle.fixdec.specs.IntervalOperations.{operations}
use Rattle.fixdec.specs.Member.{IsMember, Symbols, units}
use Rattle.fixdec.specs.Algebra.Order.{le_of_same, le_whole}
use Rattle.fixdec.specs.Algebra.PowerLaws.{dec_span_member, ten_power_is}
use Rattle.fixdec.specs.Scaled.{dec_span}
use Rattle.fixdec.specs.Steps.{OnVal, OnVal-then}
use Rattle.fixdec.specs.declared.step.Step.TheVariants.{Val}
use Rattle.lensmodel.specs.Equations.Dispersion.{IsGlassIndex}
use Rattle.lensmodel.specs.Files.Picking.{index_at_12}
use Rattle.lensmodel.specs.Equations.Residual.{residual}
use Rattle.lensmodel.specs.declared.glass.Glass.{Glass}
use Rattle.lensmodel.specs.declared.glass.Medium.TheVariants.{Of}
use Rattle.sagform.specs.IndexLaws.{index_rows-encloses}

zero_from_below : whole (negsuc 0) ≤Q whole (pos 0)
zero_from_below = le_whole (omega (arith, ints))

zero_from_above : whole (pos 0) ≤Q whole (pos 1)
zero_from_above = le_whole (omega (arith, ints))

-- an interval has the same members whatever the symbols; here each of them is 0
no_symbols : Symbols
no_symbols = record { at = λ i. whole (pos 0); low = λ i. zero_from_below; high = λ i. zero_from_above }

-- the residual 10^-12 is one unit at scale 12
residual_is_unit : residual 12 *Q units 12 ≤Q whole (pos 1)
residual_is_unit = le_of_same (ten_power_is (negsuc 11) 0 12 refl)

index_at_12-encloses : (g : Glass) (wave : Decimal) → (g.formula ≡ 1) ⊎ (g.formula ≡ 2) → (n : Frac) → IsGlassIndex (residual 12) g wave n
    → OnVal (index_at_12 g wave) (λ x. IsMember 12 x n)
index_at_12-encloses g wave known n h =
    OnVal-then (dec_span 12 wave) _ (λ a. IsMember 12 a (value wave)) _ (dec_span_member 12 wave) λ a ha.
    index_rows-encloses 12 (operations 12) (iv_member 12) (iv_lawful 12) (Of g) a (pos 1) known no_symbols wave (residual 12) n ha residual_is_unit h

-- each index of a glass of formula 1 or 2, within 10^-12, lies between the ends of the index at scale 12
pub index_at_12-holds : (g : Glass) (wave : Decimal) (e : Ends) → (g.formula ≡ 1) ⊎ (g.formula ≡ 2) → index_at_12 g wave ≡ Val e
    → (n : Frac) → IsGlassIndex (residual 12) g wave n → IsMember 12 e n
index_at_12-holds g wave e known is n h = subst (λ r. OnVal r (λ x. IsMember 12 x n)) is (index_at_12-encloses g wave known n h)
