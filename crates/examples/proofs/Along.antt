-- Equal fractions may stand for one another in the parts of a chain.
use Rattle.std.proofs.Common.{ℕ, suc, true, false, List, [], ◌∷◌}
use Rattle.std.specs.Prelude.{Bool, Option, Some, None}
use Rattle.fixdec.specs.Decimal.{Decimal}
use Rattle.fixdec.specs.Frac.{Frac, ◌≈◌, ◌+Q◌, ◌-Q◌, ◌*Q◌}
use Rattle.fixdec.specs.Algebra.FracLaws.{Q-IsRing, ≈_refl, ≈_sym, ≈_trans}
use Rattle.fixdec.specs.Algebra.OrderLaws.{le_along, le_same_left, lt_along}
use Rattle.lensmodel.specs.Equations.Chains.{IsInside}
use Rattle.lensmodel.specs.Equations.Dispersion.{IsIndex}
use Rattle.lensmodel.specs.Equations.Residual.{IsWithin}
use Rattle.lensmodel.specs.Setup.Values.{even_terms, slope_terms}
use Rattle.lensmodel.specs.declared.glass.Medium.{Medium}
use Rattle.lensmodel.specs.declared.glass.Medium.TheVariants.{Air, Of}

pub keep : {a : Frac} → a ≈ a
keep {a} = ≈_refl a

pub plus : {a b c d : Frac} → a ≈ b → c ≈ d → a +Q c ≈ b +Q d
plus p q = Q-IsRing.add_same p q

pub times : {a b c d : Frac} → a ≈ b → c ≈ d → a *Q c ≈ b *Q d
times p q = Q-IsRing.mul_same p q

pub minus : {a b c d : Frac} → a ≈ b → c ≈ d → a -Q c ≈ b -Q d
minus {a} {b} {c} {d} p q =
    ≈_trans (Q-IsRing.sub_is a c) (≈_trans (plus p (times keep q)) (≈_sym (Q-IsRing.sub_is b d)))

pub within_along : {eps a b c d : Frac} → a ≈ c → b ≈ d → IsWithin eps a b → IsWithin eps c d
within_along p q h = record { above = le_along q (plus p keep) h.above; below = le_along p (plus q keep) h.below }

pub even_same : (terms : List Decimal) {r t : Frac} → r ≈ t → even_terms terms r ≈ even_terms terms t
even_same [] p = keep
even_same (a ∷ more) p = times p (plus keep (even_same more p))

pub slope_same : (k : ℕ) (terms : List Decimal) {r t : Frac} → r ≈ t → slope_terms k terms r ≈ slope_terms k terms t
slope_same k [] p = keep
slope_same k (a ∷ more) p = plus keep (times p (slope_same (suc k) more p))

pub index_same : (eps : Frac) (medium : Medium) (wave : Decimal) {a b : Frac} → a ≈ b → IsIndex eps medium wave a → IsIndex eps medium wave b
index_same eps Air wave p h = ≈_trans (≈_sym p) h
index_same eps (Of g) wave p h = record {
  f = h.f;
  positive = lt_along keep p h.positive;
  formula = h.formula;
  square = within_along (times p p) keep h.square;
}

pub inside_same : (rim : Bool) (semi : Option Decimal) {a b : Frac} → a ≈ b → IsInside rim semi a → IsInside rim semi b
inside_same true (Some semi) p h = le_same_left (≈_sym p) h
inside_same true None p h = h
inside_same false semi p h = h
