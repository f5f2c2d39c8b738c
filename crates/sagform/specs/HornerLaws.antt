-- The rows of the even terms and of their slope hold the sums in scaled coefficients.
use Rattle.std.proofs.Common.{ℕ, suc, List, [], ◌∷◌}
use Rattle.std.specs.Prelude.{pos}
use Rattle.fixdec.specs.Decimal.{Decimal, value}
use Rattle.fixdec.specs.Frac.{Frac, ◌≈◌, ◌+Q◌, ◌*Q◌, whole}
use Rattle.fixdec.specs.Algebra.Linear.{linear, no_fact, reads}
use Rattle.fixdec.specs.Member.{Symbols}
use Rattle.fixdec.specs.Operations.{Operations, IsLawful}
use Rattle.fixdec.specs.Steps.{OnVal, OnVal-then}
use Rattle.lensmodel.specs.Claims.Enclosure.{HoldsEach}
use Rattle.lensmodel.specs.Rows.Constants.{whole_row}
use Rattle.lensmodel.specs.Rows.Laws.{whole_member, on_same}
use Rattle.lensmodel.specs.Rows.Sag.{horner_rows, horner_step, polynomial_row, first_of, slope_row}
use Rattle.sagform.specs.Terms.{terms_value, slopes_value}

last_term : (v u : Frac) → v ≈ v +Q u *Q whole (pos 0)
last_term v u = linear (v ∷ u ∷ []) _ _ (search reads depth 12) no_fact tt

-- V_i holds b_i + u b_(i+1) + ..
abbrev pub HoldsTails : {A : Type 0} → (A → Symbols → Frac → Type 0) → Symbols → List A → Frac → List Decimal → Type 0
HoldsTails member sy [] u [] = Unit {0}
HoldsTails member sy (v ∷ vs) u (b ∷ bs) = member v sy (terms_value u (b ∷ bs)) × HoldsTails member sy vs u bs
HoldsTails member sy vs u bs = ⊥

module _ {A : Type 0} (scale : ℕ) (o : Operations A) (member : A → Symbols → Frac → Type 0) (law : IsLawful scale o member) (sy : Symbols) where
  horner_step-member : (u : A) (U : Frac) (a : A) (d : Decimal) (vs : List A) (ds : List Decimal) → member u sy U → member a sy (value d)
      → HoldsTails member sy vs U ds → OnVal (horner_step o u a vs) (λ ws. HoldsTails member sy ws U (d ∷ ds))
  horner_step-member u U a d [] [] hu ha h = (law.same sy a _ _ (last_term (value d) U) ha, tt)
  horner_step-member u U a d [] (b ∷ bs) hu ha h = absurd h
  horner_step-member u U a d (v ∷ vs) [] hu ha h = absurd h
  horner_step-member u U a d (v ∷ vs) (b ∷ bs) hu ha h =
      let t = terms_value U (b ∷ bs) in
      OnVal-then (o.times u v) _ (λ x. member x sy (U *Q t)) _ (law.times sy u v U t hu h.0) λ x hx.
      OnVal-then (o.plus a x) _ (λ y. member y sy (value d +Q U *Q t)) _ (law.plus sy a x (value d) (U *Q t) ha hx) λ y hy.
      (hy, h)

  -- V8 to V1
  pub horner_rows-member : (u : A) (U : Frac) (cs : List A) (ds : List Decimal) → member u sy U → HoldsEach member cs ds sy
      → OnVal (horner_rows o u cs) (λ vs. HoldsTails member sy vs U ds)
  horner_rows-member u U [] [] hu h = tt
  horner_rows-member u U [] (d ∷ ds) hu h = absurd h
  horner_rows-member u U (a ∷ cs) [] hu h = absurd h
  horner_rows-member u U (a ∷ cs) (d ∷ ds) hu h =
      OnVal-then (horner_rows o u cs) _ (λ vs. HoldsTails member sy vs U ds) _ (horner_rows-member u U cs ds hu h.1) λ vs k.
      horner_step-member u U a d vs ds hu h.0 k

  first_of-member : (U : Frac) (vs : List A) (ds : List Decimal) → HoldsTails member sy vs U ds → OnVal (first_of o scale vs) (λ v. member v sy (terms_value U ds))
  first_of-member U [] [] h = whole_member scale o member law sy (pos 0)
  first_of-member U [] (d ∷ ds) h = absurd h
  first_of-member U (v ∷ vs) [] h = absurd h
  first_of-member U (v ∷ vs) (d ∷ ds) h = h.0

  -- V1
  pub polynomial_row-member : (u : A) (U : Frac) (cs : List A) (ds : List Decimal) → member u sy U → HoldsEach member cs ds sy
      → OnVal (polynomial_row o scale u cs) (λ v. member v sy (terms_value U ds))
  polynomial_row-member u U cs ds hu h =
      OnVal-then (horner_rows o u cs) _ (λ vs. HoldsTails member sy vs U ds) _ (horner_rows-member u U cs ds hu h) λ vs k.
      first_of-member U vs ds k

  -- W1, by the number of its first coefficient
  pub slope_row-member : (i : ℕ) (u : A) (U : Frac) (cs : List A) (ds : List Decimal) → member u sy U → HoldsEach member cs ds sy
      → OnVal (slope_row o scale i u cs) (λ w. member w sy (slopes_value i U ds))
  slope_row-member i u U [] [] hu h = whole_member scale o member law sy (pos 0)
  slope_row-member i u U [] (d ∷ ds) hu h = absurd h
  slope_row-member i u U (a ∷ cs) [] hu h = absurd h
  slope_row-member i u U (a ∷ []) (d ∷ []) hu h =
      OnVal-then (whole_row o scale (pos i)) _ (λ n. member n sy (whole (pos i))) _ (whole_member scale o member law sy (pos i)) λ n hn.
      on_same scale o member law sy (o.times n a) _ _ (last_term (whole (pos i) *Q value d) U) (law.times sy n a (whole (pos i)) (value d) hn h.0)
  slope_row-member i u U (a ∷ []) (d ∷ e ∷ ds) hu h = absurd h.1
  slope_row-member i u U (a ∷ b ∷ cs) (d ∷ []) hu h = absurd h.1
  slope_row-member i u U (a ∷ b ∷ cs) (d ∷ e ∷ ds) hu h =
      let t = slopes_value (suc i) U (e ∷ ds) in
      OnVal-then (slope_row o scale (suc i) u (b ∷ cs)) _ (λ w. member w sy t) _ (slope_row-member (suc i) u U (b ∷ cs) (e ∷ ds) hu h.1) λ w hw.
      OnVal-then (whole_row o scale (pos i)) _ (λ n. member n sy (whole (pos i))) _ (whole_member scale o member law sy (pos i)) λ n hn.
      OnVal-then (o.times n a) _ (λ x. member x sy (whole (pos i) *Q value d)) _ (law.times sy n a (whole (pos i)) (value d) hn h.0) λ x hx.
      OnVal-then (o.times u w) _ (λ y. member y sy (U *Q t)) _ (law.times sy u w U t hu hw) λ y hy.
      law.plus sy x y (whole (pos i) *Q value d) (U *Q t) hx hy
