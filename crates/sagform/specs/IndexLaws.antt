-- Every index of a medium is a member of what the rows of the index give, for every lawful arithmetic.
use Rattle.std.proofs.Common.{◌≡◌, ℕ, [], ◌∷◌, ◌⊎◌, inl, inr}
use Rattle.std.specs.Prelude.{ℤ, pos}
use Rattle.fixdec.specs.Decimal.{Decimal, value}
use Rattle.fixdec.specs.Ends.{Ends}
use Rattle.fixdec.specs.Frac.{Frac, ◌≈◌, ◌≤Q◌, ◌+Q◌, ◌*Q◌, ◌-Q◌, whole}
use Rattle.fixdec.specs.Algebra.FracLaws.{≈_sym, ≈_trans}
use Rattle.fixdec.specs.Algebra.Linear.{linear, no_fact, reads}
use Rattle.fixdec.specs.Member.{IsMember, Symbols, units}
use Rattle.fixdec.specs.Operations.{Operations, IsLawful}
use Rattle.fixdec.specs.Algebra.OrderLaws.{le_of_lt}
use Rattle.fixdec.specs.Steps.{OnVal, OnVal-then, OnVal-map}
use Rattle.fixdec.specs.declared.step.Step.{Step}
use Rattle.lensmodel.specs.Rows.Constants.{decimal_row, whole_row}
use Rattle.lensmodel.specs.Equations.Dispersion.{IsFormula, IsIndex, IsResonance, IsKnown}
use Rattle.lensmodel.specs.Rows.Index.{schott_rows, sellmeier_rows, resonance_row, formula_rows, index_rows}
use Rattle.lensmodel.specs.Rows.Laws.{decimal_member, whole_member, near_within}
use Rattle.lensmodel.specs.declared.glass.Glass.{Glass}
use Rattle.lensmodel.specs.declared.glass.Medium.{Medium}
use Rattle.lensmodel.specs.declared.glass.Medium.TheVariants.{Air, Of}

-- the written sum of Schott's formula is the one of the rows
schott_sum : (a0 a1 a2 a3 a4 a5 l r : Frac)
    → a0 +Q a1 *Q l +Q r *Q (a2 +Q r *Q (a3 +Q r *Q (a4 +Q r *Q a5))) ≈ (a0 +Q a1 *Q l) +Q (((a5 *Q r +Q a4) *Q r +Q a3) *Q r +Q a2) *Q r
schott_sum a0 a1 a2 a3 a4 a5 l r =
    linear (a0 ∷ a1 ∷ a2 ∷ a3 ∷ a4 ∷ a5 ∷ l ∷ r ∷ []) _ _ (search reads depth 20 fits 4000) no_fact tt

-- an answer holds every index of the medium, at each wavelength in the span, within each residual that e units cover
abbrev pub EnclosesIndex : {A : Type 0} → ℕ → (A → Symbols → Frac → Type 0) → Medium → Ends → ℤ → Step A → Type 0
EnclosesIndex scale member m a e r =
    (s : Symbols) (wave : Decimal) (eps n : Frac) → IsMember scale a (value wave) → eps *Q units scale ≤Q whole e
    → IsIndex eps m wave n → OnVal r (λ x. member x s n)

module _ {A : Type 0} (scale : ℕ) (o : Operations A) (member : A → Symbols → Frac → Type 0) (law : IsLawful scale o member) where
  pub resonance_row-member : (s : Symbols) (k L : Decimal) (v : A) (l t : Frac) → member v s l → IsResonance L l t
      → OnVal (resonance_row o scale k L v) (λ r. member r s (value k *Q t))
  resonance_row-member s k L v l t hv ht =
      OnVal-then (decimal_row o scale k) _ (λ x. member x s (value k)) _ (decimal_member scale o member law s k) λ x hx.
      OnVal-then (decimal_row o scale L) _ (λ y. member y s (value L)) _ (decimal_member scale o member law s L) λ y hy.
      OnVal-then (o.minus v y) _ (λ d. member d s (l -Q value L)) _ (law.minus s v y l (value L) hv hy) λ d hd.
      OnVal-then (o.over v d) _ (λ r. member r s t) _ (law.over s v d l (l -Q value L) t hv hd ht) λ r hr.
      law.times s x r (value k) t hx hr

  -- the value that Schott's rows give: (a0 + a1 l) + (((a5 r + a4) r + a3) r + a2) r
  abbrev pub schott_value : Glass → Frac → Frac → Frac
  schott_value g l r = (value g.c0 +Q value g.c1 *Q l) +Q (((value g.c5 *Q r +Q value g.c4) *Q r +Q value g.c3) *Q r +Q value g.c2) *Q r

  schott_rows-member : (s : Symbols) (g : Glass) (v : A) (l r : Frac) → member v s l → r *Q l ≈ whole (pos 1)
      → OnVal (schott_rows o scale g v) (λ x. member x s (schott_value g l r))
  schott_rows-member s g v l r hv hr =
      OnVal-then (whole_row o scale (pos 1)) _ (λ x. member x s (whole (pos 1))) _ (whole_member scale o member law s (pos 1)) λ x hx.
      OnVal-then (o.over x v) _ (λ y. member y s r) _ (law.over s x v (whole (pos 1)) l r hx hv hr) λ y hy.
      OnVal-then (decimal_row o scale g.c5) _ (λ a. member a s (value g.c5)) _ (decimal_member scale o member law s g.c5) λ a5 h5.
      OnVal-then (o.times a5 y) _ (λ a. member a s (value g.c5 *Q r)) _ (law.times s a5 y _ r h5 hy) λ t5 k5.
      OnVal-then (decimal_row o scale g.c4) _ (λ a. member a s (value g.c4)) _ (decimal_member scale o member law s g.c4) λ a4 h4.
      OnVal-then (o.plus t5 a4) _ (λ a. member a s (value g.c5 *Q r +Q value g.c4)) _ (law.plus s t5 a4 _ _ k5 h4) λ s4 m4.
      OnVal-then (o.times s4 y) _ (λ a. member a s ((value g.c5 *Q r +Q value g.c4) *Q r)) _ (law.times s s4 y _ r m4 hy) λ t4 k4.
      OnVal-then (decimal_row o scale g.c3) _ (λ a. member a s (value g.c3)) _ (decimal_member scale o member law s g.c3) λ a3 h3.
      OnVal-then (o.plus t4 a3) _ (λ a. member a s ((value g.c5 *Q r +Q value g.c4) *Q r +Q value g.c3)) _ (law.plus s t4 a3 _ _ k4 h3) λ s3 m3.
      OnVal-then (o.times s3 y) _ (λ a. member a s (((value g.c5 *Q r +Q value g.c4) *Q r +Q value g.c3) *Q r)) _ (law.times s s3 y _ r m3 hy) λ t3 k3.
      OnVal-then (decimal_row o scale g.c2) _ (λ a. member a s (value g.c2)) _ (decimal_member scale o member law s g.c2) λ a2 h2.
      OnVal-then (o.plus t3 a2) _ (λ a. member a s (((value g.c5 *Q r +Q value g.c4) *Q r +Q value g.c3) *Q r +Q value g.c2)) _ (law.plus s t3 a2 _ _ k3 h2) λ s2 m2.
      OnVal-then (decimal_row o scale g.c0) _ (λ a. member a s (value g.c0)) _ (decimal_member scale o member law s g.c0) λ a0 h0.
      OnVal-then (decimal_row o scale g.c1) _ (λ a. member a s (value g.c1)) _ (decimal_member scale o member law s g.c1) λ a1 h1.
      OnVal-then (o.times a1 v) _ (λ a. member a s (value g.c1 *Q l)) _ (law.times s a1 v _ l h1 hv) λ t1 k1.
      OnVal-then (o.plus a0 t1) _ (λ a. member a s (value g.c0 +Q value g.c1 *Q l)) _ (law.plus s a0 t1 _ _ h0 k1) λ s1 m1.
      OnVal-then (o.times s2 y) _ (λ a. member a s ((((value g.c5 *Q r +Q value g.c4) *Q r +Q value g.c3) *Q r +Q value g.c2) *Q r)) _ (law.times s s2 y _ r m2 hy) λ t2 k2.
      law.plus s s1 t2 _ _ m1 k2

  -- 1 + K1 t1 + K2 t2 + K3 t3
  abbrev pub sellmeier_value : Glass → Frac → Frac → Frac → Frac
  sellmeier_value g t1 t2 t3 = ((whole (pos 1) +Q value g.c0 *Q t1) +Q value g.c2 *Q t2) +Q value g.c4 *Q t3

  sellmeier_rows-member : (s : Symbols) (g : Glass) (v : A) (l t1 t2 t3 : Frac) → member v s l
      → IsResonance g.c1 l t1 → IsResonance g.c3 l t2 → IsResonance g.c5 l t3
      → OnVal (sellmeier_rows o scale g v) (λ x. member x s (sellmeier_value g t1 t2 t3))
  sellmeier_rows-member s g v l t1 t2 t3 hv r1 r2 r3 =
      OnVal-then (resonance_row o scale g.c0 g.c1 v) _ (λ x. member x s (value g.c0 *Q t1)) _ (resonance_row-member s g.c0 g.c1 v l t1 hv r1) λ x1 h1.
      OnVal-then (resonance_row o scale g.c2 g.c3 v) _ (λ x. member x s (value g.c2 *Q t2)) _ (resonance_row-member s g.c2 g.c3 v l t2 hv r2) λ x2 h2.
      OnVal-then (resonance_row o scale g.c4 g.c5 v) _ (λ x. member x s (value g.c4 *Q t3)) _ (resonance_row-member s g.c4 g.c5 v l t3 hv r3) λ x3 h3.
      OnVal-then (whole_row o scale (pos 1)) _ (λ x. member x s (whole (pos 1))) _ (whole_member scale o member law s (pos 1)) λ x hx.
      OnVal-then (o.plus x x1) _ (λ y. member y s (whole (pos 1) +Q value g.c0 *Q t1)) _ (law.plus s x x1 _ _ hx h1) λ y1 k1.
      OnVal-then (o.plus y1 x2) _ (λ y. member y s (whole (pos 1) +Q value g.c0 *Q t1 +Q value g.c2 *Q t2)) _ (law.plus s y1 x2 _ _ k1 h2) λ y2 k2.
      law.plus s y2 x3 _ _ k2 h3

  -- the rows of a formula hold the formula's value, however it is found
  formula_rows-member : (s : Symbols) (g : Glass) (v : A) (l f : Frac) → (g.formula ≡ 1) ⊎ (g.formula ≡ 2) → member v s l → IsFormula g l f
      → OnVal (formula_rows o scale g v) (λ x. member x s f)
  formula_rows-member s g v l f (inl e) hv h =
      let k = h.schott e in
      rw e (OnVal-map (schott_rows o scale g v) (λ x. member x s (schott_value g l k.r)) (λ x. member x s f)
      (λ x hx. law.same s x _ _ (≈_sym (≈_trans k.sum (schott_sum (value g.c0) (value g.c1) (value g.c2) (value g.c3) (value g.c4) (value g.c5) l k.r))) hx)
      (schott_rows-member s g v l k.r hv k.inverse))
  formula_rows-member s g v l f (inr e) hv h =
      let k = h.sellmeier e in
      rw e (OnVal-map (sellmeier_rows o scale g v) (λ x. member x s (sellmeier_value g k.t1 k.t2 k.t3)) (λ x. member x s f)
      (λ x hx. law.same s x _ _ (≈_sym k.sum) hx) (sellmeier_rows-member s g v l k.t1 k.t2 k.t3 hv k.first k.second k.third))

  -- the rows of the index hold every index
  pub index_rows-encloses : (m : Medium) (a : Ends) (e : ℤ) → IsKnown m → EnclosesIndex scale member m a e (index_rows o scale m a e)
  unfolding index_rows
  index_rows-encloses Air a e k s wave eps n ha he h =
      OnVal-map (whole_row o scale (pos 1)) (λ x. member x s (whole (pos 1))) (λ x. member x s n) (λ x hx. law.same s x _ _ (≈_sym h) hx) (whole_member scale o member law s (pos 1))
  index_rows-encloses (Of g) a e k s wave eps n ha he h =
      let w = value wave in
      OnVal-then (o.square (o.of_span a)) _ (λ v. member v s (w *Q w)) _ (law.square s (o.of_span a) w (law.of_span s a w ha)) λ v hv.
      OnVal-then (formula_rows o scale g v) _ (λ x. member x s h.f) _ (formula_rows-member s g v (w *Q w) h.f k hv h.formula) λ x hx.
      OnVal-then (o.widen x e) _ (λ y. member y s (n *Q n)) _ (law.widen s x e h.f (n *Q n) hx (near_within scale e eps h.f (n *Q n) he h.square)) λ y hy.
      law.root s y n (le_of_lt h.positive) hy
