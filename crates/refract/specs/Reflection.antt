-- The direction of a reflected ray is a member of what its rows give.
use Rattle.std.proofs.Common.{ℕ, suc, [], ◌∷◌, sym, subst}
use Rattle.std.specs.Prelude.{ℤ, pos}
use Rattle.fixdec.specs.Algebra.Linear.{linear, no_fact, reads}
use Rattle.fixdec.specs.Frac.{Frac, ◌+Q◌, ◌-Q◌, ◌*Q◌, whole}
use Rattle.fixdec.specs.Member.{Symbols}
use Rattle.fixdec.specs.Operations.{Operations, IsLawful}
use Rattle.fixdec.specs.Steps.{OnVal, OnVal-then, ◌>>=◌}
use Rattle.fixdec.specs.declared.step.Step.{Step}
use Rattle.lensmodel.specs.Claims.Enclosure.{CoversResidual, HoldsPrepared, HoldsRay, HoldsMet, HoldsDirection}
use Rattle.lensmodel.specs.Equations.Bending.{Reflects}
use Rattle.lensmodel.specs.Equations.Chain.{Chain}
use Rattle.lensmodel.specs.Equations.Residual.{IsWithin}
use Rattle.lensmodel.specs.Rows.Bending.{Normal, with_sign, against_sign, mirrored_row, returned_row, reflection_rows}
use Rattle.lensmodel.specs.Rows.Crossing.{Met}
use Rattle.lensmodel.specs.Rows.Laws.{Covers, on_same, widened}
use Rattle.lensmodel.specs.Rows.Preparation.{Prepared}
use Rattle.lensmodel.specs.Rows.Start.{Incoming}
use Rattle.lensmodel.specs.Setup.Values.{eps}
use Rattle.lensmodel.specs.declared.setup.Setup.{Setup}
use Rattle.refract.specs.Incidence.{HoldsNormal}
use Rattle.refract.specs.Signs.{IsSign, travel_sign, with_sign-member, against_sign-member}

-- a cosine across the axis, from g*L and G2*E
abbrev pub mirrored_from : {A : Type 0} → Operations A → ℤ → A → A → A → A → ℤ → Step A
mirrored_from o sign a k x g e = do
  o.over (← o.widen (← with_sign o sign a (← o.times k x)) e) g

module _ {A : Type 0} (scale : ℕ) (o : Operations A) (member : A → Symbols → Frac → Type 0) (law : IsLawful scale o member)
    (sy : Symbols) (eps : Frac) (e : ℤ) (covers : Covers scale eps e) where
  -- a cosine across the axis: g L' is g L plus 2 C E x times the sign, within the residual; K is 2 C
  pub mirrored_row-member : (z : ℤ) → IsSign z → (g l g2 slope x : A) (G L K E X L' : Frac) → member g sy G → member l sy L → member g2 sy K
      → member slope sy E → member x sy X → IsWithin eps (G *Q L') (G *Q L +Q whole z *Q (K *Q E *Q X))
      → OnVal (mirrored_row o z g l g2 slope x e) (λ r. member r sy L')
  mirrored_row-member z sign g l g2 slope x G L K E X L' hg hl hk hs hx h =
      OnVal-then (o.times g l) _ (λ r. member r sy (G *Q L)) _ (law.times sy g l G L hg hl) λ a ha.
      OnVal-then (o.times g2 slope) _ (λ r. member r sy (K *Q E)) _ (law.times sy g2 slope K E hk hs) λ b hb.
      OnVal-then (o.times b x) _ (λ r. member r sy (K *Q E *Q X)) _ (law.times sy b x (K *Q E) X hb hx) λ t ht.
      OnVal-then (with_sign o z a t) _ (λ r. member r sy (G *Q L +Q whole z *Q (K *Q E *Q X))) _ (with_sign-member scale o member law sy a t _ _ ha ht z sign) λ u hu.
      OnVal-then (o.widen u e) _ (λ r. member r sy (G *Q L')) _ (widened scale o member law sy eps e covers u _ _ hu h) λ w hw.
      law.over sy w g (G *Q L') G L' hw hg (linear (G ∷ L' ∷ []) _ _ (search reads depth 16) no_fact tt)

  -- the cosine along the axis: g N' is g N less 2 C times the sign, within the residual
  pub returned_row-member : (z : ℤ) → IsSign z → (g n g2 : A) (G M K M' : Frac) → member g sy G → member n sy M → member g2 sy K
      → IsWithin eps (G *Q M') (G *Q M -Q whole z *Q K) → OnVal (returned_row o z g n g2 e) (λ r. member r sy M')
  returned_row-member z sign g n g2 G M K M' hg hn hk h =
      OnVal-then (o.times g n) _ (λ r. member r sy (G *Q M)) _ (law.times sy g n G M hg hn) λ a ha.
      OnVal-then (against_sign o z a g2) _ (λ r. member r sy (G *Q M -Q whole z *Q K)) _ (against_sign-member scale o member law sy a g2 _ _ ha hk z sign) λ u hu.
      OnVal-then (o.widen u e) _ (λ r. member r sy (G *Q M')) _ (widened scale o member law sy eps e covers u _ _ hu h) λ w hw.
      law.over sy w g (G *Q M') G M' hw hg (linear (G ∷ M' ∷ []) _ _ (search reads depth 16) no_fact tt)

module _ {A : Type 0} (scale : ℕ) (o : Operations A) (member : A → Symbols → Frac → Type 0) (law : IsLawful scale o member)
    (s : Setup) (c : Chain) (j : ℕ) (e : ℤ) (covers : CoversResidual scale s e) (face : Prepared A) (ray : Incoming A) (hit : Met A)
    (holds : HoldsPrepared member s c j face) (hr : HoldsRay member c j ray) (hm : HoldsMet member c j hit) where
  pub reflection_rows-member : (normal : Normal A) → (r : Reflects s c j) → HoldsNormal member c.symbols r.e r.g r.cos (c.n j) normal
      → OnVal (reflection_rows o face ray hit normal e) (λ d. HoldsDirection member c j d)
  unfolding reflection_rows
  reflection_rows-member normal r h =
      let sy = c.symbols in
      let k = whole (pos 2) *Q r.cos in
      let sign : IsSign face.sign = subst (λ (z : ℤ). IsSign z) (sym holds.sign) (travel_sign s j) in
      OnVal-then (o.plus normal.cos normal.cos) _ (λ a. member a sy k) _
      (on_same scale o member law sy (o.plus normal.cos normal.cos) (r.cos +Q r.cos) k (linear (r.cos ∷ []) _ _ (search reads depth 16) no_fact tt)
      (law.plus sy normal.cos normal.cos r.cos r.cos h.cos h.cos)) λ g2 hk.
      OnVal-then (mirrored_row o face.sign normal.g ray.l g2 normal.e hit.x e) _ (λ a. member a sy (c.l (suc j))) _
      (mirrored_row-member scale o member law sy (eps s) e covers face.sign sign normal.g ray.l g2 normal.e hit.x r.g (c.l j) k r.e (c.x (suc j)) (c.l (suc j))
      h.g hr.l hk h.e hm.x (subst (λ (z : ℤ). IsWithin (eps s) (r.g *Q c.l (suc j)) (r.g *Q c.l j +Q whole z *Q (k *Q r.e *Q c.x (suc j)))) (sym holds.sign) r.l)) λ l hl.
      OnVal-then (mirrored_row o face.sign normal.g ray.m g2 normal.e hit.y e) _ (λ a. member a sy (c.m (suc j))) _
      (mirrored_row-member scale o member law sy (eps s) e covers face.sign sign normal.g ray.m g2 normal.e hit.y r.g (c.m j) k r.e (c.y (suc j)) (c.m (suc j))
      h.g hr.m hk h.e hm.y (subst (λ (z : ℤ). IsWithin (eps s) (r.g *Q c.m (suc j)) (r.g *Q c.m j +Q whole z *Q (k *Q r.e *Q c.y (suc j)))) (sym holds.sign) r.m)) λ m hmm.
      OnVal-then (returned_row o face.sign normal.g normal.n g2 e) _ (λ a. member a sy (c.n (suc j))) _
      (returned_row-member scale o member law sy (eps s) e covers face.sign sign normal.g normal.n g2 r.g (c.n j) k (c.n (suc j))
      h.g h.n hk (subst (λ (z : ℤ). IsWithin (eps s) (r.g *Q c.n (suc j)) (r.g *Q c.n j -Q whole z *Q k)) (sym holds.sign) r.n)) λ v hv.
      record { l = hl; m = hmm; n = hv }
