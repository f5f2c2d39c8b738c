-- The direction of a refracted ray is a member of what its rows give.
use Rattle.std.proofs.Common.{ℕ, suc, [], ◌∷◌, sym, subst}
use Rattle.std.specs.Prelude.{ℤ, pos}
use Rattle.fixdec.specs.Algebra.FracLaws.{≈_sym}
use Rattle.fixdec.specs.Algebra.Linear.{linear, no_fact, reads}
use Rattle.fixdec.specs.Algebra.OrderLaws.{mul_nn}
use Rattle.fixdec.specs.Frac.{Frac, ◌≤Q◌, ◌+Q◌, ◌-Q◌, ◌*Q◌, whole}
use Rattle.fixdec.specs.Member.{Symbols}
use Rattle.fixdec.specs.Operations.{Operations, IsLawful}
use Rattle.fixdec.specs.Steps.{OnVal, OnVal-then, ◌>>=◌}
use Rattle.fixdec.specs.declared.step.Step.{Step}
use Rattle.fixdec.specs.declared.step.Step.TheVariants.{Val}
use Rattle.lensmodel.specs.Claims.Enclosure.{CoversResidual, HoldsPrepared, HoldsRay, HoldsMet, HoldsDirection}
use Rattle.lensmodel.specs.Equations.Bending.{Refracts}
use Rattle.lensmodel.specs.Equations.Chain.{Chain, index_behind}
use Rattle.lensmodel.specs.Equations.Residual.{IsWithin}
use Rattle.lensmodel.specs.Rows.Bending.{Direction, Normal, with_sign, against_sign, snell_row, bending_row, across_row, onward_row, refraction_rows}
use Rattle.lensmodel.specs.Rows.Constants.{whole_row}
use Rattle.lensmodel.specs.Rows.Crossing.{Met}
use Rattle.lensmodel.specs.Rows.Laws.{Covers, whole_member, on_same, widened}
use Rattle.lensmodel.specs.Rows.Preparation.{Prepared}
use Rattle.lensmodel.specs.Rows.Start.{Incoming}
use Rattle.lensmodel.specs.Setup.Values.{eps}
use Rattle.lensmodel.specs.declared.setup.Setup.{Setup}
use Rattle.refract.specs.Incidence.{HoldsNormal}
use Rattle.refract.specs.Signs.{IsSign, travel_sign, with_sign-member, against_sign-member}

-- the root of Snell's law, from the squares of the indices behind and before
abbrev pub snell_from : {A : Type 0} → Operations A → ℕ → A → A → A → ℤ → Step A
snell_from o scale behind before cos e = do
  o.root (← o.widen (← o.minus behind (← o.times before (← o.minus (← whole_row o scale (pos 1)) (← o.square cos)))) e)

module _ {A : Type 0} (o : Operations A) where
  -- a cosine across the axis, from ng*L and K*E
  abbrev pub across_from : ℤ → A → A → A → A → ℤ → Step A
  across_from sign a ke x mg e = do
    o.over (← o.widen (← against_sign o sign a (← o.times ke x)) e) mg

  -- the direction, from ng, mg and K
  abbrev pub refracted_rows : ℤ → A → A → A → Incoming A → Met A → Normal A → ℤ → Step (Direction A)
  refracted_rows sign ng mg k ray hit normal e = do
    l ← across_row o sign ng ray.l k normal.e hit.x mg e
    m ← across_row o sign ng ray.m k normal.e hit.y mg e
    n ← onward_row o sign ng normal.n k mg e
    Val record { l = l; m = m; n = n }

module _ {A : Type 0} (scale : ℕ) (o : Operations A) (member : A → Symbols → Frac → Type 0) (law : IsLawful scale o member)
    (sy : Symbols) (eps : Frac) (e : ℤ) (covers : Covers scale eps e) where
  -- n' C', the root of Snell's law
  pub snell_row-member : (n n2 cos : A) (N N' C C' : Frac) → member n sy N → member n2 sy N' → member cos sy C → whole (pos 0) ≤Q N' → whole (pos 0) ≤Q C'
      → IsWithin eps (N' *Q N' *Q (C' *Q C')) (N' *Q N' -Q N *Q N *Q (whole (pos 1) -Q C *Q C))
      → OnVal (snell_row o scale n n2 cos e) (λ r. member r sy (N' *Q C'))
  snell_row-member n n2 cos N N' C C' hn hn2 hc nn nn' h =
      OnVal-then (o.square n2) _ (λ r. member r sy (N' *Q N')) _ (law.square sy n2 N' hn2) λ a ha.
      OnVal-then (o.square n) _ (λ r. member r sy (N *Q N)) _ (law.square sy n N hn) λ b hb.
      OnVal-then (whole_row o scale (pos 1)) _ (λ r. member r sy (whole (pos 1))) _ (whole_member scale o member law sy (pos 1)) λ one h1.
      OnVal-then (o.square cos) _ (λ r. member r sy (C *Q C)) _ (law.square sy cos C hc) λ d hd.
      OnVal-then (o.minus one d) _ (λ r. member r sy (whole (pos 1) -Q C *Q C)) _ (law.minus sy one d _ _ h1 hd) λ f hf.
      OnVal-then (o.times b f) _ (λ r. member r sy (N *Q N *Q (whole (pos 1) -Q C *Q C))) _ (law.times sy b f _ _ hb hf) λ t ht.
      OnVal-then (o.minus a t) _ (λ r. member r sy (N' *Q N' -Q N *Q N *Q (whole (pos 1) -Q C *Q C))) _ (law.minus sy a t _ _ ha ht) λ u hu.
      OnVal-then (o.widen u e) _ (λ r. member r sy (N' *Q N' *Q (C' *Q C'))) _ (widened scale o member law sy eps e covers u _ _ hu h) λ w hw.
      law.root sy w (N' *Q C') (mul_nn nn nn')
      (law.same sy w _ _ (linear (N' ∷ C' ∷ []) _ _ (search reads depth 16) no_fact tt) hw)

  -- K = n' C' - n C
  pub bending_row-member : (kp n cos : A) (Kp N C : Frac) → member kp sy Kp → member n sy N → member cos sy C
      → OnVal (bending_row o kp n cos) (λ r. member r sy (Kp -Q N *Q C))
  bending_row-member kp n cos Kp N C hk hn hc =
      OnVal-then (o.times n cos) _ (λ r. member r sy (N *Q C)) _ (law.times sy n cos N C hn hc) λ t ht.
      law.minus sy kp t Kp (N *Q C) hk ht

  -- a cosine across the axis: n' L' g is n L g less K E x times the sign, within the residual
  pub across_row-member : (z : ℤ) → IsSign z → (ng l k slope x mg : A) (N G L K E X N' L' : Frac) → member ng sy (N *Q G) → member l sy L → member k sy K
      → member slope sy E → member x sy X → member mg sy (N' *Q G) → IsWithin eps (N' *Q L' *Q G) (N *Q L *Q G -Q whole z *Q (K *Q E *Q X))
      → OnVal (across_row o z ng l k slope x mg e) (λ r. member r sy L')
  across_row-member z sign ng l k slope x mg N G L K E X N' L' hng hl hk hs hx hmg h =
      OnVal-then (o.times ng l) _ (λ r. member r sy (N *Q L *Q G)) _
      (on_same scale o member law sy (o.times ng l) _ _ (linear (N ∷ G ∷ L ∷ []) _ _ (search reads depth 16) no_fact tt) (law.times sy ng l (N *Q G) L hng hl)) λ a ha.
      OnVal-then (o.times k slope) _ (λ r. member r sy (K *Q E)) _ (law.times sy k slope K E hk hs) λ b hb.
      OnVal-then (o.times b x) _ (λ r. member r sy (K *Q E *Q X)) _ (law.times sy b x (K *Q E) X hb hx) λ t ht.
      OnVal-then (against_sign o z a t) _ (λ r. member r sy (N *Q L *Q G -Q whole z *Q (K *Q E *Q X))) _
      (against_sign-member scale o member law sy a t _ _ ha ht z sign) λ u hu.
      OnVal-then (o.widen u e) _ (λ r. member r sy (N' *Q L' *Q G)) _ (widened scale o member law sy eps e covers u _ _ hu h) λ w hw.
      law.over sy w mg (N' *Q L' *Q G) (N' *Q G) L' hw hmg (linear (N' ∷ L' ∷ G ∷ []) _ _ (search reads depth 16) no_fact tt)

  -- the cosine along the axis: n' N' g is n N g plus K times the sign, within the residual
  pub onward_row-member : (z : ℤ) → IsSign z → (ng n k mg : A) (N G M K N' M' : Frac) → member ng sy (N *Q G) → member n sy M → member k sy K
      → member mg sy (N' *Q G) → IsWithin eps (N' *Q M' *Q G) (N *Q M *Q G +Q whole z *Q K)
      → OnVal (onward_row o z ng n k mg e) (λ r. member r sy M')
  onward_row-member z sign ng n k mg N G M K N' M' hng hn hk hmg h =
      OnVal-then (o.times ng n) _ (λ r. member r sy (N *Q M *Q G)) _
      (on_same scale o member law sy (o.times ng n) _ _ (linear (N ∷ G ∷ M ∷ []) _ _ (search reads depth 16) no_fact tt) (law.times sy ng n (N *Q G) M hng hn)) λ a ha.
      OnVal-then (with_sign o z a k) _ (λ r. member r sy (N *Q M *Q G +Q whole z *Q K)) _ (with_sign-member scale o member law sy a k _ _ ha hk z sign) λ u hu.
      OnVal-then (o.widen u e) _ (λ r. member r sy (N' *Q M' *Q G)) _ (widened scale o member law sy eps e covers u _ _ hu h) λ w hw.
      law.over sy w mg (N' *Q M' *Q G) (N' *Q G) M' hw hmg (linear (N' ∷ M' ∷ G ∷ []) _ _ (search reads depth 16) no_fact tt)

module _ {A : Type 0} (scale : ℕ) (o : Operations A) (member : A → Symbols → Frac → Type 0) (law : IsLawful scale o member)
    (s : Setup) (c : Chain) (j : ℕ) (e : ℤ) (covers : CoversResidual scale s e) (face : Prepared A) (ray : Incoming A) (hit : Met A)
    (holds : HoldsPrepared member s c j face) (hr : HoldsRay member c j ray) (hm : HoldsMet member c j hit) where
  pub refraction_rows-member : (n2 : A) (normal : Normal A) → (r : Refracts s c j) → member n2 c.symbols (index_behind s c (suc j))
      → whole (pos 0) ≤Q index_behind s c (suc j) → HoldsNormal member c.symbols r.e r.g r.cos (c.n j) normal
      → OnVal (refraction_rows o scale face n2 ray hit normal e) (λ d. HoldsDirection member c j d)
  unfolding refraction_rows
  refraction_rows-member n2 normal r hn2 nn h =
      let sy = c.symbols in
      let n = index_behind s c j in
      let n' = index_behind s c (suc j) in
      let sign : IsSign face.sign = subst (λ (z : ℤ). IsSign z) (sym holds.sign) (travel_sign s j) in
      OnVal-then (snell_row o scale face.n n2 normal.cos e) _ (λ a. member a sy (n' *Q r.cos')) _
      (snell_row-member scale o member law sy (eps s) e covers face.n n2 normal.cos n n' r.cos r.cos' holds.n hn2 h.cos nn r.cosine_sign r.snell) λ kp hkp.
      OnVal-then (bending_row o kp face.n normal.cos) _ (λ a. member a sy r.k) _
      (on_same scale o member law sy (bending_row o kp face.n normal.cos) _ r.k (≈_sym r.bending)
      (bending_row-member scale o member law sy (eps s) e covers kp face.n normal.cos (n' *Q r.cos') n r.cos hkp holds.n h.cos)) λ k hk.
      OnVal-then (o.times face.n normal.g) _ (λ a. member a sy (n *Q r.g)) _ (law.times sy face.n normal.g n r.g holds.n h.g) λ ng hng.
      OnVal-then (o.times n2 normal.g) _ (λ a. member a sy (n' *Q r.g)) _ (law.times sy n2 normal.g n' r.g hn2 h.g) λ mg hmg.
      OnVal-then (across_row o face.sign ng ray.l k normal.e hit.x mg e) _ (λ a. member a sy (c.l (suc j))) _
      (across_row-member scale o member law sy (eps s) e covers face.sign sign ng ray.l k normal.e hit.x mg n r.g (c.l j) r.k r.e (c.x (suc j)) n' (c.l (suc j))
      hng hr.l hk h.e hm.x hmg (subst (λ (z : ℤ). IsWithin (eps s) (n' *Q c.l (suc j) *Q r.g) (n *Q c.l j *Q r.g -Q whole z *Q (r.k *Q r.e *Q c.x (suc j)))) (sym holds.sign) r.l)) λ l hl.
      OnVal-then (across_row o face.sign ng ray.m k normal.e hit.y mg e) _ (λ a. member a sy (c.m (suc j))) _
      (across_row-member scale o member law sy (eps s) e covers face.sign sign ng ray.m k normal.e hit.y mg n r.g (c.m j) r.k r.e (c.y (suc j)) n' (c.m (suc j))
      hng hr.m hk h.e hm.y hmg (subst (λ (z : ℤ). IsWithin (eps s) (n' *Q c.m (suc j) *Q r.g) (n *Q c.m j *Q r.g -Q whole z *Q (r.k *Q r.e *Q c.y (suc j)))) (sym holds.sign) r.m)) λ m hmm.
      OnVal-then (onward_row o face.sign ng normal.n k mg e) _ (λ a. member a sy (c.n (suc j))) _
      (onward_row-member scale o member law sy (eps s) e covers face.sign sign ng normal.n k mg n r.g (c.n j) r.k n' (c.n (suc j))
      hng h.n hk hmg (subst (λ (z : ℤ). IsWithin (eps s) (n' *Q c.n (suc j) *Q r.g) (n *Q c.n j *Q r.g +Q whole z *Q r.k)) (sym holds.sign) r.n)) λ v hv.
      record { l = hl; m = hmm; n = hv }
