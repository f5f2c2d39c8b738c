-- The five Seidel sums of a surface are members of what their rows give, in every lawful arithmetic. Cited by proofs.
use Rattle.std.proofs.Common.{ℕ, [], ◌∷◌}
use Rattle.std.specs.Prelude.{ℤ, pos}
use Rattle.fixdec.specs.Frac.{Frac, ◌+Q◌, ◌*Q◌, ◌-Q◌, neg_Q, whole}
use Rattle.fixdec.specs.Algebra.Linear.{linear, no_fact, reads}
use Rattle.fixdec.specs.Member.{Symbols}
use Rattle.fixdec.specs.Operations.{Operations, IsLawful}
use Rattle.fixdec.specs.Steps.{OnVal, OnVal-then}
use Rattle.lensmodel.specs.Rows.Constants.{whole_row}
use Rattle.lensmodel.specs.Equations.Residual.{IsWithin}
use Rattle.lensmodel.specs.Rows.Laws.{Covers, within_right, whole_member, widened}
use Rattle.lensmodel.specs.Paraxial.SeidelRows.{s1_row, s2_row, s3_row, s4_row, s5_row}

module _ {A : Type 0} (scale : ℕ) (o : Operations A) (member : A → Symbols → Frac → Type 0) (law : IsLawful scale o member)
    (sy : Symbols) (eps : Frac) (e : ℤ) (covers : Covers scale eps e) where
  -- S1 = k8 y^4 - A^2 y dun
  pub s1_member : (k8 yy a y dun : A) (K Y A' D s1 : Frac) → member k8 sy K → member yy sy (Y *Q Y) → member a sy A' → member y sy Y → member dun sy D
      → IsWithin eps s1 (K *Q (Y *Q Y *Q Y *Q Y) -Q A' *Q A' *Q Y *Q D)
      → OnVal (s1_row o scale k8 yy a y dun e) (λ r. member r sy s1)
  s1_member k8 yy a y dun K Y A' D s1 h1 h2 h3 h4 h5 w =
      OnVal-then (o.square yy) _ (λ x. member x sy ((Y *Q Y) *Q (Y *Q Y))) _ (law.square sy yy _ h2) λ q m1.
      OnVal-then (o.times k8 q) _ (λ x. member x sy (K *Q ((Y *Q Y) *Q (Y *Q Y)))) _ (law.times sy k8 q K _ h1 m1) λ x m2.
      OnVal-then (o.square a) _ (λ x. member x sy (A' *Q A')) _ (law.square sy a A' h3) λ aa m3.
      OnVal-then (o.times aa y) _ (λ x. member x sy (A' *Q A' *Q Y)) _ (law.times sy aa y _ Y m3 h4) λ b m4.
      OnVal-then (o.times b dun) _ (λ x. member x sy (A' *Q A' *Q Y *Q D)) _ (law.times sy b dun _ D m4 h5) λ c m5.
      OnVal-then (o.minus x c) _ (λ x. member x sy (K *Q ((Y *Q Y) *Q (Y *Q Y)) -Q A' *Q A' *Q Y *Q D)) _ (law.minus sy x c _ _ m2 m5) λ d m6.
      widened scale o member law sy eps e covers d _ s1 m6
      (within_right eps s1 _ _ (linear (K ∷ Y ∷ A' ∷ D ∷ []) _ _ (search reads depth 20 fits 4000) no_fact tt) w)

  -- S2 = k8 y^3 yb - A Ab y dun
  pub s2_member : (k8 yy y yb a ab dun : A) (K Y YB A' AB D s2 : Frac) → member k8 sy K → member yy sy (Y *Q Y) → member y sy Y → member yb sy YB
      → member a sy A' → member ab sy AB → member dun sy D
      → IsWithin eps s2 (K *Q (Y *Q Y *Q Y *Q YB) -Q A' *Q AB *Q Y *Q D)
      → OnVal (s2_row o scale k8 yy y yb a ab dun e) (λ r. member r sy s2)
  s2_member k8 yy y yb a ab dun K Y YB A' AB D s2 h1 h2 h3 h4 h5 h6 h7 w =
      OnVal-then (o.times yy y) _ (λ x. member x sy (Y *Q Y *Q Y)) _ (law.times sy yy y _ Y h2 h3) λ p m1.
      OnVal-then (o.times p yb) _ (λ x. member x sy (Y *Q Y *Q Y *Q YB)) _ (law.times sy p yb _ YB m1 h4) λ q m2.
      OnVal-then (o.times k8 q) _ (λ x. member x sy (K *Q (Y *Q Y *Q Y *Q YB))) _ (law.times sy k8 q K _ h1 m2) λ x m3.
      OnVal-then (o.times a ab) _ (λ x. member x sy (A' *Q AB)) _ (law.times sy a ab A' AB h5 h6) λ aa m4.
      OnVal-then (o.times aa y) _ (λ x. member x sy (A' *Q AB *Q Y)) _ (law.times sy aa y _ Y m4 h3) λ b m5.
      OnVal-then (o.times b dun) _ (λ x. member x sy (A' *Q AB *Q Y *Q D)) _ (law.times sy b dun _ D m5 h7) λ c m6.
      OnVal-then (o.minus x c) _ (λ x. member x sy (K *Q (Y *Q Y *Q Y *Q YB) -Q A' *Q AB *Q Y *Q D)) _ (law.minus sy x c _ _ m3 m6) λ d m7.
      widened scale o member law sy eps e covers d _ s2 m7 w

  -- S3 = k8 y^2 yb^2 - Ab^2 y dun
  pub s3_member : (k8 yy bb ab y dun : A) (K Y YB AB D s3 : Frac) → member k8 sy K → member yy sy (Y *Q Y) → member bb sy (YB *Q YB) → member ab sy AB
      → member y sy Y → member dun sy D
      → IsWithin eps s3 (K *Q (Y *Q Y *Q YB *Q YB) -Q AB *Q AB *Q Y *Q D)
      → OnVal (s3_row o scale k8 yy bb ab y dun e) (λ r. member r sy s3)
  s3_member k8 yy bb ab y dun K Y YB AB D s3 h1 h2 h3 h4 h5 h6 w =
      OnVal-then (o.times yy bb) _ (λ x. member x sy ((Y *Q Y) *Q (YB *Q YB))) _ (law.times sy yy bb _ _ h2 h3) λ q m1.
      OnVal-then (o.times k8 q) _ (λ x. member x sy (K *Q ((Y *Q Y) *Q (YB *Q YB)))) _ (law.times sy k8 q K _ h1 m1) λ x m2.
      OnVal-then (o.square ab) _ (λ x. member x sy (AB *Q AB)) _ (law.square sy ab AB h4) λ aa m3.
      OnVal-then (o.times aa y) _ (λ x. member x sy (AB *Q AB *Q Y)) _ (law.times sy aa y _ Y m3 h5) λ b m4.
      OnVal-then (o.times b dun) _ (λ x. member x sy (AB *Q AB *Q Y *Q D)) _ (law.times sy b dun _ D m4 h6) λ c m5.
      OnVal-then (o.minus x c) _ (λ x. member x sy (K *Q ((Y *Q Y) *Q (YB *Q YB)) -Q AB *Q AB *Q Y *Q D)) _ (law.minus sy x c _ _ m2 m5) λ d m6.
      widened scale o member law sy eps e covers d _ s3 m6
      (within_right eps s3 _ _ (linear (K ∷ Y ∷ YB ∷ AB ∷ D ∷ []) _ _ (search reads depth 20 fits 4000) no_fact tt) w)

  -- S4 = -H^2 P
  pub s4_member : (h p : A) (H P s4 : Frac) → member h sy H → member p sy P → IsWithin eps s4 (neg_Q (H *Q H *Q P))
      → OnVal (s4_row o scale h p e) (λ r. member r sy s4)
  s4_member h p H P s4 h1 h2 w =
      OnVal-then (whole_row o scale (pos 0)) _ (λ x. member x sy (whole (pos 0))) _ (whole_member scale o member law sy (pos 0)) λ z m1.
      OnVal-then (o.square h) _ (λ x. member x sy (H *Q H)) _ (law.square sy h H h1) λ q m2.
      OnVal-then (o.times q p) _ (λ x. member x sy (H *Q H *Q P)) _ (law.times sy q p _ P m2 h2) λ x m3.
      OnVal-then (o.minus z x) _ (λ x. member x sy (whole (pos 0) -Q H *Q H *Q P)) _ (law.minus sy z x _ _ m1 m3) λ d m4.
      widened scale o member law sy eps e covers d _ s4 m4
      (within_right eps s4 _ _ (linear (H ∷ P ∷ []) _ _ (search reads depth 20) no_fact tt) w)

  -- S5 = k8 y yb^3 - Ab (Ab^2 y dn2 - P yb (H + Ab y))
  pub s5_member : (k8 y yb bb ab dn2 p h : A) (K Y YB AB D P H s5 : Frac) → member k8 sy K → member y sy Y → member yb sy YB → member bb sy (YB *Q YB)
      → member ab sy AB → member dn2 sy D → member p sy P → member h sy H
      → IsWithin eps s5 (K *Q (Y *Q YB *Q YB *Q YB) -Q AB *Q (AB *Q AB *Q Y *Q D -Q P *Q YB *Q (H +Q AB *Q Y)))
      → OnVal (s5_row o scale k8 y yb bb ab dn2 p h e) (λ r. member r sy s5)
  s5_member k8 y yb bb ab dn2 p h K Y YB AB D P H s5 h1 h2 h3 h4 h5 h6 h7 h8 w =
      OnVal-then (o.times y yb) _ (λ x. member x sy (Y *Q YB)) _ (law.times sy y yb Y YB h2 h3) λ q m1.
      OnVal-then (o.times q bb) _ (λ x. member x sy (Y *Q YB *Q (YB *Q YB))) _ (law.times sy q bb _ _ m1 h4) λ q' m2.
      OnVal-then (o.times k8 q') _ (λ x. member x sy (K *Q (Y *Q YB *Q (YB *Q YB)))) _ (law.times sy k8 q' K _ h1 m2) λ x m3.
      OnVal-then (o.square ab) _ (λ x. member x sy (AB *Q AB)) _ (law.square sy ab AB h5) λ aa m4.
      OnVal-then (o.times aa y) _ (λ x. member x sy (AB *Q AB *Q Y)) _ (law.times sy aa y _ Y m4 h2) λ b m5.
      OnVal-then (o.times b dn2) _ (λ x. member x sy (AB *Q AB *Q Y *Q D)) _ (law.times sy b dn2 _ D m5 h6) λ c m6.
      OnVal-then (o.times p yb) _ (λ x. member x sy (P *Q YB)) _ (law.times sy p yb P YB h7 h3) λ f m7.
      OnVal-then (o.times ab y) _ (λ x. member x sy (AB *Q Y)) _ (law.times sy ab y AB Y h5 h2) λ g m8.
      OnVal-then (o.plus h g) _ (λ x. member x sy (H +Q AB *Q Y)) _ (law.plus sy h g H _ h8 m8) λ t m9.
      OnVal-then (o.times f t) _ (λ x. member x sy (P *Q YB *Q (H +Q AB *Q Y))) _ (law.times sy f t _ _ m7 m9) λ u n1.
      OnVal-then (o.minus c u) _ (λ x. member x sy (AB *Q AB *Q Y *Q D -Q P *Q YB *Q (H +Q AB *Q Y))) _ (law.minus sy c u _ _ m6 n1) λ v n2.
      OnVal-then (o.times ab v) _ (λ x. member x sy (AB *Q (AB *Q AB *Q Y *Q D -Q P *Q YB *Q (H +Q AB *Q Y)))) _ (law.times sy ab v AB _ h5 n2) λ z n3.
      OnVal-then (o.minus x z) _ (λ x. member x sy (K *Q (Y *Q YB *Q (YB *Q YB)) -Q AB *Q (AB *Q AB *Q Y *Q D -Q P *Q YB *Q (H +Q AB *Q Y)))) _ (law.minus sy x z _ _ m3 n3) λ d n4.
      widened scale o member law sy eps e covers d _ s5 n4
      (within_right eps s5 _ _ (linear (K ∷ Y ∷ YB ∷ AB ∷ D ∷ P ∷ H ∷ []) _ _ (search reads depth 20 fits 8000) no_fact tt) w)
