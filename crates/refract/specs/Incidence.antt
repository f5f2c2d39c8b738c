-- The normal and the cosine of incidence are members of what their rows give.
use Rattle.std.proofs.Common.{ℕ, suc, [], ◌∷◌, sym, subst}
use Rattle.std.specs.Prelude.{ℤ, pos}
use Rattle.fixdec.specs.Algebra.Linear.{linear, no_fact, reads}
use Rattle.fixdec.specs.Algebra.OrderLaws.{le_of_lt}
use Rattle.fixdec.specs.Frac.{Frac, ◌≤Q◌, ◌+Q◌, ◌-Q◌, ◌*Q◌, whole}
use Rattle.fixdec.specs.Member.{Symbols}
use Rattle.fixdec.specs.Operations.{Operations, IsLawful}
use Rattle.fixdec.specs.Steps.{OnVal, OnVal-then, ◌>>=◌}
use Rattle.fixdec.specs.declared.step.Step.{Step}
use Rattle.lensmodel.specs.Claims.Enclosure.{CoversResidual, HoldsPrepared, HoldsRay, HoldsMet}
use Rattle.lensmodel.specs.Equations.Bending.{IsNormal}
use Rattle.lensmodel.specs.Equations.Chain.{Chain}
use Rattle.lensmodel.specs.Equations.Crossing.{Transfers}
use Rattle.lensmodel.specs.Equations.Residual.{IsWithin}
use Rattle.lensmodel.specs.Rows.Bending.{Normal, turned_row, along_normal_row, cosine_row, length_row, normal_rows, incidence_rows}
use Rattle.lensmodel.specs.Rows.Constants.{whole_row}
use Rattle.lensmodel.specs.Rows.Crossing.{Met}
use Rattle.lensmodel.specs.Rows.Laws.{Covers, whole_member, widened}
use Rattle.lensmodel.specs.Rows.Preparation.{Prepared}
use Rattle.lensmodel.specs.Rows.Spans.{side_of}
use Rattle.lensmodel.specs.Rows.Start.{Incoming}
use Rattle.lensmodel.specs.Setup.Values.{eps}
use Rattle.lensmodel.specs.declared.setup.Setup.{Setup}
use Rattle.sagform.specs.SagLaws.{normal_rows-encloses}
use Rattle.refract.specs.Clipping.{IfVal, OnVal-if, OnVal-along, AreInCap, clip_side-member, clip_positive-member}
use Rattle.refract.specs.Signs.{IsSign, travel_sign, turned_row-member}

-- C before it is clipped: wd(N - along)/g, the difference turned where the sign is -1
abbrev pub unclipped_row : {A : Type 0} → Operations A → ℤ → A → A → A → ℤ → Step A
unclipped_row o sign n along g e = turned_row o sign n along >>= λ d. o.widen d e >>= λ w. o.over w g

-- the rows of the incidence but for the last clip
abbrev pub before_clip_rows : {A : Type 0} → Operations A → ℕ → Prepared A → Incoming A → Met A → ℤ → Step A
before_clip_rows o scale face ray hit e =
    o.clip ray.n (side_of face.sign) >>= λ n. normal_rows o scale face hit e >>= λ slope. length_row o scale slope hit.rho e
    >>= λ g. along_normal_row o slope ray hit >>= λ along. unclipped_row o face.sign n along g e

-- what is clipped stands within the cap
pub record ClipsInCap {A : Type 0} (o : Operations A) (scale : ℕ) (face : Prepared A) (ray : Incoming A) (hit : Met A) (e : ℤ) : Type 0 where
  pub n : AreInCap (o.hull ray.n)
  pub cos : IfVal (before_clip_rows o scale face ray hit e) (λ c. AreInCap (o.hull c))

-- the rows of the normal hold its slope, its length, the cosine of incidence and N
pub record HoldsNormal {A : Type 0} (member : A → Symbols → Frac → Type 0) (sy : Symbols) (E G C N : Frac) (a : Normal A) : Type 0 where
  pub e : member a.e sy E
  pub g : member a.g sy G
  pub cos : member a.cos sy C
  pub n : member a.n sy N

module _ {A : Type 0} (scale : ℕ) (o : Operations A) (member : A → Symbols → Frac → Type 0) (law : IsLawful scale o member)
    (sy : Symbols) (eps : Frac) (e : ℤ) (covers : Covers scale eps e) where
  pub length_row-member : (slope rho : A) (E g q : Frac) → member slope sy E → member rho sy q → whole (pos 0) ≤Q g
      → IsWithin eps (g *Q g) (whole (pos 1) +Q E *Q E *Q q) → OnVal (length_row o scale slope rho e) (λ r. member r sy g)
  length_row-member slope rho E g q hs hr n h =
      OnVal-then (whole_row o scale (pos 1)) _ (λ x. member x sy (whole (pos 1))) _ (whole_member scale o member law sy (pos 1)) λ one h1.
      OnVal-then (o.square slope) _ (λ x. member x sy (E *Q E)) _ (law.square sy slope E hs) λ s hss.
      OnVal-then (o.times s rho) _ (λ x. member x sy (E *Q E *Q q)) _ (law.times sy s rho (E *Q E) q hss hr) λ t ht.
      OnVal-then (o.plus one t) _ (λ x. member x sy (whole (pos 1) +Q E *Q E *Q q)) _ (law.plus sy one t _ _ h1 ht) λ u hu.
      OnVal-then (o.widen u e) _ (λ x. member x sy (g *Q g)) _ (widened scale o member law sy eps e covers u _ (g *Q g) hu h) λ w hw.
      law.root sy w g n hw

  pub along_normal_row-member : (slope : A) (ray : Incoming A) (hit : Met A) (E x y l m : Frac) → member slope sy E → member hit.x sy x → member hit.y sy y
      → member ray.l sy l → member ray.m sy m → OnVal (along_normal_row o slope ray hit) (λ r. member r sy (E *Q (x *Q l +Q y *Q m)))
  along_normal_row-member slope ray hit E x y l m hs hx hy hl hm =
      OnVal-then (o.times hit.x ray.l) _ (λ r. member r sy (x *Q l)) _ (law.times sy hit.x ray.l x l hx hl) λ a ha.
      OnVal-then (o.times hit.y ray.m) _ (λ r. member r sy (y *Q m)) _ (law.times sy hit.y ray.m y m hy hm) λ b hb.
      OnVal-then (o.plus a b) _ (λ r. member r sy (x *Q l +Q y *Q m)) _ (law.plus sy a b _ _ ha hb) λ c hc.
      law.times sy slope c E _ hs hc

  pub cosine_row-member : (z : ℤ) → IsSign z → (n along g : A) (N D G C : Frac) → member n sy N → member along sy D → member g sy G
      → whole (pos 0) ≤Q C → IsWithin eps (G *Q C) (whole z *Q (N -Q D)) → IfVal (unclipped_row o z n along g e) (λ c. AreInCap (o.hull c))
      → OnVal (cosine_row o z n along g e) (λ r. member r sy C)
  cosine_row-member z sign n along g N D G C hn hd hg nn h k =
      OnVal-along (turned_row o z n along) _ _ (λ r. member r sy (whole z *Q (N -Q D))) (λ c. AreInCap (o.hull c)) _
      (turned_row-member scale o member law sy n along N D hn hd z sign) k λ d hdiff k1.
      OnVal-along (o.widen d e) _ _ (λ r. member r sy (G *Q C)) (λ c. AreInCap (o.hull c)) _
      (widened scale o member law sy eps e covers d _ (G *Q C) hdiff h) k1 λ w hw k2.
      OnVal-if (o.over w g) _ (λ r. member r sy C) (λ c. AreInCap (o.hull c)) _
      (law.over sy w g (G *Q C) G C hw hg (linear (G ∷ C ∷ []) _ _ (search reads depth 16) no_fact tt)) k2 λ c hc k3.
      clip_positive-member scale o member law sy c C k3 hc nn

module _ {A : Type 0} (scale : ℕ) (o : Operations A) (member : A → Symbols → Frac → Type 0) (law : IsLawful scale o member)
    (s : Setup) (c : Chain) (j : ℕ) (e : ℤ) (covers : CoversResidual scale s e) (face : Prepared A) (ray : Incoming A) (hit : Met A)
    (holds : HoldsPrepared member s c j face) (hr : HoldsRay member c j ray) (hm : HoldsMet member c j hit) where
  -- the sign of the prepared surface is that of the chain's travel
  pub face_sign : IsSign face.sign
  face_sign = subst (λ (z : ℤ). IsSign z) (sym holds.sign) (travel_sign s j)

  pub incidence_rows-member : ClipsInCap o scale face ray hit e → Transfers s c j → (E G C : Frac) → IsNormal s c j E G C
      → OnVal (incidence_rows o scale face ray hit e) (λ a. HoldsNormal member c.symbols E G C (c.n j) a)
  unfolding incidence_rows
  incidence_rows-member k transfer E G C normal =
      let sy = c.symbols in
      let D = E *Q (c.x (suc j) *Q c.l j +Q c.y (suc j) *Q c.m j) in
      let onwards : whole (pos 0) ≤Q whole face.sign *Q c.n j =
      subst (λ (z : ℤ). whole (pos 0) ≤Q whole z *Q c.n j) (sym holds.sign) (le_of_lt transfer.onwards) in
      let cosine : IsWithin (eps s) (G *Q C) (whole face.sign *Q (c.n j -Q D)) =
      subst (λ (z : ℤ). IsWithin (eps s) (G *Q C) (whole z *Q (c.n j -Q D))) (sym holds.sign) normal.cosine in
      OnVal-along (o.clip ray.n (side_of face.sign)) _ _ (λ r. member r sy (c.n j)) (λ c. AreInCap (o.hull c)) _
      (clip_side-member scale o member law sy ray.n (c.n j) face.sign face_sign k.n hr.n onwards) k.cos λ n hn k1.
      OnVal-along (normal_rows o scale face hit e) _ _ (λ r. member r sy E) (λ c. AreInCap (o.hull c)) _
      (normal_rows-encloses scale o member law face hit e s c j holds covers hm E normal.slope) k1 λ slope hs k2.
      OnVal-along (length_row o scale slope hit.rho e) _ _ (λ r. member r sy G) (λ c. AreInCap (o.hull c)) _
      (length_row-member scale o member law sy (eps s) e covers slope hit.rho E G (c.rho (suc j)) hs hm.rho normal.size_sign normal.size) k2 λ g hg k3.
      OnVal-along (along_normal_row o slope ray hit) _ _ (λ r. member r sy D) (λ c. AreInCap (o.hull c)) _
      (along_normal_row-member scale o member law sy (eps s) e covers slope ray hit E _ _ _ _ hs hm.x hm.y hr.l hr.m) k3 λ along ha k4.
      OnVal-then (cosine_row o face.sign n along g e) _ (λ r. member r sy C) _
      (cosine_row-member scale o member law sy (eps s) e covers face.sign face_sign n along g (c.n j) D G C hn ha hg normal.cosine_sign cosine k4) λ cos hc.
      record { e = hs; g = hg; cos = hc; n = hn }
