-- Fractions that meet the equations of the Seidel sums are held by what the rows give, where the rows that they need hold
-- theirs. Cited by proofs.
use Rattle.std.specs.Prelude.{ℕ, ℤ, pos, [], ◌∷◌}
use Rattle.fixdec.specs.Decimal.{value}
use Rattle.fixdec.specs.Frac.{Frac, ◌≈◌, ◌+Q◌, ◌*Q◌, ◌-Q◌, neg_Q, whole}
use Rattle.fixdec.specs.Member.{Symbols}
use Rattle.fixdec.specs.Operations.{Operations, IsLawful}
use Rattle.fixdec.specs.Steps.{◌>>=◌, OnVal, OnVal-then}
use Rattle.fixdec.specs.declared.step.Step.{Step}
use Rattle.lensmodel.specs.Equations.Residual.{IsWithin}
use Rattle.lensmodel.specs.Paraxial.Losses.{Worked, to_step}
use Rattle.lensmodel.specs.Paraxial.Seidel.{IsInverse, cube}
use Rattle.seidel.specs.SeidelLaws.{invariant_member, lagrange_member, petzval_member, slope_change_member, square_change_member, asphericity_member}
use Rattle.seidel.specs.SumLaws.{s1_member, s2_member, s3_member, s4_member, s5_member}
use Rattle.lensmodel.specs.Paraxial.Trace.{even_coefficient}
use Rattle.lensmodel.specs.Rows.Laws.{Covers}
use Rattle.lensmodel.specs.declared.surface.Surface.{Surface}
use Rattle.firstorder.specs.Tracks.{OnDone}
use Rattle.seidel.specs.Held.{to_step-holds, row-holds}
use Rattle.seidel.specs.Surfaces.{invariant_of, lagrange_of, petzval_of, slope_change_of, square_change_of, asphericity_of, square_of, s1_of, s2_of, s3_of, s4_of, s5_of}

module _ {A : Type 0} (scale : ℕ) (o : Operations A) (member : A → Symbols → Frac → Type 0) (law : IsLawful scale o member) (sy : Symbols) where
  -- a row that isn't lost holds a fraction
  abbrev Has : Worked A → Frac → Type 0
  Has w f = OnDone w (λ x. member x sy f)

  -- a value that is needed
  given : {B : Type 0} (w : Worked A) (f : Frac) (next : A → Step B) (P : B → Type 0) → Has w f → ((x : A) → member x sy f → OnVal (next x) P) → OnVal (to_step w >>= next) P
  given w f next P h k = OnVal-then (to_step w) next (λ x. member x sy f) P (to_step-holds w (λ x. member x sy f) h) k

  pub invariant-holds : (k : ℕ) (n y cv u : Worked A) (N Y CV U a : Frac) → Has n N → Has y Y → Has cv CV → Has u U
      → a ≈ N *Q (Y *Q CV +Q U)
      → Has (invariant_of o scale k n y cv u) a
  invariant-holds k n y cv u N Y CV U a h1 h2 h3 h4 e =
      row-holds k (n ∷ y ∷ cv ∷ u ∷ []) _ (λ x. member x sy a) (
      given n N _ _ h1 λ n' k1. given y Y _ _ h2 λ y' k2. given cv CV _ _ h3 λ cv' k3. given u U _ _ h4 λ u' k4.
      invariant_member scale o member law sy n' y' cv' u' N Y CV U a k1 k2 k3 k4 e)

  pub lagrange-holds : (k : ℕ) (ab y a yb : Worked A) (AB Y A' YB h : Frac) → Has ab AB → Has y Y → Has a A' → Has yb YB
      → h ≈ AB *Q Y -Q A' *Q YB
      → Has (lagrange_of o scale k ab y a yb) h
  lagrange-holds k ab y a yb AB Y A' YB h h1 h2 h3 h4 e =
      row-holds k (ab ∷ y ∷ a ∷ yb ∷ []) _ (λ x. member x sy h) (
      given ab AB _ _ h1 λ ab' k1. given y Y _ _ h2 λ y' k2. given a A' _ _ h3 λ a' k3. given yb YB _ _ h4 λ yb' k4.
      lagrange_member scale o member law sy ab' y' a' yb' AB Y A' YB h k1 k2 k3 k4 e)

  pub petzval-holds : (k : ℕ) (cv n n2 : Worked A) (CV N N' r r' p : Frac) → Has cv CV → Has n N → Has n2 N'
      → IsInverse N r → IsInverse N' r' → p ≈ CV *Q (r' -Q r)
      → Has (petzval_of o scale k cv n n2) p
  petzval-holds k cv n n2 CV N N' r r' p h1 h2 h3 i i' e =
      row-holds k (cv ∷ n ∷ n2 ∷ []) _ (λ x. member x sy p) (
      given cv CV _ _ h1 λ cv' k1. given n N _ _ h2 λ n' k2. given n2 N' _ _ h3 λ n2' k3.
      petzval_member scale o member law sy cv' n' n2' CV N N' r r' p k1 k2 k3 i i' e)

  pub slope_change-holds : (k : ℕ) (behind n2 u n : Worked A) (U' N' U N r r' dun : Frac) → Has behind U' → Has n2 N' → Has u U → Has n N
      → IsInverse N r → IsInverse N' r' → dun ≈ U' *Q r' -Q U *Q r
      → Has (slope_change_of o scale k behind n2 u n) dun
  slope_change-holds k behind n2 u n U' N' U N r r' dun h1 h2 h3 h4 i i' e =
      row-holds k (behind ∷ n2 ∷ u ∷ n ∷ []) _ (λ x. member x sy dun) (
      given behind U' _ _ h1 λ behind' k1. given n2 N' _ _ h2 λ n2' k2. given u U _ _ h3 λ u' k3. given n N _ _ h4 λ n' k4.
      slope_change_member scale o member law sy behind' n2' u' n' U' N' U N r r' dun k1 k2 k3 k4 i i' e)

  pub square_change-holds : (k : ℕ) (n n2 : Worked A) (N N' r r' dn2 : Frac) → Has n N → Has n2 N'
      → IsInverse N r → IsInverse N' r' → dn2 ≈ r' *Q r' -Q r *Q r
      → Has (square_change_of o scale k n n2) dn2
  square_change-holds k n n2 N N' r r' dn2 h1 h2 i i' e =
      row-holds k (n ∷ n2 ∷ []) _ (λ x. member x sy dn2) (
      given n N _ _ h1 λ n' k1. given n2 N' _ _ h2 λ n2' k2.
      square_change_member scale o member law sy n' n2' N N' r r' dn2 k1 k2 i i' e)

  pub asphericity-holds : (k : ℕ) (f : Surface) (cv n n2 : Worked A) (CV N N' k8 : Frac) → Has cv CV → Has n N → Has n2 N'
      → k8 ≈ ((whole (pos 1) +Q value f.conic) *Q cube (value f.curv) +Q whole (pos 8) *Q value (even_coefficient f.kind f.a2) -Q cube CV) *Q (N' -Q N)
      → Has (asphericity_of o scale k f cv n n2) k8
  asphericity-holds k f cv n n2 CV N N' k8 h1 h2 h3 e =
      row-holds k (cv ∷ n ∷ n2 ∷ []) _ (λ x. member x sy k8) (
      given cv CV _ _ h1 λ cv' k1. given n N _ _ h2 λ n' k2. given n2 N' _ _ h3 λ n2' k3.
      asphericity_member scale o member law sy f cv' n' n2' CV N N' k8 k1 k2 k3 e)

  pub square-holds : (k : ℕ) (y : Worked A) (Y : Frac) → Has y Y → Has (square_of o scale k y) (Y *Q Y)
  square-holds k y Y h = row-holds k (y ∷ []) _ (λ x. member x sy (Y *Q Y)) (given y Y _ _ h λ y' k1. law.square sy y' Y k1)

  module _ (eps : Frac) (e : ℤ) (covers : Covers scale eps e) where
    pub s1-holds : (k : ℕ) (k8 yy a y dun : Worked A) (K Y A' D s1 : Frac) → Has k8 K → Has yy (Y *Q Y) → Has a A' → Has y Y → Has dun D
        → IsWithin eps s1 (K *Q (Y *Q Y *Q Y *Q Y) -Q A' *Q A' *Q Y *Q D)
        → Has (s1_of o scale k k8 yy a y dun e) s1
    s1-holds k k8 yy a y dun K Y A' D s1 h1 h2 h3 h4 h5 w =
        row-holds k (k8 ∷ yy ∷ a ∷ y ∷ dun ∷ []) _ (λ x. member x sy s1) (
        given k8 K _ _ h1 λ k8' k1. given yy (Y *Q Y) _ _ h2 λ yy' k2. given a A' _ _ h3 λ a' k3. given y Y _ _ h4 λ y' k4. given dun D _ _ h5 λ dun' k5.
        s1_member scale o member law sy eps e covers k8' yy' a' y' dun' K Y A' D s1 k1 k2 k3 k4 k5 w)

    pub s2-holds : (k : ℕ) (k8 yy y yb a ab dun : Worked A) (K Y YB A' AB D s2 : Frac) → Has k8 K → Has yy (Y *Q Y) → Has y Y → Has yb YB
        → Has a A' → Has ab AB → Has dun D
        → IsWithin eps s2 (K *Q (Y *Q Y *Q Y *Q YB) -Q A' *Q AB *Q Y *Q D)
        → Has (s2_of o scale k k8 yy y yb a ab dun e) s2
    s2-holds k k8 yy y yb a ab dun K Y YB A' AB D s2 h1 h2 h3 h4 h5 h6 h7 w =
        row-holds k (k8 ∷ yy ∷ y ∷ yb ∷ a ∷ ab ∷ dun ∷ []) _ (λ x. member x sy s2) (
        given k8 K _ _ h1 λ k8' k1. given yy (Y *Q Y) _ _ h2 λ yy' k2. given y Y _ _ h3 λ y' k3. given yb YB _ _ h4 λ yb' k4.
        given a A' _ _ h5 λ a' k5. given ab AB _ _ h6 λ ab' k6. given dun D _ _ h7 λ dun' k7.
        s2_member scale o member law sy eps e covers k8' yy' y' yb' a' ab' dun' K Y YB A' AB D s2 k1 k2 k3 k4 k5 k6 k7 w)

    pub s3-holds : (k : ℕ) (k8 yy bb ab y dun : Worked A) (K Y YB AB D s3 : Frac) → Has k8 K → Has yy (Y *Q Y) → Has bb (YB *Q YB) → Has ab AB
        → Has y Y → Has dun D
        → IsWithin eps s3 (K *Q (Y *Q Y *Q YB *Q YB) -Q AB *Q AB *Q Y *Q D)
        → Has (s3_of o scale k k8 yy bb ab y dun e) s3
    s3-holds k k8 yy bb ab y dun K Y YB AB D s3 h1 h2 h3 h4 h5 h6 w =
        row-holds k (k8 ∷ yy ∷ bb ∷ ab ∷ y ∷ dun ∷ []) _ (λ x. member x sy s3) (
        given k8 K _ _ h1 λ k8' k1. given yy (Y *Q Y) _ _ h2 λ yy' k2. given bb (YB *Q YB) _ _ h3 λ bb' k3.
        given ab AB _ _ h4 λ ab' k4. given y Y _ _ h5 λ y' k5. given dun D _ _ h6 λ dun' k6.
        s3_member scale o member law sy eps e covers k8' yy' bb' ab' y' dun' K Y YB AB D s3 k1 k2 k3 k4 k5 k6 w)

    pub s4-holds : (k : ℕ) (h p : Worked A) (H P s4 : Frac) → Has h H → Has p P → IsWithin eps s4 (neg_Q (H *Q H *Q P))
        → Has (s4_of o scale k h p e) s4
    s4-holds k h p H P s4 h1 h2 w =
        row-holds k (h ∷ p ∷ []) _ (λ x. member x sy s4) (
        given h H _ _ h1 λ h' k1. given p P _ _ h2 λ p' k2. s4_member scale o member law sy eps e covers h' p' H P s4 k1 k2 w)

    pub s5-holds : (k : ℕ) (k8 y yb bb ab dn2 p h : Worked A) (K Y YB AB D P H s5 : Frac) → Has k8 K → Has y Y → Has yb YB → Has bb (YB *Q YB)
        → Has ab AB → Has dn2 D → Has p P → Has h H
        → IsWithin eps s5 (K *Q (Y *Q YB *Q YB *Q YB) -Q AB *Q (AB *Q AB *Q Y *Q D -Q P *Q YB *Q (H +Q AB *Q Y)))
        → Has (s5_of o scale k k8 y yb bb ab dn2 p h e) s5
    s5-holds k k8 y yb bb ab dn2 p h K Y YB AB D P H s5 h1 h2 h3 h4 h5 h6 h7 h8 w =
        row-holds k (k8 ∷ y ∷ yb ∷ bb ∷ ab ∷ dn2 ∷ p ∷ h ∷ []) _ (λ x. member x sy s5) (
        given k8 K _ _ h1 λ k8' k1. given y Y _ _ h2 λ y' k2. given yb YB _ _ h3 λ yb' k3. given bb (YB *Q YB) _ _ h4 λ bb' k4.
        given ab AB _ _ h5 λ ab' k5. given dn2 D _ _ h6 λ dn2' k6. given p P _ _ h7 λ p' k7. given h H _ _ h8 λ h' m8.
        s5_member scale o member law sy eps e covers k8' y' yb' bb' ab' dn2' p' h' K Y YB AB D P H s5 k1 k2 k3 k4 k5 k6 k7 m8 w)
