-- The sign of travel: 1 or -1, and the rows that it turns.
use Rattle.std.proofs.Common.{◌≡◌, ℕ, zero, suc, Bool, true, false, [], ◌∷◌, ◌⊎◌, inl, inr, refl}
use Rattle.std.specs.Prelude.{ℤ, pos, negsuc, neg_ℤ, if◌then◌else◌}
use Rattle.fixdec.specs.Frac.{Frac, ◌+Q◌, ◌-Q◌, ◌*Q◌, whole}
use Rattle.fixdec.specs.Algebra.Linear.{linear, no_fact, reads}
use Rattle.fixdec.specs.Member.{Symbols}
use Rattle.fixdec.specs.Operations.{Operations, IsLawful}
use Rattle.fixdec.specs.Steps.{OnVal}
use Rattle.lensmodel.specs.Rows.Bending.{with_sign, against_sign, turned_row}
use Rattle.lensmodel.specs.Rows.Laws.{on_same}
use Rattle.lensmodel.specs.Setup.Values.{reflects, travel}
use Rattle.lensmodel.specs.declared.setup.Setup.{Setup}

-- along the axis, or against it
abbrev pub IsSign : ℤ → Type 0
IsSign z = (z ≡ pos 1) ⊎ (z ≡ negsuc 0)

turned_if : (b : Bool) (z : ℤ) → IsSign z → IsSign (if b then neg_ℤ z else z)
turned_if false z h = h
turned_if true z (inl e) = rw e (inr refl)
turned_if true z (inr e) = rw e (inl refl)

pub travel_sign : (s : Setup) (j : ℕ) → IsSign (travel s j)
travel_sign s zero = inl refl
travel_sign s (suc j) = turned_if (reflects s (suc j)) (travel s j) (travel_sign s j)

module _ {A : Type 0} (scale : ℕ) (o : Operations A) (member : A → Symbols → Frac → Type 0) (law : IsLawful scale o member) (sy : Symbols)
    (a b : A) (u v : Frac) (ha : member a sy u) (hb : member b sy v) where
  pub with_sign-member : (z : ℤ) → IsSign z → OnVal (with_sign o z a b) (λ r. member r sy (u +Q whole z *Q v))
  with_sign-member z (inl e) =
      rw e (on_same scale o member law sy (o.plus a b) (u +Q v) (u +Q whole (pos 1) *Q v)
      (linear (u ∷ v ∷ []) _ _ (search reads depth 16) no_fact tt) (law.plus sy a b u v ha hb))
  with_sign-member z (inr e) =
      rw e (on_same scale o member law sy (o.minus a b) (u -Q v) (u +Q whole (negsuc 0) *Q v)
      (linear (u ∷ v ∷ []) _ _ (search reads depth 16) no_fact tt) (law.minus sy a b u v ha hb))

  pub against_sign-member : (z : ℤ) → IsSign z → OnVal (against_sign o z a b) (λ r. member r sy (u -Q whole z *Q v))
  against_sign-member z (inl e) =
      rw e (on_same scale o member law sy (o.minus a b) (u -Q v) (u -Q whole (pos 1) *Q v)
      (linear (u ∷ v ∷ []) _ _ (search reads depth 16) no_fact tt) (law.minus sy a b u v ha hb))
  against_sign-member z (inr e) =
      rw e (on_same scale o member law sy (o.plus a b) (u +Q v) (u -Q whole (negsuc 0) *Q v)
      (linear (u ∷ v ∷ []) _ _ (search reads depth 16) no_fact tt) (law.plus sy a b u v ha hb))

  pub turned_row-member : (z : ℤ) → IsSign z → OnVal (turned_row o z a b) (λ r. member r sy (whole z *Q (u -Q v)))
  turned_row-member z (inl e) =
      rw e (on_same scale o member law sy (o.minus a b) (u -Q v) (whole (pos 1) *Q (u -Q v))
      (linear (u ∷ v ∷ []) _ _ (search reads depth 16) no_fact tt) (law.minus sy a b u v ha hb))
  turned_row-member z (inr e) =
      rw e (on_same scale o member law sy (o.minus b a) (v -Q u) (whole (negsuc 0) *Q (u -Q v))
      (linear (u ∷ v ∷ []) _ _ (search reads depth 16) no_fact tt) (law.minus sy b a v u hb ha))
