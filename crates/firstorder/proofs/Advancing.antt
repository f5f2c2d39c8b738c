-- The rows of a paraxial ray at a surface hold what its equations give.
use Rattle.std.proofs.Common.{◌≡◌, ℕ, zero, suc, ◌<◌, ◌⊎◌, inl, inr, [], ◌∷◌, Bool, true, false, refl, arith}
use Rattle.std.specs.Prelude.{ℤ, pos, negsuc, neg_ℤ, if◌then◌else◌}
use Rattle.fixdec.specs.Algebra.Linear.{linear, no_fact, reads}
use Rattle.fixdec.specs.Frac.{Frac, ◌≈◌, ◌-Q◌, ◌*Q◌, whole}
use Rattle.fixdec.specs.Member.{Symbols}
use Rattle.fixdec.specs.Operations.{Operations, IsLawful}
use Rattle.fixdec.specs.Steps.{OnVal, OnVal-then}
use Rattle.firstorder.specs.Advances.{Advances, HoldsAdvance}
use Rattle.firstorder.specs.ParaxialLaws.{vertex_curvature_member, slope_behind_member, next_height_member}
use Rattle.lensmodel.specs.Paraxial.Trace.{AreIndices, signed_index, vertex_curvature}
use Rattle.lensmodel.specs.Paraxial.TraceRows.{vertex_curvature_row, signed_row, signed_index_row, advanced_slope, advance_rows}
use Rattle.lensmodel.specs.Rows.Constants.{whole_row}
use Rattle.lensmodel.specs.Rows.Laws.{Covers, whole_member, on_same}
use Rattle.lensmodel.specs.Rows.Preparation.{medium_row}
use Rattle.lensmodel.specs.Setup.Media.{medium_at}
use Rattle.lensmodel.specs.Setup.Values.{surface_at, image, owner, reflects, travel, eps}
use Rattle.lensmodel.specs.Setup.WellFormed.{IsWellFormed}
use Rattle.lensmodel.specs.declared.setup.Setup.{Setup}
use Rattle.sagform.specs.PreparedValues.{medium_row-member}
use Rattle.sagform.specs.Setups.{well_known}

-- the sign of travel is 1 or -1
abbrev IsSign : ℤ → Type 0
IsSign z = (z ≡ pos 1) ⊎ (z ≡ negsuc 0)

turned : (z : ℤ) → IsSign z → IsSign (neg_ℤ z)
turned z (inl h) = inr (rw h refl)
turned z (inr h) = inl (rw h refl)

turned_if : (b : Bool) (z : ℤ) → IsSign z → IsSign (if b then neg_ℤ z else z)
turned_if true z h = turned z h
turned_if false z h = h

travel_sign : (s : Setup) (j : ℕ) → IsSign (travel s j)
travel_sign s zero = inl refl
travel_sign s (suc j) = turned_if (reflects s (suc j)) (travel s j) (travel_sign s j)

one_times : (n : Frac) → n ≈ whole (pos 1) *Q n
one_times n = linear (n ∷ []) _ _ (search reads depth 12) no_fact tt

minus_times : (n : Frac) → whole (pos 0) -Q n ≈ whole (negsuc 0) *Q n
minus_times n = linear (n ∷ []) _ _ (search reads depth 12) no_fact tt

module _ {A : Type 0} (scale : ℕ) (o : Operations A) (member : A → Symbols → Frac → Type 0) (law : IsLawful scale o member)
    (s : Setup) (well : IsWellFormed s) (e : ℤ) (covers : Covers scale (eps s) e) (sy : Symbols) (index : ℕ → Frac)
    (indices : AreIndices s index) where
  pub cv-member : (j : ℕ) → OnVal (vertex_curvature_row o scale (surface_at s j)) (λ a. member a sy (vertex_curvature s j))
  cv-member j = vertex_curvature_member scale o member law sy (eps s) e covers (surface_at s j)

  signed-member : (z : ℤ) → IsSign z → (a : A) (n : Frac) → member a sy n → OnVal (signed_row o scale z a) (λ r. member r sy (whole z *Q n))
  signed-member z (inl h) a n m = rw h (law.same sy a _ _ (one_times n) m)
  signed-member z (inr h) a n m =
      rw h (OnVal-then (whole_row o scale (pos 0)) _ (λ x. member x sy (whole (pos 0))) _ (whole_member scale o member law sy (pos 0)) λ x hx.
      on_same scale o member law sy (o.minus x a) _ _ (minus_times n) (law.minus sy x a (whole (pos 0)) n hx m))

  pub index-member : (j : ℕ) → j < image s → OnVal (signed_index_row o scale s e j) (λ a. member a sy (signed_index s index j))
  index-member j l =
      let n = index (owner s j) in
      OnVal-then (medium_row o scale (medium_at s j) s.wave e) _ (λ a. member a sy n) _
      (medium_row-member scale o member law sy (medium_at s j) s.wave e (eps s) n (well_known s j well l) covers (indices j l)) λ a ha.
      signed-member (travel s j) (travel_sign s j) a n ha

  slope-member : (j : ℕ) → suc j < image s → (y u : A) (Y U B N : Frac) → member y sy Y → member u sy U → Advances s index j Y U B N
      → OnVal (advanced_slope o scale s e j y u) (λ a. member a sy B)
  slope-member j l y u Y U B N hy hu h =
      OnVal-then (vertex_curvature_row o scale (surface_at s (suc j))) _ (λ a. member a sy (vertex_curvature s (suc j))) _ (cv-member (suc j)) λ cv hc.
      OnVal-then (signed_index_row o scale s e j) _ (λ a. member a sy (signed_index s index j)) _ (index-member j (omega arith)) λ n hn.
      OnVal-then (signed_index_row o scale s e (suc j)) _ (λ a. member a sy (signed_index s index (suc j))) _ (index-member (suc j) l) λ n2 hn2.
      slope_behind_member scale o member law sy (eps s) e covers y u cv n n2 Y U (vertex_curvature s (suc j)) (signed_index s index j) (signed_index s index (suc j)) B
      hy hu hc hn hn2 h.refraction

  -- the rows at surface j + 1
  pub advance-member : (j : ℕ) → suc j < image s → (y u : A) (Y U B N : Frac) → member y sy Y → member u sy U → Advances s index j Y U B N
      → HoldsAdvance member sy s index j B N (advance_rows o scale s e j y u)
  unfolding advance_rows
  advance-member j l y u Y U B N hy hu h =
      let slope = slope-member j l y u Y U B N hy hu h in
      record {
        cv = cv-member (suc j);
        n = index-member j (omega arith);
        n2 = index-member (suc j) l;
        u = slope;
        next =
            OnVal-then (advanced_slope o scale s e j y u) _ (λ a. member a sy B) _ slope λ b hb.
            next_height_member scale o member law sy (eps s) e covers (surface_at s (suc j)) y b Y B N hy hb h.transfer;
      }
