-- The preparations of the surfaces from 1 to the image, kept in their order. Cited by the prepared surfaces.
use Rattle.std.proofs.Common.{◌≡◌, ℕ, zero, suc, ◌+◌, ◌-◌, ◌<◌, ◌≤◌, List, [], ◌∷◌, length, get_or, refl, ap, arith}
use Rattle.fixdec.specs.Operations.{Operations}
use Rattle.fixdec.specs.declared.step.Step.{Step}
use Rattle.lensmodel.specs.Rows.Preparation.{Prepared, preparation_rows}
use Rattle.lensmodel.specs.Setup.Values.{image}
use Rattle.lensmodel.specs.declared.setup.Setup.{Setup}
use Rattle.skewtrace.specs.Turns.{units}

-- kept preparations, and for how many more there is room
pub record Faces (A : Type 0) : Type 0 where
  pub list : List (Step (Prepared A))
  pub spare : ℕ

module _ {A : Type 0} (o : Operations A) (scale : ℕ) (s : Setup) where
  -- the preparations of the next surfaces behind surface i
  abbrev pub faces_behind : ℕ → ℕ → List (Step (Prepared A))
  faces_behind zero i = []
  faces_behind (suc left) i = preparation_rows o scale s (units o scale s) i ∷ faces_behind left (suc i)

  -- of all surfaces from 1 to the image
  unfoldable pub all_faces : List (Step (Prepared A))
  all_faces = faces_behind (image s) 0

  -- those from surface j on
  unfoldable pub faces_from : ℕ → List (Step (Prepared A))
  faces_from j = faces_behind (suc (image s) - j) (j - 1)

  pub faces_first : faces_from 1 ≡ all_faces
  unfolding faces_from all_faces
  faces_first = let e : suc (image s) - 1 ≡ image s = omega arith in rw e refl

  faces_suc : (i : ℕ) → suc i ≤ image s → faces_from (suc i) ≡ preparation_rows o scale s (units o scale s) (suc i - 1) ∷ faces_from (suc (suc i))
  unfolding faces_from
  faces_suc i h =
      let a : suc (image s) - suc i ≡ suc (image s - suc i) = omega arith in
      let b : suc i - 1 ≡ i = omega arith in
      let d : suc (image s) - suc (suc i) ≡ image s - suc i = omega arith in
      let f : suc (suc i) - 1 ≡ suc i = omega arith in
      rw (a, b, d, f) refl

  pub faces_next : (j : ℕ) → 1 ≤ j → j ≤ image s → faces_from j ≡ preparation_rows o scale s (units o scale s) (j - 1) ∷ faces_from (suc j)
  faces_next zero l h = absurd (omega arith)
  faces_next (suc i) l h = faces_suc i h

  pub faces_last : (j : ℕ) → j ≡ suc (image s) → faces_from j ≡ []
  unfolding faces_from
  faces_last j h = let e : suc (image s) - j ≡ 0 = omega arith in rw e refl

  length-faces_behind : (left i : ℕ) → length (faces_behind left i) ≡ left
  length-faces_behind zero i = refl
  length-faces_behind (suc left) i = ap suc (length-faces_behind left (suc i))

  pub length-all_faces : length all_faces ≡ image s
  unfolding all_faces
  length-all_faces = length-faces_behind (image s) 0

  behind_at : (left i k : ℕ) (d : Step (Prepared A)) → k < left → get_or (faces_behind left i) k d ≡ preparation_rows o scale s (units o scale s) (i + k)
  behind_at zero i k d h = absurd (omega arith)
  behind_at (suc left) i zero d h = let e : i + 0 ≡ i = omega arith in rw e refl
  behind_at (suc left) i (suc k) d h = let e : i + suc k ≡ suc i + k = omega arith in rw e (behind_at left (suc i) k d (omega arith))

  pub face_at : (k : ℕ) (d : Step (Prepared A)) → k < image s → get_or all_faces k d ≡ preparation_rows o scale s (units o scale s) k
  unfolding all_faces
  face_at k d h = let e : 0 + k ≡ k = omega arith in rw (behind_at (image s) 0 k d h, e) refl
