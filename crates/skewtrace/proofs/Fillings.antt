-- One more preparation behind those that are there.
use Rattle.std.proofs.Common.{◌≡◌, ℕ, suc, ◌-◌, ◌<◌, ◌≤◌, List, [], ◌∷◌, ◌++◌, length, map, get_or, refl, sym, ◌∙◌, ap, append_assoc, append-nil, arith}
use Rattle.std.proofs.lemmas.List.{map-append, get_or-map, length-map}
use Rattle.std.specs.List.{insert}
use Rattle.std.specs.Prelude.{Result, Ok, Err, IsOk, is_ok, if◌then◌else◌}
use Rattle.fixdec.specs.Operations.{Operations}
use Rattle.fixdec.specs.declared.step.Step.{Step}
use Rattle.lensmodel.specs.Rows.Preparation.{Prepared, preparation_rows}
use Rattle.lensmodel.specs.Setup.Values.{image}
use Rattle.lensmodel.specs.declared.setup.Setup.{Setup}
use Rattle.skewtrace.specs.Filled.{all_faces, faces_from, faces_next, faces_last, length-all_faces, face_at}
use Rattle.skewtrace.specs.Readies.{step_of}
use Rattle.skewtrace.specs.Turns.{units}
use Rattle.skewtrace.specs.declared.ready.Ready.{Ready}

pub insert-end : {X : Type 0} (xs : List X) (x : X) → insert xs (length xs) x ≡ xs ++ x ∷ []
insert-end [] x = refl
insert-end (y ∷ xs) x = ap (λ zs. y ∷ zs) (insert-end xs x)

-- what was put in, where it was
pub kept_items : {X R E : Type 0} (r : Result R E) (xs ys : List X) → IsOk r → (if is_ok r then xs else ys) ≡ xs
kept_items (Ok x) xs ys h = refl
kept_items (Err e) xs ys h = cc

module _ {A : Type 0} (o : Operations A) (scale : ℕ) (s : Setup) where
  pub one_more : (xs : List (Ready A)) (f : Ready A) (j : ℕ) → 1 ≤ j → j ≤ image s → map step_of xs ++ faces_from o scale s j ≡ all_faces o scale s
      → step_of f ≡ preparation_rows o scale s (units o scale s) (j - 1) → map step_of (xs ++ f ∷ []) ++ faces_from o scale s (suc j) ≡ all_faces o scale s
  one_more xs f j l h e k =
      rw (map-append step_of xs (f ∷ []), append_assoc (map step_of xs) (map step_of (f ∷ [])) (faces_from o scale s (suc j)), k)
      (rw (faces_next o scale s j l h) at e)

  pub all_there : (xs : List (Ready A)) (j : ℕ) → j ≡ suc (image s) → map step_of xs ++ faces_from o scale s j ≡ all_faces o scale s → map step_of xs ≡ all_faces o scale s
  all_there xs j h e = sym (append-nil (map step_of xs)) ∙ (rw (faces_last o scale s j h) at e)

  -- the kept preparations are as many as the surfaces, each in its place
  pub count_of : (xs : List (Ready A)) → map step_of xs ≡ all_faces o scale s → length xs ≡ image s
  count_of xs e = sym (length-map xs step_of) ∙ ap length e ∙ length-all_faces o scale s

  pub kept_at : (xs : List (Ready A)) (k : ℕ) (x : Ready A) → map step_of xs ≡ all_faces o scale s → k < image s → x ≡ get_or xs k x
      → step_of x ≡ preparation_rows o scale s (units o scale s) k
  kept_at xs k x e l h =
      let n = count_of xs e in
      let there : get_or (map step_of xs) k (step_of x) ≡ step_of (get_or xs k x) = get_or-map step_of xs k x (step_of x) (omega arith) in
      ap step_of h ∙ sym there ∙ ap (λ (fs : List (Step (Prepared A))). get_or fs k (step_of x)) e ∙ face_at o scale s k (step_of x) l
