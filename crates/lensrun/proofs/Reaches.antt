-- What every row says of its ray: at which scale, and where its word is passes, that it came to the image.
use Rattle.std.proofs.Common.{◌≡◌, ℕ, zero, suc, ◌+◌, ◌≤◌, Bool, true, false, List, [], ◌∷◌, length, refl, sym, ap, subst, cond, arith}
use Rattle.std.proofs.lemmas.Bool.Decides.{nat_tests}
use Rattle.std.specs.Prelude.{ℤ, IsTrue, Option, Some, None, nat_eq, not}
use Rattle.fixdec.specs.Form.{linear_operations}
use Rattle.fixdec.specs.IntervalOperations.{operations}
use Rattle.fixdec.specs.Operations.{Operations}
use Rattle.fixdec.specs.declared.step.Step.{Step}
use Rattle.fixdec.specs.declared.step.Step.TheVariants.{Val, Empty, Lost}
use Rattle.lensmodel.specs.Rows.Bending.{Direction}
use Rattle.lensmodel.specs.Rows.Constants.{residual_units}
use Rattle.lensmodel.specs.Rows.Crossing.{Met}
use Rattle.lensmodel.specs.Rows.Hit.{hit_rows}
use Rattle.lensmodel.specs.Rows.Outcome.{Passed, Walked, Outcome, outcome_at, row_of, walked, walk, at_prepared, at_hit, at_left, started, departure_rows, is_vignetted, place_of, hull_of, places_of, word_of, is_definite, is_lost}
use Rattle.lensmodel.specs.Rows.Preparation.{Prepared, preparation_rows}
use Rattle.lensmodel.specs.Rows.Ray.{as_row, row, row_with}
use Rattle.lensmodel.specs.Rows.Spot.{is_pass, passes}
use Rattle.lensmodel.specs.Rows.Start.{Incoming, start_rows}
use Rattle.lensmodel.specs.Setup.Values.{image}
use Rattle.lensmodel.specs.declared.launch.Launch.{Launch}
use Rattle.lensmodel.specs.declared.row.Row.{Row}
use Rattle.lensmodel.specs.declared.row.Word.{Word}
use Rattle.lensmodel.specs.declared.setup.Setup.{Setup}
use Rattle.lensmodel.specs.declared.tolerance.TolBox.{TolBox}

-- a walk that nothing ends has so many places, and what ends one isn't passes
abbrev CameTo : ℕ → Option Word → List Passed → Type 0
CameTo n None places = length places ≡ n
CameTo n (Some w) places = is_pass w ≡ false

one_more : (n : ℕ) (p : Passed) (ended : Option Word) (places : List Passed) → CameTo n ended places → CameTo (suc n) ended (p ∷ places)
one_more n p None places h = ap suc h
one_more n p (Some w) places h = h

choose : {X : Type 0} (P : X → Type 0) (b : Bool) (x y : X) → (b ≡ true → P x) → (b ≡ false → P y) → P (cond b x y)
choose P true x y h k = h refl
choose P false x y h k = k refl

module _ {A : Type 0} (o : Operations A) (scale : ℕ) (s : Setup) (e : ℤ) where
  abbrev Comes : ℕ → Walked → Type 0
  Comes n w = CameTo n w.ended w.places

  left-comes : (left j : ℕ) (h : Met A) (p : Passed) (go_on : Incoming A → Walked) (d : Step (Direction A)) → ((next : Incoming A) → Comes left (go_on next))
      → Comes (suc left) (at_left o scale s e j h p go_on d)
  left-comes left j h p go_on (Val d) more = one_more left _ _ _ (more _)
  left-comes left j h p go_on Empty more = refl
  left-comes left j h p go_on (Lost why) more = refl

  hit-comes : (left j : ℕ) (ray : Incoming A) (face : Prepared A) (go_on : Incoming A → Walked) (h : Step (Met A)) → suc j + left ≡ image s
      → ((next : Incoming A) → Comes left (go_on next)) → Comes (suc left) (at_hit o scale s e j ray face go_on h)
  hit-comes left j ray face go_on (Val h) at more =
      let p : Passed = record { place = place_of o scale s e h; rim2 = hull_of o scale s e face.rim2 } in
      choose (Comes (suc left)) (is_vignetted o scale s e p.place.rho p.rim2) _ _ (λ v. refl) λ v.
      choose (Comes (suc left)) (nat_eq (suc j) (image s)) _ _
      (λ (end : nat_eq (suc j) (image s) ≡ true). grind (arith, nat_tests))
      λ end. left-comes left j h p go_on (departure_rows o scale s e face ray h j) more
  hit-comes left j ray face go_on Empty at more = refl
  hit-comes left j ray face go_on (Lost why) at more = refl

  prepared-comes : (left j : ℕ) (ray : Incoming A) (go_on : Incoming A → Walked) (f : Step (Prepared A)) → suc j + left ≡ image s
      → ((next : Incoming A) → Comes left (go_on next)) → Comes (suc left) (at_prepared o scale s e j ray go_on f)
  prepared-comes left j ray go_on (Val face) at more = hit-comes left j ray face go_on (hit_rows o scale face ray e) at more
  prepared-comes left j ray go_on Empty at more = refl
  prepared-comes left j ray go_on (Lost why) at more = refl

  walk-comes : (left j : ℕ) (ray : Incoming A) → j + left ≡ image s → Comes left (walk o scale s e left j ray)
  walk-comes zero j ray at = refl
  walk-comes (suc left) j ray at =
      prepared-comes left j ray (λ next. walk o scale s e left (suc j) next) (preparation_rows o scale s e j) (omega arith)
      (λ next. walk-comes left (suc j) next (omega arith))

  started-comes : (start : Step (Incoming A)) → Comes (image s) (started o scale s e start)
  started-comes (Val ray) = walk-comes (image s) 0 ray (omega arith)
  started-comes Empty = refl
  started-comes (Lost why) = refl

  walked-comes : (ray : Launch) → Comes (image s) (walked o scale s e ray)
  unfolding walked
  walked-comes ray = started-comes (start_rows o scale ray e)

-- ---- the row
length-places : (places : List Passed) → length (places_of places) ≡ length places
length-places [] = refl
length-places (p ∷ more) = ap suc (length-places more)

-- at a scale from 6 to 15; and where the word is passes there are so many places
record IsFit (n : ℕ) (a : Outcome) : Type 0 where
  low : 6 ≤ a.scale
  high : a.scale ≤ 15
  reaches : IsTrue (is_pass a.word) → length a.places ≡ n

reaches-by : (n scale : ℕ) (width : _) (ended : Option Word) (places : List Passed) → CameTo n ended places
    → IsTrue (is_pass (word_of scale width ended places)) → length (places_of places) ≡ n
reaches-by n scale width None places h passing = let l = length-places places in cc
reaches-by n scale width (Some w) places h passing = absurd (cc)

module _ (s : Setup) (ray : Launch) where
  outcome-fit : {A : Type 0} (o : Operations A) (scale : ℕ) → 6 ≤ scale → scale ≤ 15 → IsFit (image s) (outcome_at o scale s ray)
  unfolding outcome_at
  outcome-fit o scale low high =
      let w = walked o scale s (residual_units scale s.res) ray in
      record { low = low; high = high; reaches = reaches-by (image s) scale s.width w.ended w.places (walked-comes o scale s (residual_units scale s.res) ray) }

  row_of-fit : (P : Outcome → Type 0) (a b c d : Outcome) → P a → P b → P c → P d → P (row_of a b c d)
  row_of-fit P a b c d pa pb pc pd =
      choose P (is_definite a.word) _ _ (λ t. pa) λ f.
      choose P (is_definite b.word) _ _ (λ t. pb) λ f.
      choose P (is_definite c.word) _ _ (λ t. pc) λ f.
      choose P (is_definite d.word) _ _ (λ t. pd) λ f.
      choose P (not (is_lost d.word)) _ _ (λ t. pd) λ f.
      choose P (not (is_lost c.word)) _ _ (λ t. pc) λ f.
      choose P (not (is_lost b.word)) _ _ (λ t. pb) λ f.
      choose P (not (is_lost a.word)) _ _ (λ t. pa) λ f. pd

  by-fit : {A : Type 0} (o : ℕ → Operations A) → IsFit (image s) (row_of (outcome_at (o 6) 6 s ray) (outcome_at (o 9) 9 s ray) (outcome_at (o 12) 12 s ray) (outcome_at (o 15) 15 s ray))
  by-fit o =
      row_of-fit (IsFit (image s)) _ _ _ _
      (outcome-fit (o 6) 6 (omega arith) (omega arith)) (outcome-fit (o 9) 9 (omega arith) (omega arith))
      (outcome-fit (o 12) 12 (omega arith) (omega arith)) (outcome-fit (o 15) 15 (omega arith) (omega arith))

  -- what a row says of its scale and of its places
  pub record IsRow (r : Row) : Type 0 where
    pub low : 6 ≤ r.scale
    pub high : r.scale ≤ 15
    pub reaches : IsTrue (passes r) → length r.places.items ≡ image s

  as-row : (a : Outcome) → IsFit (image s) a → IsRow (as_row a)
  as-row a h = record { low = h.low; high = h.high; reaches = h.reaches }

  row_with-is : (box : Option TolBox) → IsRow (row_with box s ray)
  row_with-is None = as-row _ (by-fit operations)
  row_with-is (Some box) = as-row _ (by-fit linear_operations)

  pub row-is : IsRow (row s ray)
  unfolding row
  row-is = row_with-is s.toler

  pub row-fits : (r : Row) → r ≡ row s ray → IsRow r
  row-fits r e = subst IsRow (sym e) row-is
