-- The row of a ray as the scales give it one by one. Cited by the row of a ray and by the bench.
use Rattle.std.specs.Prelude.{◌≡◌, ℕ, List, Bool, true, false, ◌&&◌, not, refl, Option, Some, None, if◌then◌else◌}
use Rattle.arrayvec.specs.ArrayVec.{ArrayVec}
use Rattle.fixdec.specs.Form.{linear_operations}
use Rattle.fixdec.specs.IntervalOperations.{operations}
use Rattle.fixdec.specs.Operations.{Operations}
use Rattle.lensmodel.specs.Claims.RowClaims.{RowHolds}
use Rattle.lensmodel.specs.Rows.Outcome.{Outcome, is_definite, is_lost, outcome_at, row_of}
use Rattle.lensmodel.specs.Rows.Ray.{as_row, row}
use Rattle.lensmodel.specs.declared.launch.Launch.{Launch}
use Rattle.lensmodel.specs.declared.row.Place.{Place}
use Rattle.lensmodel.specs.declared.row.Row.{Row}
use Rattle.lensmodel.specs.declared.row.Word.{Word}
use Rattle.lensmodel.specs.declared.row.Word.TheVariants as word
use Rattle.lensmodel.specs.declared.setup.Setup.{Setup}
use Rattle.lensmodel.specs.declared.tolerance.TolBox.{TolBox}

-- ---- what is kept
-- the row that is kept, once a greater scale gave a row that isn't definite
unfoldable pub kept_of : Option Row → Row → Row
kept_of None row = row
kept_of (Some old) row = if is_lost row.word && not (is_lost old.word) then old else row

-- the row that is kept of four
abbrev pub last_of : Row → Row → Row → Row → Row
last_of a b c d = kept_of (Some (kept_of (Some (kept_of (Some (kept_of None a)) b)) c)) d

-- as it is kept step by step
pub kept_last : (i j k l : Option Row) (a b c d r : Row) → i ≡ Some (kept_of None a) → j ≡ Some (kept_of i b) → k ≡ Some (kept_of j c) → l ≡ Some (kept_of k d)
    → l ≡ Some r → r ≡ last_of a b c d
kept_last i j k l a b c d r p q s t u = cc

kept_holds : (P : Row → Type 0) (old row : Row) → P old → P row → P (kept_of (Some old) row)
unfolding kept_of
kept_holds P old row a b = by (is_lost row.word && not (is_lost old.word))
  where
    by : (c : Bool) → P (if c then old else row)
    by true = a
    by false = b

first_holds : (P : Row → Type 0) (row : Row) → P row → P (kept_of None row)
unfolding kept_of
first_holds P row a = a

-- what holds of all four holds of it
pub last_holds : (P : Row → Type 0) (a b c d : Row) → P a → P b → P c → P d → P (last_of a b c d)
last_holds P a b c d x y z w = kept_holds P _ d (kept_holds P _ c (kept_holds P _ b (first_holds P a x) y) z) w

-- ---- outcomes as rows
-- what was traced at a scale is its outcome
pub traced_row : {A : Type 0} (o : Operations A) (scale : ℕ) (s : Setup) (q : Launch) (n : ℕ) (r : Word × ArrayVec Place) → scale ≡ n
    → (let out = outcome_at o scale s q in r ≡ (out.word, record { items = out.places }))
    → (let row : Row = record { scale = n; word = r.0; places = r.1 } in row ≡ as_row (outcome_at o scale s q))
unfolding outcome_at
traced_row o scale s q n r e h = rw (h, e) refl

-- a row by its parts
row_by_parts : (r : Row) (n : ℕ) (w : Word) (ps : List Place) → r.scale ≡ n → r.word ≡ w → r.places.items ≡ ps
    → r ≡ record { scale = n; word = w; places = record { items = ps } }
row_by_parts r n w ps a b c = rw (← a, ← b, ← c) refl

-- what was traced in place of a row
pub row_is : {A : Type 0} (o : Operations A) (scale : ℕ) (s : Setup) (q : Launch) (r : Row) → r.scale ≡ scale
    → r.word ≡ (outcome_at o scale s q).word → r.places.items ≡ (outcome_at o scale s q).places → r ≡ as_row (outcome_at o scale s q)
unfolding outcome_at
row_is o scale s q r n w p = row_by_parts r _ _ _ n w p

-- it holds of every chain
pub held_row : (s : Setup) (q : Launch) (scale n : ℕ) (r : Word × ArrayVec Place) → scale ≡ n
    → RowHolds s q (record { scale = scale; word = r.0; places = r.1 }) → RowHolds s q (record { scale = n; word = r.0; places = r.1 })
held_row s q scale n r e h = rw (← e) h

-- ---- the row of four outcomes
unfoldable pub climb : Outcome → Outcome → Outcome → Outcome → Row
climb a b c d = as_row (row_of a b c d)

abbrev pub climb_by : {A : Type 0} → (ℕ → Operations A) → Setup → Launch → Row
climb_by o s q = climb (outcome_at (o 6) 6 s q) (outcome_at (o 9) 9 s q) (outcome_at (o 12) 12 s q) (outcome_at (o 15) 15 s q)

-- it is the row of a ray, in the arithmetic that its box asks for
pub climb-without_box : (s : Setup) (q : Launch) → s.toler ≡ None → climb_by operations s q ≡ row s q
unfolding climb row
climb-without_box s q h = rw h refl

pub climb-with_box : (box : TolBox) (s : Setup) (q : Launch) → s.toler ≡ Some box → climb_by linear_operations s q ≡ row s q
unfolding climb row
climb-with_box box s q h = rw h refl

-- a word that says that the arithmetic was lost isn't definite
lost_not_definite : (w : Word) → is_lost w ≡ true → is_definite w ≡ false
lost_not_definite (word.Lost j why) h = refl
lost_not_definite word.Passes h = cc
lost_not_definite (word.Vignetted j) h = cc
lost_not_definite (word.Outside j) h = cc
lost_not_definite (word.Tir j) h = cc
lost_not_definite (word.Undecided j r s) h = refl
lost_not_definite word.Wide h = refl

module _ (a b c d : Outcome) (x : Row) (six : x ≡ as_row a) where
  -- the first that is definite ends the climb
  pub ends_at_six : is_definite x.word ≡ true → x ≡ climb a b c d
  unfolding climb
  ends_at_six h = let e = rw six at h in rw (six, e) refl

  module _ (h6 : is_definite x.word ≡ false) (y : Row) (nine : y ≡ as_row b) where
    pub ends_at_nine : is_definite y.word ≡ true → y ≡ climb a b c d
    unfolding climb
    ends_at_nine h = let p = rw six at h6 in let e = rw nine at h in rw (nine, p, e) refl

    module _ (h9 : is_definite y.word ≡ false) (z : Row) (twelve : z ≡ as_row c) where
      pub ends_at_twelve : is_definite z.word ≡ true → z ≡ climb a b c d
      unfolding climb
      ends_at_twelve h = let p = rw six at h6 in let q = rw nine at h9 in let e = rw twelve at h in rw (twelve, p, q, e) refl

      module _ (h12 : is_definite z.word ≡ false) (w : Row) (fifteen : w ≡ as_row d) where
        pub ends_at_fifteen : is_definite w.word ≡ true → w ≡ climb a b c d
        unfolding climb
        ends_at_fifteen h =
            let p = rw six at h6 in let q = rw nine at h9 in let r = rw twelve at h12 in let e = rw fifteen at h in rw (fifteen, p, q, r, e) refl

        -- the first that isn't lost, from the greatest down, is the row where none is definite
        last_fifteen : is_lost w.word ≡ false → is_definite w.word ≡ false → w ≡ climb a b c d
        unfolding climb
        last_fifteen l h =
            let p = rw six at h6 in let q = rw nine at h9 in let r = rw twelve at h12 in let e = rw fifteen at h in let f = rw fifteen at l in
            rw (fifteen, p, q, r, e, f) refl

        pub last_is_fifteen : is_lost w.word ≡ false → w ≡ climb a b c d
        last_is_fifteen l = by (is_definite w.word) refl
          where
            by : (t : Bool) → is_definite w.word ≡ t → w ≡ climb a b c d
            by true e = ends_at_fifteen e
            by false e = last_fifteen l e

        module _ (l15 : is_lost w.word ≡ true) where
          pub last_is_twelve : is_lost z.word ≡ false → (v : Row) → v ≡ as_row c → v ≡ climb a b c d
          unfolding climb
          last_is_twelve l v k =
              let p = rw six at h6 in let q = rw nine at h9 in let r = rw twelve at h12 in let e = rw fifteen at (lost_not_definite w.word l15) in
              let f = rw fifteen at l15 in let g = rw twelve at l in
              rw (k, p, q, r, e, f, g) refl

          module _ (l12 : is_lost z.word ≡ true) where
            pub last_is_nine : is_lost y.word ≡ false → (v : Row) → v ≡ as_row b → v ≡ climb a b c d
            unfolding climb
            last_is_nine l v k =
                let p = rw six at h6 in let q = rw nine at h9 in let r = rw twelve at h12 in let e = rw fifteen at (lost_not_definite w.word l15) in
                let f = rw fifteen at l15 in let g = rw twelve at l12 in let h = rw nine at l in
                rw (k, p, q, r, e, f, g, h) refl

            module _ (l9 : is_lost y.word ≡ true) where
              pub last_is_six : is_lost x.word ≡ false → (v : Row) → v ≡ as_row a → v ≡ climb a b c d
              unfolding climb
              last_is_six l v k =
                  let p = rw six at h6 in let q = rw nine at h9 in let r = rw twelve at h12 in let e = rw fifteen at (lost_not_definite w.word l15) in
                  let f = rw fifteen at l15 in let g = rw twelve at l12 in let h = rw nine at l9 in let i = rw six at l in
                  rw (k, p, q, r, e, f, g, h, i) refl

              -- where all are lost it is that of the greatest
              pub last_is_lost : is_lost x.word ≡ true → w ≡ climb a b c d
              unfolding climb
              last_is_lost l =
                  let p = rw six at h6 in let q = rw nine at h9 in let r = rw twelve at h12 in let e = rw fifteen at (lost_not_definite w.word l15) in
                  let f = rw fifteen at l15 in let g = rw twelve at l12 in let h = rw nine at l9 in let i = rw six at l in
                  rw (fifteen, p, q, r, e, f, g, h, i) refl

        chosen : (ld lc lb la : Bool) → is_lost d.word ≡ ld → is_lost c.word ≡ lc → is_lost b.word ≡ lb → is_lost a.word ≡ la
            → last_of (as_row a) (as_row b) (as_row c) (as_row d)
            ≡ as_row (if not (is_lost d.word) then d else if not (is_lost c.word) then c else if not (is_lost b.word) then b else if not (is_lost a.word) then a else d)
        unfolding kept_of
        chosen false lc lb la e f g h = simp e
        chosen true false lb la e f g h = simp (e, f)
        chosen true true false la e f g h = simp (e, f, g)
        chosen true true true false e f g h = simp (e, f, g, h)
        chosen true true true true e f g h = simp (e, f, g, h)

        -- if none is, the row is the one that is kept
        pub ends_at_last : is_definite w.word ≡ false → last_of x y z w ≡ climb a b c d
        unfolding climb
        ends_at_last h =
            let p = rw six at h6 in let q = rw nine at h9 in let r = rw twelve at h12 in let e = rw fifteen at h in
            rw (six, nine, twelve, fifteen, p, q, r, e) (chosen (is_lost d.word) (is_lost c.word) (is_lost b.word) (is_lost a.word) refl refl refl refl)
