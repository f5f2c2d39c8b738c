-- What an outcome claims of every chain, from what its walk holds. Cited by the walk at one scale.
use Rattle.std.proofs.Common.{◌≡◌, ℕ, zero, suc, ◌+◌, ◌<◌, Bool, true, false, List, [], ◌∷◌, length, refl, sym, subst, arith}
use borrow.Author.Tests.{eqb-true, eqb-false}
use Rattle.std.specs.Prelude.{Option, Some, None, slice_get, nat_eq, if◌then◌else◌}
use Rattle.fixdec.specs.Ends.{Ends}
use Rattle.fixdec.specs.Frac.{Frac}
use Rattle.fixdec.specs.Member.{Symbols}
use Rattle.fixdec.specs.Operations.{Operations, IsLawful}
use Rattle.fixdec.specs.declared.step.Step.TheVariants.{Val, Empty, Lost}
use Rattle.fixdec.specs.declared.step.Why.{Why}
use Rattle.fixdec.specs.declared.step.Why.TheVariants.{Root}
use Rattle.lensmodel.specs.Claims.Enclosure.{EnclosesStart, EnclosesPreparation}
use Rattle.lensmodel.specs.Claims.RowClaims.{HoldsPlace, HoldsHeading, HoldsAt, WordHolds, RowHolds}
use Rattle.lensmodel.specs.Equations.Chain.{Chain}
use Rattle.lensmodel.specs.Equations.Chains.{IsChainTo, IsWhole, Clears}
use Rattle.lensmodel.specs.Rows.Outcome.{Passed, Walked, Outcome, overlaps, rim_word_at, rim_word, some_wide, word_of, places_of, walk, walked, outcome_at}
use Rattle.lensmodel.specs.Rows.Preparation.{preparation_rows}
use Rattle.lensmodel.specs.Rows.Start.{Incoming, start_rows}
use Rattle.lensmodel.specs.Setup.Values.{surface_at, image}
use Rattle.lensmodel.specs.declared.launch.Launch.{Launch}
use Rattle.lensmodel.specs.declared.row.Place.{Place}
use Rattle.lensmodel.specs.declared.row.Row.{Row}
use Rattle.lensmodel.specs.declared.row.Word.{Word}
use Rattle.lensmodel.specs.declared.row.Word.TheVariants as word
use Rattle.lensmodel.specs.declared.setup.Setup.{Setup}
use Rattle.skewtrace.specs.Enclosing.{IsSureFrom, sure_start}
use Rattle.skewtrace.specs.Goings.{outcome_from}
use Rattle.skewtrace.specs.Rims.{HoldsRim, clears_open, clears_rim}
use Rattle.skewtrace.specs.Turns.{units, walk_from, walk_from-start}
use Rattle.skewtrace.specs.WalkLaws.{HoldsPassed, HoldsEachPassed, HoldsWalk, EndHolds, chain_before, walk_holds}
use Rattle.skewtrace.specs.Words.{judged-first}

module _ (scale : ℕ) (s : Setup) (q : Launch) where
  -- ---- places
  held_at : (row : Row) → row.scale ≡ scale → (j : ℕ) (p : Passed) → HoldsPassed scale s q (suc j) p → HoldsAt s q row j p.place
  held_at row e j p h = record {
    place = λ c l. subst (λ (k : ℕ). HoldsPlace k p.place c (suc j)) (sym e) (h.place c l);
    heading = λ g k c l. subst (λ (n : ℕ). HoldsHeading n g c (suc j)) (sym e) (h.heading g k c l);
  }

  each_held : (row : Row) → row.scale ≡ scale → (k : ℕ) (ps : List Passed) → HoldsEachPassed scale s q (suc k) ps
      → (j : ℕ) (p : Place) → slice_get (places_of ps) j ≡ Some p → HoldsAt s q row (k + j) p
  each_held row e k [] h j p g = cc
  each_held row e k (x ∷ more) h zero p g =
      let same : x.place ≡ p = cc in
      let at : k + 0 ≡ k = omega arith in
      rw at (subst (λ (y : Place). HoldsAt s q row k y) same (held_at row e k x h.0))
  each_held row e k (x ∷ more) h (suc j) p g =
      let at : k + suc j ≡ suc k + j = omega arith in
      rw at (each_held row e (suc k) more h.1 j p g)

  -- ---- rims
  -- every whole chain clears the surfaces before j
  abbrev ClearsBefore : ℕ → Type 0
  ClearsBefore j = (c : Chain) → IsWhole s q c → (i : ℕ) → i < j → Clears s c i

  clears_next : (k : ℕ) → ClearsBefore k → ((c : Chain) → IsWhole s q c → Clears s c k) → ClearsBefore (suc k)
  clears_next k before here c w i l = by (nat_eq i k) refl
    where
      by : (b : Bool) → nat_eq i k ≡ b → Clears s c i
      by true e = rw (eqb-true i k e) (here c w)
      by false e = before c w i (let d = eqb-false i k e in omega arith)

  rim_held : (k : ℕ) (p : Passed) (more : List Passed) → k < image s → HoldsPassed scale s q (suc k) p → ClearsBefore (suc k)
      → (ClearsBefore (suc (suc k)) → WordHolds (rim_word (suc (suc k)) more) s q) → WordHolds (rim_word_at (suc k) p.place.rho p.rim2 (rim_word (suc (suc k)) more)) s q
  rim_held k p more l h before go_on = by p.rim2 h.rim
    where
      to : (c : Chain) → IsWhole s q c → IsChainTo s q (suc k) c
      to c w = chain_before s q (suc k) (image s) c (omega arith) w

      by : (rim2 : Option Ends) → ((c : Chain) → IsChainTo s q (suc k) c → HoldsRim scale rim2 (if (surface_at s (suc k)).rim then (surface_at s (suc k)).semi else None))
          → WordHolds (rim_word_at (suc k) p.place.rho rim2 (rim_word (suc (suc k)) more)) s q
      by None r = go_on (clears_next (suc k) before (λ c w. clears_open scale (surface_at s (suc k)).rim (surface_at s (suc k)).semi (c.rho (suc k)) (r c (to c w))))
      by (Some a) r = over (overlaps p.place.rho a) refl
        where
          over : (b : Bool) → overlaps p.place.rho a ≡ b → WordHolds (if b then word.Undecided (suc k) p.place.rho a else rim_word (suc (suc k)) more) s q
          over true e = tt
          over false e =
              go_on (clears_next (suc k) before
              (λ c w. clears_rim scale (surface_at s (suc k)).rim (surface_at s (suc k)).semi a p.place.rho (c.rho (suc k)) (r c (to c w)) (h.place c (to c w)).rho e))

  rims_held : (k : ℕ) (ps : List Passed) → k + length ps ≡ image s → HoldsEachPassed scale s q (suc k) ps → ClearsBefore (suc k) → WordHolds (rim_word (suc k) ps) s q
  rims_held k [] n h before = λ c w j l. before c w j (omega arith)
  rims_held k (p ∷ more) n h before = rim_held k p more (omega arith) h.0 before (λ b. rims_held (suc k) more (omega arith) h.1 b)

  -- ---- the word
  word_held : (w : Walked) → HoldsWalk scale s q (image s) 0 w → WordHolds (word_of scale s.width w.ended w.places) s q
  word_held w h = by w.ended h.ended h.whole
    where
      at_image : (b : Bool) → length w.places ≡ image s → WordHolds (if b then word.Wide else rim_word 1 w.places) s q
      at_image true n = tt
      at_image false n = rims_held 0 w.places (omega arith) h.places (λ c k j l. first j l c)
        where
          first : (j : ℕ) → j < 1 → (c : Chain) → Clears s c j
          first zero l c = tt
          first (suc j) l c = absurd (omega arith)

      by : (ended : Option Word) → EndHolds scale s q ended → (ended ≡ None → length w.places ≡ image s) → WordHolds (word_of scale s.width ended w.places) s q
      by None k n = at_image (some_wide scale s.width w.places) (n refl)
      by (Some end) k n = k

  -- the row of a walk from the start holds every chain
  pub row-holds : (w : Walked) → HoldsWalk scale s q (image s) 0 w
      → RowHolds s q (record { scale = scale; word = word_of scale s.width w.ended w.places; places = record { items = places_of w.places } })
  row-holds w h = record {
    encloses = λ j p g.
        let row : Row = record { scale = scale; word = word_of scale s.width w.ended w.places; places = record { items = places_of w.places } } in
        let at : 0 + j ≡ j = omega arith in
        subst (λ (n : ℕ). HoldsAt s q row n p) at (each_held row refl 0 w.places h.places j p g);
    word = word_held w h;
  }

-- ---- from the start
module _ {A : Type 0} (scale : ℕ) (o : Operations A) (member : A → Symbols → Frac → Type 0) (s : Setup) (q : Launch) where
  abbrev outcome : Outcome
  outcome = outcome_at o scale s q

  -- a ray that starts goes on at surface 1
  pub outcome-started : (ray : Incoming A) → start_rows o scale q (units o scale s) ≡ Val ray → outcome ≡ outcome_from o scale member s word.Passes [] 1 ray
  unfolding outcome_at walked
  outcome-started ray e = rw (e, judged-first scale s.width (walk_from o scale s 1 ray), walk_from-start o scale s ray) refl

  pub outcome-empty : start_rows o scale q (units o scale s) ≡ Empty → outcome ≡ record { scale = scale; word = word.Lost 1 Root; places = [] }
  unfolding outcome_at walked
  outcome-empty e = rw e refl

  pub outcome-lost : (why : Why) → start_rows o scale q (units o scale s) ≡ Lost why → outcome ≡ record { scale = scale; word = word.Lost 1 why; places = [] }
  unfolding outcome_at walked
  outcome-lost why e = rw e refl

  -- a lost start says nothing of chains
  pub lost-holds : (why : Why) → RowHolds s q (record { scale = scale; word = word.Lost 1 why; places = record { items = [] } })
  lost-holds why = record { encloses = λ j p g. cc; word = tt }

  -- a walk from a start that holds every ray holds every chain
  pub walk-holds : IsLawful scale o member → ((i : ℕ) → i < image s → EnclosesPreparation member s i (preparation_rows o scale s (units o scale s) i))
      → (ray : Incoming A) → EnclosesStart member s q (Val ray) → IsSureFrom o scale member s 1 ray
      → (let out = outcome_from o scale member s word.Passes [] 1 ray in RowHolds s q (record { scale = scale; word = out.word; places = record { items = out.places } }))
  walk-holds law prepared ray start sure =
      rw (judged-first scale s.width (walk_from o scale s 1 ray), walk_from-start o scale s ray)
      (row-holds scale s q (walk o scale s (units o scale s) (image s) 0 ray)
      (walk_holds scale o member law s q prepared (image s) 0 ray (omega arith) (λ c h. start c h.reaches.start) (sure_start o scale member s ray sure)))
