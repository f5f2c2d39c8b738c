-- How a walk goes on after a surface, and what each way entails of its outcome. Cited by the walk at one scale.
use Rattle.std.proofs.Common.{◌≡◌, ℕ, suc, ◌-◌, ◌≤◌, List, [], ◌++◌, length, refl, ◌∙◌, ap, arith}
use Rattle.std.specs.Prelude.{Some, None, if◌then◌else◌}
use Rattle.fixdec.specs.Frac.{Frac}
use Rattle.fixdec.specs.Member.{Symbols}
use Rattle.fixdec.specs.Operations.{Operations}
use Rattle.lensmodel.specs.Rows.Outcome.{Outcome, places_of}
use Rattle.lensmodel.specs.Rows.Preparation.{preparation_rows}
use Rattle.lensmodel.specs.Rows.Start.{Incoming}
use Rattle.lensmodel.specs.Setup.Values.{image}
use Rattle.lensmodel.specs.declared.row.Place.{Place}
use Rattle.lensmodel.specs.declared.row.Row.{Row}
use Rattle.lensmodel.specs.declared.row.Word.{Word}
use Rattle.lensmodel.specs.declared.row.Word.TheVariants.{Passes, Wide}
use Rattle.lensmodel.specs.declared.setup.Setup.{Setup}
use Rattle.skewtrace.specs.Enclosing.{TurnsSurely, GoesOnSurely, IsSureFrom, sure_from, sure_at_image}
use Rattle.skewtrace.specs.Turns.{Turn, Goes, Halts, passed_of, follow, units, turn_at, turn_ends, walk_from, walk_from-follows, walk_from-image}
use Rattle.skewtrace.specs.Words.{noted_all, judged, judged-before, judged-image, judged-over, judged-ended, any_wide}
use Rattle.skewtrace.specs.declared.going.Going.{Going}
use Rattle.skewtrace.specs.declared.going.Going.TheVariants.{On, Image, Ended}

-- how the walk goes on after a turn
abbrev pub going_of : {A : Type 0} → Turn A → Going A
going_of (Goes p next) = On next
going_of (Halts None places) = Image
going_of (Halts (Some w) places) = Ended w

-- the word of the rims and the places after a turn at surface j
abbrev pub word_after : {A : Type 0} → Row → ℕ → Turn A → Word
word_after row j t = noted_all row.word j (passed_of t)

abbrev pub places_after : {A : Type 0} → Row → Turn A → List Place
places_after row t = row.places.items ++ places_of (passed_of t)

module _ {A : Type 0} (o : Operations A) (scale : ℕ) (member : A → Symbols → Frac → Type 0) (s : Setup) where
  -- the outcome of a walk that has the places and the word of their rims behind it, and goes on with a ray at surface j
  abbrev pub outcome_from : Word → List Place → ℕ → Incoming A → Outcome
  outcome_from rims places j ray = judged scale s.width rims places j (walk_from o scale s j ray)

  -- from the start
  abbrev pub outcome_first : Incoming A → Outcome
  outcome_first ray = outcome_from Passes [] 1 ray

  -- the outcome at surface j is that behind it, and what is known behind it is all that was wanting
  pub record Continues (rims : Word) (places : List Place) (j : ℕ) (ray : Incoming A) (rims' : Word) (places' : List Place) (next : Incoming A) : Type 0 where
    pub outcome : outcome_from rims places j ray ≡ outcome_from rims' places' (suc j) next
    pub sure : IsSureFrom o scale member s (suc j) next → IsSureFrom o scale member s j ray

  -- the walk is at its end, by the word
  pub record Stops (rims : Word) (places : List Place) (j : ℕ) (ray : Incoming A) (end : Word) (places' : List Place) : Type 0 where
    pub outcome : outcome_from rims places j ray ≡ record { scale = scale; word = end; places = places' }
    pub sure : IsSureFrom o scale member s j ray

  abbrev pub GoesOn : Going A → Word → List Place → ℕ → Incoming A → Word → List Place → Type 0
  GoesOn (On next) rims places j ray rims' places' = Continues rims places j ray rims' places' next
  GoesOn Image rims places j ray rims' places' = Continues rims places j ray rims' places' ray
  GoesOn (Ended end) rims places j ray rims' places' = Stops rims places j ray end places'

  -- the same by the rows before and after, whose word is that of the rims
  abbrev pub GoesOnBy : ℕ → Incoming A → Row → Going A → Row → Type 0
  GoesOnBy j ray before going after = GoesOn going before.word before.places.items j ray after.word after.places.items

  module _ (rims : Word) (places : List Place) (j : ℕ) (ray : Incoming A) (low : 1 ≤ j) (high : j ≤ image s)
      (sure : TurnsSurely o scale member s j (preparation_rows o scale s (units o scale s) (j - 1)) ray) where
    follows : (t : Turn A) → turn_at o scale s j ray ≡ t → outcome_from rims places j ray ≡ judged scale s.width rims places j (follow t (λ next. walk_from o scale s (suc j) next))
    follows t e = rw (walk_from-follows o scale s j ray low high, e) refl

    surely : (t : Turn A) → turn_at o scale s j ray ≡ t → GoesOnSurely o scale member s t (λ next. IsSureFrom o scale member s (suc j) next) → IsSureFrom o scale member s j ray
    surely t e k = sure_from o scale member s j ray low high sure (rw e k)

    by_turn : (t : Turn A) → turn_at o scale s j ray ≡ t → GoesOn (going_of t) rims places j ray (noted_all rims j (passed_of t)) (places ++ places_of (passed_of t))
    by_turn (Goes p next) e = record {
      outcome = follows (Goes p next) e ∙ judged-before scale s.width rims places j p (walk_from o scale s (suc j) next);
      sure = λ k. surely (Goes p next) e k;
    }
    by_turn (Halts None qs) e =
        let last = turn_ends o scale s j (preparation_rows o scale s (units o scale s) (j - 1)) ray qs e in
        record {
          outcome = follows (Halts None qs) e ∙ rw (walk_from-image o scale s (suc j) ray (ap suc last)) (judged-image scale s.width rims places j qs);
          sure = λ k. surely (Halts None qs) e tt;
        }
    by_turn (Halts (Some end) qs) e = record {
      outcome = follows (Halts (Some end) qs) e ∙ judged-ended scale s.width rims end places j qs;
      sure = surely (Halts (Some end) qs) e tt;
    }

    -- the way on of a turn, by what it adds
    pub goes_on : (going : Going A) (rims' : Word) (places' : List Place) → going ≡ going_of (turn_at o scale s j ray)
        → rims' ≡ noted_all rims j (passed_of (turn_at o scale s j ray)) → places' ≡ places ++ places_of (passed_of (turn_at o scale s j ray))
        → GoesOn going rims places j ray rims' places'
    goes_on going rims' places' a b c = rw (a, b, c) (by_turn (turn_at o scale s j ray) refl)

  -- ---- from surface to surface
  -- a walk from surface 1 has come to surface j: its outcome is that of the rest, and what is known of the rest is all that
  -- is wanting
  pub record Reaches (start : Incoming A) (rims : Word) (places : List Place) (j : ℕ) (ray : Incoming A) : Type 0 where
    pub room : suc (length places) ≤ j
    pub outcome : outcome_from Passes [] 1 start ≡ outcome_from rims places j ray
    pub sure : IsSureFrom o scale member s j ray → IsSureFrom o scale member s 1 start

  pub reaches_first : (start : Incoming A) → Reaches start Passes [] 1 start
  reaches_first start = record { room = omega arith; outcome = refl; sure = λ k. k }

  pub reaches_next : (start : Incoming A) (rims : Word) (places : List Place) (j : ℕ) (ray : Incoming A) (rims' : Word) (places' : List Place) (next : Incoming A)
      → Reaches start rims places j ray → Continues rims places j ray rims' places' next → length places' ≤ suc (length places) → Reaches start rims' places' (suc j) next
  reaches_next start rims places j ray rims' places' next r c l =
      let room = r.room in
      record { room = omega arith; outcome = r.outcome ∙ c.outcome; sure = λ k. r.sure (c.sure k) }

  -- it ends at a surface by a word
  pub reaches_end : (start : Incoming A) (rims : Word) (places : List Place) (j : ℕ) (ray : Incoming A) (end : Word) (places' : List Place)
      → Reaches start rims places j ray → Stops rims places j ray end places'
      → (outcome_from Passes [] 1 start ≡ record { scale = scale; word = end; places = places' }) × IsSureFrom o scale member s 1 start
  reaches_end start rims places j ray end places' r k = (r.outcome ∙ k.outcome, r.sure k.sure)

  -- it has passed the image
  pub reaches_image : (start : Incoming A) (rims : Word) (places : List Place) (j : ℕ) (ray : Incoming A) → j ≡ suc (image s) → Reaches start rims places j ray
      → (outcome_from Passes [] 1 start ≡ record { scale = scale; word = if any_wide scale s.width places then Wide else rims; places = places })
      × IsSureFrom o scale member s 1 start
  reaches_image start rims places j ray e r =
      (r.outcome ∙ rw (walk_from-image o scale s j ray e) (judged-over scale s.width rims places j), r.sure (sure_at_image o scale member s j ray e))
