-- The outcome of a ray at one scale, and its row: the first surface that ends the walk gives the word.
-- Cited by the walk at one scale.
use Rattle.std.specs.Prelude.{ℕ, zero, suc, ℤ, ◌-ℤ◌, Bool, true, false, ◌||◌, nat_eq, int_lt, not, List, [], ◌∷◌, Option, Some, None, if◌then◌else◌}
use Rattle.fixdec.specs.Decimal.{Decimal}
use Rattle.fixdec.specs.Ends.{Ends}
use Rattle.fixdec.specs.Operations.{Operations}
use Rattle.fixdec.specs.Scaled.{dec_floor}
use Rattle.fixdec.specs.declared.step.Step.{Step}
use Rattle.fixdec.specs.declared.step.Step.TheVariants.{Val, Empty, Lost}
use Rattle.fixdec.specs.declared.step.Why.TheVariants.{Root}
use Rattle.lensmodel.specs.Rows.Bending.{Direction, bend_rows, stay_rows}
use Rattle.lensmodel.specs.Rows.Constants.{residual_units}
use Rattle.lensmodel.specs.Rows.Crossing.{Met}
use Rattle.lensmodel.specs.Rows.Hit.{hit_rows}
use Rattle.lensmodel.specs.Setup.Media.{equal_media}
use Rattle.lensmodel.specs.Rows.Preparation.{Prepared, preparation_rows}
use Rattle.lensmodel.specs.Rows.Start.{Incoming, start_rows}
use Rattle.lensmodel.specs.Setup.Values.{image}
use Rattle.lensmodel.specs.declared.launch.Launch.{Launch}
use Rattle.lensmodel.specs.declared.row.Heading.{Heading}
use Rattle.lensmodel.specs.declared.row.Place.{Place}
use Rattle.lensmodel.specs.declared.row.Word.{Word}
use Rattle.lensmodel.specs.declared.row.Word.TheVariants as word
use Rattle.lensmodel.specs.declared.setup.Setup.{Setup}

-- a place, with the hull of its rim's square where it has a rim
pub record Passed : Type 0 where
  pub place : Place
  pub rim2 : Option Ends

-- how far a walk came: the word that ended it before the image was passed, if one did, and the places
pub record Walked : Type 0 where
  pub ended : Option Word
  pub places : List Passed

-- the first places of a walk before the rest
abbrev pub before : Passed → Walked → Walked
before p rest = record { ended = rest.ended; places = p ∷ rest.places }

abbrev pub ends_with : Word → List Passed → Walked
ends_with w places = record { ended = Some w; places = places }

module _ {A : Type 0} (o : Operations A) (scale : ℕ) (s : Setup) (e : ℤ) where
  abbrev pub hull_of : Option A → Option Ends
  hull_of None = None
  hull_of (Some v) = Some (o.hull v)

  -- a place without a heading
  abbrev pub place_of : Met A → Place
  place_of h = record { rho = o.hull h.rho; x = o.hull h.x; y = o.hull h.y; z = o.hull h.z; path = o.hull h.path; heading = None }

  abbrev pub with_heading : Place → Direction A → Place
  with_heading p d = record p { heading = Some (record { l = o.hull d.l; m = o.hull d.m; n = o.hull d.n }) }

  -- the ray that leaves a surface
  abbrev pub leaving : Met A → Direction A → Incoming A
  leaving h d = record { x = h.x; y = h.y; z = h.z; l = d.l; m = d.m; n = d.n; path = h.path }

  -- whether the least rho lies above the greatest square of the rim
  abbrev pub is_vignetted : Ends → Option Ends → Bool
  is_vignetted rho None = false
  is_vignetted rho (Some rim2) = int_lt rim2.hi rho.lo

  -- the bending phase of surface j + 1, or the direction that stays
  abbrev pub departure_rows : Prepared A → Incoming A → Met A → ℕ → Step (Direction A)
  departure_rows face ray hit j = if equal_media s j then stay_rows o face ray else bend_rows o scale face ray hit e

  -- what follows the bending phase of surface j + 1: go_on is the walk of the ray that leaves
  abbrev pub at_left : ℕ → Met A → Passed → (Incoming A → Walked) → Step (Direction A) → Walked
  at_left j h p go_on (Val d) = before (record p { place = with_heading p.place d }) (go_on (leaving h d))
  at_left j h p go_on Empty = ends_with (word.Tir (suc j)) (p ∷ [])
  at_left j h p go_on (Lost why) = ends_with (word.Lost (suc j) why) (p ∷ [])

  -- what follows the crossing phase: the rim, the image, or the bending phase
  abbrev pub at_hit : ℕ → Incoming A → Prepared A → (Incoming A → Walked) → Step (Met A) → Walked
  at_hit j ray face go_on (Val h) =
      let p : Passed = record { place = place_of h; rim2 = hull_of face.rim2 } in
      if is_vignetted p.place.rho p.rim2 then ends_with (word.Vignetted (suc j)) (p ∷ [])
      else if nat_eq (suc j) (image s) then record { ended = None; places = p ∷ [] }
      else at_left j h p go_on (departure_rows face ray h j)
  at_hit j ray face go_on Empty = ends_with (word.Outside (suc j)) []
  at_hit j ray face go_on (Lost why) = ends_with (word.Lost (suc j) why) []

  -- what follows the preparation, whose rows are never Empty for a well-formed setup
  abbrev pub at_prepared : ℕ → Incoming A → (Incoming A → Walked) → Step (Prepared A) → Walked
  at_prepared j ray go_on (Val face) = at_hit j ray face go_on (hit_rows o scale face ray e)
  at_prepared j ray go_on Empty = ends_with (word.Lost (suc j) Root) []
  at_prepared j ray go_on (Lost why) = ends_with (word.Lost (suc j) why) []

  -- the walk from behind surface j through the surfaces that are left
  abbrev pub walk : ℕ → ℕ → Incoming A → Walked
  walk zero j ray = record { ended = None; places = [] }
  walk (suc left) j ray = at_prepared j ray (λ next. walk left (suc j) next) (preparation_rows o scale s e j)

  -- the start comes before the preparation of surface 1
  abbrev pub started : Step (Incoming A) → Walked
  started (Val ray) = walk (image s) 0 ray
  started Empty = ends_with (word.Lost 1 Root) []
  started (Lost why) = ends_with (word.Lost 1 why) []

  unfoldable pub walked : Launch → Walked
  walked ray = started (start_rows o scale ray e)

-- whether an interval at the scale is wider than a bound
abbrev pub is_wider : ℕ → Decimal → Ends → Bool
is_wider scale width a = int_lt (dec_floor scale width) (a.hi -ℤ a.lo)

abbrev pub has_wide_heading : ℕ → Decimal → Option Heading → Bool
has_wide_heading scale width None = false
has_wide_heading scale width (Some h) = is_wider scale width h.l || is_wider scale width h.m || is_wider scale width h.n

abbrev pub is_wide_place : ℕ → Decimal → Place → Bool
is_wide_place scale width p =
    is_wider scale width p.rho || is_wider scale width p.x || is_wider scale width p.y || is_wider scale width p.z
    || is_wider scale width p.path || has_wide_heading scale width p.heading

abbrev pub some_wide : ℕ → Decimal → List Passed → Bool
some_wide scale width [] = false
some_wide scale width (p ∷ more) = is_wide_place scale width p.place || some_wide scale width more

-- whether the greatest rho isn't at most the least square of the rim
abbrev pub overlaps : Ends → Ends → Bool
overlaps rho rim2 = int_lt rim2.lo rho.hi

-- the first surface whose rim isn't certainly cleared, the places being those from surface j on
abbrev pub rim_word_at : ℕ → Ends → Option Ends → Word → Word
rim_word_at j rho None rest = rest
rim_word_at j rho (Some rim2) rest = if overlaps rho rim2 then word.Undecided j rho rim2 else rest

abbrev pub rim_word : ℕ → List Passed → Word
rim_word j [] = word.Passes
rim_word j (p ∷ more) = rim_word_at j p.place.rho p.rim2 (rim_word (suc j) more)

-- the word: what ended the walk, or at the image wide, undecided or passes, the first of the three that stands
abbrev pub word_of : ℕ → Decimal → Option Word → List Passed → Word
word_of scale width (Some w) places = w
word_of scale width None places = if some_wide scale width places then word.Wide else rim_word 1 places

abbrev pub places_of : List Passed → List Place
places_of [] = []
places_of (p ∷ more) = p.place ∷ places_of more

-- the word and the places at one scale
pub record Outcome : Type 0 where
  pub scale : ℕ
  pub word : Word
  pub places : List Place

unfoldable pub outcome_at : {A : Type 0} → Operations A → ℕ → Setup → Launch → Outcome
outcome_at o scale s ray =
    let w = walked o scale s (residual_units scale s.res) ray in
    record { scale = scale; word = word_of scale s.width w.ended w.places; places = places_of w.places }

-- ---- the scale
-- whether a word says something of every chain
abbrev pub is_definite : Word → Bool
is_definite word.Passes = true
is_definite (word.Vignetted j) = true
is_definite (word.Outside j) = true
is_definite (word.Tir j) = true
is_definite w = false

abbrev pub is_lost : Word → Bool
is_lost (word.Lost j why) = true
is_lost w = false

-- the outcomes from the least scale to the greatest: the first that is definite; else the last that isn't lost; else the last
abbrev pub row_of : Outcome → Outcome → Outcome → Outcome → Outcome
row_of a b c d =
    if is_definite a.word then a else if is_definite b.word then b else if is_definite c.word then c
    else if is_definite d.word then d else if not (is_lost d.word) then d else if not (is_lost c.word) then c
    else if not (is_lost b.word) then b else if not (is_lost a.word) then a else d
