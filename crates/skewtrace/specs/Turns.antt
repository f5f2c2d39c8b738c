-- What a walk does at one surface, its turn there; and the walk as its turns one after another. Cited by the walk at one
-- scale.
use Rattle.std.proofs.Common.{◌≡◌, ℕ, zero, suc, ◌-◌, ◌≤◌, Bool, true, false, List, [], ◌∷◌, refl, arith}
use borrow.Author.Tests.{eqb-true}
use Rattle.std.specs.Prelude.{ℤ, nat_eq, int_lt, Option, Some, None, if◌then◌else◌}
use Rattle.fixdec.specs.Ends.{Ends}
use Rattle.fixdec.specs.Operations.{Operations}
use Rattle.fixdec.specs.declared.step.Step.{Step}
use Rattle.fixdec.specs.declared.step.Step.TheVariants.{Val, Empty, Lost}
use Rattle.fixdec.specs.declared.step.Why.TheVariants.{Root}
use Rattle.lensmodel.specs.Rows.Bending.{Direction}
use Rattle.lensmodel.specs.Rows.Constants.{residual_units}
use Rattle.lensmodel.specs.Rows.Crossing.{Met}
use Rattle.lensmodel.specs.Rows.Hit.{hit_rows}
use Rattle.lensmodel.specs.Rows.Outcome.{Passed, Walked, before, ends_with, hull_of, place_of, with_heading, leaving, is_vignetted, departure_rows, at_left, at_hit, at_prepared, walk}
use Rattle.lensmodel.specs.Rows.Preparation.{Prepared, preparation_rows}
use Rattle.lensmodel.specs.Rows.Start.{Incoming}
use Rattle.lensmodel.specs.Setup.Values.{image}
use Rattle.lensmodel.specs.declared.row.Heading.{Heading}
use Rattle.lensmodel.specs.declared.row.Place.{Place}
use Rattle.lensmodel.specs.declared.row.Word.{Word}
use Rattle.lensmodel.specs.declared.row.Word.TheVariants as word
use Rattle.lensmodel.specs.declared.setup.Setup.{Setup}

-- the walk goes on past a place, or it ends: by a word, or at the image without one, with the place of the surface if the ray
-- has one there
pub data Turn (A : Type 0) : Type 0 where
  Goes : Passed → Incoming A → Turn A
  Halts : Option Word → List Passed → Turn A

-- the places that a turn adds
abbrev pub passed_of : {A : Type 0} → Turn A → List Passed
passed_of (Goes p next) = p ∷ []
passed_of (Halts w places) = places

-- a walk that begins with a turn
abbrev pub follow : {A : Type 0} → Turn A → (Incoming A → Walked) → Walked
follow (Goes p next) go_on = before p (go_on next)
follow (Halts w places) go_on = record { ended = w; places = places }

-- the hull of a value that is there
abbrev pub hull_if : {A : Type 0} → (A → Ends) → Option A → Option Ends
hull_if hull None = None
hull_if hull (Some v) = Some (hull v)

-- the place of a point
abbrev pub place_with : {A : Type 0} → (A → Ends) → Met A → Option Heading → Place
place_with hull h heading = record { rho = hull h.rho; x = hull h.x; y = hull h.y; z = hull h.z; path = hull h.path; heading = heading }

-- whether a rim certainly clips a point
abbrev pub is_clipped : Ends → Option Ends → Bool
is_clipped rho None = false
is_clipped rho (Some rim2) = int_lt rim2.hi rho.lo

module _ {A : Type 0} (o : Operations A) (scale : ℕ) (s : Setup) where
  abbrev pub units : ℤ
  units = residual_units scale s.res

  -- a point as a passed place without a heading
  abbrev pub passed_at : Met A → Option A → Passed
  passed_at h rim2 = record { place = place_of o scale s units h; rim2 = hull_if o.hull rim2 }

  -- the bending phase of surface j, or the direction that stays
  unfoldable pub departure : ℕ → Prepared A → Incoming A → Met A → Step (Direction A)
  departure j face ray h = departure_rows o scale s units face ray h (j - 1)

  -- what follows the bending phase of surface j
  abbrev pub left_turn : ℕ → Met A → Passed → Step (Direction A) → Turn A
  left_turn j h p (Val d) = Goes (record { place = with_heading o scale s units p.place d; rim2 = p.rim2 }) (leaving o scale s units h d)
  left_turn j h p Empty = Halts (Some (word.Tir j)) (p ∷ [])
  left_turn j h p (Lost why) = Halts (Some (word.Lost j why)) (p ∷ [])

  -- the same by the point and the square of its rim
  abbrev pub turn_left : ℕ → Met A → Option Ends → Step (Direction A) → Turn A
  turn_left j h rim2 r = left_turn j h (record { place = place_with o.hull h None; rim2 = rim2 }) r

  -- what follows the point on surface j, by whether the rim clips it and whether the surface is the image
  abbrev pub rim_turn : ℕ → Met A → Passed → Step (Direction A) → Bool → Bool → Turn A
  rim_turn j h p r true b = Halts (Some (word.Vignetted j)) (p ∷ [])
  rim_turn j h p r false true = Halts None (p ∷ [])
  rim_turn j h p r false false = left_turn j h p r

  abbrev pub turn_at_rim : ℕ → Prepared A → Incoming A → Met A → Option Ends → Turn A
  turn_at_rim j face ray h rim2 =
      rim_turn j h (record { place = place_with o.hull h None; rim2 = rim2 }) (departure j face ray h) (is_clipped (o.hull h.rho) rim2) (nat_eq j (image s))

  abbrev pub met_turn : ℕ → Prepared A → Incoming A → Met A → Turn A
  met_turn j face ray h = turn_at_rim j face ray h (hull_if o.hull face.rim2)

  -- what follows the crossing phase of surface j
  abbrev pub hit_turn : ℕ → Prepared A → Incoming A → Step (Met A) → Turn A
  hit_turn j face ray (Val h) = met_turn j face ray h
  hit_turn j face ray Empty = Halts (Some (word.Outside j)) []
  hit_turn j face ray (Lost why) = Halts (Some (word.Lost j why)) []

  abbrev pub cross_turn : ℕ → Prepared A → Incoming A → Turn A
  cross_turn j face ray = hit_turn j face ray (hit_rows o scale face ray units)

  -- the turn at surface j, from its preparation
  abbrev pub turn_by : ℕ → Step (Prepared A) → Incoming A → Turn A
  turn_by j (Val face) ray = cross_turn j face ray
  turn_by j Empty ray = Halts (Some (word.Lost j Root)) []
  turn_by j (Lost why) ray = Halts (Some (word.Lost j why)) []

  unfoldable pub turn : ℕ → Step (Prepared A) → Incoming A → Turn A
  turn j face ray = turn_by j face ray

  -- the preparation of surface j, and the turn there
  abbrev pub prepared_at : ℕ → Step (Prepared A)
  prepared_at j = preparation_rows o scale s units (j - 1)

  abbrev pub turn_at : ℕ → Incoming A → Turn A
  turn_at j ray = turn j (prepared_at j) ray

  -- ---- the walk
  left-follows : (i : ℕ) (h : Met A) (p : Passed) (go_on : Incoming A → Walked) (r : Step (Direction A))
      → at_left o scale s units i h p go_on r ≡ follow (left_turn (suc i) h p r) go_on
  left-follows i h p go_on (Val d) = refl
  left-follows i h p go_on Empty = refl
  left-follows i h p go_on (Lost why) = refl

  departure-is : (i : ℕ) (face : Prepared A) (ray : Incoming A) (h : Met A) → departure (suc i) face ray h ≡ departure_rows o scale s units face ray h i
  unfolding departure
  departure-is i face ray h = let e : suc i - 1 ≡ i = omega arith in rw e refl

  rim-follows : (i : ℕ) (h : Met A) (p : Passed) (go_on : Incoming A → Walked) (r : Step (Direction A)) (a b : Bool)
      → (if a then ends_with (word.Vignetted (suc i)) (p ∷ []) else if b then record { ended = None; places = p ∷ [] } else at_left o scale s units i h p go_on r)
      ≡ follow (rim_turn (suc i) h p r a b) go_on
  rim-follows i h p go_on r true b = refl
  rim-follows i h p go_on r false true = refl
  rim-follows i h p go_on r false false = left-follows i h p go_on r

  met-follows : (i : ℕ) (h : Met A) (rim2 : Option A) (go_on : Incoming A → Walked) (r : Step (Direction A))
      → (let p : Passed = record { place = place_of o scale s units h; rim2 = hull_of o scale s units rim2 } in
      if is_vignetted o scale s units p.place.rho p.rim2 then ends_with (word.Vignetted (suc i)) (p ∷ [])
      else if nat_eq (suc i) (image s) then record { ended = None; places = p ∷ [] } else at_left o scale s units i h p go_on r)
      ≡ follow (rim_turn (suc i) h (passed_at h rim2) r (is_clipped (o.hull h.rho) (hull_if o.hull rim2)) (nat_eq (suc i) (image s))) go_on
  met-follows i h None go_on r = rim-follows i h (passed_at h None) go_on r false (nat_eq (suc i) (image s))
  met-follows i h (Some v) go_on r = rim-follows i h (passed_at h (Some v)) go_on r (int_lt (o.hull v).hi (o.hull h.rho).lo) (nat_eq (suc i) (image s))

  hit-follows : (i : ℕ) (face : Prepared A) (ray : Incoming A) (go_on : Incoming A → Walked) (r : Step (Met A))
      → at_hit o scale s units i ray face go_on r ≡ follow (hit_turn (suc i) face ray r) go_on
  hit-follows i face ray go_on (Val h) = rw (departure-is i face ray h) (met-follows i h face.rim2 go_on (departure_rows o scale s units face ray h i))
  hit-follows i face ray go_on Empty = refl
  hit-follows i face ray go_on (Lost why) = refl

  prepared-follows : (i : ℕ) (face : Step (Prepared A)) (ray : Incoming A) (go_on : Incoming A → Walked)
      → at_prepared o scale s units i ray go_on face ≡ follow (turn (suc i) face ray) go_on
  unfolding turn
  prepared-follows i (Val face) ray go_on = hit-follows i face ray go_on (hit_rows o scale face ray units)
  prepared-follows i Empty ray go_on = refl
  prepared-follows i (Lost why) ray go_on = refl

  pub walk-follows : (left i : ℕ) (ray : Incoming A)
      → walk o scale s units (suc left) i ray ≡ follow (turn (suc i) (preparation_rows o scale s units i) ray) (λ next. walk o scale s units left (suc i) next)
  walk-follows left i ray = prepared-follows i (preparation_rows o scale s units i) ray (λ next. walk o scale s units left (suc i) next)

  -- the walk from surface j to the image
  unfoldable pub walk_from : ℕ → Incoming A → Walked
  walk_from j ray = walk o scale s units (suc (image s) - j) (j - 1) ray

  pub walk_from-start : (ray : Incoming A) → walk_from 1 ray ≡ walk o scale s units (image s) 0 ray
  unfolding walk_from
  walk_from-start ray = let e : suc (image s) - 1 ≡ image s = omega arith in rw e refl

  from-follows : (i : ℕ) (ray : Incoming A) → suc i ≤ image s → walk_from (suc i) ray ≡ follow (turn_at (suc i) ray) (λ next. walk_from (suc (suc i)) next)
  unfolding walk_from
  from-follows i ray h =
      let a : suc (image s) - suc i ≡ suc (image s - suc i) = omega arith in
      let b : suc i - 1 ≡ i = omega arith in
      let d : suc (image s) - suc (suc i) ≡ image s - suc i = omega arith in
      let f : suc (suc i) - 1 ≡ suc i = omega arith in
      rw (a, b, d, f) (walk-follows (image s - suc i) i ray)

  pub walk_from-follows : (j : ℕ) (ray : Incoming A) → 1 ≤ j → j ≤ image s → walk_from j ray ≡ follow (turn_at j ray) (λ next. walk_from (suc j) next)
  walk_from-follows zero ray l h = absurd (omega arith)
  walk_from-follows (suc i) ray l h = from-follows i ray h

  -- no surface is left behind the image
  pub walk_from-image : (j : ℕ) (ray : Incoming A) → j ≡ suc (image s) → walk_from j ray ≡ record { ended = None; places = [] }
  unfolding walk_from
  walk_from-image j ray h = let e : suc (image s) - j ≡ 0 = omega arith in rw e refl

  -- ---- a walk ends without a word at the image alone
  left_ends : (j : ℕ) (h : Met A) (p : Passed) (r : Step (Direction A)) (ps : List Passed) → left_turn j h p r ≡ Halts None ps → j ≡ image s
  left_ends j h p (Val d) ps e = cc
  left_ends j h p Empty ps e = cc
  left_ends j h p (Lost why) ps e = cc

  rim_ends : (j : ℕ) (h : Met A) (p : Passed) (r : Step (Direction A)) (a b : Bool) (ps : List Passed) → nat_eq j (image s) ≡ b → rim_turn j h p r a b ≡ Halts None ps → j ≡ image s
  rim_ends j h p r true b ps n e = cc
  rim_ends j h p r false true ps n e = eqb-true j (image s) n
  rim_ends j h p r false false ps n e = left_ends j h p r ps e

  hit_ends : (j : ℕ) (face : Prepared A) (ray : Incoming A) (r : Step (Met A)) (ps : List Passed) → hit_turn j face ray r ≡ Halts None ps → j ≡ image s
  hit_ends j face ray (Val h) ps e = rim_ends j h (passed_at h face.rim2) (departure j face ray h) (is_clipped (o.hull h.rho) (hull_if o.hull face.rim2)) (nat_eq j (image s)) ps refl e
  hit_ends j face ray Empty ps e = cc
  hit_ends j face ray (Lost why) ps e = cc

  pub turn_ends : (j : ℕ) (face : Step (Prepared A)) (ray : Incoming A) (ps : List Passed) → turn j face ray ≡ Halts None ps → j ≡ image s
  unfolding turn
  turn_ends j (Val face) ray ps e = hit_ends j face ray (hit_rows o scale face ray units) ps e
  turn_ends j Empty ray ps e = cc
  turn_ends j (Lost why) ray ps e = cc
