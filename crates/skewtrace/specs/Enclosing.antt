-- What a walk knows of each surface as it passes: that the crossing and the direction behind it hold every chain. Cited by
-- the walk at one scale.
use Rattle.std.proofs.Common.{◌≡◌, ℕ, zero, suc, ◌-◌, ◌≤◌, false, arith}
use Rattle.std.specs.Prelude.{nat_eq, Option}
use Rattle.fixdec.specs.Ends.{Ends}
use Rattle.fixdec.specs.Frac.{Frac}
use Rattle.fixdec.specs.Member.{Symbols}
use Rattle.fixdec.specs.Operations.{Operations}
use Rattle.fixdec.specs.Steps.{OnVal}
use Rattle.fixdec.specs.declared.step.Step.{Step}
use Rattle.fixdec.specs.declared.step.Step.TheVariants.{Val, Empty, Lost}
use Rattle.lensmodel.specs.Claims.Enclosure.{HasIndices, HoldsPrepared, HoldsRay, HoldsMet, HoldsDirection, EnclosesCrossing}
use Rattle.lensmodel.specs.Equations.Bending.{Bends}
use Rattle.lensmodel.specs.Equations.Chain.{Chain}
use Rattle.lensmodel.specs.Equations.Crossing.{Transfers, Crosses}
use Rattle.lensmodel.specs.Rows.Bending.{Direction}
use Rattle.lensmodel.specs.Rows.Crossing.{Met}
use Rattle.lensmodel.specs.Rows.Hit.{hit_rows}
use Rattle.lensmodel.specs.Rows.Preparation.{Prepared, preparation_rows}
use Rattle.lensmodel.specs.Rows.Start.{Incoming}
use Rattle.lensmodel.specs.Setup.Values.{image}
use Rattle.lensmodel.specs.declared.setup.Setup.{Setup}
use Rattle.skewtrace.specs.Turns.{Turn, Goes, Halts, hull_if, is_clipped, units, departure, turn, turn_at}

-- the direction behind surface j + 1, bent or not, holds how every chain leaves
abbrev pub EnclosesDeparture : {A : Type 0} → (A → Symbols → Frac → Type 0) → Setup → ℕ → Prepared A → Incoming A → Met A → Step (Direction A) → Type 0
EnclosesDeparture member s j face ray h r =
    (c : Chain) → HasIndices s c → HoldsPrepared member s c j face → HoldsRay member c j ray → HoldsMet member c j h
    → Transfers s c j → Crosses s c j → Bends s c j → OnVal r (λ d. HoldsDirection member c j d)

module _ {A : Type 0} (o : Operations A) (scale : ℕ) (member : A → Symbols → Frac → Type 0) (s : Setup) where
  -- what is known once a point of surface j is there: where the ray goes on, the direction holds
  abbrev pub LeavesSurely : ℕ → Prepared A → Incoming A → Met A → Option Ends → Type 0
  LeavesSurely j face ray h rim2 =
      is_clipped (o.hull h.rho) rim2 ≡ false → nat_eq j (image s) ≡ false
      → EnclosesDeparture member s (j - 1) face ray h (departure o scale s j face ray h)

  abbrev pub MeetsSurely : ℕ → Prepared A → Incoming A → Met A → Type 0
  MeetsSurely j face ray h = LeavesSurely j face ray h (hull_if o.hull face.rim2)

  abbrev pub HitsSurely : ℕ → Prepared A → Incoming A → Step (Met A) → Type 0
  HitsSurely j face ray (Val h) = MeetsSurely j face ray h
  HitsSurely j face ray Empty = Unit {0}
  HitsSurely j face ray (Lost why) = Unit {0}

  abbrev pub CrossesSurely : ℕ → Prepared A → Incoming A → Step (Met A) → Type 0
  CrossesSurely j face ray r = EnclosesCrossing member s (j - 1) face ray r × HitsSurely j face ray r

  abbrev pub MovesSurely : ℕ → Prepared A → Incoming A → Type 0
  MovesSurely j face ray = CrossesSurely j face ray (hit_rows o scale face ray (units o scale s))

  -- what is known at surface j, from its preparation
  abbrev pub TurnsBySurely : ℕ → Step (Prepared A) → Incoming A → Type 0
  TurnsBySurely j (Val face) ray = MovesSurely j face ray
  TurnsBySurely j Empty ray = Unit {0}
  TurnsBySurely j (Lost why) ray = Unit {0}

  unfoldable pub TurnsSurely : ℕ → Step (Prepared A) → Incoming A → Type 0
  TurnsSurely j face ray = TurnsBySurely j face ray

  abbrev pub GoesOnSurely : Turn A → (Incoming A → Type 0) → Type 0
  GoesOnSurely (Goes p next) after = after next
  GoesOnSurely (Halts w places) after = Unit {0}

  -- what is known at every surface to which a walk comes
  abbrev pub WalksSurely : ℕ → ℕ → Incoming A → Type 0
  WalksSurely zero i ray = Unit {0}
  WalksSurely (suc left) i ray =
      TurnsSurely (suc i) (preparation_rows o scale s (units o scale s) i) ray
      × GoesOnSurely (turn o scale s (suc i) (preparation_rows o scale s (units o scale s) i) ray) (λ next. WalksSurely left (suc i) next)

  -- the same of the walk from surface j to the image
  unfoldable pub IsSureFrom : ℕ → Incoming A → Type 0
  IsSureFrom j ray = WalksSurely (suc (image s) - j) (j - 1) ray

  -- no surface is left behind the image
  pub sure_at_image : (j : ℕ) (ray : Incoming A) → j ≡ suc (image s) → IsSureFrom j ray
  unfolding IsSureFrom
  sure_at_image j ray h = let e : suc (image s) - j ≡ 0 = omega arith in rw e tt

  pub sure_start : (ray : Incoming A) → IsSureFrom 1 ray → WalksSurely (image s) 0 ray
  unfolding IsSureFrom
  sure_start ray k = let e : suc (image s) - 1 ≡ image s = omega arith in rw e at k

  sure_next : (i : ℕ) (ray : Incoming A) → suc i ≤ image s → TurnsSurely (suc i) (preparation_rows o scale s (units o scale s) (suc i - 1)) ray
      → GoesOnSurely (turn_at o scale s (suc i) ray) (λ next. IsSureFrom (suc (suc i)) next) → IsSureFrom (suc i) ray
  unfolding IsSureFrom
  sure_next i ray h t g =
      let a : suc (image s) - suc i ≡ suc (image s - suc i) = omega arith in
      let b : suc i - 1 ≡ i = omega arith in
      let d : suc (image s) - suc (suc i) ≡ image s - suc i = omega arith in
      let f : suc (suc i) - 1 ≡ suc i = omega arith in
      rw (a, b) (rw b at t, rw (b, d, f) at g)

  pub sure_from : (j : ℕ) (ray : Incoming A) → 1 ≤ j → j ≤ image s → TurnsSurely j (preparation_rows o scale s (units o scale s) (j - 1)) ray
      → GoesOnSurely (turn_at o scale s j ray) (λ next. IsSureFrom (suc j) next) → IsSureFrom j ray
  sure_from zero ray l h t g = absurd (omega arith)
  sure_from (suc i) ray l h t g = sure_next i ray h t g
