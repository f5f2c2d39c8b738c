-- What the rows of a crossing clip lies within the cap: said of each step, and of the rows as a whole.
use Rattle.std.proofs.Common.{◌≡◌, ℕ}
use Rattle.std.specs.Prelude.{ℤ, pos}
use Rattle.fixdec.specs.Ends.{Ends, InCap}
use Rattle.fixdec.specs.Operations.{Operations}
use Rattle.fixdec.specs.Steps.{◌>>=◌}
use Rattle.fixdec.specs.declared.step.Step.{Step}
use Rattle.fixdec.specs.declared.step.Step.TheVariants.{Val}
use Rattle.lensmodel.specs.Rows.Constants.{whole_row}
use Rattle.lensmodel.specs.Rows.Crossing.{Arrival, Met, arrival_rows, along_row, rho_row, path_rows}
use Rattle.lensmodel.specs.Rows.Hit.{meet_rows, point_rows}
use Rattle.lensmodel.specs.Rows.Preparation.{Prepared}
use Rattle.lensmodel.specs.Rows.Spans.{positive}
use Rattle.lensmodel.specs.Rows.Start.{Incoming}
use Rattle.lensmodel.specs.declared.surface.SurfaceKind.TheVariants.{Standard}
use Rattle.hitsolve.specs.Hits.{ClipsWithinCap}
use Rattle.hitsolve.specs.Values.{IfVal, if_val}

-- both ends of an interval lie within the cap
abbrev pub IsInCap : Ends → Type 0
IsInCap a = InCap a.lo × InCap a.hi

module _ {A : Type 0} (o : Operations A) where
  -- so do those of a value, where there is one
  abbrev pub IsCapped : Step A → Type 0
  IsCapped r = IfVal r (λ v. InCap (o.hull v).hi)

  -- a value clipped to the numbers that aren't negative
  abbrev pub clipped_row : Step A → Step A
  clipped_row v = do
    o.clip (← v) positive

module _ {A : Type 0} (o : Operations A) (scale : ℕ) where
  -- what w of a standard surface is clipped from: 1 - (ck*zj)
  abbrev pub unclipped_w_row : Prepared A → A → Step A
  unclipped_w_row face z = do
    o.minus (← whole_row o scale (pos 1)) (← o.times face.ck z)

  -- of a standard surface, the rest of the point once w is there
  abbrev pub standard_point_rows : Prepared A → Incoming A → Arrival A → A → Step A → ℤ → Step (Met A)
  standard_point_rows face ray arrival z w e = do
    w ← w
    x ← along_row o arrival.line.x0 arrival.line.p z
    y ← along_row o arrival.line.y0 arrival.line.q z
    rho ← rho_row o x y
    path ← path_rows o face ray arrival z e
    Val record { x = x; y = y; z = z; rho = rho; w = w; path = path }

  -- ---- what is clipped is capped
  abbrev pub CapsW : Prepared A → A → Type 0
  CapsW face z = face.kind ≡ Standard → IsCapped o (unclipped_w_row face z)

  abbrev pub CapsMet : Prepared A → Step A → Type 0
  CapsMet face z = IfVal z (λ z. CapsW face z)

  abbrev pub CapsCrossed : Prepared A → ℤ → Step (Arrival A) → Type 0
  CapsCrossed face e a = IfVal a (λ a. CapsMet face (meet_rows o scale face a.line e))

  -- the point where the line meets the surface, once that is known; and the whole crossing, once the line is
  abbrev pub met_rows : Prepared A → Incoming A → Arrival A → Step A → ℤ → Step (Met A)
  met_rows face ray arrival z e = do
    point_rows o scale face.kind face ray arrival (← z) e

  abbrev pub crossed_rows : Prepared A → Incoming A → Step (Arrival A) → ℤ → Step (Met A)
  crossed_rows face ray a e = do
    arrival ← a
    z ← meet_rows o scale face arrival.line e
    point_rows o scale face.kind face ray arrival z e

  then_val : {B C : Type 0} (r : Step B) (f : B → Step C) (x : B) (y : Step C) → r ≡ Val x → f x ≡ y → (r >>= f) ≡ y
  then_val r f x y e h = rw e h

  pub clips_within_cap : (face : Prepared A) (ray : Incoming A) (e : ℤ) → CapsCrossed face e (arrival_rows o face ray e) → ClipsWithinCap scale o face ray e
  clips_within_cap face ray e h a z k ea ez one t d e1 e2 e3 =
      let m : CapsMet face (meet_rows o scale face a.line e) = if_val (λ a. CapsMet face (meet_rows o scale face a.line e)) ea h in
      let w : CapsW face z = if_val (λ z. CapsW face z) ez m in
      if_val (λ v. InCap (o.hull v).hi)
      (then_val (whole_row o scale (pos 1)) (λ one. o.times face.ck z >>= λ t. o.minus one t) one (Val d) e1
      (then_val (o.times face.ck z) (λ t. o.minus one t) t (Val d) e2 e3)) (w k)
