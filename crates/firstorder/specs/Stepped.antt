-- Rows from steps that may be lost. Cited by the paraxial trace of a surface, and by the first-order values.
use Rattle.std.specs.Prelude.{ℕ, ℤ, [], ◌∷◌}
use Rattle.fixdec.specs.Operations.{Operations}
use Rattle.fixdec.specs.Steps.{◌>>=◌}
use Rattle.fixdec.specs.declared.step.Step.{Step}
use Rattle.lensmodel.specs.Paraxial.FirstOrderRows.{FirstRows, ray_row, over_row, minus_over_row, efl_row, front_row}
use Rattle.lensmodel.specs.Paraxial.Losses.{Worked, to_step, row}
use Rattle.lensmodel.specs.Paraxial.TraceRows.{slope_behind_row, next_height_row}
use Rattle.lensmodel.specs.Setup.Values.{image}
use Rattle.lensmodel.specs.declared.setup.Setup.{Setup}
use Rattle.lensmodel.specs.declared.surface.Surface.{Surface}

module _ {A : Type 0} (o : Operations A) where
  abbrev pub minus_from : Step A → Step A → Step A
  minus_from a b = do
    o.minus (← a) (← b)

module _ {A : Type 0} (o : Operations A) (scale : ℕ) where
  abbrev pub slope_from : Step A → Step A → Step A → Step A → Step A → ℤ → Step A
  slope_from y u cv n n2 e = do
    slope_behind_row o scale (← y) (← u) (← cv) (← n) (← n2) e

  abbrev pub height_from : Surface → Step A → Step A → ℤ → Step A
  height_from f y u e = do
    next_height_row o scale f (← y) (← u) e

module _ {A : Type 0} (o : Operations A) (scale : ℕ) (s : Setup) (e : ℤ) where
  abbrev pub over_from : Step A → Step A → Step A
  over_from a b = do
    over_row o scale s e (← a) (← b)

  abbrev pub minus_over_from : Step A → Step A → Step A
  minus_over_from a b = do
    minus_over_row o scale s e (← a) (← b)

  abbrev pub efl_from : Step A → Step A
  efl_from ca = do
    efl_row o scale s e (← ca)

  abbrev pub front_from : Step A → Step A → Step A → Step A → Step A
  front_from ffl n0 efl nk = do
    front_row o scale s e (← ffl) (← n0) (← efl) (← nk)

-- the six values, from the slopes of both rays behind the last surface, the first ray's height there, the first and the last
-- index, and the entrance pupil
module _ {A : Type 0} (o : Operations A) (scale : ℕ) (s : Setup) (e : ℤ) where
  abbrev pub values_from : Worked A → Worked A → Worked A → Worked A → Worked A → Worked A → FirstRows A
  values_from ca cb ya n0 nk enp =
      let efl = row (ray_row (image s) 0 0) (ca ∷ []) (efl_from o scale s e (to_step ca)) in
      let bfl = row (ray_row (image s) 0 1) (ya ∷ ca ∷ []) (minus_over_from o scale s e (to_step ya) (to_step ca)) in
      let ffl = row (ray_row (image s) 0 2) (cb ∷ ca ∷ []) (over_from o scale s e (to_step cb) (to_step ca)) in
      let back = row (ray_row (image s) 0 3) (bfl ∷ efl ∷ []) (minus_from o (to_step bfl) (to_step efl)) in
      let front = row (ray_row (image s) 0 4) (ffl ∷ n0 ∷ efl ∷ nk ∷ []) (front_from o scale s e (to_step ffl) (to_step n0) (to_step efl) (to_step nk)) in
      record { efl = efl; bfl = bfl; ffl = ffl; back = back; front = front; enp = enp }
