-- The rows of the start of a ray. Cited by the start of a walk and by the point run.
use Rattle.std.specs.Prelude.{ℕ, ℤ, pos, nat_eq, if◌then◌else◌}
use Rattle.fixdec.specs.Operations.{Operations}
use Rattle.fixdec.specs.Steps.{◌>>=◌}
use Rattle.fixdec.specs.declared.step.Step.{Step}
use Rattle.fixdec.specs.declared.step.Step.TheVariants.{Val}
use Rattle.lensmodel.specs.Rows.Constants.{decimal_row, whole_row}
use Rattle.lensmodel.specs.declared.launch.Launch.{Launch}
use Rattle.lensmodel.specs.declared.launch.Launch.TheVariants.{Plain, Pupil}
use Rattle.lensmodel.specs.Setup.Ratio.{Ratio}

-- where a ray is, its direction, and its path so far
pub record Incoming (A : Type 0) : Type 0 where
  pub x : A
  pub y : A
  pub z : A
  pub l : A
  pub m : A
  pub n : A
  pub path : A

-- a foot in the vertex plane, with the slopes
pub record Sloped (A : Type 0) : Type 0 where
  pub x : A
  pub y : A
  pub p : A
  pub q : A

module _ {A : Type 0} (o : Operations A) (scale : ℕ) where
  -- num, or num/den where den isn't 1
  abbrev pub ratio_row : Ratio → Step A
  ratio_row r =
      if nat_eq r.den 1
      then decimal_row o scale r.num
      else (decimal_row o scale r.num >>= λ a. whole_row o scale (pos r.den) >>= λ b. o.over a b)

  -- x = (r*px) - (p*zp), and y likewise
  abbrev pub pupil_row : A → A → A → A → Step A
  pupil_row r px p zp = do
    o.minus (← o.times r px) (← o.times p zp)

  -- Plain: the four decimals. Pupil: the heights in the vertex plane by those in the pupil
  abbrev pub launch_rows : Launch → Step (Sloped A)
  launch_rows (Plain x y p q) = do
    x ← decimal_row o scale x
    y ← decimal_row o scale y
    p ← decimal_row o scale p
    q ← decimal_row o scale q
    Val record { x = x; y = y; p = p; q = q }
  launch_rows (Pupil p q px py z r) = do
    px ← ratio_row px
    py ← ratio_row py
    p ← decimal_row o scale p
    q ← decimal_row o scale q
    r ← decimal_row o scale r
    zp ← decimal_row o scale z
    x ← pupil_row r px p zp
    y ← pupil_row r py q zp
    Val record { x = x; y = y; p = p; q = q }

  -- N = rt(wd(1)/((1 + sq(p)) + sq(q)))
  abbrev pub axial_row : A → A → ℤ → Step A
  axial_row p q e = do
    one ← whole_row o scale (pos 1)
    o.root (← o.over (← o.widen one e) (← o.plus (← o.plus one (← o.square p)) (← o.square q)))

  -- L = wd(p*N), and M likewise
  abbrev pub lateral_row : A → A → ℤ → Step A
  lateral_row p n e = do
    o.widen (← o.times p n) e

  -- the direction of the slopes; z and path are 0
  unfoldable pub start_rows : Launch → ℤ → Step (Incoming A)
  start_rows ray e = do
    f ← launch_rows ray
    n ← axial_row f.p f.q e
    l ← lateral_row f.p n e
    m ← lateral_row f.q n e
    zero ← whole_row o scale (pos 0)
    Val record { x = f.x; y = f.y; z = zero; l = l; m = m; n = n; path = zero }
