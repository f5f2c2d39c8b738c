-- Membership: which fractions a value stands for.
use Rattle.std.specs.Prelude.{ℕ, ℤ, pos, negsuc, suc, ◌^◌}
use Rattle.fixdec.specs.Ends.{Ends}
use Rattle.fixdec.specs.Frac.{Frac, ◌≈◌, ◌≤Q◌, ◌*Q◌, ◌-Q◌, whole}

-- the number of units in one at a scale, as a fraction
abbrev pub units : ℕ → Frac
units scale = whole (pos (10 ^ scale))

-- v lies between the ends, in units of the scale
pub record IsMember (scale : ℕ) (a : Ends) (v : Frac) : Type 0 where
  pub low : whole a.lo ≤Q v *Q units scale
  pub high : v *Q units scale ≤Q whole a.hi

-- u and v differ by at most e units of the scale
pub record IsNear (scale : ℕ) (e : ℤ) (u v : Frac) : Type 0 where
  pub above : (v -Q u) *Q units scale ≤Q whole e
  pub below : (u -Q v) *Q units scale ≤Q whole e

-- v is u over ten to the power k
abbrev pub IsShifted : ℤ → Frac → Frac → Type 0
IsShifted (pos k) u v = v *Q whole (pos (10 ^ k)) ≈ u
IsShifted (negsuc k) u v = v ≈ u *Q whole (pos (10 ^ suc k))

-- the symbols by their numbers, each a fraction from -1 to 1
pub record Symbols : Type 0 where
  pub at : ℕ → Frac
  pub low : (i : ℕ) → whole (negsuc 0) ≤Q at i
  pub high : (i : ℕ) → at i ≤Q whole (pos 1)
