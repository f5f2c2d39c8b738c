-- Where a line may meet an even asphere: the window of z, and the cells of it that are kept. They run in plain intervals.
-- Cited by the crossing of an even asphere.
use Rattle.std.specs.Prelude.{ℕ, zero, suc, ℤ, pos, neg_ℤ, ◌+ℤ◌, ◌-ℤ◌, ◌*ℤ◌, Bool, true, false, ◌&&◌, int_le, List, [], ◌∷◌, map, None}
use Rattle.std.specs.Int.{int_min, int_max}
use Rattle.fixdec.specs.Ends.{Ends}
use Rattle.fixdec.specs.Interval.{iv_size}
use Rattle.fixdec.specs.IntervalOperations.{operations}
use Rattle.fixdec.specs.Operations.{Operations}
use Rattle.fixdec.specs.Rounding.{floor}
use Rattle.fixdec.specs.Steps.{◌>>=◌}
use Rattle.fixdec.specs.declared.step.Step.{Step}
use Rattle.fixdec.specs.declared.step.Step.TheVariants.{Val, Empty, Lost}
use Rattle.lensmodel.specs.Rows.Crossing.{Line, along_row}
use Rattle.lensmodel.specs.Rows.Preparation.{Prepared}
use Rattle.lensmodel.specs.Rows.Sag.{sag_rows}
use Rattle.lensmodel.specs.Rows.Spans.{up_to}

-- ---- hulls
module _ {A : Type 0} (o : Operations A) where
  -- the hulls that the cells use
  abbrev pub hulls : Prepared A → Prepared Ends
  hulls face = record {
    kind = face.kind;
    d = o.hull face.d;
    c = o.hull face.c;
    kappa = o.hull face.kappa;
    ck = o.hull face.ck;
    n = o.hull face.n;
    n2 = None;
    rim2 = None;
    zone2 = None;
    norm = face.norm;
    b = map o.hull face.b;
    sign = face.sign;
    mirror = face.mirror;
  }

  abbrev pub line_hulls : Line A → Line Ends
  line_hulls line = record { x0 = o.hull line.x0; y0 = o.hull line.y0; p = o.hull line.p; q = o.hull line.q }

-- ---- cutting a window
-- the point i of 64 between the ends of a window
abbrev pub cut : Ends → ℕ → ℤ
cut a i = a.lo +ℤ floor ((a.hi -ℤ a.lo) *ℤ pos i) (pos 64)

-- cell i of a window, from 0 to 63
abbrev pub cell : Ends → ℕ → Ends
cell a i = record { lo = cut a i; hi = cut a (suc i) }

-- n cells of a window, from cell i on
abbrev pub cells_from : Ends → ℕ → ℕ → List Ends
cells_from a i zero = []
cells_from a i (suc n) = cell a i ∷ cells_from a (suc i) n

abbrev pub cells : Ends → List Ends
cells a = cells_from a 0 64

-- ---- the hull of the cells that are kept
-- a cell beside the hull of the kept ones behind it
abbrev pub hull_with : Ends → Step Ends → Step Ends
hull_with a (Val b) = Val (record { lo = int_min a.lo b.lo; hi = int_max a.hi b.hi })
hull_with a Empty = Val a
hull_with a (Lost why) = Lost why

abbrev pub hull_if : Bool → Ends → Step Ends → Step Ends
hull_if true a rest = hull_with a rest
hull_if false a rest = rest

-- the hull of the cells that are kept; Empty where none is
abbrev pub kept_hull : (Ends → Bool) → List Ends → Step Ends
kept_hull keeps [] = Empty
kept_hull keeps (z ∷ more) = hull_if (keeps z) z (kept_hull keeps more)

-- a cell is dropped where a row is Empty, or where W and the cell have no common number; with a Lost row it is kept
abbrev pub is_kept : Ends → Step Ends → Bool
is_kept z (Val w) = int_le w.lo z.hi && int_le z.lo w.hi
is_kept z Empty = false
is_kept z (Lost why) = true

module _ (scale : ℕ) where
  abbrev intervals : Operations Ends
  intervals = operations scale

  -- the sizes of the coefficients, added up from the left
  abbrev pub added_sizes : Ends → List Ends → Step Ends
  added_sizes sum [] = Val sum
  added_sizes sum (b ∷ more) = intervals.plus sum (iv_size b) >>= λ next. added_sizes next more

  -- Bd = wd(wd(|c|*zone2 + |b1| + .. + |b8|))
  abbrev pub bound_row : Prepared Ends → Ends → ℤ → Step Ends
  bound_row face zone2 e = do
    sum ← added_sizes (← intervals.times (iv_size face.c) zone2) face.b
    intervals.widen (← intervals.widen sum e) e

  -- the window [-Bd.hi, Bd.hi]
  abbrev pub window_row : Prepared Ends → Ends → ℤ → Step Ends
  window_row face zone2 e = do
    bound ← bound_row face zone2 e
    Val record { lo = neg_ℤ bound.hi; hi = bound.hi }

  -- W = wd(sag(rho)), rho = sq(x0 + (p*Z)) + sq(y0 + (q*Z)) clipped to [0, zone2.hi]
  unfoldable pub cell_rows : Prepared Ends → Ends → Line Ends → ℤ → Ends → Step Ends
  cell_rows face zone2 line e z = do
    x2 ← intervals.square (← along_row intervals line.x0 line.p z)
    y2 ← intervals.square (← along_row intervals line.y0 line.q z)
    rho ← intervals.clip (← intervals.plus x2 y2) (up_to zone2)
    intervals.widen (← sag_rows intervals scale face rho e) e

  abbrev pub keeps : Prepared Ends → Ends → Line Ends → ℤ → Ends → Bool
  keeps face zone2 line e z = is_kept z (cell_rows face zone2 line e z)

  -- what is left of a window
  unfoldable pub pruned : Prepared Ends → Ends → Line Ends → ℤ → Ends → Step Ends
  pruned face zone2 line e a = kept_hull (keeps face zone2 line e) (cells a)
