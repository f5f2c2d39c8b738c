-- The rows of the preparation of a surface, in the order in which they are evaluated. Cited by the preparation, by the cross
-- checks and by the walk.
use Rattle.std.specs.Prelude.{ℕ, zero, suc, ℤ, pos, Bool, List, [], ◌∷◌, Option, Some, None, nat_lt, if◌then◌else◌}
use Rattle.fixdec.specs.Decimal.{Decimal}
use Rattle.fixdec.specs.Operations.{Operations}
use Rattle.fixdec.specs.Scaled.{dec_span}
use Rattle.fixdec.specs.Steps.{◌>>=◌}
use Rattle.fixdec.specs.declared.step.Step.{Step}
use Rattle.fixdec.specs.declared.step.Step.TheVariants.{Val}
use Rattle.lensmodel.specs.Rows.Constants.{decimal_row, whole_row}
use Rattle.lensmodel.specs.Rows.Index.{index_rows}
use Rattle.lensmodel.specs.Setup.Media.{medium_at}
use Rattle.lensmodel.specs.Setup.Values.{surface_at, image, reflects, owner, travel, stands_on, tolerances, rim_of, thickness_of}
use Rattle.lensmodel.specs.Setup.Zones.{zone_of, norm_of, scaled_coefficients}
use Rattle.lensmodel.specs.declared.glass.Medium.{Medium}
use Rattle.lensmodel.specs.declared.glass.Medium.TheVariants.{Air, Of}
use Rattle.lensmodel.specs.declared.setup.Setup.{Setup}
use Rattle.lensmodel.specs.declared.surface.Surface.{Surface}
use Rattle.lensmodel.specs.declared.surface.SurfaceKind.{SurfaceKind}
use Rattle.lensmodel.specs.declared.tolerance.Tol.{Tol}
use Rattle.lensmodel.specs.declared.tolerance.TolKind.{TolKind}
use Rattle.lensmodel.specs.declared.tolerance.TolKind.TheVariants.{Curv, Thic, Indx}

-- a prepared surface
pub record Prepared (A : Type 0) : Type 0 where
  pub kind : SurfaceKind
  -- the distance from the vertex before
  pub d : A
  -- the curvature, one plus the conic constant, and their product
  pub c : A
  pub kappa : A
  pub ck : A
  -- the index before the surface, and the index behind it, which the image lacks
  pub n : A
  pub n2 : Option A
  -- the square of the rim and of the zone, where there is one
  pub rim2 : Option A
  pub zone2 : Option A
  -- the power of ten that rho is brought to, and the coefficients b1 to b8
  pub norm : ℤ
  pub b : List A
  -- the sign of travel of the rays that arrive
  pub sign : ℤ
  pub mirror : Bool

module _ {A : Type 0} (o : Operations A) (scale : ℕ) where
  -- ---- single values
  -- the index of a medium at the wavelength; air needs none
  abbrev pub medium_row : Medium → Decimal → ℤ → Step A
  medium_row Air wave e = whole_row o scale (pos 1)
  medium_row (Of g) wave e = do
    index_rows o scale (Of g) (← dec_span scale wave) e

  -- one plus the conic constant
  abbrev pub conic_factor_row : Surface → Step A
  conic_factor_row f = do
    o.plus (← whole_row o scale (pos 1)) (← decimal_row o scale f.conic)

  -- the square of a decimal, where there is one
  abbrev pub square_row : Option Decimal → Step (Option A)
  square_row None = Val None
  square_row (Some d) = do
    Val (Some (← o.square (← decimal_row o scale d)))

  -- decimals in their order
  abbrev pub decimal_rows : List Decimal → Step (List A)
  decimal_rows [] = Val []
  decimal_rows (a ∷ more) = do
    first ← decimal_row o scale a
    rest ← decimal_rows more
    Val (first ∷ rest)

  -- ---- what a tolerance does to the value that it stands on: the rule is given, by the kind and the surface of the value
  -- d: the distance from surface j to the next, 0 from the start
  abbrev pub distance_by : (TolKind → ℕ → A → Step A) → Setup → ℕ → Step A
  distance_by rule s zero = whole_row o scale (pos 0)
  distance_by rule s (suc j) = do
    rule Thic (suc j) (← decimal_row o scale (thickness_of (surface_at s (suc j)).thick))

  abbrev pub curvature_by : (TolKind → ℕ → A → Step A) → Setup → ℕ → Step A
  curvature_by rule s j = do
    rule Curv j (← decimal_row o scale (surface_at s j).curv)

  -- the index behind surface j, with the tolerance of its medium's owner
  abbrev pub index_by : (TolKind → ℕ → A → Step A) → Setup → ℤ → ℕ → Step A
  index_by rule s e j = do
    rule Indx (owner s j) (← medium_row (medium_at s j) s.wave e)

  -- the index behind surface j, where it isn't the image
  abbrev pub index_behind_by : (TolKind → ℕ → A → Step A) → Setup → ℤ → ℕ → Step (Option A)
  index_behind_by rule s e j = if nat_lt j (image s) then (index_by rule s e j >>= λ n. Val (Some n)) else Val None

  -- the preparation of surface j + 1
  unfoldable pub preparation_by : (TolKind → ℕ → A → Step A) → Setup → ℤ → ℕ → Step (Prepared A)
  preparation_by rule s e j = do
    d ← distance_by rule s j
    c ← curvature_by rule s (suc j)
    kappa ← conic_factor_row (surface_at s (suc j))
    ck ← o.times c kappa
    n ← index_by rule s e j
    n2 ← index_behind_by rule s e (suc j)
    rim2 ← square_row (rim_of (surface_at s (suc j)))
    zone2 ← square_row (zone_of (surface_at s (suc j)))
    b ← decimal_rows (scaled_coefficients (surface_at s (suc j)))
    Val record {
      kind = (surface_at s (suc j)).kind;
      d = d;
      c = c;
      kappa = kappa;
      ck = ck;
      n = n;
      n2 = n2;
      rim2 = rim2;
      zone2 = zone2;
      norm = norm_of (surface_at s (suc j));
      b = b;
      sign = travel s j;
      mirror = reflects s (suc j);
    }

  -- ---- the rule of symbols
  -- a value with the symbol of its tolerance, where it has one. Symbols go by the tolerances' places, from i on
  abbrev pub with_symbol_from : ℕ → List Tol → TolKind → ℕ → A → Step A
  with_symbol_from i [] kind j v = Val v
  with_symbol_from i (t ∷ ts) kind j v =
      if stands_on kind j t then (dec_span scale t.delta >>= λ delta. o.symbol v i delta) else with_symbol_from (suc i) ts kind j v

  abbrev pub with_symbol : Setup → TolKind → ℕ → A → Step A
  with_symbol s kind j v = with_symbol_from 0 (tolerances s.toler) kind j v

  abbrev pub index_row : Setup → ℤ → ℕ → Step A
  index_row s e j = index_by (with_symbol s) s e j

  -- the preparation of surface j + 1, each tolerance by its symbol
  unfoldable pub preparation_rows : Setup → ℤ → ℕ → Step (Prepared A)
  preparation_rows s e j = preparation_by (with_symbol s) s e j
