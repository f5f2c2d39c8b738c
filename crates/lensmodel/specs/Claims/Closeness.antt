-- How far apart two crossings of one line with one surface can be. Cited by the crossing.
use Rattle.std.specs.Prelude.{ℕ, suc, ℤ, pos, ◌≡◌, ◌<ℤ◌}
use Rattle.fixdec.specs.Decimal.{tenth_power}
use Rattle.fixdec.specs.Ends.{Ends}
use Rattle.fixdec.specs.Frac.{Frac, ◌≈◌, ◌+Q◌, ◌-Q◌, ◌*Q◌, whole}
use Rattle.fixdec.specs.Interval.{least_size, greatest_size}
use Rattle.fixdec.specs.Member.{Symbols}
use Rattle.fixdec.specs.Operations.{Operations}
use Rattle.fixdec.specs.declared.step.Step.TheVariants.{Val}
use Rattle.lensmodel.specs.Claims.Enclosure.{HoldsPrepared, HoldsRay}
use Rattle.lensmodel.specs.Equations.Chain.{Chain}
use Rattle.lensmodel.specs.Equations.Crossing.{Transfers, Crosses}
use Rattle.lensmodel.specs.Equations.Residual.{IsWithin}
use Rattle.lensmodel.specs.Rows.Crossing.{Arrival, Root, arrival_rows, root_rows}
use Rattle.lensmodel.specs.Rows.Preparation.{Prepared}
use Rattle.lensmodel.specs.Rows.SlopeRounds.{Round, last_window, round_rows}
use Rattle.lensmodel.specs.Rows.Start.{Incoming}
use Rattle.lensmodel.specs.Setup.Values.{eps}
use Rattle.lensmodel.specs.declared.setup.Setup.{Setup}
use Rattle.lensmodel.specs.declared.surface.SurfaceKind.TheVariants.{Standard, EvenAsph}

-- a raw number at a scale as a fraction
abbrev pub at_scale : ℕ → ℤ → Frac
at_scale scale v = whole v *Q tenth_power scale

-- two chains with the same symbols arrive at surface j + 1 with the same slopes p and q, and cross it on the same line
pub record AreOnLine (j : ℕ) (a b : Chain) : Type 0 where
  pub symbols : a.symbols ≡ b.symbols
  pub p : Frac
  pub q : Frac
  pub slope_x_a : p *Q a.n j ≈ a.l j
  pub slope_x_b : p *Q b.n j ≈ b.l j
  pub slope_y_a : q *Q a.n j ≈ a.m j
  pub slope_y_b : q *Q b.n j ≈ b.m j
  pub line_x : a.x (suc j) -Q p *Q a.z (suc j) ≈ b.x (suc j) -Q p *Q b.z (suc j)
  pub line_y : a.y (suc j) -Q q *Q a.z (suc j) ≈ b.y (suc j) -Q q *Q b.z (suc j)

-- a chain arrives in a ray at a prepared surface, and crosses it
pub record ArrivesIn {A : Type 0} (member : A → Symbols → Frac → Type 0) (s : Setup) (j : ℕ) (f : Prepared A) (ray : Incoming A) (c : Chain) : Type 0 where
  pub prepared : HoldsPrepared member s c j f
  pub incoming : HoldsRay member c j ray
  pub transfer : Transfers s c j
  pub crossing : Crosses s c j

-- the greatest distance of two crossings times g h m0: s (h - g) m0 + 2 eps (m0 + 2) h, where G lies from g to h, m is at least
-- m0 in size, and S* - z* at most s
abbrev pub spread_bound : Frac → Frac → Frac → Frac → Frac → Frac
spread_bound eps g h m0 s = s *Q (h -Q g) *Q m0 +Q whole (pos 2) *Q eps *Q (m0 +Q whole (pos 2)) *Q h

module _ {A : Type 0} (o : Operations A) (scale : ℕ) (member : A → Symbols → Frac → Type 0) where
  -- a standard surface, where R has the least value R0 above 0: the two z differ by at most eps / R0
  abbrev pub StandardAreClose : Setup → ℕ → Prepared A → Incoming A → ℤ → Type 0
  StandardAreClose s j f ray e =
      f.kind ≡ Standard → (arrival : Arrival A) → arrival_rows o f ray e ≡ Val arrival → (k : Root A) → root_rows o scale f arrival.line e ≡ Val k
      → pos 0 <ℤ (o.hull k.r).lo → (a b : Chain) → ArrivesIn member s j f ray a → ArrivesIn member s j f ray b → AreOnLine j a b
      → let r0 = at_scale scale (o.hull k.r).lo in IsWithin (eps s) (a.z (suc j) *Q r0) (b.z (suc j) *Q r0)

  -- an even asphere, by the last round: with G from g to h, the least size m0 of m and the greatest size s of S* - z*, the two
  -- z differ by at most s (1/g - 1/h) + 2 eps (1 + 2/m0) / g
  abbrev pub AspheresAreClose : Setup → ℕ → Prepared A → Incoming A → ℤ → Type 0
  AspheresAreClose s j f ray e =
      f.kind ≡ EvenAsph → (arrival : Arrival A) → arrival_rows o f ray e ≡ Val arrival
      → (window : Ends) → last_window o scale f arrival.line e ≡ Val window → (r : Round A) → round_rows o scale f arrival.line e window ≡ Val r
      → (missed : A) → o.minus r.sag r.middle ≡ Val missed
      → (a b : Chain) → ArrivesIn member s j f ray a → ArrivesIn member s j f ray b → AreOnLine j a b
      → let g = at_scale scale (o.hull r.g).lo in
      let h = at_scale scale (o.hull r.g).hi in
      let m0 = at_scale scale (pos (least_size (o.hull r.m))) in
      let miss = at_scale scale (pos (greatest_size (o.hull missed))) in
      IsWithin (spread_bound (eps s) g h m0 miss) (a.z (suc j) *Q g *Q h *Q m0) (b.z (suc j) *Q g *Q h *Q m0)
