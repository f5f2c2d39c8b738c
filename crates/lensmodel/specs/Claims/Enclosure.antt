-- What prepared surfaces, rays, crossings and directions hold of a chain, under the chain's own symbols. Cited by the
-- preparation, the crossing, the bending and the walk, in whatever arithmetic they run.
use Rattle.std.specs.Prelude.{ℕ, suc, ℤ, false, ◌≡◌, ◌<◌, List, [], ◌∷◌, Option, Some, None}
use Rattle.fixdec.specs.Decimal.{Decimal, value}
use Rattle.fixdec.specs.Frac.{Frac, ◌*Q◌, ◌≤Q◌, whole}
use Rattle.fixdec.specs.Member.{Symbols, units}
use Rattle.fixdec.specs.Steps.{OnVal}
use Rattle.fixdec.specs.declared.step.Step.{Step}
use Rattle.lensmodel.specs.Equations.Bending.{Bends}
use Rattle.lensmodel.specs.Equations.Chain.{Chain, index_behind}
use Rattle.lensmodel.specs.Equations.Crossing.{Transfers, Crosses, zone_of}
use Rattle.lensmodel.specs.Equations.Dispersion.{IsIndex}
use Rattle.lensmodel.specs.Equations.Start.{Starts}
use Rattle.lensmodel.specs.Rows.Bending.{Direction}
use Rattle.lensmodel.specs.Rows.Crossing.{Met}
use Rattle.lensmodel.specs.Rows.Preparation.{Prepared}
use Rattle.lensmodel.specs.Rows.Start.{Incoming}
use Rattle.lensmodel.specs.Setup.Media.{medium_at, equal_media}
use Rattle.lensmodel.specs.Setup.Values.{surface_at, image, owner, reflects, travel, curvature, conic_factor, distance, rim_of, eps}
use Rattle.lensmodel.specs.Setup.Zones.{norm_of, scaled_coefficients}
use Rattle.lensmodel.specs.declared.launch.Launch.{Launch}
use Rattle.lensmodel.specs.declared.setup.Setup.{Setup}
use Rattle.lensmodel.specs.declared.surface.SurfaceKind.{SurfaceKind}
use Rattle.lensmodel.specs.declared.surface.SurfaceKind.TheVariants.{Standard, EvenAsph}

-- each medium's number in a chain is an index of it
abbrev pub HasIndices : Setup → Chain → Type 0
HasIndices s c = (i : ℕ) → i < image s → IsIndex (eps s) (medium_at s i) s.wave (c.glass_index (owner s i))

-- e units of the scale cover the residual of a setup
abbrev pub CoversResidual : ℕ → Setup → ℤ → Type 0
CoversResidual scale s e = eps s *Q units scale ≤Q whole e

module _ {A : Type 0} (member : A → Symbols → Frac → Type 0) where
  -- a value that is there is a member
  abbrev pub HoldsIf : Option A → Symbols → Frac → Type 0
  HoldsIf None sy v = Unit {0}
  HoldsIf (Some a) sy v = member a sy v

  -- the square of a decimal, where there is one
  abbrev pub HoldsSquare : Option A → Option Decimal → Symbols → Type 0
  HoldsSquare None None sy = Unit {0}
  HoldsSquare (Some a) (Some d) sy = member a sy (value d *Q value d)
  HoldsSquare a d sy = ⊥

  -- the square of the zone, which an even asphere has
  abbrev pub HoldsZone : SurfaceKind → Option A → Option Decimal → Symbols → Type 0
  HoldsZone Standard None semi sy = Unit {0}
  HoldsZone Standard (Some a) semi sy = ⊥
  HoldsZone EvenAsph None semi sy = ⊥
  HoldsZone EvenAsph (Some a) semi sy = member a sy (zone_of semi *Q zone_of semi)

  -- the values of decimals, one by one
  abbrev pub HoldsEach : List A → List Decimal → Symbols → Type 0
  HoldsEach [] [] sy = Unit {0}
  HoldsEach (a ∷ more) (d ∷ rest) sy = member a sy (value d) × HoldsEach more rest sy
  HoldsEach values decimals sy = ⊥

  -- the prepared surface j + 1 holds the values that the surface has in the chain
  pub record HoldsPrepared (s : Setup) (chain : Chain) (j : ℕ) (f : Prepared A) : Type 0 where
    pub kind : f.kind ≡ (surface_at s (suc j)).kind
    pub d : member f.d chain.symbols (distance s chain.symbols j)
    pub c : member f.c chain.symbols (curvature s chain.symbols (suc j))
    pub kappa : member f.kappa chain.symbols (conic_factor s (suc j))
    pub ck : member f.ck chain.symbols (curvature s chain.symbols (suc j) *Q conic_factor s (suc j))
    pub n : member f.n chain.symbols (index_behind s chain j)
    pub n2 : HoldsIf f.n2 chain.symbols (index_behind s chain (suc j))
    pub rim2 : HoldsSquare f.rim2 (rim_of (surface_at s (suc j))) chain.symbols
    pub zone2 : HoldsZone (surface_at s (suc j)).kind f.zone2 (surface_at s (suc j)).semi chain.symbols
    pub norm : f.norm ≡ norm_of (surface_at s (suc j))
    pub b : HoldsEach f.b (scaled_coefficients (surface_at s (suc j))) chain.symbols
    pub sign : f.sign ≡ travel s j
    pub mirror : f.mirror ≡ reflects s (suc j)

  -- a ray that leaves surface j, 0 being the start
  pub record HoldsRay (c : Chain) (j : ℕ) (r : Incoming A) : Type 0 where
    pub x : member r.x c.symbols (c.x j)
    pub y : member r.y c.symbols (c.y j)
    pub z : member r.z c.symbols (c.z j)
    pub l : member r.l c.symbols (c.l j)
    pub m : member r.m c.symbols (c.m j)
    pub n : member r.n c.symbols (c.n j)
    pub path : member r.path c.symbols (c.path j)

  -- where the ray meets surface j + 1
  pub record HoldsMet (c : Chain) (j : ℕ) (h : Met A) : Type 0 where
    pub x : member h.x c.symbols (c.x (suc j))
    pub y : member h.y c.symbols (c.y (suc j))
    pub z : member h.z c.symbols (c.z (suc j))
    pub rho : member h.rho c.symbols (c.rho (suc j))
    pub w : member h.w c.symbols (c.w (suc j))
    pub path : member h.path c.symbols (c.path (suc j))

  -- the direction in which it leaves surface j + 1
  pub record HoldsDirection (c : Chain) (j : ℕ) (d : Direction A) : Type 0 where
    pub l : member d.l c.symbols (c.l (suc j))
    pub m : member d.m c.symbols (c.m (suc j))
    pub n : member d.n c.symbols (c.n (suc j))

  -- ---- what each step encloses; where a step is Empty, there is no such chain
  -- the start: of every ray that starts so
  abbrev pub EnclosesStart : Setup → Launch → Step (Incoming A) → Type 0
  EnclosesStart s ray r = (c : Chain) → Starts s ray c → OnVal r (λ a. HoldsRay c 0 a)

  -- the preparation of surface j + 1
  abbrev pub EnclosesPreparation : Setup → ℕ → Step (Prepared A) → Type 0
  EnclosesPreparation s j r = (c : Chain) → HasIndices s c → OnVal r (λ f. HoldsPrepared s c j f)

  -- the crossing with surface j + 1 of a ray that arrives
  abbrev pub EnclosesCrossing : Setup → ℕ → Prepared A → Incoming A → Step (Met A) → Type 0
  EnclosesCrossing s j f ray r =
      (c : Chain) → HoldsPrepared s c j f → HoldsRay c j ray → Transfers s c j → Crosses s c j → OnVal r (λ h. HoldsMet c j h)

  -- the direction behind surface j + 1 of a ray that arrives and crosses it, where the surface reflects or lies between
  -- different media
  abbrev pub EnclosesBending : Setup → ℕ → Prepared A → Incoming A → Met A → Step (Direction A) → Type 0
  EnclosesBending s j f ray h r =
      equal_media s j ≡ false → (c : Chain) → HasIndices s c → HoldsPrepared s c j f → HoldsRay c j ray → HoldsMet c j h
      → Transfers s c j → Crosses s c j → Bends s c j → OnVal r (λ d. HoldsDirection c j d)
