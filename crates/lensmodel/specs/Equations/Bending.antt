-- The normal of a surface, refraction and reflection. Cited by chains and by the claims of the bending.
use Rattle.std.specs.Prelude.{ℕ, suc, pos, Bool, true, false}
use Rattle.fixdec.specs.Frac.{Frac, ◌≈◌, ◌≤Q◌, ◌+Q◌, ◌-Q◌, ◌*Q◌, whole}
use Rattle.lensmodel.specs.Equations.Chain.{Chain, index_behind}
use Rattle.lensmodel.specs.Setup.Media.{equal_media}
use Rattle.lensmodel.specs.Equations.Residual.{IsWithin}
use Rattle.lensmodel.specs.Setup.Values.{travel, curvature, coefficients, slope_terms, reflects, eps}
use Rattle.lensmodel.specs.declared.setup.Setup.{Setup}

-- the normal of surface j + 1 at the point: e is its slope over the height, g its length, cos the cosine of incidence
pub record IsNormal (s : Setup) (c : Chain) (j : ℕ) (e g cos : Frac) : Type 0 where
  pub slope : IsWithin (eps s) (e *Q c.w (suc j))
      (curvature s c.symbols (suc j) +Q whole (pos 2) *Q c.w (suc j) *Q slope_terms 1 (coefficients s (suc j)) (c.rho (suc j)))
  pub size : IsWithin (eps s) (g *Q g) (whole (pos 1) +Q e *Q e *Q c.rho (suc j))
  pub cosine : IsWithin (eps s) (g *Q cos) (whole (travel s j) *Q (c.n j -Q e *Q (c.x (suc j) *Q c.l j +Q c.y (suc j) *Q c.m j)))
  pub size_sign : whole (pos 0) ≤Q g
  pub cosine_sign : whole (pos 0) ≤Q cos

-- refraction at surface j + 1 by Snell's law in vectors: cos' is the cosine of refraction, k is n' cos' - n cos
pub record Refracts (s : Setup) (c : Chain) (j : ℕ) : Type 0 where
  pub e : Frac
  pub g : Frac
  pub cos : Frac
  pub cos' : Frac
  pub k : Frac
  pub normal : IsNormal s c j e g cos
  pub snell :
      let n = index_behind s c j in
      let n' = index_behind s c (suc j) in
      IsWithin (eps s) (n' *Q n' *Q (cos' *Q cos')) (n' *Q n' -Q n *Q n *Q (whole (pos 1) -Q cos *Q cos))
  pub cosine_sign : whole (pos 0) ≤Q cos'
  pub bending : k ≈ index_behind s c (suc j) *Q cos' -Q index_behind s c j *Q cos
  pub l : IsWithin (eps s) (index_behind s c (suc j) *Q c.l (suc j) *Q g)
      (index_behind s c j *Q c.l j *Q g -Q whole (travel s j) *Q (k *Q e *Q c.x (suc j)))
  pub m : IsWithin (eps s) (index_behind s c (suc j) *Q c.m (suc j) *Q g)
      (index_behind s c j *Q c.m j *Q g -Q whole (travel s j) *Q (k *Q e *Q c.y (suc j)))
  pub n : IsWithin (eps s) (index_behind s c (suc j) *Q c.n (suc j) *Q g)
      (index_behind s c j *Q c.n j *Q g +Q whole (travel s j) *Q k)

-- reflection at surface j + 1
pub record Reflects (s : Setup) (c : Chain) (j : ℕ) : Type 0 where
  pub e : Frac
  pub g : Frac
  pub cos : Frac
  pub normal : IsNormal s c j e g cos
  pub l : IsWithin (eps s) (g *Q c.l (suc j)) (g *Q c.l j +Q whole (travel s j) *Q (whole (pos 2) *Q cos *Q e *Q c.x (suc j)))
  pub m : IsWithin (eps s) (g *Q c.m (suc j)) (g *Q c.m j +Q whole (travel s j) *Q (whole (pos 2) *Q cos *Q e *Q c.y (suc j)))
  pub n : IsWithin (eps s) (g *Q c.n (suc j)) (g *Q c.n j -Q whole (travel s j) *Q (whole (pos 2) *Q cos))

-- between equal media the direction stays
pub record Stays (c : Chain) (j : ℕ) : Type 0 where
  pub l : c.l (suc j) ≈ c.l j
  pub m : c.m (suc j) ≈ c.m j
  pub n : c.n (suc j) ≈ c.n j

-- by whether the surface reflects, and whether the media are equal
abbrev pub BendsBy : Bool → Bool → Setup → Chain → ℕ → Type 0
BendsBy true equal s c j = Reflects s c j
BendsBy false true s c j = Stays c j
BendsBy false false s c j = Refracts s c j

-- how the ray leaves surface j + 1
abbrev pub Bends : Setup → Chain → ℕ → Type 0
Bends s c j = BendsBy (reflects s (suc j)) (equal_media s j) s c j
