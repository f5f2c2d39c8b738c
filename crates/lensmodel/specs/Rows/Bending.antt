-- The rows of the bending phase: the normal, the cosine of incidence, refraction and reflection. Cited by the normal, the
-- bending, the walk and the point run.
use Rattle.std.specs.Prelude.{ℕ, ℤ, pos, negsuc, Bool, true, false, Option, Some, None}
use Rattle.fixdec.specs.Operations.{Operations}
use Rattle.fixdec.specs.Steps.{◌>>=◌}
use Rattle.fixdec.specs.declared.step.Step.{Step}
use Rattle.fixdec.specs.declared.step.Step.TheVariants.{Val, Lost}
use Rattle.fixdec.specs.declared.step.Why.TheVariants.{Root}
use Rattle.lensmodel.specs.Rows.Constants.{whole_row}
use Rattle.lensmodel.specs.Rows.Crossing.{Met}
use Rattle.lensmodel.specs.Rows.Preparation.{Prepared}
use Rattle.lensmodel.specs.Rows.Sag.{slope_row}
use Rattle.lensmodel.specs.Rows.Spans.{positive, side_of}
use Rattle.lensmodel.specs.Rows.Start.{Incoming}
use Rattle.lensmodel.specs.declared.surface.SurfaceKind.{SurfaceKind}
use Rattle.lensmodel.specs.declared.surface.SurfaceKind.TheVariants.{Standard, EvenAsph}

-- direction cosines
pub record Direction (A : Type 0) : Type 0 where
  pub l : A
  pub m : A
  pub n : A

-- the normal's slope over the height, its length, the cosine of incidence, and N clipped
pub record Normal (A : Type 0) : Type 0 where
  pub e : A
  pub g : A
  pub cos : A
  pub n : A

module _ {A : Type 0} (o : Operations A) where
  -- a sum where the sign is 1, and a difference where it is -1; and the other way round
  abbrev pub with_sign : ℤ → A → A → Step A
  with_sign (pos k) a b = o.plus a b
  with_sign (negsuc k) a b = o.minus a b

  abbrev pub against_sign : ℤ → A → A → Step A
  against_sign (pos k) a b = o.minus a b
  against_sign (negsuc k) a b = o.plus a b

  -- wd(c)/w
  abbrev pub conic_slope_row : Prepared A → A → ℤ → Step A
  conic_slope_row face w e = do
    o.over (← o.widen face.c e) w

  -- E*((x*L) + (y*M))
  abbrev pub along_normal_row : A → Incoming A → Met A → Step A
  along_normal_row slope ray hit = do
    o.times slope (← o.plus (← o.times hit.x ray.l) (← o.times hit.y ray.m))

  -- N - E*(..) where the sign is 1, and E*(..) - N where it is -1
  abbrev pub turned_row : ℤ → A → A → Step A
  turned_row (pos k) n along = o.minus n along
  turned_row (negsuc k) n along = o.minus along n

  -- C = cl(wd(N - (E*((x*L) + (y*M))))/g), the difference turned where the sign is -1
  abbrev pub cosine_row : ℤ → A → A → A → ℤ → Step A
  cosine_row sign n along g e = do
    o.clip (← o.over (← o.widen (← turned_row sign n along) e) g) positive

  -- K = Kp - (n*C)
  abbrev pub bending_row : A → A → A → Step A
  bending_row kp n cos = do
    o.minus kp (← o.times n cos)

  -- L' = wd((ng*L) - ((K*E)*x))/mg, and M' likewise, the sign turned where rays travel back
  abbrev pub across_row : ℤ → A → A → A → A → A → A → ℤ → Step A
  across_row sign ng l k slope x mg e = do
    o.over (← o.widen (← against_sign sign (← o.times ng l) (← o.times (← o.times k slope) x)) e) mg

  -- N' = wd((ng*N) + K)/mg, the sign turned where rays travel back
  abbrev pub onward_row : ℤ → A → A → A → A → ℤ → Step A
  onward_row sign ng n k mg e = do
    o.over (← o.widen (← with_sign sign (← o.times ng n) k) e) mg

  -- L' = wd((g*L) + ((G2*E)*x))/g of a mirror, and M' likewise, the sign turned where rays travel back
  abbrev pub mirrored_row : ℤ → A → A → A → A → A → ℤ → Step A
  mirrored_row sign g l g2 slope x e = do
    o.over (← o.widen (← with_sign sign (← o.times g l) (← o.times (← o.times g2 slope) x)) e) g

  -- N' = wd((g*N) - G2)/g of a mirror, the sign turned where rays travel back
  abbrev pub returned_row : ℤ → A → A → A → ℤ → Step A
  returned_row sign g n g2 e = do
    o.over (← o.widen (← against_sign sign (← o.times g n) g2) e) g

  -- reflection: G2 = C + C, and the direction
  unfoldable pub reflection_rows : Prepared A → Incoming A → Met A → Normal A → ℤ → Step (Direction A)
  reflection_rows face ray hit normal e = do
    g2 ← o.plus normal.cos normal.cos
    l ← mirrored_row face.sign normal.g ray.l g2 normal.e hit.x e
    m ← mirrored_row face.sign normal.g ray.m g2 normal.e hit.y e
    n ← returned_row face.sign normal.g normal.n g2 e
    Val record { l = l; m = m; n = n }

  -- between equal media L and M stay, and N as it is clipped
  unfoldable pub stay_rows : Prepared A → Incoming A → Step (Direction A)
  stay_rows face ray = do
    n ← o.clip ray.n (side_of face.sign)
    Val record { l = ray.l; m = ray.m; n = n }

module _ {A : Type 0} (o : Operations A) (scale : ℕ) where
  -- of an even asphere u = sh(rho, D), a = sh(W1, D): the slope of its polynomial
  abbrev pub polynomial_slope_row : Prepared A → A → Step A
  polynomial_slope_row face rho = do
    u ← o.shift rho face.norm
    o.shift (← slope_row o scale 1 u face.b) face.norm

  -- E = wd(c)/w; of an even asphere E = (wd(c)/w) + (a + a)
  abbrev pub normal_by : SurfaceKind → Prepared A → A → A → ℤ → Step A
  normal_by Standard face rho w e = conic_slope_row o face w e
  normal_by EvenAsph face rho w e = do
    a ← polynomial_slope_row face rho
    o.plus (← conic_slope_row o face w e) (← o.plus a a)

  -- E, by the surface's kind
  unfoldable pub normal_rows : Prepared A → Met A → ℤ → Step A
  normal_rows face hit e = normal_by face.kind face hit.rho hit.w e

  -- g = rt(wd(1 + (sq(E)*rho)))
  abbrev pub length_row : A → A → ℤ → Step A
  length_row slope rho e = do
    o.root (← o.widen (← o.plus (← whole_row o scale (pos 1)) (← o.times (← o.square slope) rho)) e)

  -- E, g and C
  unfoldable pub incidence_rows : Prepared A → Incoming A → Met A → ℤ → Step (Normal A)
  incidence_rows face ray hit e = do
    n ← o.clip ray.n (side_of face.sign)
    slope ← normal_rows face hit e
    g ← length_row slope hit.rho e
    along ← along_normal_row o slope ray hit
    cos ← cosine_row o face.sign n along g e
    Val record { e = slope; g = g; cos = cos; n = n }

  -- Kp = rt(wd(sq(n') - (sq(n)*(1 - sq(C)))))
  abbrev pub snell_row : A → A → A → ℤ → Step A
  snell_row n n2 cos e = do
    o.root (← o.widen (← o.minus (← o.square n2) (← o.times (← o.square n) (← o.minus (← whole_row o scale (pos 1)) (← o.square cos)))) e)

  -- refraction: Kp, K, ng = n*g, mg = n'*g, and the direction
  unfoldable pub refraction_rows : Prepared A → A → Incoming A → Met A → Normal A → ℤ → Step (Direction A)
  refraction_rows face n2 ray hit normal e = do
    kp ← snell_row face.n n2 normal.cos e
    k ← bending_row o kp face.n normal.cos
    ng ← o.times face.n normal.g
    mg ← o.times n2 normal.g
    l ← across_row o face.sign ng ray.l k normal.e hit.x mg e
    m ← across_row o face.sign ng ray.m k normal.e hit.y mg e
    n ← onward_row o face.sign ng normal.n k mg e
    Val record { l = l; m = m; n = n }

  -- reflection at a mirror; refraction where there is a medium behind, which every surface but the image has
  abbrev pub bend_by : Bool → Option A → Prepared A → Incoming A → Met A → Normal A → ℤ → Step (Direction A)
  bend_by true n2 face ray hit normal e = reflection_rows o face ray hit normal e
  bend_by false (Some n2) face ray hit normal e = refraction_rows face n2 ray hit normal e
  bend_by false None face ray hit normal e = Lost Root

  unfoldable pub bend_rows : Prepared A → Incoming A → Met A → ℤ → Step (Direction A)
  bend_rows face ray hit e = do
    normal ← incidence_rows face ray hit e
    bend_by face.mirror face.n2 face ray hit normal e
