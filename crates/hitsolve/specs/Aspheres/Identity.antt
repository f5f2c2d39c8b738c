-- What a slope round rests on: how far a point of the line on the surface lies from the middle of a window, exactly.
use Rattle.std.proofs.Common.{[], ◌∷◌}
use Rattle.std.specs.Prelude.{pos, negsuc, neg_ℤ}
use Rattle.fixdec.specs.Algebra.Inverse.{inverse}
use Rattle.fixdec.specs.Algebra.Linear.{linear, fact, no_fact, reads}
use Rattle.fixdec.specs.Decimal.{ten_power}
use Rattle.fixdec.specs.Frac.{Frac, ◌≈◌, ◌+Q◌, ◌*Q◌, ◌-Q◌, neg_Q, whole}
use Rattle.lensmodel.specs.Rows.Crossing.{Line}
use Rattle.hitsolve.specs.Aspheres.Meeting.{Asphere, along, polynomial, w_of, rho_at, u_at, over_power}
use Rattle.hitsolve.specs.Aspheres.Polynomial.{horner_values, quotient_is}
use Rattle.hitsolve.specs.Aspheres.Sag.{sag_of}

-- g*: the square of the root at rho*
abbrev pub mid_g : Asphere → Frac → Frac
mid_g f rho = whole (pos 1) -Q (f.c *Q f.kappa) *Q (f.c *Q rho)

-- zc*, by the fraction v near the root
abbrev pub mid_conic_sag : Asphere → Frac → Frac → Frac
mid_conic_sag f rho v = (f.c *Q rho) *Q inverse (whole (pos 1) +Q v)

-- how far apart the sides of the conic's equation are
abbrev pub conic_miss : Asphere → Frac → Frac → Frac
conic_miss f rho zc = whole (pos 2) *Q zc -Q f.c *Q (rho +Q f.kappa *Q zc *Q zc)

-- what the miss of v leaves in the sag
abbrev pub root_miss : Asphere → Frac → Frac → Frac → Frac
root_miss f rho v zc = zc *Q ((mid_g f rho -Q v *Q v) *Q inverse (whole (pos 1) +Q v))

-- the conic's sags apart, times w + v
conic_identity : (c k zc r s v I : Frac) → (whole (pos 1) +Q v) *Q I ≈ whole (pos 1)
    → (zc -Q (c *Q s) *Q I) *Q ((whole (pos 1) -Q k *Q c *Q zc) +Q v)
    ≈ c *Q (r -Q s) +Q ((whole (pos 2) *Q zc -Q c *Q (r +Q k *Q zc *Q zc)) -Q zc *Q (((whole (pos 1) -Q (c *Q k) *Q (c *Q s)) -Q v *Q v) *Q I))
conic_identity c k zc r s v I h =
    linear (c ∷ k ∷ zc ∷ r ∷ s ∷ v ∷ I ∷ []) _ _ (search reads depth 24 fits 20000)
    (fact (zc *Q (whole (pos 1) -Q v) -Q c *Q s) h (search reads depth 24 fits 20000) no_fact) tt

-- T: the slope of rho along the line, between z and the middle
abbrev pub rho_slope : Line Frac → Frac → Frac → Frac
rho_slope l z s = l.p *Q (along l.x0 l.p z +Q along l.x0 l.p s) +Q l.q *Q (along l.y0 l.q z +Q along l.y0 l.q s)

rho_difference : (l : Line Frac) (z s : Frac) → rho_at l z -Q rho_at l s ≈ (z -Q s) *Q rho_slope l z s
rho_difference l z s = linear (l.x0 ∷ l.y0 ∷ l.p ∷ l.q ∷ z ∷ s ∷ []) _ _ (search reads depth 24 fits 20000) no_fact tt

-- with the sags apart: all of it as one equation in z
slope_equation : (z s zc zs m J c r rs T err t Q P PS : Frac)
    → r -Q rs ≈ (z -Q s) *Q T → (zc -Q zs) *Q m ≈ c *Q (r -Q rs) +Q err → m *Q J ≈ whole (pos 1) → Q *Q (r *Q t -Q rs *Q t) ≈ (r *Q t) *Q P -Q (rs *Q t) *Q PS
    → (z -Q s) *Q (whole (pos 1) -Q T *Q (c *Q J +Q Q *Q t)) ≈ (((zs +Q (rs *Q t) *Q PS) -Q s) +Q (z -Q (zc +Q (r *Q t) *Q P))) +Q err *Q J
slope_equation z s zc zs m J c r rs T err t Q P PS h1 h2 h3 h4 =
    linear (z ∷ s ∷ zc ∷ zs ∷ m ∷ J ∷ c ∷ r ∷ rs ∷ T ∷ err ∷ t ∷ Q ∷ P ∷ PS ∷ []) _ _ (search reads depth 24 fits 20000)
    (fact (c *Q J +Q Q *Q t) h1 (search reads depth 24 fits 20000)
    (fact J h2 (search reads depth 24 fits 20000)
    (fact (neg_Q (zc -Q zs)) h3 (search reads depth 24 fits 20000)
    (fact (whole (negsuc 0)) h4 (search reads depth 24 fits 20000) no_fact)))) tt

-- ---- on an even asphere
module _ (f : Asphere) (l : Line Frac) (z zc s v : Frac) where
  -- S*
  abbrev pub mid_sag : Frac
  mid_sag = mid_conic_sag f (rho_at l s) v +Q u_at f l s *Q polynomial f.b (u_at f l s)

  -- m
  abbrev pub root_sum : Frac
  root_sum = w_of f zc +Q v

  -- Q0
  abbrev pub quotient : Frac
  quotient = polynomial (horner_values f.b (u_at f l s)) (u_at f l z)

  -- B
  abbrev pub sag_slope : Frac
  sag_slope = f.c *Q inverse root_sum +Q over_power f.power quotient

  -- G
  abbrev pub slope : Frac
  slope = whole (pos 1) -Q rho_slope l z s *Q sag_slope

  -- the residual of the sag's equation, and those of the conic's and of the root
  abbrev pub sag_miss : Frac
  sag_miss = z -Q sag_of f zc (rho_at l z)

  abbrev pub conic_error : Frac
  conic_error = conic_miss f (rho_at l z) zc -Q root_miss f (rho_at l s) v zc

  pub slope_identity : (whole (pos 1) +Q v) *Q inverse (whole (pos 1) +Q v) ≈ whole (pos 1) → root_sum *Q inverse root_sum ≈ whole (pos 1)
      → (z -Q s) *Q slope ≈ ((mid_sag -Q s) +Q sag_miss) +Q conic_error *Q inverse root_sum
  slope_identity h k =
      let D = ten_power (neg_ℤ f.power) in
      slope_equation z s zc (mid_conic_sag f (rho_at l s) v) root_sum (inverse root_sum) f.c (rho_at l z) (rho_at l s) (rho_slope l z s) conic_error D quotient
      (polynomial f.b (u_at f l z)) (polynomial f.b (u_at f l s)) (rho_difference l z s)
      (conic_identity f.c f.kappa zc (rho_at l z) (rho_at l s) v (inverse (whole (pos 1) +Q v)) h) k (quotient_is f.b (u_at f l z) (u_at f l s))
