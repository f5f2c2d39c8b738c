-- Where a line meets an even asphere is a member of what a slope round answers on a window that holds it.
use Rattle.std.proofs.Common.{ℕ, [], ◌∷◌}
use Rattle.std.specs.Prelude.{ℤ, pos, ◌<ℤ◌}
use Rattle.fixdec.specs.Algebra.Inverse.{inverse, inverse_is}
use Rattle.fixdec.specs.Algebra.Linear.{linear, linear_le, fact, order, no_fact, reads}
use Rattle.fixdec.specs.Algebra.OrderLaws.{lt_of_lt_le, pos_nonzero, zero_le_one}
use Rattle.fixdec.specs.Algebra.Within.{HasSize, within_neg, within_same}
use Rattle.fixdec.specs.Ends.{Ends}
use Rattle.fixdec.specs.Frac.{Frac, ◌≈◌, ◌≤Q◌, ◌<Q◌, ◌+Q◌, ◌*Q◌, ◌-Q◌, whole}
use Rattle.fixdec.specs.Member.{IsMember, Symbols}
use Rattle.fixdec.specs.Operations.{Operations, IsLawful}
use Rattle.fixdec.specs.Steps.{OnVal, OnVal-then}
use Rattle.lensmodel.specs.Equations.Residual.{IsWithin}
use Rattle.lensmodel.specs.Rows.Constants.{whole_row}
use Rattle.lensmodel.specs.Rows.Crossing.{Line}
use Rattle.lensmodel.specs.Rows.Laws.{Covers, on_same, whole_member, widened}
use Rattle.lensmodel.specs.Rows.Preparation.{Prepared}
use Rattle.lensmodel.specs.Rows.Sag.{w_row}
use Rattle.lensmodel.specs.Rows.SlopeRounds.{Points, Round, zone2_of, points_rows, row_T, row_B, if_above_zero, quotient_row, mid_conic_rows, mid_sag_rows, slope_rows, round_rows, next_row, next_rows}
use Rattle.hitsolve.specs.Aspheres.Cells.{rho_up_to}
use Rattle.hitsolve.specs.Aspheres.Conic.{w_row-member}
use Rattle.hitsolve.specs.Aspheres.Identity.{mid_g, mid_sag, root_sum, quotient, sag_slope, rho_slope, slope, sag_miss, conic_miss, root_miss, conic_error, slope_identity}
use Rattle.hitsolve.specs.Aspheres.Meeting.{Asphere, Meets, along, w_of, rho_at, u_at, over_power, HoldsAsphere, HoldsLine}
use Rattle.hitsolve.specs.Aspheres.Middle.{mid_of, HoldsPoints, HoldsMidConic, HoldsMidSag, points_rows-member, middle_value-member, mid_conic_rows-member, mid_sag_rows-member, if_above_zero-member, IsAbove}
use Rattle.hitsolve.specs.Aspheres.MidRoot.{IsMidRoot, one_plus, root_error}
use Rattle.hitsolve.specs.Aspheres.Polynomial.{quotient_row-member}
use Rattle.hitsolve.specs.Aspheres.Powers.{shift-member}
use Rattle.hitsolve.specs.Aspheres.Window.{within_diff}

-- what differs by at most eps from x
near_sum : (eps x d : Frac) → HasSize eps d → IsWithin eps (x +Q d) x
near_sum eps x d h = record {
  above = linear_le (eps ∷ x ∷ d ∷ []) _ _ (search reads depth 16) (order zero_le_one h.below (search reads depth 16) no_fact) tt;
  below = linear_le (eps ∷ x ∷ d ∷ []) _ _ (search reads depth 16) (order zero_le_one h.above (search reads depth 16) no_fact) tt;
}

near_less : (eps x d : Frac) → HasSize eps d → IsWithin eps (x -Q d) x
near_less eps x d h = record {
  above = linear_le (eps ∷ x ∷ d ∷ []) _ _ (search reads depth 16) (order zero_le_one h.above (search reads depth 16) no_fact) tt;
  below = linear_le (eps ∷ x ∷ d ∷ []) _ _ (search reads depth 16) (order zero_le_one h.below (search reads depth 16) no_fact) tt;
}

-- 1 + w and v: their sum is above 0
sum_pos : (w v : Frac) → whole (pos 0) ≤Q w → whole (pos 0) <Q v → whole (pos 0) <Q w +Q v
sum_pos w v n p = lt_of_lt_le p (linear_le (w ∷ v ∷ []) _ _ (search reads depth 16) (order zero_le_one n (search reads depth 16) no_fact) tt)

module _ {A : Type 0} (scale : ℕ) (o : Operations A) (member : A → Symbols → Frac → Type 0) (law : IsLawful scale o member)
    (sy : Symbols) (eps : Frac) (e : ℤ) (covers : Covers scale eps e)
    (f : Asphere) (face : Prepared A) (hf : HoldsAsphere member sy f face) (hz : IsMember scale (zone2_of o face) f.zone2)
    (l : Line Frac) (line : Line A) (hl : HoldsLine member sy l line) where
  -- what a round's rows hold of a point z, at the middle s, by a fraction v near the root
  pub record HoldsRound (bound z zc s v : Frac) (r : Round A) : Type 0 where
    pub middle : member r.middle sy s
    pub sag : member r.sag sy (mid_sag f l z zc s v)
    pub m : member r.m sy (root_sum f l z zc s v)
    pub g : member r.g sy (slope f l z zc s v)
    pub g_pos : whole (pos 0) <Q slope f l z zc s v
    pub g_least : pos 0 <ℤ (o.hull r.g).lo
    pub root : IsMidRoot eps bound (mid_g f (rho_at l s)) v

  module _ (bound z zc : Frac) (meets : Meets eps f l z zc) (size : HasSize bound zc) where
    pub m_pos : (s v : Frac) → whole (pos 0) <Q v → whole (pos 0) <Q root_sum f l z zc s v
    m_pos s v p = sum_pos (w_of f zc) v meets.near_vertex p

    pub m_inverse : (s v : Frac) → whole (pos 0) <Q v → root_sum f l z zc s v *Q inverse (root_sum f l z zc s v) ≈ whole (pos 1)
    m_inverse s v p = inverse_is (root_sum f l z zc s v) (pos_nonzero (m_pos s v p))

    row_T-member : (s : Frac) (at : Points A) → HoldsPoints scale o member law sy l z s at → OnVal (row_T o line at) (λ t. member t sy (rho_slope l z s))
    row_T-member s at h =
        let X = along l.x0 l.p z +Q along l.x0 l.p s in
        let Y = along l.y0 l.q z +Q along l.y0 l.q s in
        OnVal-then (o.plus at.x at.mid_x) _ (λ r. member r sy X) _ (law.plus sy at.x at.mid_x _ _ h.x h.mid_x) λ x hx.
        OnVal-then (o.times line.p x) _ (λ r. member r sy (l.p *Q X)) _ (law.times sy line.p x l.p X hl.p hx) λ px hpx.
        OnVal-then (o.plus at.y at.mid_y) _ (λ r. member r sy Y) _ (law.plus sy at.y at.mid_y _ _ h.y h.mid_y) λ y hy.
        OnVal-then (o.times line.q y) _ (λ r. member r sy (l.q *Q Y)) _ (law.times sy line.q y l.q Y hl.q hy) λ qy hqy.
        law.plus sy px qy _ _ hpx hqy

    row_B-member : (s v : Frac) (m q0 : A) → whole (pos 0) <Q v → member m sy (root_sum f l z zc s v) → member q0 sy (quotient f l z zc s v)
        → OnVal (row_B o face m q0) (λ b. member b sy (sag_slope f l z zc s v))
    row_B-member s v m q0 p hm hq =
        let M = root_sum f l z zc s v in
        OnVal-then (o.over face.c m) _ (λ r. member r sy (f.c *Q inverse M)) _
        (law.over sy face.c m f.c M (f.c *Q inverse M) hf.c hm
        (linear (f.c ∷ M ∷ inverse M ∷ []) _ _ (search reads depth 20 fits 4000) (fact f.c (m_inverse s v p) (search reads depth 20 fits 4000) no_fact) tt)) λ cm hcm.
        OnVal-then (o.shift q0 face.norm) _ (λ r. member r sy (over_power f.power (quotient f l z zc s v))) _
        (shift-member scale o member law sy q0 face.norm f.power (quotient f l z zc s v) hf.norm hq) λ q hqs.
        law.plus sy cm q _ _ hcm hqs

    slope_rows-member : (s v : Frac) (at : Points A) (w mid_w q0 : A) → HoldsPoints scale o member law sy l z s at → whole (pos 0) <Q v
        → member w sy (w_of f zc) → member mid_w sy v → member q0 sy (quotient f l z zc s v)
        → OnVal (slope_rows o scale face line at w mid_w q0) (λ r. member r.m sy (root_sum f l z zc s v) × IsAbove scale o member law sy (slope f l z zc s v) r.g)
    slope_rows-member s v at w mid_w q0 hp p hw hv hq =
        let B = sag_slope f l z zc s v in
        let T = rho_slope l z s in
        OnVal-then (o.plus w mid_w) _ (λ m. member m sy (root_sum f l z zc s v)) _ (law.plus sy w mid_w _ v hw hv) λ m hm.
        OnVal-then (row_B o face m q0) _ (λ b. member b sy B) _ (row_B-member s v m q0 p hm hq) λ b hb.
        OnVal-then (row_T o line at) _ (λ t. member t sy T) _ (row_T-member s at hp) λ t ht.
        OnVal-then (whole_row o scale (pos 1)) _ (λ x. member x sy (whole (pos 1))) _ (whole_member scale o member law sy (pos 1)) λ one h1.
        OnVal-then (o.times t b) _ (λ r. member r sy (T *Q B)) _ (law.times sy t b T B ht hb) λ tb htb.
        OnVal-then (o.minus one tb) _ (λ r. member r sy (slope f l z zc s v)) _ (law.minus sy one tb _ _ h1 htb) λ g hg.
        OnVal-then (if_above_zero o g) _ (IsAbove scale o member law sy (slope f l z zc s v)) _ (if_above_zero-member scale o member law sy g _ hg) λ k hk.
        (hm, hk)

    pub round_rows-member : (a : Ends) (v : Frac) → IsMember scale a z
        → (whole (pos 0) ≤Q mid_g f (rho_at l (mid_of scale a)) → IsMidRoot eps bound (mid_g f (rho_at l (mid_of scale a))) v)
        → OnVal (round_rows o scale face line e a) (HoldsRound bound z zc (mid_of scale a) v)
    unfolding round_rows
    round_rows-member a v ha root =
        let s = mid_of scale a in
        OnVal-then (points_rows o (zone2_of o face) line a) _ (HoldsPoints scale o member law sy l z s) _
        (points_rows-member scale o member law sy (zone2_of o face) line a l z hl ha (rho_up_to scale (zone2_of o face) l z f.zone2 hz meets.zone)) λ at hat.
        OnVal-then (w_row o scale face at.rho e) _ (λ w. member w sy (w_of f zc)) _
        (w_row-member scale o member law sy eps e covers face f.c f.kappa hf.c hf.ck at.rho (rho_at l z) zc hat.rho meets.conic meets.near_vertex) λ w hw.
        OnVal-then (mid_conic_rows o scale face at.mid_rho e) _ (HoldsMidConic scale o member law sy eps e covers f face hf bound (rho_at l s) v) _
        (mid_conic_rows-member scale o member law sy eps e covers f face hf bound v at.mid_rho (rho_at l s) hat.mid_rho root) λ conic hconic.
        OnVal-then (o.shift at.rho face.norm) _ (λ u. member u sy (u_at f l z)) _ (shift-member scale o member law sy at.rho face.norm f.power _ hf.norm hat.rho) λ u hu.
        OnVal-then (o.shift at.mid_rho face.norm) _ (λ u. member u sy (u_at f l s)) _ (shift-member scale o member law sy at.mid_rho face.norm f.power _ hf.norm hat.mid_rho) λ mu hmu.
        OnVal-then (mid_sag_rows o scale face mu conic.sag) _ (HoldsMidSag scale o member law sy eps e covers f face hf (rho_at l s) v) _
        (mid_sag_rows-member scale o member law sy eps e covers f face hf (rho_at l s) v mu conic.sag hmu hconic.sag) λ mid hmid.
        OnVal-then (quotient_row o scale u mid.values) _ (λ q. member q sy (quotient f l z zc s v)) _
        (quotient_row-member scale o member law sy u (u_at f l z) mid.values _ hu hmid.values) λ q0 hq0.
        OnVal-then (slope_rows o scale face line at w conic.w q0) _ (λ r. member r.m sy (root_sum f l z zc s v) × IsAbove scale o member law sy (slope f l z zc s v) r.g) _
        (slope_rows-member s v at w conic.w q0 hat hconic.root.positive hw hconic.w hq0) λ k hk.
        record { middle = middle_value-member scale o member law sy a; sag = hmid.sag; m = hk.0; g = hk.1.holds; g_pos = hk.1.positive; g_least = hk.1.least; root = hconic.root }

    -- the residual of the sag's equation, and the two residuals of the conic's and of the root
    pub sag_small : (s v : Frac) → HasSize eps (sag_miss f l z zc s v)
    sag_small s v = within_diff eps z _ meets.sag

    pub conic_small : HasSize eps (conic_miss f (rho_at l z) zc)
    conic_small = within_same (linear (f.c ∷ f.kappa ∷ zc ∷ rho_at l z ∷ []) _ _ (search reads depth 20 fits 4000) no_fact tt) (within_neg (within_diff eps _ _ meets.conic))

    pub next_row-member : (s v : Frac) (r : Round A) → HoldsRound bound z zc s v r → OnVal (next_row o scale r e) (λ x. member x sy z)
    next_row-member s v r h =
        let S = mid_sag f l z zc s v in
        let M = root_sum f l z zc s v in
        let G = slope f l z zc s v in
        let d = sag_miss f l z zc s v in
        let a = conic_miss f (rho_at l z) zc in
        let b = root_miss f (rho_at l s) v zc in
        let p = h.root.positive in
        OnVal-then (o.minus r.sag r.middle) _ (λ x. member x sy (S -Q s)) _ (law.minus sy r.sag r.middle S s h.sag h.middle) λ x hx.
        OnVal-then (o.widen x e) _ (λ y. member y sy ((S -Q s) +Q d)) _
        (widened scale o member law sy eps e covers x (S -Q s) ((S -Q s) +Q d) hx (near_sum eps (S -Q s) d (sag_small s v))) λ y hy.
        OnVal-then (whole_row o scale (pos 0)) _ (λ x. member x sy (whole (pos 0))) _ (whole_member scale o member law sy (pos 0)) λ zero h0.
        OnVal-then (o.widen zero e) _ (λ x. member x sy (whole (pos 0) +Q a)) _ (widened scale o member law sy eps e covers zero _ _ h0 (near_sum eps (whole (pos 0)) a conic_small)) λ t ht.
        OnVal-then (o.widen t e) _ (λ x. member x sy ((whole (pos 0) +Q a) -Q b)) _
        (widened scale o member law sy eps e covers t _ _ ht (near_less eps (whole (pos 0) +Q a) b (root_error eps bound _ v zc h.root size))) λ k hk.
        OnVal-then (o.over k r.m) _ (λ x. member x sy (conic_error f l z zc s v *Q inverse M)) _
        (law.over sy k r.m ((whole (pos 0) +Q a) -Q b) M _ hk h.m
        (linear (a ∷ b ∷ M ∷ inverse M ∷ []) _ _ (search reads depth 20 fits 4000) (fact (a -Q b) (m_inverse s v p) (search reads depth 20 fits 4000) no_fact) tt)) λ j hj.
        OnVal-then (o.plus y j) _ (λ x. member x sy (((S -Q s) +Q d) +Q conic_error f l z zc s v *Q inverse M)) _ (law.plus sy y j _ _ hy hj) λ i hi.
        OnVal-then (o.over i r.g) _ (λ x. member x sy (z -Q s)) _
        (law.over sy i r.g _ G (z -Q s) hi h.g (slope_identity f l z zc s v (one_plus p) (m_inverse s v p))) λ q hq.
        moved q hq
      where
        moved : (q : A) → member q sy (z -Q s) → OnVal (o.plus r.middle q) (λ x. member x sy z)
        moved q hq = on_same scale o member law sy (o.plus r.middle q) (s +Q (z -Q s)) z (linear (z ∷ s ∷ []) _ _ (search reads depth 16) no_fact tt) (law.plus sy r.middle q s _ h.middle hq)

    pub next_rows-member : (a : Ends) (v : Frac) → IsMember scale a z
        → (whole (pos 0) ≤Q mid_g f (rho_at l (mid_of scale a)) → IsMidRoot eps bound (mid_g f (rho_at l (mid_of scale a))) v)
        → OnVal (next_rows o scale face line e a) (λ x. member x sy z)
    unfolding next_rows
    next_rows-member a v ha root =
        OnVal-then (round_rows o scale face line e a) _ (HoldsRound bound z zc (mid_of scale a) v) _ (round_rows-member a v ha root) λ r hr.
        next_row-member (mid_of scale a) v r hr
