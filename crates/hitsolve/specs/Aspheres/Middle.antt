-- The middle of a window: its number, the points of the line there and over the window, and the sag there.
use Rattle.std.proofs.Common.{◌≡◌, ℕ, [], ◌∷◌, true, false, arith}
use Rattle.std.proofs.lemmas.Bool.{cond_both}
use Rattle.std.proofs.lemmas.Int.{ints}
use Rattle.std.specs.Prelude.{ℤ, pos, int_lt, ◌<ℤ◌}
use Rattle.fixdec.specs.Algebra.Inverse.{inverse}
use Rattle.fixdec.specs.Algebra.Linear.{linear, linear_le, fact, order, no_fact, reads}
use Rattle.fixdec.specs.Algebra.MemberLaws.{units_nn}
use Rattle.fixdec.specs.Algebra.Order.{le_of_same, le_trans, le_whole}
use Rattle.fixdec.specs.Algebra.FracLaws.{≈_sym}
use Rattle.fixdec.specs.Algebra.MemberLaws.{units_pos}
use Rattle.fixdec.specs.Algebra.OrderLaws.{le_cancel, le_of_lt, le_same_left, lt_from_not, lt_not_le, lt_whole, zero_le_one}
use Rattle.fixdec.specs.Ends.{Ends}
use Rattle.fixdec.specs.Frac.{Frac, ◌≤Q◌, ◌<Q◌, ◌+Q◌, ◌*Q◌, whole}
use Rattle.fixdec.specs.Member.{IsMember, Symbols, units}
use Rattle.fixdec.specs.Operations.{Operations, IsLawful}
use Rattle.fixdec.specs.Steps.{OnVal, OnVal-then}
use Rattle.fixdec.specs.declared.step.Step.TheVariants.{Val, Lost}
use Rattle.fixdec.specs.declared.step.Why.TheVariants.{Root}
use Rattle.lensmodel.specs.Equations.Residual.{IsWithin}
use Rattle.lensmodel.specs.Rows.Constants.{whole_row}
use Rattle.lensmodel.specs.Rows.Crossing.{Line, along_row, rho_row}
use Rattle.lensmodel.specs.Rows.Laws.{Covers, whole_member, widened}
use Rattle.lensmodel.specs.Rows.Preparation.{Prepared}
use Rattle.lensmodel.specs.Rows.Sag.{horner_rows, first_of, sum_row, conic_sag_row}
use Rattle.lensmodel.specs.Rows.SlopeRounds.{Points, MidConic, MidSag, middle_value, points_rows, if_not_below_zero, if_above_zero, mid_g_row, mid_conic_rows, mid_sag_rows}
use Rattle.lensmodel.specs.Rows.Spans.{point, middle, up_to}
use Rattle.hitsolve.specs.Aspheres.Cells.{along_row-member, rho_row-member}
use Rattle.hitsolve.specs.Aspheres.Identity.{mid_g, mid_conic_sag}
use Rattle.hitsolve.specs.Aspheres.Meeting.{Asphere, along, polynomial, rho_at, over_power, HoldsAll, HoldsAsphere, HoldsLine}
use Rattle.hitsolve.specs.Aspheres.MidRoot.{IsMidRoot, one_plus}
use Rattle.hitsolve.specs.Aspheres.Polynomial.{horner_values, horner_rows-member, first-member}
use Rattle.hitsolve.specs.Aspheres.Powers.{power_back}
use Rattle.hitsolve.specs.Aspheres.Sag.{sum_row-member}

-- the middle of a window as a fraction
abbrev pub mid_of : ℕ → Ends → Frac
mid_of scale a = over_power (pos scale) (whole (middle a))

mid_is_member : (scale : ℕ) (a : Ends) → IsMember scale (point (middle a)) (mid_of scale a)
mid_is_member scale a =
    let e = power_back (pos scale) (whole (middle a)) in
    record { low = le_of_same (≈_sym e); high = le_of_same e }

-- a member of what isn't below 0 isn't below 0, and one of what is above 0 is above 0
not_below_zero : (scale : ℕ) (a : Ends) (u : Frac) → IsMember scale a u → int_lt a.lo (pos 0) ≡ false → whole (pos 0) ≤Q u
not_below_zero scale a u h e =
    le_cancel (units scale) (units_pos scale)
    (le_same_left (linear (units scale ∷ []) _ _ (search reads depth 16) no_fact tt) (le_trans (le_whole {a = pos 0} {b = a.lo} (grind (arith, ints, e))) h.low))

above_zero : (scale : ℕ) (a : Ends) (u : Frac) → IsMember scale a u → int_lt (pos 0) a.lo ≡ true → whole (pos 0) <Q u
above_zero scale a u h e =
    lt_from_not (λ k. lt_not_le (lt_whole {a = pos 0} {b = a.lo} (grind (arith, ints, e)))
    (le_trans h.low (linear_le' k)))
  where
    linear_le' : u ≤Q whole (pos 0) → u *Q units scale ≤Q whole (pos 0)
    linear_le' k = linear_le (u ∷ units scale ∷ []) _ _ (search reads depth 16) (order (units_nn scale) k (search reads depth 16) no_fact) tt

module _ {A : Type 0} (scale : ℕ) (o : Operations A) (member : A → Symbols → Frac → Type 0) (law : IsLawful scale o member) (sy : Symbols) where
  -- the points of the line at z and at s
  pub record HoldsPoints (l : Line Frac) (z s : Frac) (at : Points A) : Type 0 where
    pub x : member at.x sy (along l.x0 l.p z)
    pub mid_x : member at.mid_x sy (along l.x0 l.p s)
    pub y : member at.y sy (along l.y0 l.q z)
    pub mid_y : member at.mid_y sy (along l.y0 l.q s)
    pub rho : member at.rho sy (rho_at l z)
    pub mid_rho : member at.mid_rho sy (rho_at l s)

  pub middle_value-member : (a : Ends) → member (middle_value o a) sy (mid_of scale a)
  middle_value-member a = law.of_span sy (point (middle a)) (mid_of scale a) (mid_is_member scale a)

  pub points_rows-member : (zone2 : Ends) (line : Line A) (a : Ends) (l : Line Frac) (z : Frac) → HoldsLine member sy l line → IsMember scale a z
      → IsMember scale (up_to zone2) (rho_at l z) → OnVal (points_rows o zone2 line a) (HoldsPoints l z (mid_of scale a))
  points_rows-member zone2 line a l z h ha hz =
      let s = mid_of scale a in
      let span = o.of_span a in
      let mid = middle_value o a in
      let hs = law.of_span sy a z ha in
      let hm = middle_value-member a in
      OnVal-then (along_row o line.x0 line.p span) _ (λ r. member r sy (along l.x0 l.p z)) _ (along_row-member scale o member law sy line.x0 line.p span l.x0 l.p z h.x0 h.p hs) λ x hx.
      OnVal-then (along_row o line.x0 line.p mid) _ (λ r. member r sy (along l.x0 l.p s)) _ (along_row-member scale o member law sy line.x0 line.p mid l.x0 l.p s h.x0 h.p hm) λ mx hmx.
      OnVal-then (along_row o line.y0 line.q span) _ (λ r. member r sy (along l.y0 l.q z)) _ (along_row-member scale o member law sy line.y0 line.q span l.y0 l.q z h.y0 h.q hs) λ y hy.
      OnVal-then (along_row o line.y0 line.q mid) _ (λ r. member r sy (along l.y0 l.q s)) _ (along_row-member scale o member law sy line.y0 line.q mid l.y0 l.q s h.y0 h.q hm) λ my hmy.
      OnVal-then (rho_row o x y) _ (λ r. member r sy (rho_at l z)) _ (rho_row-member scale o member law sy x y _ _ hx hy) λ r hr.
      OnVal-then (o.clip r (up_to zone2)) _ (λ r. member r sy (rho_at l z)) _ (law.clip sy r (up_to zone2) _ hr hz) λ rho hrho.
      OnVal-then (rho_row o mx my) _ (λ r. member r sy (rho_at l s)) _ (rho_row-member scale o member law sy mx my _ _ hmx hmy) λ mrho hmrho.
      record { x = hx; mid_x = hmx; y = hy; mid_y = hmy; rho = hrho; mid_rho = hmrho }

  pub if_not_below_zero-member : (g : A) (u : Frac) → member g sy u → OnVal (if_not_below_zero o g) (λ r. member r sy u × whole (pos 0) ≤Q u)
  if_not_below_zero-member g u h =
      cond_both (int_lt (o.hull g).lo (pos 0)) (Lost Root) (Val g) (λ r. OnVal r (λ r. member r sy u × whole (pos 0) ≤Q u))
      (λ e. tt) (λ e. (h, not_below_zero scale (o.hull g) u (law.hull sy g u h) e))

  -- a member of what passes is above 0, and so is the least number there
  pub record IsAbove (u : Frac) (g : A) : Type 0 where
    pub holds : member g sy u
    pub positive : whole (pos 0) <Q u
    pub least : pos 0 <ℤ (o.hull g).lo

  pub if_above_zero-member : (g : A) (u : Frac) → member g sy u → OnVal (if_above_zero o g) (IsAbove u)
  if_above_zero-member g u h =
      cond_both (int_lt (pos 0) (o.hull g).lo) (Val g) (Lost Root) (λ r. OnVal r (IsAbove u))
      (λ e. record { holds = h; positive = above_zero scale (o.hull g) u (law.hull sy g u h) e; least = grind (arith, ints, e) }) (λ e. tt)

  module _ (eps : Frac) (e : ℤ) (covers : Covers scale eps e) (f : Asphere) (face : Prepared A) (hf : HoldsAsphere member sy f face) where
    pub mid_g_row-member : (F : A) (r : Frac) → member F sy (f.c *Q r) → OnVal (mid_g_row o scale face F) (λ g. member g sy (mid_g f r) × whole (pos 0) ≤Q mid_g f r)
    mid_g_row-member F r h =
        OnVal-then (whole_row o scale (pos 1)) _ (λ x. member x sy (whole (pos 1))) _ (whole_member scale o member law sy (pos 1)) λ one h1.
        OnVal-then (o.times face.ck F) _ (λ x. member x sy ((f.c *Q f.kappa) *Q (f.c *Q r))) _ (law.times sy face.ck F _ _ hf.ck h) λ x hx.
        OnVal-then (o.minus one x) _ (λ g. member g sy (mid_g f r)) _ (law.minus sy one x _ _ h1 hx) λ g hg.
        if_not_below_zero-member g (mid_g f r) hg

    -- w* and zc*, by a fraction near the root
    pub record HoldsMidConic (bound r v : Frac) (m : MidConic A) : Type 0 where
      pub w : member m.w sy v
      pub sag : member m.sag sy (mid_conic_sag f r v)
      pub root : IsMidRoot eps bound (mid_g f r) v

    pub mid_conic_rows-member : (bound v : Frac) (rho : A) (r : Frac) → member rho sy r → (whole (pos 0) ≤Q mid_g f r → IsMidRoot eps bound (mid_g f r) v)
        → OnVal (mid_conic_rows o scale face rho e) (HoldsMidConic bound r v)
    mid_conic_rows-member bound v rho r hr root =
        OnVal-then (o.times face.c rho) _ (λ x. member x sy (f.c *Q r)) _ (law.times sy face.c rho f.c r hf.c hr) λ F hF.
        OnVal-then (mid_g_row o scale face F) _ (λ g. member g sy (mid_g f r) × whole (pos 0) ≤Q mid_g f r) _ (mid_g_row-member F r hF) λ g hg.
        let is = root hg.1 in
        OnVal-then (o.widen g e) _ (λ x. member x sy (v *Q v)) _ (widened scale o member law sy eps e covers g (mid_g f r) (v *Q v) hg.0 (near is)) λ gw hgw.
        OnVal-then (o.root gw) _ (λ x. member x sy v) _ (law.root sy gw v (le_of_lt is.positive) hgw) λ w hw.
        OnVal-then (conic_sag_row o scale F w) _ (λ x. member x sy (mid_conic_sag f r v)) _ (sag F w is hF hw) λ zc hzc.
        record { w = hw; sag = hzc; root = is }
      where
        near : IsMidRoot eps bound (mid_g f r) v → IsWithin eps (v *Q v) (mid_g f r)
        near is = record {
          above = linear_le (v ∷ mid_g f r ∷ is.miss ∷ eps ∷ []) _ _ (search reads depth 20 fits 4000)
              (order zero_le_one is.near.above (search reads depth 20 fits 4000) (order zero_le_one is.small (search reads depth 20 fits 4000) no_fact)) tt;
          below = linear_le (v ∷ mid_g f r ∷ is.miss ∷ eps ∷ []) _ _ (search reads depth 20 fits 4000)
              (order zero_le_one is.near.below (search reads depth 20 fits 4000) (order zero_le_one is.small (search reads depth 20 fits 4000) no_fact)) tt;
        }

        sag : (F w : A) → IsMidRoot eps bound (mid_g f r) v → member F sy (f.c *Q r) → member w sy v → OnVal (conic_sag_row o scale F w) (λ x. member x sy (mid_conic_sag f r v))
        sag F w is hF hw =
            OnVal-then (whole_row o scale (pos 1)) _ (λ x. member x sy (whole (pos 1))) _ (whole_member scale o member law sy (pos 1)) λ one h1.
            OnVal-then (o.plus one w) _ (λ y. member y sy (whole (pos 1) +Q v)) _ (law.plus sy one w _ v h1 hw) λ y hy.
            law.over sy F y (f.c *Q r) (whole (pos 1) +Q v) (mid_conic_sag f r v) hF hy
            (linear (f.c ∷ r ∷ v ∷ inverse (whole (pos 1) +Q v) ∷ []) _ _ (search reads depth 20 fits 4000)
            (fact (f.c *Q r) (one_plus is.positive) (search reads depth 20 fits 4000) no_fact) tt)

    -- S* and V1* to V8*
    pub record HoldsMidSag (r v : Frac) (m : MidSag A) : Type 0 where
      pub sag : member m.sag sy (mid_conic_sag f r v +Q over_power f.power r *Q polynomial f.b (over_power f.power r))
      pub values : HoldsAll member sy m.values (horner_values f.b (over_power f.power r))

    pub mid_sag_rows-member : (r v : Frac) (u zc : A) → member u sy (over_power f.power r) → member zc sy (mid_conic_sag f r v)
        → OnVal (mid_sag_rows o scale face u zc) (HoldsMidSag r v)
    mid_sag_rows-member r v u zc hu hz =
        let x = over_power f.power r in
        OnVal-then (horner_rows o u face.b) _ (λ vs. HoldsAll member sy vs (horner_values f.b x)) _ (horner_rows-member scale o member law sy u x face.b f.b hu hf.b) λ vs hvs.
        OnVal-then (first_of o scale vs) _ (λ p. member p sy (polynomial f.b x)) _ (first-member scale o member law sy vs f.b x hvs) λ p hp.
        OnVal-then (sum_row o zc u p) _ (λ s. member s sy (mid_conic_sag f r v +Q x *Q polynomial f.b x)) _ (sum_row-member scale o member law sy eps e covers zc u p _ x _ hz hu hp) λ s hs.
        record { sag = hs; values = hvs }
