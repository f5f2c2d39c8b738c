-- Where a line crosses a standard surface: the root of the rows is a member of what they answer, and two crossings are close.
use Rattle.std.proofs.Common.{◌≡◌, ℕ, [], ◌∷◌}
use Rattle.std.specs.Prelude.{ℤ, pos, ◌<ℤ◌}
use Rattle.fixdec.specs.Algebra.Inverse.{inverse, inverse_is}
use Rattle.fixdec.specs.Algebra.Linear.{linear, linear_le, fact, order, no_fact, reads}
use Rattle.fixdec.specs.Algebra.OrderLaws.{le_of_lt, lt_of_lt_le, mul_nn, pos_nonzero, zero_le_one}
use Rattle.fixdec.specs.Algebra.Within.{HasSize, within_cancel, within_more, within_nn, within_same, within_sub}
use Rattle.fixdec.specs.Frac.{Frac, ◌≈◌, ◌≤Q◌, ◌<Q◌, ◌+Q◌, ◌*Q◌, ◌-Q◌, whole}
use Rattle.fixdec.specs.Member.{Symbols}
use Rattle.fixdec.specs.Operations.{Operations, IsLawful}
use Rattle.fixdec.specs.Steps.{OnVal, OnVal-then}
use Rattle.fixdec.specs.declared.step.Step.TheVariants.{Val}
use Rattle.lensmodel.specs.Equations.Residual.{IsWithin}
use Rattle.lensmodel.specs.Rows.Constants.{whole_row}
use Rattle.lensmodel.specs.Rows.Crossing.{Line, Root, rho_row, row_A, row_H, row_F, row_R, root_rows, meet_standard_rows}
use Rattle.lensmodel.specs.Rows.Laws.{Covers, whole_member, widened}
use Rattle.lensmodel.specs.Rows.Preparation.{Prepared}
use Rattle.hitsolve.specs.Aspheres.Cells.{rho_row-member}
use Rattle.hitsolve.specs.Aspheres.Close.{at_scale, at_scale-pos, member_low}
use Rattle.hitsolve.specs.Aspheres.CloseCrossings.{on_val}
use Rattle.hitsolve.specs.Aspheres.Conic.{IsConic}
use Rattle.hitsolve.specs.Aspheres.Meeting.{along, rho_at, HoldsLine}
use Rattle.hitsolve.specs.Aspheres.MidRoot.{inverse_pos}
use Rattle.hitsolve.specs.Aspheres.Window.{within_diff}

-- a line meets the conic at z within the residual, where the surface faces the ray
pub record MeetsConic (eps c k : Frac) (l : Line Frac) (z : Frac) : Type 0 where
  pub conic : IsConic eps c k (rho_at l z) z
  pub faces : c *Q (along l.x0 l.p z *Q l.p +Q along l.y0 l.q z *Q l.q) ≤Q whole (pos 1) -Q k *Q c *Q z

-- A, H and F of the line, F so that z is exactly a root, and the root R = H - A z
module _ (c k : Frac) (l : Line Frac) where
  abbrev pub quadratic : Frac
  quadratic = c *Q ((l.p *Q l.p +Q l.q *Q l.q) +Q k)

  abbrev pub half_linear : Frac
  half_linear = whole (pos 1) -Q c *Q (l.p *Q l.x0 +Q l.q *Q l.y0)

  abbrev pub constant_at : Frac → Frac
  constant_at z = whole (pos 2) *Q half_linear *Q z -Q quadratic *Q (z *Q z)

  abbrev pub root_at : Frac → Frac
  root_at z = half_linear -Q quadratic *Q z

  constant_near : (eps z : Frac) → MeetsConic eps c k l z → IsWithin eps (constant_at z) (c *Q (l.x0 *Q l.x0 +Q l.y0 *Q l.y0))
  constant_near eps z h = record {
    above = linear_le (eps ∷ c ∷ k ∷ z ∷ l.x0 ∷ l.y0 ∷ l.p ∷ l.q ∷ []) _ _ (search reads depth 24 fits 20000) (order zero_le_one h.conic.below (search reads depth 24 fits 20000) no_fact) tt;
    below = linear_le (eps ∷ c ∷ k ∷ z ∷ l.x0 ∷ l.y0 ∷ l.p ∷ l.q ∷ []) _ _ (search reads depth 24 fits 20000) (order zero_le_one h.conic.above (search reads depth 24 fits 20000) no_fact) tt;
  }

  pub root_nn : (eps z : Frac) → MeetsConic eps c k l z → whole (pos 0) ≤Q root_at z
  root_nn eps z h = linear_le (c ∷ k ∷ z ∷ l.x0 ∷ l.y0 ∷ l.p ∷ l.q ∷ []) _ _ (search reads depth 24 fits 20000) (order zero_le_one h.faces (search reads depth 24 fits 20000) no_fact) tt

  root_square : (z : Frac) → half_linear *Q half_linear -Q quadratic *Q constant_at z ≈ root_at z *Q root_at z
  root_square z = linear (c ∷ k ∷ z ∷ l.x0 ∷ l.y0 ∷ l.p ∷ l.q ∷ []) _ _ (search reads depth 24 fits 20000) no_fact tt

  -- two crossings apart, times the sum of their roots
  pub roots_apart : (eps z w : Frac) → MeetsConic eps c k l z → MeetsConic eps c k l w → HasSize (eps +Q eps) ((z -Q w) *Q (root_at z +Q root_at w))
  roots_apart eps z w h m =
      within_same (linear (c ∷ k ∷ z ∷ w ∷ l.x0 ∷ l.y0 ∷ l.p ∷ l.q ∷ []) _ _ (search reads depth 24 fits 20000) no_fact tt)
      (within_sub (within_diff eps (constant_at z) (c *Q (l.x0 *Q l.x0 +Q l.y0 *Q l.y0)) (constant_near eps z h))
      (within_diff eps (constant_at w) (c *Q (l.x0 *Q l.x0 +Q l.y0 *Q l.y0)) (constant_near eps w m)))

module _ {A : Type 0} (scale : ℕ) (o : Operations A) (member : A → Symbols → Frac → Type 0) (law : IsLawful scale o member)
    (sy : Symbols) (eps : Frac) (e : ℤ) (covers : Covers scale eps e)
    (face : Prepared A) (c k : Frac) (hc : member face.c sy c) (hk : member face.kappa sy k) (l : Line Frac) (line : Line A) (hl : HoldsLine member sy l line) where
  row_A-member : OnVal (row_A o scale face line) (λ r. member r sy (quadratic c k l))
  row_A-member =
      OnVal-then (o.square line.p) _ (λ r. member r sy (l.p *Q l.p)) _ (law.square sy line.p l.p hl.p) λ p2 h1.
      OnVal-then (o.square line.q) _ (λ r. member r sy (l.q *Q l.q)) _ (law.square sy line.q l.q hl.q) λ q2 h2.
      OnVal-then (o.plus p2 q2) _ (λ r. member r sy (l.p *Q l.p +Q l.q *Q l.q)) _ (law.plus sy p2 q2 _ _ h1 h2) λ s h3.
      OnVal-then (o.plus s face.kappa) _ (λ r. member r sy ((l.p *Q l.p +Q l.q *Q l.q) +Q k)) _ (law.plus sy s face.kappa _ k h3 hk) λ t h4.
      law.times sy face.c t c _ hc h4

  row_H-member : OnVal (row_H o scale face line) (λ r. member r sy (half_linear c k l))
  row_H-member =
      OnVal-then (whole_row o scale (pos 1)) _ (λ r. member r sy (whole (pos 1))) _ (whole_member scale o member law sy (pos 1)) λ one h1.
      OnVal-then (o.times line.p line.x0) _ (λ r. member r sy (l.p *Q l.x0)) _ (law.times sy line.p line.x0 _ _ hl.p hl.x0) λ px h2.
      OnVal-then (o.times line.q line.y0) _ (λ r. member r sy (l.q *Q l.y0)) _ (law.times sy line.q line.y0 _ _ hl.q hl.y0) λ qy h3.
      OnVal-then (o.plus px qy) _ (λ r. member r sy (l.p *Q l.x0 +Q l.q *Q l.y0)) _ (law.plus sy px qy _ _ h2 h3) λ s h4.
      OnVal-then (o.times face.c s) _ (λ r. member r sy (c *Q (l.p *Q l.x0 +Q l.q *Q l.y0))) _ (law.times sy face.c s c _ hc h4) λ t h5.
      law.minus sy one t _ _ h1 h5

  -- F, H and R hold what makes z a root
  pub record HoldsRoot (z : Frac) (at : Root A) : Type 0 where
    pub f : member at.f sy (constant_at c k l z)
    pub h : member at.h sy (half_linear c k l)
    pub r : member at.r sy (root_at c k l z)

  pub root_rows-member : (z : Frac) → MeetsConic eps c k l z → OnVal (root_rows o scale face line e) (HoldsRoot z)
  root_rows-member z m =
      let A' = quadratic c k l in
      let H = half_linear c k l in
      let F = constant_at c k l z in
      OnVal-then (row_A o scale face line) _ (λ r. member r sy A') _ row_A-member λ a ha.
      OnVal-then (row_H o scale face line) _ (λ r. member r sy H) _ row_H-member λ h hh.
      OnVal-then (row_F o scale face line e) _ (λ r. member r sy F) _ row_F-member λ f hf.
      OnVal-then (row_R o scale a h f) _ (λ r. member r sy (root_at c k l z)) _ (row_R-member a h f ha hh hf) λ r hr.
      record { f = hf; h = hh; r = hr }
    where
      row_F-member : OnVal (row_F o scale face line e) (λ r. member r sy (constant_at c k l z))
      row_F-member =
          let S = l.x0 *Q l.x0 +Q l.y0 *Q l.y0 in
          OnVal-then (rho_row o line.x0 line.y0) _ (λ r. member r sy S) _ (rho_row-member scale o member law sy line.x0 line.y0 l.x0 l.y0 hl.x0 hl.y0) λ s hs.
          OnVal-then (o.times face.c s) _ (λ r. member r sy (c *Q S)) _ (law.times sy face.c s c S hc hs) λ t ht.
          widened scale o member law sy eps e covers t (c *Q S) _ ht (constant_near c k l eps z m)

      row_R-member : (a h f : A) → member a sy (quadratic c k l) → member h sy (half_linear c k l) → member f sy (constant_at c k l z) → OnVal (row_R o scale a h f) (λ r. member r sy (root_at c k l z))
      row_R-member a h f ha hh hf =
          let H = half_linear c k l in
          OnVal-then (o.square h) _ (λ r. member r sy (H *Q H)) _ (law.square sy h H hh) λ h2 k1.
          OnVal-then (o.times a f) _ (λ r. member r sy (quadratic c k l *Q constant_at c k l z)) _ (law.times sy a f _ _ ha hf) λ t k2.
          OnVal-then (o.minus h2 t) _ (λ r. member r sy (H *Q H -Q quadratic c k l *Q constant_at c k l z)) _ (law.minus sy h2 t _ _ k1 k2) λ d k3.
          law.root sy d (root_at c k l z) (root_nn c k l eps z m) (law.same sy d _ _ (root_square c k l z) k3)

  -- and z itself is a member of the answer
  pub meet_standard_rows-member : (z : Frac) → MeetsConic eps c k l z → OnVal (meet_standard_rows o scale face line e) (λ r. member r sy z)
  unfolding meet_standard_rows
  meet_standard_rows-member z m =
      let H = half_linear c k l in
      let R = root_at c k l z in
      OnVal-then (root_rows o scale face line e) _ (HoldsRoot z) _ (root_rows-member z m) λ at hat.
      OnVal-then (o.plus at.h at.r) _ (λ s. member s sy (H +Q R)) _ (law.plus sy at.h at.r H R hat.h hat.r) λ s hs.
      law.over sy at.f s _ _ z hat.f hs (linear (c ∷ k ∷ z ∷ l.x0 ∷ l.y0 ∷ l.p ∷ l.q ∷ []) _ _ (search reads depth 24 fits 20000) no_fact tt)

  -- two crossings are at most the residual over the least root apart
  pub standard_close : (r : Root A) → root_rows o scale face line e ≡ Val r → pos 0 <ℤ (o.hull r.r).lo → (z w : Frac) → MeetsConic eps c k l z → MeetsConic eps c k l w
      → HasSize (eps *Q inverse (at_scale scale (o.hull r.r).lo)) (z -Q w)
  standard_close r rows least z w hz hw =
      let R0 = at_scale scale (o.hull r.r).lo in
      let pos_R = at_scale-pos scale (o.hull r.r).lo least in
      let az = (on_val (HoldsRoot z) rows (root_rows-member z hz)).r in
      let aw = (on_val (HoldsRoot w) rows (root_rows-member w hw)).r in
      let lz = member_low scale (o.hull r.r) _ (law.hull sy r.r _ az) in
      let lw = member_low scale (o.hull r.r) _ (law.hull sy r.r _ aw) in
      close R0 (root_at c k l z) (root_at c k l w) (z -Q w) pos_R lz lw (roots_apart c k l eps z w hz hw)
    where
      close : (R a b d : Frac) → whole (pos 0) <Q R → R ≤Q a → R ≤Q b → HasSize (eps +Q eps) (d *Q (a +Q b)) → HasSize (eps *Q inverse R) d
      close R a b d p ha hb h =
          let some : whole (pos 0) <Q a +Q b = lt_of_lt_le p (linear_le (R ∷ a ∷ b ∷ []) _ _ (search reads depth 20 fits 4000)
          (order zero_le_one ha (search reads depth 20 fits 4000) (order zero_le_one (le_of_lt (lt_of_lt_le p hb)) (search reads depth 20 fits 4000) no_fact)) tt) in
          within_cancel (a +Q b) some (within_more (linear_le (eps ∷ R ∷ a ∷ b ∷ inverse R ∷ []) _ _ (search reads depth 20 fits 4000)
          (fact (whole (pos 2) *Q eps) (inverse_is R (pos_nonzero p)) (search reads depth 20 fits 4000)
          (order more ha (search reads depth 20 fits 4000) (order more hb (search reads depth 20 fits 4000) no_fact))) tt) h)
        where
          more : whole (pos 0) ≤Q eps *Q inverse R
          more = mul_nn (within_nn (within_diff eps _ _ (constant_near c k l eps z hz))) (le_of_lt (inverse_pos R p))
