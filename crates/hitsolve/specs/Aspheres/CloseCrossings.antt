-- Two crossings of one line with an even asphere lie as close as the rows of the last round say.
use Rattle.std.proofs.Common.{◌≡◌, ℕ, [], ◌∷◌, subst, false}
use Rattle.std.specs.Prelude.{ℤ, pos}
use Rattle.fixdec.specs.Algebra.FracLaws.{≈_trans}
use Rattle.fixdec.specs.Algebra.Inverse.{inverse}
use Rattle.fixdec.specs.Algebra.Linear.{linear, no_fact, reads}
use Rattle.fixdec.specs.Algebra.Order.{le_trans}
use Rattle.fixdec.specs.Algebra.OrderLaws.{le_of_lt, lt_of_lt_le}
use Rattle.fixdec.specs.Algebra.Within.{HasSize, within_add, within_mul, within_nn, within_same, within_sub, within_to}
use Rattle.fixdec.specs.Decimal.{ten_power}
use Rattle.fixdec.specs.Ends.{Ends}
use Rattle.fixdec.specs.Frac.{Frac, ◌≈◌, ◌≤Q◌, ◌<Q◌, ◌+Q◌, ◌*Q◌, ◌-Q◌, whole}
use Rattle.fixdec.specs.Interval.{holds_zero, iv_size}
use Rattle.fixdec.specs.Member.{IsMember, Symbols}
use Rattle.fixdec.specs.Operations.{Operations, IsLawful}
use Rattle.fixdec.specs.Steps.{OnVal}
use Rattle.fixdec.specs.declared.step.Step.{Step}
use Rattle.fixdec.specs.declared.step.Step.TheVariants.{Val}
use Rattle.lensmodel.specs.Rows.Crossing.{Line}
use Rattle.lensmodel.specs.Rows.Laws.{Covers}
use Rattle.lensmodel.specs.Rows.Preparation.{Prepared}
use Rattle.lensmodel.specs.Rows.SlopeRounds.{Round, zone2_of, round_rows, last_window}
use Rattle.hitsolve.specs.Aspheres.Answers.{root_if, last_window-member}
use Rattle.hitsolve.specs.Aspheres.Close.{crossing_distance, IsBetween, quotients_close, inverse_le, own_size, at_scale, at_scale-pos, member_low, member_high, size_high, size_low, size_above}
use Rattle.hitsolve.specs.Aspheres.Identity.{mid_g, mid_conic_sag, mid_sag, root_sum, slope, sag_miss, conic_error, slope_identity}
use Rattle.hitsolve.specs.Aspheres.Meeting.{Asphere, Meets, polynomial, rho_at, u_at, HoldsAsphere, HoldsLine}
use Rattle.hitsolve.specs.Aspheres.Middle.{mid_of}
use Rattle.hitsolve.specs.Aspheres.MidRoot.{IsMidRoot, inverse_pos, one_plus, root_error}
use Rattle.hitsolve.specs.Aspheres.Rounds.{HoldsRound, round_rows-member, m_pos, m_inverse, sag_small, conic_small}
use Rattle.hitsolve.specs.Aspheres.Window.{conic_sag_size, sag_bound}

-- what is said of a value holds of the one that is there
pub on_val : {A : Type 0} {r : Step A} {x : A} (P : A → Type 0) → r ≡ Val x → OnVal r P → P x
on_val P e h = subst (λ r. OnVal r P) e h

module _ {A : Type 0} (scale : ℕ) (o : Operations A) (member : A → Symbols → Frac → Type 0) (law : IsLawful scale o member)
    (sy : Symbols) (eps : Frac) (some : whole (pos 0) <Q eps) (e : ℤ) (covers : Covers scale eps e)
    (f : Asphere) (unit : f.zone2 ≤Q ten_power f.power) (face : Prepared A) (hf : HoldsAsphere member sy f face) (hz : IsMember scale (zone2_of o face) f.zone2)
    (l : Line Frac) (line : Line A) (hl : HoldsLine member sy l line)
    (a : Ends) (r : Round A) (d : A) (window : last_window o scale face line e ≡ Val a) (round : round_rows o scale face line e a ≡ Val r)
    (missed : o.minus r.sag r.middle ≡ Val d) where
  -- the middle, a bound for the sag of the conic, and a fraction near the root, for all crossings
  abbrev s : Frac
  s = mid_of scale a

  abbrev bound : Frac
  bound = sag_bound eps f

  -- the greatest size of S* - z*, the least and the greatest slope, and the least size of m
  abbrev most : Frac
  most = at_scale scale (iv_size (o.hull d)).hi

  abbrev g : Frac
  g = at_scale scale (o.hull r.g).lo

  abbrev h : Frac
  h = at_scale scale (o.hull r.g).hi

  abbrev m : Frac
  m = at_scale scale (iv_size (o.hull r.m)).lo

  abbrev part : Frac
  part = eps *Q (whole (pos 1) +Q whole (pos 2) *Q inverse m)

  -- of one crossing: its equation about the middle
  record IsAbout (v z : Frac) : Type 0 where
    pub slope : Frac
    pub rest : Frac
    pub between : IsBetween g h slope
    pub small : HasSize part rest
    pub equation : (z -Q s) *Q slope ≈ (mid_conic_sag f (rho_at l s) v +Q u_at f l s *Q polynomial f.b (u_at f l s) -Q s) +Q rest

  record IsSeen (v : Frac) : Type 0 where
    pub g_pos : whole (pos 0) <Q g
    pub gap : HasSize most (mid_conic_sag f (rho_at l s) v +Q u_at f l s *Q polynomial f.b (u_at f l s) -Q s)

  module _ (v : Frac) (root : whole (pos 0) ≤Q mid_g f (rho_at l s) → IsMidRoot eps bound (mid_g f (rho_at l s)) v) (z zc : Frac) (meets : Meets eps f l z zc) where
    within : HasSize bound zc
    within = conic_sag_size eps f l z zc meets unit

    in_round : HoldsRound scale o member law sy eps e covers f face hf hz l line hl bound z zc s v r
    in_round =
        on_val (HoldsRound scale o member law sy eps e covers f face hf hz l line hl bound z zc s v) round
        (round_rows-member scale o member law sy eps e covers f face hf hz l line hl bound z zc meets within a v
        (on_val (λ b. IsMember scale b z) window (last_window-member scale o member law sy eps some e covers f unit face hf hz l line hl z zc meets)) root)

    M : Frac
    M = root_sum f l z zc s v

    seen : IsSeen v
    seen = record {
      g_pos = at_scale-pos scale _ in_round.g_least;
      gap = size_high scale (o.hull d) _ (law.hull sy d _ (on_val (λ x. member x sy _) missed (law.minus sy r.sag r.middle _ s in_round.sag in_round.middle)));
    }

    about : holds_zero (o.hull r.m) ≡ false → IsAbout v z
    unfolding M
    about apart =
        let p = in_round.root.positive in
        let hm = law.hull sy r.m _ in_round.m in
        let hg = law.hull sy r.g _ in_round.g in
        let J = inverse M in
        let mp = m_pos scale o member law sy eps e covers f face hf hz l line hl bound z zc meets within s v p in
        let err : HasSize (eps +Q eps) (conic_error f l z zc s v) =
        within_sub (conic_small scale o member law sy eps e covers f face hf hz l line hl bound z zc meets within) (root_error eps bound _ v zc in_round.root within) in
        let least = at_scale-pos scale _ (size_above scale (o.hull r.m) M hm apart) in
        record {
          slope = slope f l z zc s v;
          rest = sag_miss f l z zc s v +Q conic_error f l z zc s v *Q J;
          between = record { low = member_low scale (o.hull r.g) _ hg; high = member_high scale (o.hull r.g) _ hg };
          small = within_to (linear (eps ∷ inverse m ∷ []) _ _ (search reads depth 20 fits 4000) no_fact tt)
              (within_add (sag_small scale o member law sy eps e covers f face hf hz l line hl bound z zc meets within s v)
              (within_mul err (own_size (le_of_lt (inverse_pos M mp)) (inverse_le m M least (size_low scale (o.hull r.m) M hm mp)))));
          equation = ≈_trans (slope_identity f l z zc s v (one_plus p) (m_inverse scale o member law sy eps e covers f face hf hz l line hl bound z zc meets within s v p))
              (linear ((mid_sag f l z zc s v -Q s) ∷ sag_miss f l z zc s v ∷ conic_error f l z zc s v ∷ J ∷ []) _ _ (search reads depth 20 fits 4000) no_fact tt);
        }

  -- where there is a crossing: the slope is above 0, and so is the size of m where it holds no 0
  pub record IsSteep : Type 0 where
    pub least : whole (pos 0) <Q g
    pub greatest : whole (pos 0) <Q h
    pub apart : holds_zero (o.hull r.m) ≡ false → whole (pos 0) <Q m

  pub steep : (z zc : Frac) → Meets eps f l z zc → IsSteep
  steep z zc meets =
      let w = root_if eps bound (mid_g f (rho_at l s)) some (within_nn (conic_sag_size eps f l z zc meets unit)) in
      let k = in_round w.0 w.1 z zc meets in
      let hg = law.hull sy r.g _ k.g in
      let p = (seen w.0 w.1 z zc meets).g_pos in
      record {
        least = p;
        greatest = lt_of_lt_le p (le_trans (member_low scale (o.hull r.g) _ hg) (member_high scale (o.hull r.g) _ hg));
        apart = λ d. at_scale-pos scale _ (size_above scale (o.hull r.m) _ (law.hull sy r.m _ k.m) d);
      }

  -- the two crossings, where m holds no 0
  pub crossings_close : holds_zero (o.hull r.m) ≡ false → (z1 zc1 z2 zc2 : Frac) → Meets eps f l z1 zc1 → Meets eps f l z2 zc2 → HasSize (crossing_distance eps most g h m) (z1 -Q z2)
  crossings_close apart z1 zc1 z2 zc2 m1 m2 =
      let w = root_if eps bound (mid_g f (rho_at l s)) some (within_nn (conic_sag_size eps f l z1 zc1 m1 unit)) in
      let v = w.0 in
      let S = mid_conic_sag f (rho_at l s) v +Q u_at f l s *Q polynomial f.b (u_at f l s) in
      let a1 = about v w.1 z1 zc1 m1 apart in
      let a2 = about v w.1 z2 zc2 m2 apart in
      let seen1 = seen v w.1 z1 zc1 m1 in
      within_to (linear (eps ∷ most ∷ inverse g ∷ inverse h ∷ inverse m ∷ []) _ _ (search reads depth 20 fits 4000) no_fact tt)
      (within_same (linear (z1 ∷ z2 ∷ s ∷ []) _ _ (search reads depth 20 fits 4000) no_fact tt)
      (quotients_close (S -Q s) most part g h seen1.g_pos seen1.gap (z1 -Q s) (z2 -Q s) a1.slope a2.slope a1.rest a2.rest a1.between a2.between a1.small a2.small a1.equation a2.equation))
