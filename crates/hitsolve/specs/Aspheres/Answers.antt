-- Where a line meets an even asphere is a member of the answer: of the window, pruned twice, through four slope rounds.
use Rattle.std.proofs.Common.{ℕ, [], ◌∷◌, List, ◌⊎◌, inl, inr, arith}
use Rattle.std.proofs.lemmas.Bool.{cond_both}
use Rattle.std.proofs.lemmas.Int.{ints}
use Rattle.std.specs.Prelude.{ℤ, pos, int_le, map}
use Rattle.std.specs.Int.{int_min, int_max}
use Rattle.fixdec.specs.Algebra.MemberLaws.{clip_law, ends_in_order}
use Rattle.fixdec.specs.Algebra.OrderLaws.{lt_not_le, lt_or_le}
use Rattle.fixdec.specs.Algebra.Within.{HasSize, within_nn}
use Rattle.fixdec.specs.Decimal.{ten_power}
use Rattle.fixdec.specs.Ends.{Ends}
use Rattle.fixdec.specs.Frac.{Frac, ◌≤Q◌, ◌<Q◌, whole}
use Rattle.fixdec.specs.Member.{IsMember, Symbols}
use Rattle.fixdec.specs.Operations.{Operations, IsLawful}
use Rattle.fixdec.specs.Steps.{OnVal, OnVal-then}
use Rattle.fixdec.specs.declared.step.Step.{Step}
use Rattle.fixdec.specs.declared.step.Step.TheVariants.{Val, Empty, Lost}
use Rattle.enclose.specs.IvLaws.{iv_member}
use Rattle.lensmodel.specs.Rows.Cells.{window_row, pruned}
use Rattle.lensmodel.specs.Rows.Crossing.{Line}
use Rattle.lensmodel.specs.Rows.Laws.{Covers}
use Rattle.lensmodel.specs.Rows.Preparation.{Prepared}
use Rattle.lensmodel.specs.Rows.SlopeRounds.{hulls, line_hulls, zone2_of, next_rows, narrowed, pruned_window, last_window, last_answer, meet_asphere_rows}
use Rattle.lensmodel.specs.Rows.Spans.{common}
use Rattle.hitsolve.specs.Aspheres.Cells.{pruned-member}
use Rattle.hitsolve.specs.Aspheres.Identity.{mid_g}
use Rattle.hitsolve.specs.Aspheres.Meeting.{Asphere, Meets, rho_at, HoldsAll, HoldsAsphere, HoldsLine}
use Rattle.hitsolve.specs.Aspheres.Middle.{mid_of}
use Rattle.hitsolve.specs.Aspheres.MidRoot.{IsMidRoot, mid_root}
use Rattle.hitsolve.specs.Aspheres.Rounds.{next_rows-member}
use Rattle.hitsolve.specs.Aspheres.Window.{conic_sag_size, sag_bound, window_row-member}

-- a fraction near the root, where there is a root
pub root_if : (eps bound g : Frac) → whole (pos 0) <Q eps → whole (pos 0) ≤Q bound → (v : Frac) × (whole (pos 0) ≤Q g → IsMidRoot eps bound g v)
root_if eps bound g some nn = by (lt_or_le g (whole (pos 0)))
  where
    by : (g <Q whole (pos 0)) ⊎ (whole (pos 0) ≤Q g) → (v : Frac) × (whole (pos 0) ≤Q g → IsMidRoot eps bound g v)
    by (inl h) = (whole (pos 0), λ k. absurd (lt_not_le h k))
    by (inr h) = let r = mid_root eps bound g some nn h in (r.0, λ k. r.1)

-- what two intervals have in common holds what both hold
common-member : (scale : ℕ) (a b : Ends) (u : Frac) → IsMember scale a u → IsMember scale b u → OnVal (common a b) (λ r. IsMember scale r u)
common-member scale a b u p q =
    let m = clip_law scale a b u p q in
    let order = ends_in_order scale (record { lo = int_max a.lo b.lo; hi = int_min a.hi b.hi }) u m in
    cond_both (int_le (int_max a.lo b.lo) (int_min a.hi b.hi)) (Val (record { lo = int_max a.lo b.lo; hi = int_min a.hi b.hi })) Empty (λ o. OnVal o (λ r. IsMember scale r u))
    (λ z. m) (λ z. grind (arith, ints))

module _ {A : Type 0} (scale : ℕ) (o : Operations A) (member : A → Symbols → Frac → Type 0) (law : IsLawful scale o member)
    (sy : Symbols) (eps : Frac) (some : whole (pos 0) <Q eps) (e : ℤ) (covers : Covers scale eps e)
    (f : Asphere) (unit : f.zone2 ≤Q ten_power f.power) (face : Prepared A) (hf : HoldsAsphere member sy f face) (hz : IsMember scale (zone2_of o face) f.zone2)
    (l : Line Frac) (line : Line A) (hl : HoldsLine member sy l line) (z zc : Frac) (meets : Meets eps f l z zc) where
  -- the hulls hold what the values hold
  hulls_all : (b : List A) (v : List Frac) → HoldsAll member sy b v → HoldsAll (iv_member scale) sy (map o.hull b) v
  hulls_all [] [] h = tt
  hulls_all [] (v ∷ vs) h = absurd h
  hulls_all (b ∷ bs) [] h = absurd h
  hulls_all (b ∷ bs) (v ∷ vs) h = (law.hull sy b v h.0, hulls_all bs vs h.1)

  hulls_hold : HoldsAsphere (iv_member scale) sy f (hulls o face)
  hulls_hold = record { c = law.hull sy face.c _ hf.c; ck = law.hull sy face.ck _ hf.ck; norm = hf.norm; b = hulls_all face.b f.b hf.b }

  lines_hold : HoldsLine (iv_member scale) sy l (line_hulls o line)
  lines_hold = record { x0 = law.hull sy line.x0 _ hl.x0; y0 = law.hull sy line.y0 _ hl.y0; p = law.hull sy line.p _ hl.p; q = law.hull sy line.q _ hl.q }

  pruned_window-member : OnVal (pruned_window o scale face line e) (λ a. IsMember scale a z)
  unfolding pruned_window
  pruned_window-member =
      let F = hulls o face in
      let L = line_hulls o line in
      let Z = zone2_of o face in
      OnVal-then (window_row scale F Z e) _ (λ a. IsMember scale a z) _ (window_row-member scale sy eps e covers f l z zc meets unit F Z hulls_hold hz) λ a ha.
      OnVal-then (pruned scale F Z L e a) _ (λ b. IsMember scale b z) _ (pruned-member scale sy eps e covers f l z zc meets F Z L hulls_hold hz lines_hold a ha) λ b hb.
      pruned-member scale sy eps e covers f l z zc meets F Z L hulls_hold hz lines_hold b hb

  round-member : (a : Ends) → IsMember scale a z → OnVal (next_rows o scale face line e a) (λ x. member x sy z)
  round-member a h =
      let within : HasSize (sag_bound eps f) zc = conic_sag_size eps f l z zc meets unit in
      let r = root_if eps (sag_bound eps f) (mid_g f (rho_at l (mid_of scale a))) some (within_nn within) in
      next_rows-member scale o member law sy eps e covers f face hf hz l line hl (sag_bound eps f) z zc meets within a r.0 h r.1

  narrowed-member : (a : Ends) (r : Step A) → IsMember scale a z → OnVal r (λ x. member x sy z) → OnVal (narrowed o scale a r) (λ b. IsMember scale b z)
  narrowed-member a (Val x) h k = common-member scale (o.hull x) a z (law.hull sy x z k) h
  narrowed-member a Empty h k = absurd k
  narrowed-member a (Lost why) h k = h

  -- the window stays around each point in which they meet, through each round
  pub last_window-member : OnVal (last_window o scale face line e) (λ a. IsMember scale a z)
  unfolding last_window
  last_window-member =
      OnVal-then (pruned_window o scale face line e) _ (λ a. IsMember scale a z) _ pruned_window-member λ a ha.
      OnVal-then (narrowed o scale a (next_rows o scale face line e a)) _ (λ b. IsMember scale b z) _ (narrowed-member a _ ha (round-member a ha)) λ b hb.
      OnVal-then (narrowed o scale b (next_rows o scale face line e b)) _ (λ c. IsMember scale c z) _ (narrowed-member b _ hb (round-member b hb)) λ c hc.
      narrowed-member c _ hc (round-member c hc)

  last_answer-member : (a : Ends) (r : Step A) → IsMember scale a z → OnVal r (λ x. member x sy z) → OnVal (last_answer o scale a r) (λ x. member x sy z)
  last_answer-member a r h k =
      OnVal-then r _ (λ x. member x sy z) _ k λ x hx.
      OnVal-then (common (o.hull x) a) _ (λ b. IsMember scale b z) _ (common-member scale (o.hull x) a z (law.hull sy x z hx) h) λ b hb.
      law.clip sy x a z hx h

  -- and the answer holds it
  pub meet_asphere_rows-member : OnVal (meet_asphere_rows o scale face line e) (λ x. member x sy z)
  unfolding meet_asphere_rows
  meet_asphere_rows-member =
      OnVal-then (last_window o scale face line e) _ (λ a. IsMember scale a z) _ last_window-member λ a ha.
      last_answer-member a _ ha (round-member a ha)
