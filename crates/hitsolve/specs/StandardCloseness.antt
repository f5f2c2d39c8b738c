-- Two chains that a ray holds, on one line, cross a standard surface close by each other.
use Rattle.std.proofs.Common.{◌≡◌, ℕ, zero, suc, sym, ◌∙◌, [], ◌∷◌}
use Rattle.std.specs.Prelude.{ℤ, pos}
use Rattle.fixdec.specs.Algebra.FracLaws.{≈_refl, ≈_sym}
use Rattle.fixdec.specs.Algebra.Inverse.{inverse, inverse_is}
use Rattle.fixdec.specs.Algebra.Linear.{linear, linear_le, fact, order, no_fact, reads}
use Rattle.fixdec.specs.Algebra.OrderLaws.{le_of_lt, pos_nonzero}
use Rattle.fixdec.specs.Algebra.Within.{HasSize}
use Rattle.fixdec.specs.Frac.{Frac, ◌≈◌, ◌<Q◌, ◌*Q◌, ◌-Q◌, neg_Q, whole}
use Rattle.fixdec.specs.Member.{IsMember, Symbols}
use Rattle.fixdec.specs.Operations.{Operations, IsLawful}
use Rattle.fixdec.specs.declared.step.Step.TheVariants.{Val}
use Rattle.lensmodel.specs.Claims.Closeness as claims
use Rattle.lensmodel.specs.Claims.Enclosure.{CoversResidual, HoldsPrepared, HoldsRay}
use Rattle.lensmodel.specs.Equations.Chain.{Chain}
use Rattle.lensmodel.specs.Equations.Crossing.{Transfers}
use Rattle.lensmodel.specs.Equations.Residual.{IsWithin}
use Rattle.lensmodel.specs.Rows.Crossing.{Line, Arrival, arrival_rows}
use Rattle.lensmodel.specs.Rows.Preparation.{Prepared}
use Rattle.lensmodel.specs.Rows.Spans.{side_of}
use Rattle.lensmodel.specs.Rows.Start.{Incoming}
use Rattle.lensmodel.specs.Setup.Values.{travel, eps}
use Rattle.lensmodel.specs.declared.setup.Setup.{Setup}
use Rattle.hitsolve.specs.Arrivals.{line_of, HoldsArrival, arrival_rows-member}
use Rattle.hitsolve.specs.Aspheres.Chains.{IsOnLine}
use Rattle.hitsolve.specs.Aspheres.Close.{at_scale, at_scale-pos}
use Rattle.hitsolve.specs.Aspheres.CloseCrossings.{on_val}
use Rattle.hitsolve.specs.Aspheres.Meeting.{HoldsLine}
use Rattle.hitsolve.specs.StandardChains.{standard_chains_close}

-- a raw number as a fraction, written in either way
pub same_scaled : (scale : ℕ) (n : ℤ) → at_scale scale n ≈ claims.at_scale scale n
unfolding whole ◌*Q◌
same_scaled zero n = linear (whole n ∷ []) _ _ (search reads depth 20 fits 4000) no_fact tt
same_scaled (suc k) n = ≈_refl (claims.at_scale (suc k) n)

-- a distance of at most eps over r0, times r0
times_root : (limit r q z w : Frac) → whole (pos 0) <Q r → r ≈ q → HasSize (limit *Q inverse r) (z -Q w) → IsWithin limit (z *Q q) (w *Q q)
times_root limit r q z w p e h =
    let i = inverse_is r (pos_nonzero p) in
    record {
      above = linear_le (z ∷ w ∷ limit ∷ r ∷ q ∷ inverse r ∷ []) _ _ (search reads depth 20 fits 4000)
          (fact (w -Q z) e (search reads depth 20 fits 4000) (fact (neg_Q limit) i (search reads depth 20 fits 4000) (order (le_of_lt p) h.below (search reads depth 20 fits 4000) no_fact))) tt;
      below = linear_le (z ∷ w ∷ limit ∷ r ∷ q ∷ inverse r ∷ []) _ _ (search reads depth 20 fits 4000)
          (fact (z -Q w) e (search reads depth 20 fits 4000) (fact (neg_Q limit) i (search reads depth 20 fits 4000) (order (le_of_lt p) h.above (search reads depth 20 fits 4000) no_fact))) tt;
    }

-- the line that two chains share
abbrev pub shared : (j : ℕ) (a b : Chain) → claims.AreOnLine j a b → Line Frac
shared j a b on = record { x0 = a.x (suc j) -Q on.p *Q a.z (suc j); y0 = a.y (suc j) -Q on.q *Q a.z (suc j); p = on.p; q = on.q }

-- both come along it
pub shared_first : (j : ℕ) (a b : Chain) (on : claims.AreOnLine j a b) → IsOnLine a j (shared j a b on)
shared_first j a b on = record {
  x = linear (a.x (suc j) ∷ a.z (suc j) ∷ on.p ∷ []) _ _ (search reads depth 20 fits 4000) no_fact tt;
  y = linear (a.y (suc j) ∷ a.z (suc j) ∷ on.q ∷ []) _ _ (search reads depth 20 fits 4000) no_fact tt;
}

pub shared_second : (j : ℕ) (a b : Chain) (on : claims.AreOnLine j a b) → IsOnLine b j (shared j a b on)
shared_second j a b on = record {
  x = linear (a.x (suc j) ∷ a.z (suc j) ∷ b.x (suc j) ∷ b.z (suc j) ∷ on.p ∷ []) _ _ (search reads depth 20 fits 4000)
      (fact (whole (pos 1)) (≈_sym on.line_x) (search reads depth 20 fits 4000) no_fact) tt;
  y = linear (a.y (suc j) ∷ a.z (suc j) ∷ b.y (suc j) ∷ b.z (suc j) ∷ on.q ∷ []) _ _ (search reads depth 20 fits 4000)
      (fact (whole (pos 1)) (≈_sym on.line_y) (search reads depth 20 fits 4000) no_fact) tt;
}

-- a slope is the cosine over that along the axis
slope_is : (p n l t : Frac) → whole (pos 0) <Q t *Q n → p *Q n ≈ l → l *Q inverse n ≈ p
slope_is p n l t h e =
    let i = inverse_is n (λ z. pos_nonzero h (linear (n ∷ t ∷ []) _ _ (search reads depth 20 fits 4000) (fact t z (search reads depth 20 fits 4000) no_fact) tt)) in
    linear (p ∷ n ∷ l ∷ inverse n ∷ []) _ _ (search reads depth 20 fits 4000)
    (fact (neg_Q (inverse n)) e (search reads depth 20 fits 4000) (fact p i (search reads depth 20 fits 4000) no_fact)) tt

module _ {A : Type 0} (scale : ℕ) (o : Operations A) (member : A → Symbols → Frac → Type 0) (law : IsLawful scale o member)
    (s : Setup) (j : ℕ) (e : ℤ) (covers : CoversResidual scale s e) (face : Prepared A) (ray : Incoming A)
    (side : (c : Chain) → HoldsPrepared member s c j face → HoldsRay member c j ray → Transfers s c j → IsMember scale (side_of face.sign) (c.n j)) where
  pub line_held : (a b : Chain) (ha : claims.ArrivesIn member s j face ray a) (on : claims.AreOnLine j a b) (arrival : Arrival A) → arrival_rows o face ray e ≡ Val arrival
      → HoldsLine member a.symbols (shared j a b on) arrival.line
  line_held a b ha on arrival rows =
      let t = ha.transfer in
      let l = line_of a j in
      let k = on_val (HoldsArrival scale o member law s a j e covers t) rows
      (arrival_rows-member scale o member law s a j e covers t face ha.prepared ray ha.incoming (side a ha.prepared ha.incoming t)) in
      let p = slope_is on.p (a.n j) (a.l j) (whole (travel s j)) t.onwards on.slope_x_a in
      let q = slope_is on.q (a.n j) (a.m j) (whole (travel s j)) t.onwards on.slope_y_a in
      record {
        x0 = law.same a.symbols arrival.line.x0 l.x0 _
            (linear (on.p ∷ a.l j ∷ inverse (a.n j) ∷ a.x (suc j) ∷ a.z (suc j) ∷ []) _ _ (search reads depth 20 fits 4000) (fact (neg_Q (a.z (suc j))) p (search reads depth 20 fits 4000) no_fact) tt) k.line.x0;
        y0 = law.same a.symbols arrival.line.y0 l.y0 _
            (linear (on.q ∷ a.m j ∷ inverse (a.n j) ∷ a.y (suc j) ∷ a.z (suc j) ∷ []) _ _ (search reads depth 20 fits 4000) (fact (neg_Q (a.z (suc j))) q (search reads depth 20 fits 4000) no_fact) tt) k.line.y0;
        p = law.same a.symbols arrival.line.p l.p on.p p k.line.p;
        q = law.same a.symbols arrival.line.q l.q on.q q k.line.q;
      }

  pub standards_close : claims.StandardAreClose o scale member s j face ray e
  standards_close kind arrival rows k roots least a b ha hb on =
      let l = shared j a b on in
      let r0 = (o.hull k.r).lo in
      times_root (eps s) (at_scale scale r0) (claims.at_scale scale r0) (a.z (suc j)) (b.z (suc j)) (at_scale-pos scale r0 least) (same_scaled scale r0)
      (standard_chains_close scale o member law s j (sym ha.prepared.kind ∙ kind) e covers a face ha.prepared l arrival.line (line_held a b ha on arrival rows)
      (shared_first j a b on) (record { p = on.slope_x_a; q = on.slope_y_a }) ha.transfer.onwards ha.crossing
      b (sym on.symbols) (shared_second j a b on) (record { p = on.slope_x_b; q = on.slope_y_b }) hb.transfer.onwards hb.crossing k roots least)
