-- The line on which a chain arrives, and what follows of it at the crossing, are members of what their rows give.
use Rattle.std.proofs.Common.{ℕ, suc, [], ◌∷◌, arith, ◌⊎◌, inl, inr}
use Rattle.std.proofs.lemmas.Int.{ints}
use Rattle.std.specs.Prelude.{ℤ, pos, negsuc}
use Rattle.fixdec.specs.Algebra.FracLaws.{≈_sym}
use Rattle.fixdec.specs.Algebra.Inverse.{inverse, inverse_is}
use Rattle.fixdec.specs.Algebra.Linear.{linear, linear_le, fact, name, order, no_fact, reads}
use Rattle.fixdec.specs.Algebra.MemberLaws.{units_nn}
use Rattle.fixdec.specs.Algebra.Order.{le_cases, le_trans, le_whole}
use Rattle.fixdec.specs.Algebra.OrderLaws.{lt_not_le, pos_nonzero, zero_le_one, zero_le_whole}
use Rattle.fixdec.specs.Ends.{Ends, InCap}
use Rattle.fixdec.specs.Frac.{Frac, ◌≈◌, ◌≤Q◌, ◌<Q◌, ◌+Q◌, ◌*Q◌, ◌-Q◌, whole}
use Rattle.fixdec.specs.Member.{IsMember, Symbols, units}
use Rattle.fixdec.specs.Operations.{Operations, IsLawful}
use Rattle.fixdec.specs.Steps.{OnVal, OnVal-then}
use Rattle.lensmodel.specs.Claims.Enclosure.{CoversResidual, HoldsPrepared, HoldsRay}
use Rattle.lensmodel.specs.Equations.Chain.{Chain, index_behind}
use Rattle.lensmodel.specs.Equations.Crossing.{Transfers}
use Rattle.lensmodel.specs.Equations.Residual.{IsWithin}
use Rattle.lensmodel.specs.Rows.Crossing.{Line, Arrival, foot_row, arrival_rows, length_row, path_rows}
use Rattle.lensmodel.specs.Rows.Laws.{widened}
use Rattle.lensmodel.specs.Rows.Preparation.{Prepared}
use Rattle.lensmodel.specs.Rows.Spans.{side_of}
use Rattle.lensmodel.specs.Rows.Start.{Incoming}
use Rattle.lensmodel.specs.Setup.Values.{travel, distance, eps}
use Rattle.lensmodel.specs.declared.setup.Setup.{Setup}
use Rattle.hitsolve.specs.Aspheres.Chains.{IsOnLine}
use Rattle.hitsolve.specs.Aspheres.Meeting.{HoldsLine}
use Rattle.hitsolve.specs.StandardChains.{HasSlopes}

-- the line of a chain to surface j + 1, by the slopes of the ray and the point that it comes to
abbrev pub line_of : Chain → ℕ → Line Frac
line_of c j =
    let p = c.l j *Q inverse (c.n j) in
    let q = c.m j *Q inverse (c.n j) in
    record { x0 = c.x (suc j) -Q p *Q c.z (suc j); y0 = c.y (suc j) -Q q *Q c.z (suc j); p = p; q = q }

pub is_on_line : (c : Chain) (j : ℕ) → IsOnLine c j (line_of c j)
is_on_line c j = record {
  x = linear (c.x (suc j) ∷ c.z (suc j) ∷ c.l j ∷ inverse (c.n j) ∷ []) _ _ (search reads depth 20 fits 4000) no_fact tt;
  y = linear (c.y (suc j) ∷ c.z (suc j) ∷ c.m j ∷ inverse (c.n j) ∷ []) _ _ (search reads depth 20 fits 4000) no_fact tt;
}

-- what goes onwards isn't 0
moves : (n t : Frac) → whole (pos 0) <Q t *Q n → n ≈ whole (pos 0) → ⊥
moves n t h e =
    pos_nonzero h (linear (n ∷ t ∷ []) _ _ (search reads depth 20 fits 4000) (fact t e (search reads depth 20 fits 4000) no_fact) tt)

module _ (s : Setup) (c : Chain) (j : ℕ) (onwards : whole (pos 0) <Q whole (travel s j) *Q c.n j) where
  n_inverse : c.n j *Q inverse (c.n j) ≈ whole (pos 1)
  n_inverse = inverse_is (c.n j) (moves (c.n j) (whole (travel s j)) onwards)

  pub has_slopes : HasSlopes c j (line_of c j)
  has_slopes = record {
    p = linear (c.l j ∷ c.n j ∷ inverse (c.n j) ∷ []) _ _ (search reads depth 20 fits 4000) (fact (c.l j) n_inverse (search reads depth 20 fits 4000) no_fact) tt;
    q = linear (c.m j ∷ c.n j ∷ inverse (c.n j) ∷ []) _ _ (search reads depth 20 fits 4000) (fact (c.m j) n_inverse (search reads depth 20 fits 4000) no_fact) tt;
  }

-- ---- the side of travel
-- a member of a value within the cap that goes onwards lies on its side
pub side_holds : (scale : ℕ) (a : Ends) (n : Frac) (t : ℤ) → InCap a.lo → InCap a.hi → IsMember scale a n → whole (pos 0) <Q whole t *Q n → IsMember scale (side_of t) n
side_holds scale a n (pos k) cl ch h p = record {
  low = linear_le (n ∷ units scale ∷ []) _ _ (search reads depth 20 fits 4000) (order (units_nn scale) (by (le_cases (whole (pos 0)) n)) (search reads depth 20 fits 4000) no_fact) tt;
  high = le_trans h.high (le_whole (omega (arith, ints)));
}
  where
    by : (whole (pos 0) ≤Q n) ⊎ (n ≤Q whole (pos 0)) → whole (pos 0) ≤Q n
    by (inl l) = l
    by (inr l) =
        absurd (lt_not_le p (linear_le (n ∷ whole (pos k) ∷ []) _ _ (search reads depth 20 fits 4000) (order (zero_le_whole k) l (search reads depth 20 fits 4000) no_fact) tt))
side_holds scale a n (negsuc k) cl ch h p = record {
  low = le_trans (le_whole (omega (arith, ints))) h.low;
  high = linear_le (n ∷ units scale ∷ []) _ _ (search reads depth 20 fits 4000) (order (units_nn scale) (by (le_cases (whole (pos 0)) n)) (search reads depth 20 fits 4000) no_fact) tt;
}
  where
    by : (whole (pos 0) ≤Q n) ⊎ (n ≤Q whole (pos 0)) → n ≤Q whole (pos 0)
    by (inr l) = l
    by (inl l) =
        let t : whole (negsuc k) ≤Q whole (pos 0) = le_whole (omega (arith, ints)) in
        absurd (lt_not_le p (linear_le (n ∷ whole (negsuc k) ∷ []) _ _ (search reads depth 20 fits 4000) (order l t (search reads depth 20 fits 4000) no_fact) tt))

-- ---- the rows of the arrival and of the path
module _ {A : Type 0} (scale : ℕ) (o : Operations A) (member : A → Symbols → Frac → Type 0) (law : IsLawful scale o member)
    (s : Setup) (c : Chain) (j : ℕ) (e : ℤ) (covers : CoversResidual scale s e) (t : Transfers s c j) where
  abbrev sy : Symbols
  sy = c.symbols

  -- d - z
  abbrev drop : Frac
  drop = distance s sy j -Q c.z j

  -- the way along the axis: N t less the sag
  fall_is : IsWithin (eps s) (c.n j *Q t.t -Q c.z (suc j)) drop
  fall_is = record {
    above = linear_le (eps s ∷ c.z j ∷ c.n j ∷ t.t ∷ distance s sy j ∷ c.z (suc j) ∷ []) _ _ (search reads depth 20 fits 4000) (order zero_le_one t.z.above (search reads depth 20 fits 4000) no_fact) tt;
    below = linear_le (eps s ∷ c.z j ∷ c.n j ∷ t.t ∷ distance s sy j ∷ c.z (suc j) ∷ []) _ _ (search reads depth 20 fits 4000) (order zero_le_one t.z.below (search reads depth 20 fits 4000) no_fact) tt;
  }

  -- the way along the axis to the point on the surface: N t
  reach : IsWithin (eps s) (c.n j *Q t.t) (drop +Q c.z (suc j))
  reach = record {
    above = linear_le (eps s ∷ c.z j ∷ c.n j ∷ t.t ∷ distance s sy j ∷ c.z (suc j) ∷ []) _ _ (search reads depth 20 fits 4000) (order zero_le_one t.z.above (search reads depth 20 fits 4000) no_fact) tt;
    below = linear_le (eps s ∷ c.z j ∷ c.n j ∷ t.t ∷ distance s sy j ∷ c.z (suc j) ∷ []) _ _ (search reads depth 20 fits 4000) (order zero_le_one t.z.below (search reads depth 20 fits 4000) no_fact) tt;
  }

  -- a foot: from x, at slope p, to X on the surface
  foot_row-member : (x p fall_value : A) (X0 L p' X : Frac) → member x sy X0 → member p sy p' → member fall_value sy drop → p' *Q c.n j ≈ L → IsWithin (eps s) X (X0 +Q L *Q t.t)
      → OnVal (foot_row o x p fall_value e) (λ r. member r sy (X -Q p' *Q c.z (suc j)))
  foot_row-member x p v X0 L p' X hx hp hv slope near =
      let way = c.n j *Q t.t -Q c.z (suc j) in
      OnVal-then (o.widen v e) _ (λ r. member r sy way) _ (widened scale o member law sy (eps s) e covers v drop way hv fall_is) λ w hw.
      OnVal-then (o.times p w) _ (λ r. member r sy (p' *Q way)) _ (law.times sy p w p' way hp hw) λ pw hpw.
      OnVal-then (o.plus x pw) _ (λ r. member r sy (X0 +Q p' *Q way)) _ (law.plus sy x pw X0 _ hx hpw) λ y hy.
      widened scale o member law sy (eps s) e covers y (X0 +Q p' *Q way) _ hy record {
        above = linear_le (eps s ∷ X0 ∷ L ∷ p' ∷ X ∷ c.n j ∷ t.t ∷ c.z (suc j) ∷ []) _ _ (search reads depth 20 fits 4000)
            (name (≈_sym slope) (search reads depth 20 fits 4000) (order zero_le_one near.above (search reads depth 20 fits 4000) no_fact)) tt;
        below = linear_le (eps s ∷ X0 ∷ L ∷ p' ∷ X ∷ c.n j ∷ t.t ∷ c.z (suc j) ∷ []) _ _ (search reads depth 20 fits 4000)
            (name (≈_sym slope) (search reads depth 20 fits 4000) (order zero_le_one near.below (search reads depth 20 fits 4000) no_fact)) tt;
      }

  -- N, s = d - z, and the line
  pub record HoldsArrival (a : Arrival A) : Type 0 where
    pub n : member a.n sy (c.n j)
    pub fall : member a.s sy drop
    pub line : HoldsLine member sy (line_of c j) a.line

  pub arrival_rows-member : (face : Prepared A) → HoldsPrepared member s c j face → (ray : Incoming A) → HoldsRay member c j ray → IsMember scale (side_of face.sign) (c.n j)
      → OnVal (arrival_rows o face ray e) HoldsArrival
  unfolding arrival_rows
  arrival_rows-member face hf ray h side =
      let l = line_of c j in
      let slopes = has_slopes s c j t.onwards in
      OnVal-then (o.clip ray.n (side_of face.sign)) _ (λ r. member r sy (c.n j)) _ (law.clip sy ray.n _ (c.n j) h.n side) λ n hn.
      OnVal-then (o.over ray.l n) _ (λ r. member r sy l.p) _ (law.over sy ray.l n _ _ l.p h.l hn slopes.p) λ p hp.
      OnVal-then (o.over ray.m n) _ (λ r. member r sy l.q) _ (law.over sy ray.m n _ _ l.q h.m hn slopes.q) λ q hq.
      OnVal-then (o.minus face.d ray.z) _ (λ r. member r sy drop) _ (law.minus sy face.d ray.z _ _ hf.d h.z) λ v hv.
      OnVal-then (foot_row o ray.x p v e) _ (λ r. member r sy l.x0) _ (foot_row-member ray.x p v (c.x j) (c.l j) l.p (c.x (suc j)) h.x hp hv slopes.p t.x) λ x0 hx0.
      OnVal-then (foot_row o ray.y q v e) _ (λ r. member r sy l.y0) _ (foot_row-member ray.y q v (c.y j) (c.m j) l.q (c.y (suc j)) h.y hq hv slopes.q t.y) λ y0 hy0.
      record { n = hn; fall = hv; line = record { x0 = hx0; y0 = hy0; p = hp; q = hq } }

  pub path_rows-member : (face : Prepared A) → HoldsPrepared member s c j face → (ray : Incoming A) → HoldsRay member c j ray → (a : Arrival A) → HoldsArrival a
      → (z : A) → member z sy (c.z (suc j)) → OnVal (path_rows o face ray a z e) (λ r. member r sy (c.path (suc j)))
  path_rows-member face hf ray h a ha z hz =
      OnVal-then (length_row o a.s z a.n e) _ (λ r. member r sy t.t) _ length λ l hl.
      OnVal-then (o.times face.n l) _ (λ r. member r sy (index_behind s c j *Q t.t)) _ (law.times sy face.n l _ t.t hf.n hl) λ nl hnl.
      OnVal-then (o.plus ray.path nl) _ (λ r. member r sy (c.path j +Q index_behind s c j *Q t.t)) _ (law.plus sy ray.path nl _ _ h.path hnl) λ p hp.
      widened scale o member law sy (eps s) e covers p _ _ hp t.path
    where
      length : OnVal (length_row o a.s z a.n e) (λ r. member r sy t.t)
      length =
          OnVal-then (o.plus a.s z) _ (λ r. member r sy (drop +Q c.z (suc j))) _ (law.plus sy a.s z drop _ ha.fall hz) λ r hr.
          OnVal-then (o.widen r e) _ (λ r. member r sy (c.n j *Q t.t)) _ (widened scale o member law sy (eps s) e covers r _ _ hr reach) λ w hw.
          law.over sy w a.n (c.n j *Q t.t) (c.n j) t.t hw ha.n (linear (c.n j ∷ t.t ∷ []) _ _ (search reads depth 20 fits 4000) no_fact tt)
