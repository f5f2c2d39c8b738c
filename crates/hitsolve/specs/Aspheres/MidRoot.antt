-- A fraction near the root at the middle of a window: near enough for the sag of any point of the window.
use Rattle.std.proofs.Common.{[], ◌∷◌, arith}
use Rattle.std.proofs.lemmas.Int.{ints}
use Rattle.std.specs.Prelude.{pos, negsuc}
use Rattle.fixdec.specs.Algebra.Inverse.{inverse, inverse_is}
use Rattle.fixdec.specs.Algebra.Linear.{linear, linear_le, fact, order, no_fact, reads}
use Rattle.fixdec.specs.Algebra.NearRoot.{IsNearRoot, near_root}
use Rattle.fixdec.specs.Algebra.OrderLaws.{le_of_lt, lt_from_not, lt_not_le, lt_of_lt_le, lt_whole, mul_pos, add_nn, pos_nonzero, zero_le_one, zero_le_whole}
use Rattle.fixdec.specs.Algebra.Within.{HasSize, within_more, within_mul, within_to}
use Rattle.fixdec.specs.Frac.{Frac, ◌≈◌, ◌≤Q◌, ◌<Q◌, ◌+Q◌, ◌*Q◌, ◌-Q◌, whole}

-- v is above 0, and its square misses g by at most the residual, also where the miss is taken as often as a bound says
pub record IsMidRoot (eps bound g v : Frac) : Type 0 where
  pub miss : Frac
  pub positive : whole (pos 0) <Q v
  pub near : HasSize miss (g -Q v *Q v)
  pub small : miss ≤Q eps
  pub fine : bound *Q miss ≤Q eps

-- one over a number above 0 is above 0
pub inverse_pos : (k : Frac) → whole (pos 0) <Q k → whole (pos 0) <Q inverse k
inverse_pos k p =
    let T = inverse k in
    lt_from_not (λ h. lt_not_le (lt_whole {a = pos 0} {b = pos 1} (omega (arith, ints))) (linear_le (k ∷ T ∷ []) _ _ (search reads depth 20 fits 4000)
    (order (le_of_lt p) h (search reads depth 20 fits 4000) (fact (whole (pos 1)) (inverse_is k (pos_nonzero p)) (search reads depth 20 fits 4000) no_fact)) tt))

-- where v isn't negative, but its square is above 0, it is above 0
above_zero : (v d : Frac) → whole (pos 0) ≤Q v → whole (pos 0) <Q d → d ≤Q v *Q v → whole (pos 0) <Q v
above_zero v d n p h =
    lt_from_not (λ k. lt_not_le p (linear_le (v ∷ d ∷ []) _ _ (search reads depth 20 fits 4000)
    (order zero_le_one h (search reads depth 20 fits 4000) (order n k (search reads depth 20 fits 4000) no_fact)) tt))

module _ (eps bound g : Frac) (some : whole (pos 0) <Q eps) (nn : whole (pos 0) ≤Q bound) (gn : whole (pos 0) ≤Q g) where
  abbrev twice : Frac
  twice = whole (pos 2) *Q (whole (pos 1) +Q bound)

  abbrev part : Frac
  part = eps *Q inverse twice

  twice_pos : whole (pos 0) <Q twice
  twice_pos =
      lt_of_lt_le (lt_whole {a = pos 0} {b = pos 2} (omega (arith, ints)))
      (linear_le (bound ∷ []) _ _ (search reads depth 20 fits 4000) (order (zero_le_whole 2) nn (search reads depth 20 fits 4000) no_fact) tt)

  part_pos : whole (pos 0) <Q part
  part_pos = mul_pos some (inverse_pos twice twice_pos)

  -- two parts, taken bound + 1 times, are the residual
  parts : (part +Q part) *Q (whole (pos 1) +Q bound) ≈ eps
  parts =
      linear (eps ∷ bound ∷ inverse twice ∷ []) _ _ (search reads depth 20 fits 4000)
      (fact eps (inverse_is twice (pos_nonzero twice_pos)) (search reads depth 20 fits 4000) no_fact) tt

  module _ (v : Frac) (h : IsNearRoot part (g +Q part +Q part) v) where
    pn : whole (pos 0) ≤Q part
    pn = le_of_lt part_pos

    two_nn : whole (pos 0) ≤Q part +Q part
    two_nn = add_nn pn pn

    mid_root_is : IsMidRoot eps bound g v
    mid_root_is = record {
      miss = part +Q part;
      positive = above_zero v part h.nonneg part_pos
          (linear_le (v ∷ g ∷ part ∷ []) _ _ (search reads depth 20 fits 4000)
          (order zero_le_one h.near (search reads depth 20 fits 4000) (order zero_le_one gn (search reads depth 20 fits 4000) no_fact)) tt);
      near = record {
        above = linear_le (v ∷ g ∷ part ∷ []) _ _ (search reads depth 20 fits 4000)
            (order zero_le_one h.near (search reads depth 20 fits 4000) (order (zero_le_whole 3) pn (search reads depth 20 fits 4000) no_fact)) tt;
        below = linear_le (v ∷ g ∷ part ∷ []) _ _ (search reads depth 20 fits 4000) (order zero_le_one h.below (search reads depth 20 fits 4000) no_fact) tt;
      };
      small = linear_le (eps ∷ bound ∷ part ∷ []) _ _ (search reads depth 20 fits 4000)
          (fact (whole (pos 1)) parts' (search reads depth 20 fits 4000) (order two_nn nn (search reads depth 20 fits 4000) no_fact)) tt;
      fine = linear_le (eps ∷ bound ∷ part ∷ []) _ _ (search reads depth 20 fits 4000)
          (fact (whole (pos 1)) parts' (search reads depth 20 fits 4000) (order (zero_le_whole 2) pn (search reads depth 20 fits 4000) no_fact)) tt;
    }
      where
        parts' : eps ≈ (part +Q part) *Q (whole (pos 1) +Q bound)
        parts' = linear (eps ∷ bound ∷ part ∷ []) _ _ (search reads depth 20 fits 4000) (fact (whole (negsuc 0)) parts (search reads depth 20 fits 4000) no_fact) tt

  pub mid_root : (v : Frac) × IsMidRoot eps bound g v
  mid_root = let r = near_root part (g +Q part +Q part) part_pos (add_nn (add_nn gn (le_of_lt part_pos)) (le_of_lt part_pos)) in (r.0, mid_root_is r.0 r.1)

-- one plus a number above 0 has an inverse
pub past_one : {v : Frac} → whole (pos 0) <Q v → whole (pos 0) <Q whole (pos 1) +Q v
past_one {v} p = lt_of_lt_le p (linear_le (v ∷ []) _ _ (search reads depth 20 fits 4000) (order zero_le_one zero_le_one (search reads depth 20 fits 4000) no_fact) tt)

pub one_plus : {v : Frac} → whole (pos 0) <Q v → (whole (pos 1) +Q v) *Q inverse (whole (pos 1) +Q v) ≈ whole (pos 1)
one_plus {v} p = inverse_is (whole (pos 1) +Q v) (pos_nonzero (past_one p))

-- what the miss leaves in the sag: sag times miss, over one plus the root
pub root_error : (eps bound g v zc : Frac) → IsMidRoot eps bound g v → HasSize bound zc
    → HasSize eps (zc *Q ((g -Q v *Q v) *Q inverse (whole (pos 1) +Q v)))
root_error eps bound g v zc r h =
    let I = inverse (whole (pos 1) +Q v) in
    within_more r.fine
    (within_to (linear (bound ∷ r.miss ∷ []) _ _ (search reads depth 20 fits 4000) no_fact tt)
    (within_mul h (within_mul r.near one)))
  where
    inn : whole (pos 0) ≤Q inverse (whole (pos 1) +Q v)
    inn = le_of_lt (inverse_pos _ (past_one r.positive))

    one : HasSize (whole (pos 1)) (inverse (whole (pos 1) +Q v))
    one = record {
      above = linear_le (v ∷ inverse (whole (pos 1) +Q v) ∷ []) _ _ (search reads depth 20 fits 4000)
          (fact (whole (negsuc 0)) (one_plus r.positive) (search reads depth 20 fits 4000)
          (order (le_of_lt r.positive) inn (search reads depth 20 fits 4000) no_fact)) tt;
      below = linear_le (inverse (whole (pos 1) +Q v) ∷ []) _ _ (search reads depth 20 fits 4000)
          (order zero_le_one inn (search reads depth 20 fits 4000) (order zero_le_one zero_le_one (search reads depth 20 fits 4000) no_fact)) tt;
    }
