-- The mean's ends are in order.
use Rattle.std.proofs.Common.{ℕ, zero, suc, ◌≤◌, arith}
use Rattle.std.proofs.lemmas.Int.{ints}
use Rattle.std.specs.Prelude.{ℤ, pos, ◌≤ℤ◌}
use Rattle.fixdec.specs.Algebra.Order.{cancel_le}
use Rattle.fixdec.specs.Algebra.RoundingLaws.{floor_below, ceil_above}
use Rattle.fixdec.specs.Rounding.{floor, ceil}

pub in_order : (lo hi : ℤ) (n : ℕ) → 1 ≤ n → lo ≤ℤ hi → floor lo (pos n) ≤ℤ ceil hi (pos n)
in_order lo hi zero some l = absurd (omega arith)
in_order lo hi (suc k) some l =
    let below = floor_below lo k in
    let above = ceil_above hi k in
    cancel_le (floor lo (pos (suc k))) (ceil hi (pos (suc k))) k (omega (arith, ints))
