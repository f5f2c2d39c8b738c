-- A chain to a surface holds every chain to a surface before it.
use Rattle.std.proofs.Common.{◌≡◌, ℕ, suc, ◌<◌, arith, ◌⊎◌, inl, inr, subst}
use Rattle.examples.specs.ChainLaws.{ReachesBefore, LeavesBefore, WholeReaches, WholeLeaves, ReachesNext}
use Rattle.lensmodel.specs.Equations.Crossing.{Transfers, Crosses}

pub reaches_before : ReachesBefore
reaches_before s ray c i j le h = record {
  start = h.start;
  index = h.index;
  transfer = λ k lt. h.transfer k (omega arith);
  crossing = λ k lt. h.crossing k (omega arith);
  bending = λ k lt. h.bending k (omega arith);
}

pub leaves_before : LeavesBefore
leaves_before s ray c i j lt h = record {
  reaches = reaches_before s ray c i j (omega arith) h;
  leaves = λ k le. h.bending k (omega arith);
}

pub whole_reaches : WholeReaches
whole_reaches s ray c j le h = reaches_before s ray c j _ le h

pub whole_leaves : WholeLeaves
whole_leaves s ray c j lt h = leaves_before s ray c j _ lt h

-- below j + 1 is below j or j
below_or_at : (i j : ℕ) → i < suc j → (i < j) ⊎ (j ≡ i)
below_or_at i j h = grind arith

pub reaches_next : ReachesNext
reaches_next s ray c j h t x = record {
  start = h.reaches.start;
  index = h.reaches.index;
  transfer = λ i lt. elim (below_or_at i j lt) [ inl l ↦ h.reaches.transfer i l | inr e ↦ subst (λ k. Transfers s c k) e t ];
  crossing = λ i lt. elim (below_or_at i j lt) [ inl l ↦ h.reaches.crossing i l | inr e ↦ subst (λ k. Crosses s c k) e x ];
  bending = λ i lt. h.leaves i (omega arith);
}
