-- A paraxial chain and a Seidel chain in exact fractions: each equation by computing.
use Rattle.std.proofs.Common.{◌≡◌, ℕ, zero, suc, ◌<◌, ap, sym, subst, refl, arith}
use Rattle.std.specs.Prelude.{min, pos, negsuc, slice_get, Option, Some, None}
use Rattle.examples.specs.DoubletExamples.{doublet, doublet_out, doublet_sums}
use Rattle.examples.specs.ExactChains.{FirstChainMeets, FirstChainHeld, SumsChainMeets, SumsChainHeld, over, doublet_indices, doublet_chain, sums_chain}
use Rattle.examples.specs.SmallLenses.{whole_dec, tenths}
use Rattle.fixdec.specs.Frac.{◌+Q◌, ◌*Q◌, ◌-Q◌, neg_Q, whole}
use Rattle.lensmodel.specs.Equations.Dispersion.{IsIndex}
use Rattle.lensmodel.specs.Equations.Residual.{IsWithin}
use Rattle.lensmodel.specs.Paraxial.FirstOrder.{one_decimal, Holds, HoldsFirst}
use Rattle.lensmodel.specs.Paraxial.Seidel.{HasSumsAt, HoldsFive, HoldsSeidel}
use Rattle.lensmodel.specs.Paraxial.Trace.{IsParaxialFrom, signed_index, vertex_curvature, thickness}
use Rattle.fixdec.specs.Ends.{Ends}
use Rattle.fixdec.specs.declared.step.Step.{Step}
use Rattle.lensmodel.specs.declared.paraxial.Five.{Five}
use Rattle.lensmodel.specs.Setup.Media.{medium_at}
use Rattle.lensmodel.specs.Setup.Values.{zero_decimal, eps, owner}
use Rattle.examples.proofs.Axis.{formula}
use Rattle.examples.proofs.Concrete.{same, near, inside, less_than}
use Rattle.examples.proofs.FirstOrderExamples as rows

indexed : (i : ℕ) → i < 3 → IsIndex (eps (doublet 2)) (medium_at (doublet 2) i) (doublet 2).wave (doublet_indices (owner (doublet 2) i))
unfolding ◌+Q◌ ◌*Q◌ ◌-Q◌ neg_Q whole
indexed zero lt = same refl
indexed (suc zero) lt = record { f = record { num = pos 9; less = 3 }; positive = less_than tt; formula = formula; square = near tt tt }
indexed (suc (suc zero)) lt = same refl
indexed (suc (suc (suc i))) lt = absurd (omega arith)

ray_a : IsParaxialFrom (doublet 2) doublet_indices one_decimal zero_decimal doublet_chain.a
unfolding ◌+Q◌ ◌*Q◌ ◌-Q◌ neg_Q whole
ray_a = record { height = same refl; slope = same refl; trace = record { refraction = refraction; transfer = transfer } }
  where
    refraction : (j : ℕ) → suc j < 3 → let n = signed_index (doublet 2) doublet_indices j in let n' = signed_index (doublet 2) doublet_indices (suc j) in
        IsWithin (eps (doublet 2)) (n' *Q doublet_chain.a.u (suc j)) (n *Q doublet_chain.a.u j -Q doublet_chain.a.y (suc j) *Q vertex_curvature (doublet 2) (suc j) *Q (n' -Q n))
    refraction zero lt = near tt tt
    refraction (suc zero) lt = near tt tt
    refraction (suc (suc j)) lt = absurd (omega arith)

    transfer : (j : ℕ) → suc j < 3 → IsWithin (eps (doublet 2)) (doublet_chain.a.y (suc (suc j))) (doublet_chain.a.y (suc j) +Q thickness (doublet 2) (suc j) *Q doublet_chain.a.u (suc j))
    transfer zero lt = near tt tt
    transfer (suc zero) lt = near tt tt
    transfer (suc (suc j)) lt = absurd (omega arith)

ray_b : IsParaxialFrom (doublet 2) doublet_indices zero_decimal one_decimal doublet_chain.b
unfolding ◌+Q◌ ◌*Q◌ ◌-Q◌ neg_Q whole
ray_b = record { height = same refl; slope = same refl; trace = record { refraction = refraction; transfer = transfer } }
  where
    refraction : (j : ℕ) → suc j < 3 → let n = signed_index (doublet 2) doublet_indices j in let n' = signed_index (doublet 2) doublet_indices (suc j) in
        IsWithin (eps (doublet 2)) (n' *Q doublet_chain.b.u (suc j)) (n *Q doublet_chain.b.u j -Q doublet_chain.b.y (suc j) *Q vertex_curvature (doublet 2) (suc j) *Q (n' -Q n))
    refraction zero lt = near tt tt
    refraction (suc zero) lt = near tt tt
    refraction (suc (suc j)) lt = absurd (omega arith)

    transfer : (j : ℕ) → suc j < 3 → IsWithin (eps (doublet 2)) (doublet_chain.b.y (suc (suc j))) (doublet_chain.b.y (suc j) +Q thickness (doublet 2) (suc j) *Q doublet_chain.b.u (suc j))
    transfer zero lt = near tt tt
    transfer (suc zero) lt = near tt tt
    transfer (suc (suc j)) lt = absurd (omega arith)

asked : IsParaxialFrom (doublet 2) doublet_indices (whole_dec (pos 2)) (tenths (pos 1)) doublet_chain.asked
unfolding ◌+Q◌ ◌*Q◌ ◌-Q◌ neg_Q whole
asked = record { height = same refl; slope = same refl; trace = record { refraction = refraction; transfer = transfer } }
  where
    refraction : (j : ℕ) → suc j < 3 → let n = signed_index (doublet 2) doublet_indices j in let n' = signed_index (doublet 2) doublet_indices (suc j) in
        IsWithin (eps (doublet 2)) (n' *Q doublet_chain.asked.u (suc j)) (n *Q doublet_chain.asked.u j -Q doublet_chain.asked.y (suc j) *Q vertex_curvature (doublet 2) (suc j) *Q (n' -Q n))
    refraction zero lt = near tt tt
    refraction (suc zero) lt = near tt tt
    refraction (suc (suc j)) lt = absurd (omega arith)

    transfer : (j : ℕ) → suc j < 3 → IsWithin (eps (doublet 2)) (doublet_chain.asked.y (suc (suc j))) (doublet_chain.asked.y (suc j) +Q thickness (doublet 2) (suc j) *Q doublet_chain.asked.u (suc j))
    transfer zero lt = near tt tt
    transfer (suc zero) lt = near tt tt
    transfer (suc (suc j)) lt = absurd (omega arith)

pub first_chain : FirstChainMeets
unfolding ◌+Q◌ ◌*Q◌ ◌-Q◌ neg_Q whole
first_chain = record {
  index = indexed;
  a = ray_a;
  b = ray_b;
  asked = asked;
  values = record { efl = near tt tt; bfl = near tt tt; ffl = near tt tt; back = same refl; front = same refl; f = same refl; enp = λ lt. near tt tt };
}

marginal : IsParaxialFrom (doublet 2) doublet_indices (whole_dec (pos 1)) (tenths (pos 1)) sums_chain.marginal
unfolding ◌+Q◌ ◌*Q◌ ◌-Q◌ neg_Q whole
marginal = record { height = same refl; slope = same refl; trace = record { refraction = refraction; transfer = transfer } }
  where
    refraction : (j : ℕ) → suc j < 3 → let n = signed_index (doublet 2) doublet_indices j in let n' = signed_index (doublet 2) doublet_indices (suc j) in
        IsWithin (eps (doublet 2)) (n' *Q sums_chain.marginal.u (suc j)) (n *Q sums_chain.marginal.u j -Q sums_chain.marginal.y (suc j) *Q vertex_curvature (doublet 2) (suc j) *Q (n' -Q n))
    refraction zero lt = near tt tt
    refraction (suc zero) lt = near tt tt
    refraction (suc (suc j)) lt = absurd (omega arith)

    transfer : (j : ℕ) → suc j < 3 → IsWithin (eps (doublet 2)) (sums_chain.marginal.y (suc (suc j))) (sums_chain.marginal.y (suc j) +Q thickness (doublet 2) (suc j) *Q sums_chain.marginal.u (suc j))
    transfer zero lt = near tt tt
    transfer (suc zero) lt = near tt tt
    transfer (suc (suc j)) lt = absurd (omega arith)

chief : IsParaxialFrom (doublet 2) doublet_indices (tenths (pos 5)) (tenths (negsuc 1)) sums_chain.chief
unfolding ◌+Q◌ ◌*Q◌ ◌-Q◌ neg_Q whole
chief = record { height = same refl; slope = same refl; trace = record { refraction = refraction; transfer = transfer } }
  where
    refraction : (j : ℕ) → suc j < 3 → let n = signed_index (doublet 2) doublet_indices j in let n' = signed_index (doublet 2) doublet_indices (suc j) in
        IsWithin (eps (doublet 2)) (n' *Q sums_chain.chief.u (suc j)) (n *Q sums_chain.chief.u j -Q sums_chain.chief.y (suc j) *Q vertex_curvature (doublet 2) (suc j) *Q (n' -Q n))
    refraction zero lt = near tt tt
    refraction (suc zero) lt = near tt tt
    refraction (suc (suc j)) lt = absurd (omega arith)

    transfer : (j : ℕ) → suc j < 3 → IsWithin (eps (doublet 2)) (sums_chain.chief.y (suc (suc j))) (sums_chain.chief.y (suc j) +Q thickness (doublet 2) (suc j) *Q sums_chain.chief.u (suc j))
    transfer zero lt = near tt tt
    transfer (suc zero) lt = near tt tt
    transfer (suc (suc j)) lt = absurd (omega arith)

first_sums : HasSumsAt (doublet 2) sums_chain 0
unfolding ◌+Q◌ ◌*Q◌ ◌-Q◌ neg_Q whole
first_sums = record {
  r = (whole (pos 1));
  r' = (over (pos 2) 3);
  a = (over (pos 11) 50);
  ab = (over (negsuc 6) 50);
  h = (over (negsuc 0) 4);
  p = (over (negsuc 0) 25);
  dun = (over (negsuc 36) 450);
  dn2 = (over (negsuc 4) 9);
  k8 = (over (pos 3943) 500000);
  inverse = same refl;
  inverse' = same refl;
  a_is = same refl;
  ab_is = same refl;
  h_is = same refl;
  p_is = same refl;
  dun_is = same refl;
  dn2_is = same refl;
  k8_is = same refl;
  s1 = near tt tt;
  s2 = near tt tt;
  s3 = near tt tt;
  s4 = near tt tt;
  s5 = near tt tt;
}

second_sums : HasSumsAt (doublet 2) sums_chain 1
unfolding ◌+Q◌ ◌*Q◌ ◌-Q◌ neg_Q whole
second_sums = record {
  r = (over (pos 2) 3);
  r' = (whole (pos 1));
  a = (over (negsuc 40) 1000);
  ab = (over (negsuc 232) 1000);
  h = (over (negsuc 0) 4);
  p = (over (negsuc 0) 60);
  dun = (over (negsuc 42) 9000);
  dn2 = (over (pos 5) 9);
  k8 = (over (negsuc 0) 8000);
  inverse = same refl;
  inverse' = same refl;
  a_is = same refl;
  ab_is = same refl;
  h_is = same refl;
  p_is = same refl;
  dun_is = same refl;
  dn2_is = same refl;
  k8_is = same refl;
  s1 = near tt tt;
  s2 = near tt tt;
  s3 = near tt tt;
  s4 = near tt tt;
  s5 = near tt tt;
}

summed : (j : ℕ) → suc j < 3 → HasSumsAt (doublet 2) sums_chain j
summed zero lt = first_sums
summed (suc zero) lt = second_sums
summed (suc (suc j)) lt = absurd (omega arith)

pub sums_meet : SumsChainMeets
unfolding ◌+Q◌ ◌*Q◌ ◌-Q◌ neg_Q whole
sums_meet = record {
  index = indexed;
  marginal = marginal;
  chief = chief;
  sums = summed;
  whole = record { s1 = same refl; s2 = same refl; s3 = same refl; s4 = same refl; s5 = same refl };
}

-- what an option holds, or something else
held_or : {X : Type 0} → X → Option X → X
held_or x None = x
held_or x (Some y) = y

-- what is said of a place's value holds of what is got there
got : {X : Type 0} (P : X → Type 0) (x y : X) → P x → Some x ≡ Some y → P y
unfolding held_or
got P x y p h = subst P (ap (held_or x) h) p

-- the ray at place j
abbrev HoldsPassing : ℕ → Step Ends × Step Ends → Type 0
HoldsPassing j p = Holds 15 p.0 (doublet_chain.asked.y (suc j)) × Holds 15 p.1 (doublet_chain.asked.u (min (suc j) 2))

trail_held : (j : ℕ) (p : Step Ends × Step Ends) → slice_get doublet_out.trail.items j ≡ Some p → HoldsPassing j p
unfolding ◌*Q◌ whole
trail_held zero p h = got (HoldsPassing 0) _ p (inside tt tt, inside tt tt) h
trail_held (suc zero) p h = got (HoldsPassing 1) _ p (inside tt tt, inside tt tt) h
trail_held (suc (suc zero)) p h = got (HoldsPassing 2) _ p (inside tt tt, inside tt tt) h
trail_held (suc (suc (suc j))) p h = absurd (cc)

pub first_held : FirstChainHeld
unfolding ◌*Q◌ whole
first_held =
    subst (λ out. HoldsFirst (doublet 2) out doublet_chain) (sym rows.doublet_first)
    (record { efl = inside tt tt; bfl = inside tt tt; ffl = inside tt tt; back = inside tt tt; front = inside tt tt; enp = λ lt. inside tt tt; trail = trail_held })

per_held : (j : ℕ) (five : Five) → slice_get doublet_sums.per.items j ≡ Some five → HoldsFive 15 five (sums_chain.sums_at (suc j))
unfolding ◌*Q◌ whole
per_held zero five h =
    got (λ v. HoldsFive 15 v (sums_chain.sums_at 1)) _ five (record { s1 = inside tt tt; s2 = inside tt tt; s3 = inside tt tt; s4 = inside tt tt; s5 = inside tt tt }) h
per_held (suc zero) five h =
    got (λ v. HoldsFive 15 v (sums_chain.sums_at 2)) _ five (record { s1 = inside tt tt; s2 = inside tt tt; s3 = inside tt tt; s4 = inside tt tt; s5 = inside tt tt }) h
per_held (suc (suc j)) five h = absurd (cc)

pub sums_held : SumsChainHeld
unfolding ◌*Q◌ whole
sums_held =
    subst (λ out. HoldsSeidel out sums_chain) (sym rows.doublet_sums)
    (record { per = per_held; whole = record { s1 = inside tt tt; s2 = inside tt tt; s3 = inside tt tt; s4 = inside tt tt; s5 = inside tt tt } })
