-- A paraxial chain and a Seidel chain of the lens of two surfaces, in exact fractions: they meet the equations without a
-- residual, and lie in the intervals of the rows.
use Rattle.std.specs.Prelude.{ℕ, zero, suc, ◌-◌, ℤ, pos, negsuc, List, [], ◌∷◌, slice_index_or}
use Rattle.fixdec.specs.Frac.{Frac, whole}
use Rattle.examples.specs.DoubletExamples.{doublet}
use Rattle.examples.specs.SmallLenses.{whole_dec, tenths}
use Rattle.lensmodel.specs.Paraxial.FirstOrder.{FirstChain, IsFirstChain, HoldsFirst}
use Rattle.lensmodel.specs.Paraxial.FirstOrderRows.{first_order}
use Rattle.lensmodel.specs.Paraxial.Seidel.{FiveSums, SeidelChain, IsSeidelChain, HoldsSeidel}
use Rattle.lensmodel.specs.Paraxial.SeidelRows.{seidel_sums}
use Rattle.lensmodel.specs.Paraxial.Trace.{ParaxialRay}

-- n over d, d being above 0
abbrev pub over : ℤ → ℕ → Frac
over n d = record { num = n; less = d - 1 }

-- values by the numbers of surfaces
abbrev pub listed : List Frac → ℕ → Frac
listed values j = slice_index_or values j (whole (pos 0))

-- the indices, behind the object, the asphere and the conic
abbrev pub doublet_indices : ℕ → Frac
doublet_indices = listed ((whole (pos 1)) ∷ (over (pos 3) 2) ∷ (whole (pos 1)) ∷ [])

-- the ray at the height 2 with the slope 1/10, and the values
abbrev pub doublet_chain : FirstChain
doublet_chain = record {
  index = doublet_indices;
  a = record { y = listed ((whole (pos 1)) ∷ (whole (pos 1)) ∷ (over (pos 22) 25) ∷ (over (negsuc 18) 25) ∷ []); u = listed ((whole (pos 0)) ∷ (over (negsuc 0) 25) ∷ (over (negsuc 40) 500) ∷ []) };
  b = record { y = listed ((whole (pos 0)) ∷ (whole (pos 0)) ∷ (whole (pos 2)) ∷ (whole (pos 21)) ∷ []); u = listed ((whole (pos 1)) ∷ (over (pos 2) 3) ∷ (over (pos 19) 20) ∷ []) };
  asked = record { y = listed ((whole (pos 2)) ∷ (whole (pos 2)) ∷ (over (pos 49) 25) ∷ (over (pos 29) 50) ∷ []); u = listed ((over (pos 1) 10) ∷ (over (negsuc 0) 75) ∷ (over (negsuc 68) 1000) ∷ []) };
  efl = (over (pos 500) 41);
  bfl = (over (pos 440) 41);
  ffl = (over (negsuc 474) 41);
  back = (over (negsuc 59) 41);
  front = (over (pos 25) 41);
  f = (over (negsuc 499) 41);
  enp = (over (pos 25) 11);
}

abbrev pub FirstChainMeets : Type 0
FirstChainMeets = IsFirstChain (doublet 2) (whole_dec (pos 2)) (tenths (pos 1)) doublet_chain

abbrev pub FirstChainHeld : Type 0
FirstChainHeld = HoldsFirst (doublet 2) (first_order (doublet 2) (whole_dec (pos 2)) (tenths (pos 1))) doublet_chain

-- the sums of the asphere and of the conic
abbrev pub asphere_sums : FiveSums
asphere_sums = record { s1 = (over (pos 10679) 900000); s2 = (over (pos 2539) 1800000); s3 = (over (pos 12899) 3600000); s4 = (over (pos 1) 400); s5 = (over (negsuc 11740) 7200000) }

abbrev pub conic_sums : FiveSums
conic_sums = record { s1 = (over (negsuc 4034678) 25000000000); s2 = (over (pos 1074873) 25000000000); s3 = (over (pos 6997449) 25000000000); s4 = (over (pos 1) 960); s5 = (over (pos 563375411) 75000000000) }

-- by the numbers of surfaces
abbrev pub sums_by_surface : ℕ → FiveSums
sums_by_surface zero = asphere_sums
sums_by_surface (suc zero) = asphere_sums
sums_by_surface (suc (suc j)) = conic_sums

-- the marginal ray at the height 1 with the slope 1/10, the chief ray at 1/2 with -1/5, and the sums
abbrev pub sums_chain : SeidelChain
sums_chain = record {
  index = doublet_indices;
  marginal = record { y = listed ((whole (pos 1)) ∷ (whole (pos 1)) ∷ (over (pos 27) 25) ∷ (over (pos 67) 50) ∷ []); u = listed ((over (pos 1) 10) ∷ (over (pos 2) 75) ∷ (over (pos 13) 1000) ∷ []) };
  chief = record { y = listed ((over (pos 1) 2) ∷ (over (pos 1) 2) ∷ (over (pos 1) 25) ∷ (over (negsuc 228) 50) ∷ []); u = listed ((over (negsuc 0) 5) ∷ (over (negsuc 22) 150) ∷ (over (negsuc 230) 1000) ∷ []) };
  sums_at = sums_by_surface;
  whole = record { s1 = (over (pos 2633437889) 225000000000); s2 = (over (pos 327048857) 225000000000); s3 = (over (pos 869164541) 225000000000); s4 = (over (pos 17) 4800); s5 = (over (pos 1323219983) 225000000000) };
}

abbrev pub SumsChainMeets : Type 0
SumsChainMeets = IsSeidelChain (doublet 2) (whole_dec (pos 1)) (tenths (pos 1)) (tenths (pos 5)) (tenths (negsuc 1)) sums_chain

abbrev pub SumsChainHeld : Type 0
SumsChainHeld = HoldsSeidel (seidel_sums (doublet 2) (whole_dec (pos 1)) (tenths (pos 1)) (tenths (pos 5)) (tenths (negsuc 1))) sums_chain
