-- The values of a setup without a box.
use Rattle.std.proofs.Common.{◌≡◌, ℕ, sym, subst}
use Rattle.std.specs.Prelude.{pos, None}
use Rattle.fixdec.specs.Frac.{Frac, ◌≈◌, ◌+Q◌, whole}
use Rattle.fixdec.specs.Algebra.FracLaws.{Q-IsRing, ≈_refl, ≈_trans}
use Rattle.fixdec.specs.Member.{Symbols}
use Rattle.examples.specs.ChainLaws.{CurvatureWritten, DistanceWritten, IndexWritten}
use Rattle.lensmodel.specs.Setup.Values.{deviation, deviation_from, tolerances}
use Rattle.lensmodel.specs.declared.setup.Setup.{Setup}
use Rattle.lensmodel.specs.declared.tolerance.TolKind.{TolKind}

-- without a box nothing deviates
no_deviation : (s : Setup) (symbols : Symbols) (kind : TolKind) (j : ℕ) → s.toler ≡ None → deviation s symbols kind j ≈ whole (pos 0)
no_deviation s symbols kind j e = subst (λ t. deviation_from 0 (tolerances t) symbols kind j ≈ whole (pos 0)) (sym e) (≈_refl _)

plus_zero : (a : Frac) {b : Frac} → b ≈ whole (pos 0) → a +Q b ≈ a
plus_zero a h = ≈_trans (Q-IsRing.add_same (≈_refl a) h) (≈_trans (Q-IsRing.add_comm _ _) (Q-IsRing.zero_add a))

pub curvature_written : CurvatureWritten
curvature_written s symbols j e = plus_zero _ (no_deviation s symbols _ _ e)

pub distance_written : DistanceWritten
distance_written s symbols j e = plus_zero _ (no_deviation s symbols _ _ e)

pub index_written : IndexWritten
index_written s c j e = plus_zero _ (no_deviation s c.symbols _ _ e)
