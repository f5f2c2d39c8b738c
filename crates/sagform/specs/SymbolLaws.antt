-- A value with the symbol of its tolerance holds the value with its deviation.
use Rattle.std.proofs.Common.{ℕ, suc, ◌+◌, ◌<◌, ◌≤◌, Bool, true, false, List, [], ◌∷◌, length, arith}
use Rattle.std.specs.List.{All}
use Rattle.std.specs.Prelude.{pos, IsTrue, if◌then◌else◌}
use Rattle.fixdec.specs.Decimal.{Decimal, value}
use Rattle.fixdec.specs.Frac.{Frac, ◌≈◌, ◌+Q◌, ◌*Q◌, whole}
use Rattle.fixdec.specs.Algebra.Linear.{linear, no_fact, reads}
use Rattle.fixdec.specs.Member.{IsMember, Symbols}
use Rattle.fixdec.specs.Operations.{Operations, IsLawful}
use Rattle.fixdec.specs.Scaled.{dec_span}
use Rattle.fixdec.specs.Steps.{OnVal, OnVal-then, ◌>>=◌}
use Rattle.lensmodel.specs.Rows.Preparation.{with_symbol, with_symbol_from}
use Rattle.lensmodel.specs.Setup.Ranges.{is_not_negative}
use Rattle.lensmodel.specs.Setup.Values.{deviation, deviation_from, stands_on, tolerances, image}
use Rattle.lensmodel.specs.Setup.WellFormed.{IsBox}
use Rattle.lensmodel.specs.declared.setup.Setup.{Setup}
use Rattle.lensmodel.specs.declared.tolerance.Tol.{Tol}
use Rattle.lensmodel.specs.declared.tolerance.TolKind.{TolKind}
use Rattle.sagform.specs.Deviations.{IsDeviation, deviation_span}

plus_zero : (u : Frac) → u ≈ u +Q whole (pos 0)
plus_zero u = linear (u ∷ []) _ _ (search reads depth 12) no_fact tt

module _ {A : Type 0} (scale : ℕ) (o : Operations A) (member : A → Symbols → Frac → Type 0) (law : IsLawful scale o member) (sy : Symbols) where
  -- where a tolerance stands
  symbol-member : (i : ℕ) (delta : Decimal) (v : A) (u : Frac) → i < 32 → IsTrue (is_not_negative delta) → member v sy u
      → OnVal (dec_span scale delta >>= λ d. o.symbol v i d) (λ r. member r sy (u +Q value delta *Q sy.at i))
  symbol-member i delta v u l h m =
      OnVal-then (dec_span scale delta) _ (λ d. IsMember scale d (value delta) × IsDeviation d) _
      (deviation_span scale delta h) λ d k.
      law.symbol sy v i d u (value delta) l k.1.sign m k.0

  symbol_cases : (b : Bool) (i : ℕ) (t : Tol) (ts : List Tol) (kind : TolKind) (j : ℕ) (v : A) (u : Frac)
      → i < 32 → IsTrue (is_not_negative t.delta) → member v sy u
      → OnVal (with_symbol_from o scale (suc i) ts kind j v) (λ r. member r sy (u +Q deviation_from (suc i) ts sy kind j))
      → OnVal (if b then (dec_span scale t.delta >>= λ d. o.symbol v i d) else with_symbol_from o scale (suc i) ts kind j v)
      (λ r. member r sy (u +Q (if b then value t.delta *Q sy.at i else deviation_from (suc i) ts sy kind j)))
  symbol_cases true i t ts kind j v u l h m k = symbol-member i t.delta v u l h m
  symbol_cases false i t ts kind j v u l h m k = k

  with_symbol_from-member : (i : ℕ) (ts : List Tol) (kind : TolKind) (j : ℕ) (v : A) (u : Frac)
      → i + length ts ≤ 32 → All (λ t. IsTrue (is_not_negative t.delta)) ts → member v sy u
      → OnVal (with_symbol_from o scale i ts kind j v) (λ r. member r sy (u +Q deviation_from i ts sy kind j))
  with_symbol_from-member i [] kind j v u l h m = law.same sy v _ _ (plus_zero u) m
  with_symbol_from-member i (t ∷ ts) kind j v u l h m =
      symbol_cases (stands_on kind j t) i t ts kind j v u (omega arith) (h 0 t (omega arith)) m
      (with_symbol_from-member (suc i) ts kind j v u (omega arith) (λ k d q. h (suc k) d (omega arith)) m)

  -- a value with its symbol, for a value without it
  pub with_symbol-member : (s : Setup) (kind : TolKind) (j : ℕ) (v : A) (u : Frac) → IsBox (image s) (tolerances s.toler) → member v sy u
      → OnVal (with_symbol o scale s kind j v) (λ r. member r sy (u +Q deviation s sy kind j))
  with_symbol-member s kind j v u box m = with_symbol_from-member 0 (tolerances s.toler) kind j v u (omega (arith, box.count)) box.deltas m
