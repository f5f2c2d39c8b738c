-- Equal symbols, symbols at rest, and the laws of exchange.
use Rattle.std.proofs.Common.{ℕ, zero, suc, Bool, true, false, ◌&&◌, not, List, [], ◌∷◌, arith, sym}
use Rattle.std.specs.Prelude.{pos, if◌then◌else◌, None}
use Rattle.fixdec.specs.Decimal.{value}
use Rattle.fixdec.specs.Frac.{Frac, ◌≈◌, ◌*Q◌, whole}
use Rattle.fixdec.specs.Algebra.FracLaws.{Q-IsRing, ≈_sym, ≈_trans}
use Rattle.fixdec.specs.Member.{Symbols}
use Rattle.lensmodel.specs.Equations.Chain.{Chain}
use Rattle.examples.specs.Exchange.{IsSameAt, IsSameUpTo, ReachesAlike, LeavesAlike, ClearsAlike, without_box, IsAtRest, CurvatureAtRest, DistanceAtRest, IndexAtRest, IndexFreeKeeps, BoxHoldsLens, LensAtRest}
use Rattle.lensmodel.specs.Setup.Media.{equal_media, same_medium, medium_at}
use Rattle.lensmodel.specs.Setup.Values.{surface_at, owner, reflects, tolerances, stands_on, deviation_from, distance}
use Rattle.lensmodel.specs.declared.setup.Setup.{Setup}
use Rattle.lensmodel.specs.declared.tolerance.Tol.{Tol}
use Rattle.lensmodel.specs.declared.tolerance.TolKind.{TolKind}
use Rattle.examples.proofs.Along.{keep, plus, times, inside_same}
use Rattle.examples.proofs.Exchange.{IsSameLens, reached, left_behind}

choice_same : (b : Bool) {x y u v : Frac} → x ≈ u → y ≈ v → (if b then x else y) ≈ (if b then u else v)
choice_same true p q = p
choice_same false p q = q

-- equal symbols deviate alike
deviation_same : (i : ℕ) (ts : List Tol) (a b : Symbols) (kind : TolKind) (j : ℕ) → ((k : ℕ) → a.at k ≈ b.at k)
    → deviation_from i ts a kind j ≈ deviation_from i ts b kind j
deviation_same i [] a b kind j h = keep
deviation_same i (t ∷ ts) a b kind j h = choice_same (stands_on kind j t) (times keep (h i)) (deviation_same (suc i) ts a b kind j h)

times_zero : (a : Frac) {b : Frac} → b ≈ whole (pos 0) → a *Q b ≈ whole (pos 0)
times_zero a h = ≈_trans (times keep h) (≈_trans (Q-IsRing.mul_comm _ _) (Q-IsRing.zero_mul a))

choice_zero : (b : Bool) {x y z : Frac} → x ≈ z → y ≈ z → (if b then x else y) ≈ z
choice_zero true p q = p
choice_zero false p q = q

-- symbols at rest don't deviate
deviation_at_rest : (i : ℕ) (ts : List Tol) (symbols : Symbols) (kind : TolKind) (j : ℕ) → IsAtRest symbols
    → deviation_from i ts symbols kind j ≈ whole (pos 0)
deviation_at_rest i [] symbols kind j h = keep
deviation_at_rest i (t ∷ ts) symbols kind j h =
    choice_zero (stands_on kind j t) (times_zero (value t.delta) (h i)) (deviation_at_rest (suc i) ts symbols kind j h)

pub curvature_at_rest : CurvatureAtRest
curvature_at_rest s symbols others j h = plus keep (deviation_at_rest 0 (tolerances s.toler) symbols _ j h)

pub distance_at_rest : DistanceAtRest
distance_at_rest s symbols others zero h = keep
distance_at_rest s symbols others (suc j) h = plus keep (deviation_at_rest 0 (tolerances s.toler) symbols _ (suc j) h)

pub index_at_rest : IndexAtRest
index_at_rest s c j h = plus keep (deviation_at_rest 0 (tolerances s.toler) c.symbols _ (owner s j) h)

pub index_free_keeps : IndexFreeKeeps
index_free_keeps s h j =
    λ i. not (reflects s (suc j)) && same_medium (medium_at s j) (medium_at s (suc j)) && not (h (owner s j) i) && not (h (suc j) i)

alike : (s : Setup) (j : ℕ) (a b : Chain) → IsSameUpTo j a b → IsSameLens s s.toler a b
alike s j a b h = record {
  curved = λ k. plus keep (deviation_same 0 (tolerances s.toler) a.symbols b.symbols _ k h.symbols);
  apart = λ k. apart k;
  index = λ k. plus (h.glass_index (owner s k)) (deviation_same 0 (tolerances s.toler) a.symbols b.symbols _ (owner s k) h.symbols);
  glass = h.glass_index;
  media = λ k i. equal_media s k;
}
  where
    apart : (k : ℕ) → distance s a.symbols k ≈ distance s b.symbols k
    apart zero = keep
    apart (suc k) = plus keep (deviation_same 0 (tolerances s.toler) a.symbols b.symbols _ (suc k) h.symbols)

pub reaches_alike : ReachesAlike
reaches_alike s ray j a b h = reached s s.toler a b (alike s j a b h) ray j h.places

pub leaves_alike : LeavesAlike
leaves_alike s ray j a b h = left_behind s s.toler a b (alike s j a b h) ray j h.places

pub clears_alike : ClearsAlike
clears_alike s zero a b h clears = clears
clears_alike s (suc j) a b h clears =
    inside_same (surface_at s (suc j)).rim (surface_at s (suc j)).semi ((h.places (suc j) (omega arith)).rho) clears

-- a chain agrees with itself under other symbols
same_places : (c : Chain) (symbols : Symbols) (i : ℕ) → IsSameAt c (record c { symbols = symbols }) i
same_places c symbols i = record { x = keep; y = keep; z = keep; path = keep; rho = keep; conic_sag = keep; w = keep; l = keep; m = keep; n = keep }

pub box_holds_lens : BoxHoldsLens
box_holds_lens s ray j c rest media at_rest h =
    reached (without_box s) s.toler c (record c { symbols = rest })
    (record {
      curved = λ k. ≈_sym (curvature_at_rest s rest c.symbols k at_rest);
      apart = λ k. ≈_sym (distance_at_rest s rest c.symbols k at_rest);
      index = λ k. ≈_sym (index_at_rest s (record c { symbols = rest }) k at_rest);
      glass = λ k. keep;
      media = λ k. sym (media k);
    })
    ray j (λ i le. same_places c rest i) h

pub lens_at_rest : LensAtRest
lens_at_rest s ray j c media at_rest h =
    reached s None c c
    (record {
      curved = λ k. curvature_at_rest s c.symbols c.symbols k at_rest;
      apart = λ k. distance_at_rest s c.symbols c.symbols k at_rest;
      index = λ k. index_at_rest s c k at_rest;
      glass = λ k. keep;
      media = media;
    })
    ray j (λ i le. same_places c c.symbols i) h
