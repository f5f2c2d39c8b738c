-- Steps on narrower intervals: a narrower value, or Empty; and Empty stays Empty. Nothing is said where the wider one is Lost.
use Rattle.std.proofs.Common.{◌≡◌, true, false, ◌&&◌, arith}
use Rattle.std.proofs.lemmas.Bool.{cond_both}
use Rattle.std.proofs.lemmas.Int.{ints}
use Rattle.std.specs.Prelude.{ℤ, ◌≤ℤ◌, if◌then◌else◌}
use Rattle.fixdec.specs.Ends.{Ends}
use Rattle.fixdec.specs.Interval.{ends, fits_cap}
use Rattle.fixdec.specs.Steps.{◌>>=◌}
use Rattle.fixdec.specs.declared.step.Step.{Step}
use Rattle.fixdec.specs.declared.step.Step.TheVariants.{Val, Empty, Lost}
use Rattle.fixdec.specs.declared.step.Why.TheVariants.{Range}

-- a is an interval, and a part of b
pub record IsPart (a b : Ends) : Type 0 where
  pub low : b.lo ≤ℤ a.lo
  pub order : a.lo ≤ℤ a.hi
  pub high : a.hi ≤ℤ b.hi

module _ {A : Type 0} (part : A → A → Type 0) where
  -- a value that is a part of b, or Empty
  abbrev pub IsPartOf : Step A → A → Type 0
  IsPartOf (Val a) b = part a b
  IsPartOf Empty b = Unit {0}
  IsPartOf (Lost why) b = ⊥

  abbrev pub IsEmpty : Step A → Type 0
  IsEmpty (Val a) = ⊥
  IsEmpty Empty = Unit {0}
  IsEmpty (Lost why) = ⊥

  -- what the first answers, where the second is the wider one
  abbrev pub IsNarrower : Step A → Step A → Type 0
  IsNarrower r (Val b) = IsPartOf r b
  IsNarrower r Empty = IsEmpty r
  IsNarrower r (Lost why) = Unit {0}

  pub empty_narrower : (r : Step A) → IsNarrower Empty r
  empty_narrower (Val b) = tt
  empty_narrower Empty = tt
  empty_narrower (Lost why) = tt

-- steps one after another
pub narrower_then : {A B : Type 0} (p : A → A → Type 0) (q : B → B → Type 0) (r s : Step A) (f g : A → Step B)
    → IsNarrower p r s → ((a b : A) → p a b → IsNarrower q (f a) (g b)) → IsNarrower q (r >>= f) (s >>= g)
narrower_then p q (Val a) (Val b) f g h k = k a b h
narrower_then p q Empty (Val b) f g h k = empty_narrower q (g b)
narrower_then p q (Lost why) (Val b) f g h k = absurd h
narrower_then p q (Val a) Empty f g h k = absurd h
narrower_then p q Empty Empty f g h k = tt
narrower_then p q (Lost why) Empty f g h k = absurd h
narrower_then p q r (Lost why) f g h k = tt

-- the interval of narrower ends
pub ends_narrower : (l h m k : ℤ) → m ≤ℤ l → l ≤ℤ h → h ≤ℤ k → IsNarrower IsPart (ends l h) (ends m k)
unfolding ends
ends_narrower l h m k p o q =
    cond_both (fits_cap m && fits_cap k) (Val (record { lo = m; hi = k })) (Lost Range) (λ s. IsNarrower IsPart (if fits_cap l && fits_cap h then Val (record { lo = l; hi = h }) else Lost Range) s)
    (λ e. cond_both (fits_cap l && fits_cap h) (Val (record { lo = l; hi = h })) (Lost Range) (λ r. IsPartOf IsPart r (record { lo = m; hi = k }))
    (λ d. record { low = p; order = o; high = q }) (λ d. absurd (fit e d)))
    (λ e. tt)
  where
    fit : fits_cap m && fits_cap k ≡ true → fits_cap l && fits_cap h ≡ false → ⊥
    fit e d = grind (arith, ints)
