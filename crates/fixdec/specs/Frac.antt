-- A fraction is a whole numerator over a positive whole denominator. Fractions are compared by cross multiplication.
use Rattle.std.specs.Prelude.{◌≡◌, ℕ, suc, ℤ, pos, ◌+◌, ◌*◌, ◌+ℤ◌, ◌*ℤ◌, ◌≤ℤ◌, ◌<ℤ◌, unsigned_abs}
use lib.IntN.{neg_ℤ}

-- `num` over `less + 1`
pub record Frac : Type 0 where
  pub num : ℤ
  pub less : ℕ

abbrev pub den : Frac → ℤ
den x = pos (suc x.less)

infix 4 ◌≈◌ ◌≤Q◌ ◌<Q◌
pub record ◌≈◌ (x y : Frac) : Type 0 where
  pub cross : x.num *ℤ den y ≡ y.num *ℤ den x

pub record ◌≤Q◌ (x y : Frac) : Type 0 where
  pub cross : (x.num *ℤ den y) ≤ℤ (y.num *ℤ den x)

pub record ◌<Q◌ (x y : Frac) : Type 0 where
  pub cross : (x.num *ℤ den y) <ℤ (y.num *ℤ den x)

-- one less than the product of m + 1 and n + 1
abbrev pub less_both : ℕ → ℕ → ℕ
less_both m n = m * n + m + n

infixl 6 ◌+Q◌ ◌-Q◌
infixl 7 ◌*Q◌
unfoldable pub ◌+Q◌ : Frac → Frac → Frac
x +Q y = record { num = x.num *ℤ den y +ℤ y.num *ℤ den x; less = less_both x.less y.less }

unfoldable pub ◌*Q◌ : Frac → Frac → Frac
x *Q y = record { num = x.num *ℤ y.num; less = less_both x.less y.less }

unfoldable pub neg_Q : Frac → Frac
neg_Q x = record { num = neg_ℤ x.num; less = x.less }

unfoldable pub ◌-Q◌ : Frac → Frac → Frac
unfolding ◌+Q◌ neg_Q
x -Q y = x +Q neg_Q y

unfoldable pub whole : ℤ → Frac
whole z = record { num = z; less = 0 }

-- the size of a fraction
abbrev pub size : Frac → Frac
size x = record { num = pos (unsigned_abs x.num); less = x.less }
