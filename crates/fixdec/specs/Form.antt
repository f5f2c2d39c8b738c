-- Linear arithmetic: what each operation on linear forms answers, in raw whole numbers. At a scale the raw number v
-- stands for v / 10^scale, and U is 10^scale. "Rounded" is rounded down. An answer is Lost Range exactly where the size
-- of the centre and the deviation of the stated form pass the cap together, or where a bound below says so, unless
-- another answer is stated first.
use Rattle.std.specs.Prelude.{ℕ, zero, suc, ◌+◌, ◌-◌, ◌*◌, ◌^◌, Bool, not, ◌||◌, if◌then◌else◌, max, ℤ, pos, ◌+ℤ◌, ◌-ℤ◌, ◌*ℤ◌, List, [], ◌∷◌, map, replicate, sum_by, count_by, int_le, int_lt, int_div, unsigned_abs}
use Rattle.std.specs.Int.{div_ceil}
use Rattle.std.specs.Ordering.{int_eq}
use Rattle.fixdec.specs.Ends.{Ends}
use Rattle.fixdec.specs.Interval.{fits_cap, holds_zero, iv_root, unit}
use Rattle.fixdec.specs.Operations.{Operations}
use Rattle.fixdec.specs.Root.{root, root_up_by}
use Rattle.fixdec.specs.Rounding.{floor}
use Rattle.fixdec.specs.Steps.{◌>>=◌}
use Rattle.fixdec.specs.declared.step.Step.{Step}
use Rattle.fixdec.specs.declared.step.Step.TheVariants.{Val, Empty, Lost}
use Rattle.fixdec.specs.declared.step.Why.TheVariants.{Zero, Range}

-- a centre, coefficients of the symbols by their numbers, and a radius
pub record LinearForm : Type 0 where
  pub centre : ℤ
  pub coefficients : List ℤ
  pub radius : ℕ

-- the sum of the sizes
abbrev pub sizes : List ℤ → ℕ
sizes ks = sum_by unsigned_abs ks

-- the deviation: the sum of the coefficients' sizes, and the radius
abbrev pub dev : LinearForm → ℕ
dev f = sizes f.coefficients + f.radius

-- the centre less and plus the deviation
abbrev pub lin_hull : LinearForm → Ends
lin_hull f = record { lo = f.centre -ℤ pos (dev f); hi = f.centre +ℤ pos (dev f) }

-- the form, or Lost Range where its centre's size and deviation pass the cap
abbrev pub within_cap : LinearForm → Step LinearForm
within_cap f = if fits_cap (pos (unsigned_abs f.centre + dev f)) then Val f else Lost Range

-- whether n / d has a remainder
abbrev pub has_remainder : ℤ → ℤ → Bool
has_remainder d n = not (int_eq (floor n d *ℤ d) n)

-- how many of the quotients of these numbers by d have a remainder
abbrev pub remainders : ℤ → List ℤ → ℕ
remainders d ns = count_by (has_remainder d) ns

-- the quotients by d, rounded
abbrev pub quotients : ℤ → List ℤ → List ℤ
quotients d ns = map (λ n. floor n d) ns

-- a centre n and coefficients ns over d, rounded; a unit of the radius for each that has a remainder
abbrev pub divided_form : ℤ → ℤ → List ℤ → ℕ → LinearForm
divided_form d n ns radius = record { centre = floor n d; coefficients = quotients d ns; radius = radius + remainders d (n ∷ ns) }

-- the form moved by a number
abbrev pub moved_form : ℤ → LinearForm → LinearForm
moved_form q f = record f { centre = q +ℤ f.centre }

-- two lists coefficient by coefficient, where the shorter one goes on with zeros
abbrev pub coefficientwise : (ℤ → ℤ → ℤ) → List ℤ → List ℤ → List ℤ
coefficientwise f [] ls = map (f (pos 0)) ls
coefficientwise f (k ∷ ks) [] = map (λ x. f x (pos 0)) (k ∷ ks)
coefficientwise f (k ∷ ks) (l ∷ ls) = f k l ∷ coefficientwise f ks ls

-- the form of an interval: its middle, rounded towards 0, and the greater distance of an end
unfoldable pub lin_of_span : Ends → LinearForm
lin_of_span e =
    let c = int_div (e.lo +ℤ e.hi) (pos 2) in
    record { centre = c; coefficients = replicate 32 (pos 0); radius = max (unsigned_abs (e.hi -ℤ c)) (unsigned_abs (c -ℤ e.lo)) }

-- the sum: centres, coefficients and radii added
unfoldable pub lin_plus : LinearForm → LinearForm → Step LinearForm
lin_plus a b =
    within_cap record { centre = a.centre +ℤ b.centre; coefficients = coefficientwise ◌+ℤ◌ a.coefficients b.coefficients; radius = a.radius + b.radius }

-- the difference: centres and coefficients subtracted, radii added
unfoldable pub lin_minus : LinearForm → LinearForm → Step LinearForm
lin_minus a b =
    within_cap record { centre = a.centre -ℤ b.centre; coefficients = coefficientwise ◌-ℤ◌ a.coefficients b.coefficients; radius = a.radius + b.radius }

-- the coefficients of a product, times U: coefficient i is ca kb_i + cb ka_i
abbrev pub cross_terms : LinearForm → LinearForm → List ℤ
cross_terms a b = coefficientwise (λ k l. a.centre *ℤ l +ℤ b.centre *ℤ k) a.coefficients b.coefficients

-- what a product has beside its centre and its coefficients, times U
abbrev pub error_terms : LinearForm → LinearForm → ℕ
error_terms a b = unsigned_abs a.centre * b.radius + unsigned_abs b.centre * a.radius + dev a * dev b

-- the product
unfoldable pub lin_times : ℕ → LinearForm → LinearForm → Step LinearForm
lin_times scale a b = within_cap (divided_form (unit scale) (a.centre *ℤ b.centre) (cross_terms a b) (div_ceil (error_terms a b) (10 ^ scale)))

-- what a first quotient q leaves of a number: v U less q times w
abbrev pub quotient_rest : ℕ → ℤ → ℤ → ℤ → ℤ
quotient_rest scale q v w = v *ℤ unit scale -ℤ q *ℤ w

-- the quotient, about a first quotient q of the centres
abbrev pub quotient_about : ℕ → ℤ → LinearForm → LinearForm → Step LinearForm
quotient_about scale q a b =
    let pc = quotient_rest scale q a.centre b.centre in
    let ps = coefficientwise (quotient_rest scale q) a.coefficients b.coefficients in
    let pr = a.radius * 10 ^ scale + unsigned_abs q * b.radius in
    let c = unsigned_abs b.centre in
    let x = div_ceil (unsigned_abs pc + sizes ps + pr) (c - dev b) in
    if fits_cap (pos x) then within_cap (moved_form q (divided_form b.centre pc ps (div_ceil pr c + div_ceil (x * dev b) c))) else Lost Range

-- the quotient: Lost Zero exactly where the divisor's hull holds 0
unfoldable pub lin_over : ℕ → LinearForm → LinearForm → Step LinearForm
lin_over scale a b =
    let q = floor (a.centre *ℤ unit scale) b.centre in
    if holds_zero (lin_hull b) then Lost Zero else if fits_cap q then quotient_about scale q a b else Lost Range

-- the root of a form whose hull lies above 0
abbrev pub root_above : ℕ → LinearForm → LinearForm
root_above scale a =
    let s = root (unsigned_abs a.centre * 10 ^ scale) in
    let x = max (s - root (unsigned_abs (lin_hull a).lo * 10 ^ scale)) (root_up_by (unsigned_abs (lin_hull a).hi * 10 ^ scale) - s) in
    moved_form (pos s) (divided_form (pos (2 * s)) (a.centre *ℤ unit scale -ℤ pos (s * s)) (map (λ k. k *ℤ unit scale) a.coefficients)
    (div_ceil (a.radius * 10 ^ scale) (2 * s) + div_ceil (x * x) (2 * s)))

-- the root: Empty exactly where the hull lies below 0; the form of the hull's interval root where the hull reaches down to 0
unfoldable pub lin_root : ℕ → LinearForm → Step LinearForm
lin_root scale a =
    if int_lt (lin_hull a).hi (pos 0)
    then Empty
    else if int_le (lin_hull a).lo (pos 0)
    then (iv_root scale (lin_hull a) >>= λ e. Val (lin_of_span e))
    else within_cap (root_above scale a)

-- the radius grows by e
unfoldable pub lin_widen : LinearForm → ℤ → Step LinearForm
lin_widen a e = within_cap record a { radius = a.radius + unsigned_abs e }

-- times a power of ten, exactly
abbrev pub multiplied_form : ℕ → LinearForm → LinearForm
multiplied_form n a = record { centre = a.centre *ℤ pos n; coefficients = map (λ k. k *ℤ pos n) a.coefficients; radius = a.radius * n }

-- times 10^-k: rounded for k above 0, and exact for k at most 0
unfoldable pub lin_shift : LinearForm → ℤ → Step LinearForm
lin_shift a k =
    let n = 10 ^ unsigned_abs k in
    if int_lt (pos 0) k then within_cap (divided_form (pos n) a.centre a.coefficients (div_ceil a.radius n)) else within_cap (multiplied_form n a)

-- the form unchanged: Empty exactly where its hull and s have no number in common
unfoldable pub lin_clip : LinearForm → Ends → Step LinearForm
lin_clip a s = if int_lt (lin_hull a).hi s.lo || int_lt s.hi (lin_hull a).lo then Empty else Val a

-- the coefficients with d added to coefficient i; a list that is too short goes on with zeros
abbrev pub added_at : ℕ → ℤ → List ℤ → List ℤ
added_at zero d [] = d ∷ []
added_at zero d (k ∷ ks) = (k +ℤ d) ∷ ks
added_at (suc i) d [] = pos 0 ∷ added_at i d []
added_at (suc i) d (k ∷ ks) = k ∷ added_at i d ks

-- coefficient i grows by the deviation's least value, and the radius by its width
unfoldable pub lin_symbol : LinearForm → ℕ → Ends → Step LinearForm
lin_symbol a i delta =
    within_cap record a { coefficients = added_at i delta.lo a.coefficients; radius = a.radius + unsigned_abs (delta.hi -ℤ delta.lo) }

-- linear arithmetic at a scale
abbrev pub linear_operations : ℕ → Operations LinearForm
linear_operations scale = record {
  of_span = lin_of_span;
  hull = lin_hull;
  plus = lin_plus;
  minus = lin_minus;
  times = lin_times scale;
  square = λ a. lin_times scale a a;
  over = lin_over scale;
  root = lin_root scale;
  widen = lin_widen;
  shift = lin_shift;
  clip = lin_clip;
  symbol = lin_symbol;
}
