-- Linear arithmetic with roots that are tried.
use Rattle.std.proofs.Common.{◌≡◌, ℕ, ◌+◌, ◌-◌, ◌*◌, ◌^◌, max, ap, ◌∙◌, refl}
use Rattle.std.specs.Prelude.{pos, ◌*ℤ◌, ◌-ℤ◌, map, int_lt, int_le, unsigned_abs, if◌then◌else◌}
use Rattle.std.specs.Int.{div_ceil}
use Rattle.fixdec.specs.Form.{LinearForm, linear_operations, lin_hull, within_cap, moved_form, divided_form, lin_of_span, lin_plus, lin_minus, lin_times, lin_over, lin_root, lin_widen, lin_shift, lin_clip, lin_symbol}
use Rattle.fixdec.specs.Interval.{unit, iv_root}
use Rattle.fixdec.specs.Operations.{Operations}
use Rattle.fixdec.specs.Root.{root}
use Rattle.fixdec.specs.Steps.{◌>>=◌}
use Rattle.fixdec.specs.declared.step.Step.{Step}
use Rattle.fixdec.specs.declared.step.Step.TheVariants.{Val, Empty}
use Rattle.examples.proofs.TriedRoots.{tried_root, same_roots, up_by, root_of}

abbrev root_above_by : (ℕ → ℕ) → ℕ → LinearForm → LinearForm
root_above_by f scale a =
    let s = f (unsigned_abs a.centre * 10 ^ scale) in
    let x = max (s - f (unsigned_abs (lin_hull a).lo * 10 ^ scale)) (up_by f (unsigned_abs (lin_hull a).hi * 10 ^ scale) - s) in
    moved_form (pos s) (divided_form (pos (2 * s)) (a.centre *ℤ unit scale -ℤ pos (s * s)) (map (λ k. k *ℤ unit scale) a.coefficients)
    (div_ceil (a.radius * 10 ^ scale) (2 * s) + div_ceil (x * x) (2 * s)))

abbrev form_root_by : (ℕ → ℕ) → ℕ → LinearForm → Step LinearForm
form_root_by f scale a =
    if int_lt (lin_hull a).hi (pos 0)
    then Empty
    else if int_le (lin_hull a).lo (pos 0)
    then (root_of f scale (lin_hull a) >>= λ e. Val (lin_of_span e))
    else within_cap (root_above_by f scale a)

abbrev pub linear_by : (ℕ → ℕ) → ℕ → Operations LinearForm
linear_by f scale = record {
  of_span = lin_of_span;
  hull = lin_hull;
  plus = lin_plus;
  minus = lin_minus;
  times = lin_times scale;
  square = λ a. lin_times scale a a;
  over = lin_over scale;
  root = form_root_by f scale;
  widen = lin_widen;
  shift = lin_shift;
  clip = lin_clip;
  symbol = lin_symbol;
}

whole_linear : linear_by root ≡ linear_operations
unfolding lin_root iv_root
whole_linear = refl

pub same_linear : linear_by tried_root ≡ linear_operations
same_linear = ap linear_by same_roots ∙ whole_linear
