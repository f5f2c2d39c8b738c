-- Whole roots that compute on large numbers: a candidate is found digit by digit, and tried, so that it is the root.
use Rattle.std.proofs.Common.{◌≡◌, ℕ, zero, suc, ◌+◌, ◌*◌, ◌^◌, Bool, true, ◌&&◌, ap, ◌∙◌, refl}
use Rattle.std.proofs.Math.Path.{fun_ext}
use Rattle.std.proofs.lemmas.Bool.{cond_both, leb-true, and_parts}
use Rattle.std.specs.Prelude.{pos, cond, nat_le, nat_eq, int_lt, if◌then◌else◌}
use Rattle.fixdec.specs.Ends.{Ends}
use Rattle.fixdec.specs.Interval.{ends, positive_part, iv_plus, iv_minus, iv_times, iv_square, iv_over, iv_root, iv_widen, iv_shift, iv_clip}
use Rattle.fixdec.specs.IntervalOperations.{operations}
use Rattle.fixdec.specs.Operations.{Operations}
use Rattle.fixdec.specs.Root.{root}
use Rattle.fixdec.specs.Algebra.RootLaws.{root_is, root_unique}
use Rattle.fixdec.specs.declared.step.Step.{Step}
use Rattle.fixdec.specs.declared.step.Step.TheVariants.{Empty}

-- the root from its binary digits, r being those from the k-th on
abbrev digits : ℕ → ℕ → ℕ → ℕ
digits n r zero = r
digits n r (suc k) = digits n (cond (nat_le ((r + 2 ^ k) * (r + 2 ^ k)) n) (r + 2 ^ k) r) k

abbrev is_root : ℕ → ℕ → Bool
is_root n r = nat_le (r * r) n && nat_le (suc n) ((r + 1) * (r + 1))

both : (n r : ℕ) → is_root n r ≡ true → r ≡ root n
both n r e = let h = and_parts (nat_le (r * r) n) (nat_le (suc n) ((r + 1) * (r + 1))) e in root_unique n r (root n) (record { low = leb-true _ _ h.0; high = leb-true _ _ h.1 }) (root_is n)

-- the candidate where it is the root, else the root
abbrev tried : ℕ → ℕ → ℕ
tried n r = cond (is_root n r) r (root n)

abbrev pub tried_root : ℕ → ℕ
tried_root n = tried n (digits n 0 60)

tried_is : (n r : ℕ) → tried n r ≡ root n
tried_is n r = cond_both (is_root n r) r (root n) (λ x. x ≡ root n) (both n r) (λ e. refl)

pub same_roots : tried_root ≡ root
same_roots = fun_ext (λ n. tried_is n (digits n 0 60))

-- interval arithmetic with this root
abbrev pub up_by : (ℕ → ℕ) → ℕ → ℕ
up_by f n = let r = f n in cond (nat_eq (r * r) n) r (r + 1)

abbrev pub root_of : (ℕ → ℕ) → ℕ → Ends → Step Ends
root_of f scale a =
    if int_lt a.hi (pos 0)
    then Empty
    else ends (pos (f (positive_part a.lo * 10 ^ scale))) (pos (up_by f (positive_part a.hi * 10 ^ scale)))

abbrev pub operations_by : (ℕ → ℕ) → ℕ → Operations Ends
operations_by f scale = record {
  of_span = λ a. a;
  hull = λ a. a;
  plus = iv_plus;
  minus = iv_minus;
  times = iv_times scale;
  square = iv_square scale;
  over = iv_over scale;
  root = root_of f scale;
  widen = iv_widen;
  shift = iv_shift;
  clip = iv_clip;
  symbol = λ a i delta. iv_widen a delta.hi;
}

whole_operations : operations_by root ≡ operations
unfolding operations iv_root
whole_operations = refl

pub same_operations : operations_by tried_root ≡ operations
same_operations = ap operations_by same_roots ∙ whole_operations
