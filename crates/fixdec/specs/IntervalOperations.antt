-- Interval arithmetic at a scale, as the operations of an arithmetic on ends.
use Rattle.std.specs.Prelude.{ℕ}
use Rattle.fixdec.specs.Ends.{Ends}
use Rattle.fixdec.specs.Interval.{iv_plus, iv_minus, iv_times, iv_square, iv_over, iv_root, iv_widen, iv_shift, iv_clip}
use Rattle.fixdec.specs.Operations.{Operations}

-- a symbol only widens an interval, by the greatest deviation
unfoldable pub operations : ℕ → Operations Ends
operations scale = record {
  of_span = λ a. a;
  hull = λ a. a;
  plus = iv_plus;
  minus = iv_minus;
  times = iv_times scale;
  square = iv_square scale;
  over = iv_over scale;
  root = iv_root scale;
  widen = iv_widen;
  shift = iv_shift;
  clip = iv_clip;
  symbol = λ a i delta. iv_widen a delta.hi;
}
