-- Which lines of a job ask for Seidel sums. Cited by the writing of sums.
use Rattle.std.specs.Prelude.{Bool, true, false}
use Rattle.lensmodel.specs.declared.job.Ask.{Ask}
use Rattle.lensmodel.specs.declared.job.Ask.TheVariants.{Ray, Aim, Fan, Spot, First, Seidel}

abbrev pub is_pair : Ask → Bool
is_pair (Ray x y p q) = false
is_pair (Aim p q px py z r) = false
is_pair (Fan p q n z r) = false
is_pair (Spot p q n z r) = false
is_pair (First y u) = false
is_pair (Seidel y u yb ub) = true
