-- The rays that a job asks for, one by one in their order. Cited by the launches of a job and by the commands that trace.
use Rattle.std.specs.Prelude.{ℕ, zero, suc, ℤ, pos, neg_ℤ, ◌+ℤ◌, ◌+◌, ◌*◌, List, [], ◌∷◌, ◌++◌, map, flat_map, sum_by}
use Rattle.fixdec.specs.Decimal.{Decimal}
use Rattle.lensmodel.specs.Setup.Ratio.{Ratio}
use Rattle.lensmodel.specs.Setup.Values.{zero_decimal}
use Rattle.lensmodel.specs.declared.job.Ask.{Ask}
use Rattle.lensmodel.specs.declared.job.Ask.TheVariants.{Ray, Aim, Fan, Spot, First, Seidel}
use Rattle.lensmodel.specs.declared.launch.Launch.{Launch}
use Rattle.lensmodel.specs.declared.launch.Launch.TheVariants.{Plain, Pupil}

-- a decimal as a fraction
abbrev pub plain_ratio : Decimal → Ratio
plain_ratio d = record { num = d; den = 1 }

-- the middle of the pupil, in one coordinate
abbrev pub middle : Ratio
middle = plain_ratio zero_decimal

-- i / n of the pupil's radius
abbrev pub part : ℕ → ℤ → Ratio
part n i = record { num = record { mant = i; exp = pos 0 }; den = n }

-- so many whole numbers from i on
abbrev pub numbers_from : ℤ → ℕ → List ℤ
numbers_from i zero = []
numbers_from i (suc left) = i ∷ numbers_from (i +ℤ pos 1) left

-- the parts of a pupil's side: i / n for i from -n to n
abbrev pub parts : ℕ → List Ratio
parts n = map (part n) (numbers_from (neg_ℤ (pos n)) (2 * n + 1))

-- FAN: first along y, then along x
abbrev pub fan : (Ratio → Ratio → Launch) → ℕ → List Launch
fan through n = map (λ py. through middle py) (parts n) ++ map (λ px. through px middle) (parts n)

-- SPOT: the grid, x being the outer coordinate and y the inner one
abbrev pub grid : (Ratio → Ratio → Launch) → ℕ → List Launch
grid through n = flat_map (λ px. map (λ py. through px py) (parts n)) (parts n)

-- the rays of a line of a job; FIRST and SEIDEL ask for none
unfoldable pub launches : Ask → List Launch
launches (Ray x y p q) = Plain x y p q ∷ []
launches (Aim p q px py z r) = Pupil p q (plain_ratio px) (plain_ratio py) z r ∷ []
launches (Fan p q n z r) = fan (λ px py. Pupil p q px py z r) n
launches (Spot p q n z r) = grid (λ px py. Pupil p q px py z r) n
launches (First y u) = []
launches (Seidel y u yb ub) = []

-- how many rays a line of a job asks for
unfoldable pub count : Ask → ℕ
count (Ray x y p q) = 1
count (Aim p q px py z r) = 1
count (Fan p q n z r) = 2 * (2 * n + 1)
count (Spot p q n z r) = (2 * n + 1) * (2 * n + 1)
count (First y u) = 0
count (Seidel y u yb ub) = 0

-- the rays of a whole job: those of its lines, joined in order
abbrev pub job_launches : List Ask → List Launch
job_launches asks = flat_map launches asks

-- how many rays a whole job asks for
abbrev pub job_count : List Ask → ℕ
job_count asks = sum_by count asks
