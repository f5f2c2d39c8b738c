use Rattle.std.proofs.Common.{◌≡◌, ◌+◌, ◌-◌, ◌*◌, ◌<◌, arith}
use Rattle.spotfan.proofs.Launches.{fan-front, fan-back}
use Rattle.spotfan.proofs.launch.fan_point.Goals as goal

pub returns-then-i-side : goal.returns-then-i-side
returns-then-i-side c through =
    let l : c.args.i < 2 * c.args.n + 1 = omega arith in
    rw (c.whole_ratio-middle.ensures, c.part.ensures) (fan-front through c.args.n c.args.i l)

pub returns-else-i-side : goal.returns-else-i-side
returns-else-i-side c through =
    let j = c.args.i - (2 * c.args.n + 1) in
    let l : j < 2 * c.args.n + 1 = omega arith in
    let e : c.args.i ≡ (2 * c.args.n + 1) + j = omega arith in
    rw (c.whole_ratio-middle.ensures, c.part-else-i-side.ensures, c.side-else-i-side.ensures) (fan-back through c.args.n c.args.i j e l)
