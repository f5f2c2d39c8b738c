use Rattle.std.proofs.Common.{refl}
use Rattle.sagform.proofs.Norms.{norm_times, computed_times}
use Rattle.sagform.proofs.prepare.coefficient.Goals as goal

pub shifted-requires-clause-low : goal.shifted-requires-clause-low
shifted-requires-clause-low g c =
    let n = c.norm in
    let small = norm_times n.result c.args.i n.ensures.low n.ensures.high c.requires.high in
    rw (computed_times n.result c.from.result c.args.i (record { sfits = n.type_inv }) (record { sfits = c.from.type_inv }) c.from.ensures small.fits) small.low

pub shifted-requires-clause-high : goal.shifted-requires-clause-high
shifted-requires-clause-high g c =
    let n = c.norm in
    let small = norm_times n.result c.args.i n.ensures.low n.ensures.high c.requires.high in
    rw (computed_times n.result c.from.result c.args.i (record { sfits = n.type_inv }) (record { sfits = c.from.type_inv }) c.from.ensures small.fits) small.high

pub returns : goal.returns
returns g c =
    let n = c.norm in
    let small = norm_times n.result c.args.i n.ensures.low n.ensures.high c.requires.high in
    rw (
      c.decimal.ensures,
      c.shifted.ensures.value,
      c.written.ensures.value,
      computed_times n.result c.from.result c.args.i (record { sfits = n.type_inv }) (record { sfits = c.from.type_inv }) c.from.ensures small.fits,
      n.ensures.value,
    ) refl
