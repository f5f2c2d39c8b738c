use Rattle.std.proofs.Common.{◌<◌, length, set, ap, arith}
use Rattle.std.specs.Prelude.{pos, ◌+ℤ◌, slice_index_or, unsigned_abs}
use Rattle.std.proofs.lemmas.Int.{ints}
use Rattle.std.proofs.lemmas.List.Sums.{sum_by-set}
use Rattle.forms.proofs.Lists.{added_at_is, size_le}
use Rattle.forms.proofs.coefficients.added_at.Goals as goal

pub returns-clause-value : goal.returns-clause-value
returns-clause-value c =
    let ks = c.args.ks.now in
    let within : c.args.i < length ks = (let l = c.told-ks in let r = c.requires.index in omega arith) in
    let size = size_le ks c.args.i within in
    let total = c.requires.sizes in
    rw (added_at_is c.args.i c.args.d ks within) (ap (set ks c.args.i) (omega (arith, ints)))

pub returns-clause-bound : goal.returns-clause-bound
returns-clause-bound c =
    let ks = c.args.ks.now in
    let within : c.args.i < length ks = (let l = c.told-ks in let r = c.requires.index in omega arith) in
    let x = slice_index_or ks c.args.i (pos 0) in
    let total = c.requires.sizes in
    let change = sum_by-set unsigned_abs ks c.args.i (x +ℤ c.args.d) (pos 0) within in
    rw (returns-clause-value c, added_at_is c.args.i c.args.d ks within) (omega (arith, ints))
