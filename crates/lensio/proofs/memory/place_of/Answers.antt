use Rattle.std.proofs.Common.{nat_eq, arith, sym, ap, ◌∙◌}
use Rattle.std.specs.Cmp.Lexicographic.{pointwise}
use Rattle.lensio.proofs.Found.{found_here}
use Rattle.lensio.proofs.memory.place_of.Goals as goal

pub returns-then-eq : goal.returns-then-eq
returns-then-eq c =
    found_here c.args.files.now c.args.name.now c.loop-i.i c.index-files-i.result (omega arith) c.index-files-i.is c.loop-i.invariant
    (ap (λ xs. pointwise nat_eq xs c.args.name.now) (sym c.as_slice.ensures.value) ∙ sym c.if-eq.ensures)
