use Rattle.std.proofs.Common.{ℕ, List, ap, sym, ◌∙◌}
use Rattle.std.proofs.lemmas.Result.{err_from_is_err_and}
use Rattle.lenstext.specs.Cuts.{cut}
use Rattle.lenstext.proofs.Cutting.{text-ok, text-fault, text-odd}
use Rattle.lenstext.proofs.text.decode.Goals as goal

pub returns-in_err-units-clause-fault : goal.returns-in_err-units-clause-fault
returns-in_err-units-clause-fault c =
    let p = err_from_is_err_and c.from_residual.result c.from_residual.ensures.1 in
    rw (p.1, p.2) (λ ne. let odd = c.in_err-units.ensures.odd ne in text-odd c.args.bytes.now _ odd.1 odd.0)

pub returns-in_err-ends-clause-fault : goal.returns-in_err-ends-clause-fault
returns-in_err-ends-clause-fault c =
    let p = err_from_is_err_and c.from_residual-in_err-ends.result c.from_residual-in_err-ends.ensures.1 in
    rw (p.1, p.2)
    (λ ne. text-fault c.args.bytes.now c.deref.result.now _ c.in_ok-units.ensures.even (c.deref.ensures.value ∙ c.in_ok-units.ensures.units) (c.in_err-ends.ensures.fault ne))

pub returns-clause-lines : goal.returns-clause-lines
returns-clause-lines c =
    text-ok c.args.bytes.now c.deref.result.now _ c.in_ok-units.ensures.even (c.deref.ensures.value ∙ c.in_ok-units.ensures.units) c.in_ok-ends.ensures.sound
    (ap (λ (us : List ℕ). cut 0 us c.in_ok-ends.ends.items) (sym c.deref.ensures.value) ∙ c.in_ok-ends.ensures.lines)
