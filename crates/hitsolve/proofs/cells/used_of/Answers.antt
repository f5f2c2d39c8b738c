use Rattle.std.proofs.Common.{[], ◌∷◌, ◌∙◌, refl, arith}
use Rattle.std.specs.Prelude.{pos}
use Rattle.std.proofs.lemmas.List.{get_or_default}
use Rattle.enclose.specs.Zeros.{single}
use Rattle.hitsolve.specs.Used.{none_before}
use Rattle.hitsolve.proofs.cells.used_of.Goals as goal

pub loop-used-preserved : goal.loop-used-preserved
loop-used-preserved c =
    let used = c.loop-used.used in
    let kept = c.loop-used.invariant in
    let read = get_or_default (c.b.inside.b1 ∷ c.b.inside.b2 ∷ c.b.inside.b3 ∷ c.b.inside.b4 ∷ c.b.inside.b5 ∷ c.b.inside.b6 ∷ c.b.inside.b7 ∷ c.b.inside.b8 ∷ []) _ (single (pos 0)) _ (let small = kept.0 in omega arith) in
    (omega arith, none_before _ used _ (omega arith) kept.1 (read ∙ c.if-is_zero.ensures refl))
