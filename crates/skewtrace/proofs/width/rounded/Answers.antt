use Rattle.std.proofs.Common.{ap, ◌∙◌, arith}
use Rattle.std.specs.Int.{w128}
use Rattle.std.proofs.lemmas.Int.{to_z-of_z}
use Rattle.std.specs.Prelude.{FitsSigned}
use Rattle.fixdec.specs.Ends.{Ends}
use Rattle.skewtrace.proofs.Widths.{rounded_lo, never_empty, never_lost}
use Rattle.skewtrace.proofs.width.rounded.Goals as goal

pub returns-in-Val : goal.returns-in-Val
returns-in-Val c =
    let small = c.span-in-Val.invariant.1 in
    let fits : FitsSigned w128 c.span-in-Val.inside.lo = record { sfits = omega arith } in
    to_z-of_z w128 c.span-in-Val.inside.lo fits ∙ ap (λ (a : Ends). a.lo) c.span-in-Val.view_is
    ∙ rounded_lo c.args.scale c.args.width.now c.in-Val.span c.requires.scale c.requires.range c.in-Val.ensures.value

pub returns-in-Empty : goal.returns-in-Empty
returns-in-Empty c = absurd (never_empty c.args.scale c.args.width.now c.requires.scale c.requires.range c.in-Empty.ensures.value)

pub returns-in-Lost : goal.returns-in-Lost
returns-in-Lost c = absurd (never_lost c.args.scale c.args.width.now _ c.requires.scale c.requires.range c.in-Lost.ensures.value)
