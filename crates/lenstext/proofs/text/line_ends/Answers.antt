use Rattle.std.proofs.Common.{◌≡◌, ◌+◌, ℕ, [], ◌∷◌, ◌++◌, length, ap, ◌∙◌, arith, rules}
use Rattle.std.specs.Prelude.{slice_range}
use Rattle.lensmodel.specs.Files.TextLines.{line_fault}
use Rattle.lenstext.proofs.Cutting.{Kept-start, Kept-push, Kept-whole, Kept-sound}
use Rattle.lenstext.proofs.text.line_ends.Goals as goal

pub loop-start-init : goal.loop-start-init
loop-start-init c = rw c.new-ends.ensures.items (Kept-start c.args.units.now)

pub loop-start-preserved : goal.loop-start-preserved
loop-start-preserved c =
    let us = c.args.units.now in
    let start = c.loop-start.start in
    let end = c.line_end-end.result in
    let ended : c.push.new.self.items ≡ c.loop-start.ends.items ++ end ∷ [] = search rules in
    let count : length c.loop-start.ends.items ≡ c.len.result = omega (arith, c.len.ensures, c.loop-start.ends.ok.0) in
    Kept-push us c.loop-start.ends.items start c.push.new.self.items end c.loop-start.invariant (omega arith) c.line_end-end.ensures.after c.line_end-end.ensures.within ended
    c.line_end-end.ensures.line
    (ap (λ (n : ℕ). line_fault (n + 1) (slice_range us start end)) count ∙ c.in_ok-check_line.ensures.sound)

pub returns-clause-lines : goal.returns-clause-lines
returns-clause-lines c = Kept-whole c.args.units.now _ _ c.loop-start.invariant (omega arith)

pub returns-clause-sound : goal.returns-clause-sound
returns-clause-sound c = Kept-sound c.args.units.now _ _ c.loop-start.invariant (omega arith)
