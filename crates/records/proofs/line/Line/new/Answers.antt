use Rattle.std.proofs.Common.{◌≡◌, ℕ, Bool, true, false, List, [], sym, ap, subst, refl, ◌∙◌, true≢false}
use Rattle.std.specs.Prelude.{if◌then◌else◌}
use Rattle.lensmodel.specs.Files.TextLines.{words}
use Rattle.lensmodel.specs.Files.Records.{Words, is_remark}
use Rattle.records.specs.Remarks.{line_words}
use Rattle.records.specs.Words.{IsFirst}
use Rattle.records.specs.WordLaws.{no_words}
use Rattle.records.proofs.line.Line.new.Goals as goal

remark : (line : List ℕ) (remarks : Bool) → remarks ≡ true → is_remark line ≡ true → line_words remarks line ≡ []
remark line true e h = ap (λ (b : Bool). if b then [] else words line) h
remark line false e h = absurd (true≢false (sym e))

pub invariant_of-result : goal.invariant_of-result
invariant_of-result c = subst (λ (ws : Words). IsFirst [] ws) (sym no_words) refl

pub returns-then-is_remark : goal.returns-then-is_remark
returns-then-is_remark c =
    no_words ∙ sym (remark c.args.units.now c.args.remarks c.if-remarks.true (sym c.is_remark.ensures ∙ c.if-is_remark.true))
