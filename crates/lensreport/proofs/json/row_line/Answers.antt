use Rattle.std.proofs.Common.{ℕ, List, [], ◌∷◌, ◌++◌, ap, ◌∙◌}
use Rattle.serde_json.specs.Written.{compact_text, has_float}
use Rattle.lensreport.proofs.JsonTexts.{row_text, row_whole}
use Rattle.lensreport.proofs.json.row_line.Goals as goal

pub returns : goal.returns
returns c =
    let whole = ap has_float c.in_ok-row_value.ensures ∙ row_whole c.args.i c.args.r.now in
    let written = c.in_ok-text.ensures.text whole ∙ ap compact_text c.in_ok-row_value.ensures in
    c.in_ok-push.ensures.items ∙ ap (λ (text : List ℕ). text ++ 10 ∷ []) written ∙ row_text c.args.i c.args.r.now
