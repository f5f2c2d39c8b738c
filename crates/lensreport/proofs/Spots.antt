-- The line of a spot by its rows, and its statistics piece by piece.
use Rattle.std.proofs.Common.{◌≡◌, ℕ, zero, suc, List, [], ◌++◌, length, refl, sym, ap, append_assoc, ◌∙◌}
use Rattle.std.specs.Prelude.{codes, filter}
use Rattle.fixdec.specs.Ends.{Ends}
use Rattle.fixdec.specs.declared.step.Step.{Step}
use Rattle.fixdec.specs.declared.step.Step.TheVariants.{Val}
use Rattle.lensmodel.specs.Rows.Spot.{passes}
use Rattle.lensmodel.specs.Texts.Pieces.{named_span, newline, spaced_number}
use Rattle.lensmodel.specs.Texts.Rows as rows
use Rattle.lensmodel.specs.declared.row.Row.{Row}
use Rattle.lensreport.specs.Spots.{centroid_text, statistics_if, statistics_text, spot_of, spot_text}

statistics_text-if : (n : ℕ) (grid : List Row) → statistics_text (statistics_if n grid) ≡ rows.statistics_if n grid
statistics_text-if zero grid = refl
statistics_text-if (suc n) grid = refl

pub spot_text-of : (grid : List Row) → spot_text (spot_of grid) ≡ rows.spot_line grid
spot_text-of grid =
    let n : ℕ = length (filter passes grid) in
    ap
    (λ (t : List ℕ). codes "spot rays" ++ spaced_number (length grid) ++ codes " passes" ++ spaced_number n ++ t ++ newline)
    (statistics_text-if n grid)

three_lists : (o h x y : List ℕ) → o ++ h ++ x ++ y ≡ o ++ (h ++ x ++ y)
three_lists o h x y = simp append_assoc

pub centroid_steps : (x y : Ends) (o a b d : List ℕ)
    → a ≡ o ++ codes " centroid" → b ≡ a ++ named_span (codes "x") 12 x → d ≡ b ++ named_span (codes "y") 12 y
    → d ≡ o ++ centroid_text x y
unfolding centroid_text
centroid_steps x y o a b d ea eb ed =
    ed ∙ ap (λ (t : List ℕ). t ++ named_span (codes "y") 12 y) (eb ∙ ap (λ (t : List ℕ). t ++ named_span (codes "x") 12 x) ea)
    ∙ three_lists o (codes " centroid") (named_span (codes "x") 12 x) (named_span (codes "y") 12 y)

pub statistics_steps : (centroid : Step (Ends × Ends)) (mean : Step Ends) (x y : Ends) (o a b : List ℕ)
    → centroid ≡ Val (x, y) → a ≡ o ++ centroid_text x y → b ≡ a ++ rows.spread_text mean
    → b ≡ o ++ rows.statistics_text centroid mean
unfolding centroid_text
statistics_steps centroid mean x y o a b ec ea eb =
    eb ∙ ap (λ (t : List ℕ). t ++ rows.spread_text mean) ea
    ∙ append_assoc o (centroid_text x y) (rows.spread_text mean)
    ∙ ap (λ (s : Step (Ends × Ends)). o ++ rows.statistics_text s mean) (sym ec)
