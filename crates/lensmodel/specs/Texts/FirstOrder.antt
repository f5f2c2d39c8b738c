-- The lines of first-order values. Cited by the command first.
use Rattle.std.specs.Prelude.{ℕ, suc, List, [], ◌∷◌, ◌++◌, codes}
use Rattle.fixdec.specs.Ends.{Ends}
use Rattle.fixdec.specs.declared.step.Step.{Step}
use Rattle.lensmodel.specs.Texts.Pieces.{newline, spaced_number, value_text}
use Rattle.lensmodel.specs.declared.paraxial.FirstOut.{FirstOut}

-- a value after its name
abbrev pub first_value : List ℕ → ℕ → Step Ends → List ℕ
first_value name scale v = name ++ codes " " ++ value_text scale v ++ newline

-- first scale S, and the six values
abbrev pub first_head : FirstOut → List ℕ
first_head out =
    codes "first scale" ++ spaced_number out.scale ++ newline
    ++ first_value (codes "efl") out.scale out.efl ++ first_value (codes "bfl") out.scale out.bfl ++ first_value (codes "ffl") out.scale out.ffl
    ++ first_value (codes "front") out.scale out.front ++ first_value (codes "back") out.scale out.back ++ first_value (codes "enp") out.scale out.enp

-- at j y [a,b] u [a,b]
abbrev pub trail_line : ℕ → ℕ → Step Ends × Step Ends → List ℕ
trail_line scale j p =
    codes "at" ++ spaced_number j ++ codes " y " ++ value_text scale p.0 ++ codes " u " ++ value_text scale p.1 ++ newline

-- the trail from surface j on
abbrev pub trail_lines : ℕ → ℕ → List (Step Ends × Step Ends) → List ℕ
trail_lines scale j [] = []
trail_lines scale j (p ∷ more) = trail_line scale j p ++ trail_lines scale (suc j) more

-- ray i scale S, and its trail
abbrev pub first_trail : ℕ → FirstOut → List ℕ
first_trail i out = codes "ray" ++ spaced_number i ++ codes " scale" ++ spaced_number out.scale ++ newline ++ trail_lines out.scale 1 out.trail.items
