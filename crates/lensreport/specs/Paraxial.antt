-- The lines of which the texts of paraxial rays and of Seidel sums are made. Cited by their printers.
use Rattle.std.specs.Prelude.{ℕ, List, ◌++◌, codes}
use Rattle.lensmodel.specs.Texts.Pieces.{newline, spaced_number}
use Rattle.lensmodel.specs.Texts.SeidelSums.{five_text}
use Rattle.lensmodel.specs.declared.paraxial.Five.{Five}

-- ray i scale S
abbrev pub trail_head : ℕ → ℕ → List ℕ
trail_head i scale = codes "ray" ++ spaced_number i ++ codes " scale" ++ spaced_number scale ++ newline

-- set i scale S
abbrev pub set_head : ℕ → ℕ → List ℕ
set_head i scale = codes "set" ++ spaced_number i ++ codes " scale" ++ spaced_number scale ++ newline

-- surf j, and the five sums
abbrev pub sums_line : ℕ → ℕ → Five → List ℕ
sums_line scale j sums = codes "surf" ++ spaced_number j ++ five_text scale sums ++ newline

-- whole, and the five sums
abbrev pub whole_line : ℕ → Five → List ℕ
whole_line scale sums = codes "whole" ++ five_text scale sums ++ newline
