-- The lines of Seidel sums. Cited by the command seidel.
use Rattle.std.specs.Prelude.{ℕ, suc, List, [], ◌∷◌, ◌++◌, codes}
use Rattle.lensmodel.specs.Texts.Pieces.{newline, spaced_number, value_text}
use Rattle.lensmodel.specs.declared.paraxial.Five.{Five}
use Rattle.lensmodel.specs.declared.paraxial.SeidelOut.{SeidelOut}

-- seidel lines n
abbrev pub seidel_head : ℕ → List ℕ
seidel_head n = codes "seidel lines" ++ spaced_number n ++ newline

-- S1 [a,b] S2 [a,b] S3 [a,b] S4 [a,b] S5 [a,b]
abbrev pub five_text : ℕ → Five → List ℕ
five_text scale v =
    codes " S1 " ++ value_text scale v.s1 ++ codes " S2 " ++ value_text scale v.s2 ++ codes " S3 " ++ value_text scale v.s3
    ++ codes " S4 " ++ value_text scale v.s4 ++ codes " S5 " ++ value_text scale v.s5

-- those of the surfaces from j on
abbrev pub surface_sums : ℕ → ℕ → List Five → List ℕ
surface_sums scale j [] = []
surface_sums scale j (v ∷ more) = codes "surf" ++ spaced_number j ++ five_text scale v ++ newline ++ surface_sums scale (suc j) more

-- set i scale S, the sums of each surface, and the whole
abbrev pub seidel_set : ℕ → SeidelOut → List ℕ
seidel_set i out =
    codes "set" ++ spaced_number i ++ codes " scale" ++ spaced_number out.scale ++ newline ++ surface_sums out.scale 1 out.per.items
    ++ codes "whole" ++ five_text out.scale out.whole ++ newline
