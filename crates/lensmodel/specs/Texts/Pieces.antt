-- How names, numbers and intervals are printed, byte by byte. Cited by every printed line.
use Rattle.std.specs.Prelude.{ℕ, ◌&&◌, nat_le, List, [], ◌∷◌, ◌++◌, codes, map, Option, Some, None, if◌then◌else◌}
use Rattle.std.specs.Fmt.{decimal}
use Rattle.fixdec.specs.Decimal.{Decimal}
use Rattle.fixdec.specs.DecimalText.{fix_text, dec_text}
use Rattle.fixdec.specs.Ends.{Ends}
use Rattle.fixdec.specs.declared.step.Step.{Step}
use Rattle.fixdec.specs.declared.step.Step.TheVariants.{Val, Empty, Lost}
use Rattle.fixdec.specs.declared.step.Why.{Why}
use Rattle.fixdec.specs.declared.step.Why.TheVariants.{Root, Zero, Range}

-- the end of a line
abbrev pub newline : List ℕ
newline = 10 ∷ []

-- a unit from 33 to 126 as itself, and every other as ?
abbrev pub unit_byte : ℕ → ℕ
unit_byte unit = if nat_le 33 unit && nat_le unit 126 then unit else 63

-- a name, unit by unit
abbrev pub name_text : List ℕ → List ℕ
name_text units = map unit_byte units

-- an interval at a scale: [a,b]
abbrev pub span_text : ℕ → Ends → List ℕ
span_text scale a = codes "[" ++ fix_text scale a.lo ++ codes "," ++ fix_text scale a.hi ++ codes "]"

-- a decimal, or - where there is none
abbrev pub bound_text : Option Decimal → List ℕ
bound_text None = codes "-"
bound_text (Some d) = dec_text d

-- a decimal after a space
abbrev pub spaced : Decimal → List ℕ
spaced d = codes " " ++ dec_text d

-- a number after a space
abbrev pub spaced_number : ℕ → List ℕ
spaced_number n = codes " " ++ decimal n

-- an interval after a name
abbrev pub named_span : List ℕ → ℕ → Ends → List ℕ
named_span name scale a = codes " " ++ name ++ codes " " ++ span_text scale a

-- why a value is lost
abbrev pub why_text : Why → List ℕ
why_text Root = codes "root"
why_text Zero = codes "zero"
why_text Range = codes "range"

-- a value that may be lost; in first order and in Seidel sums none is Empty
abbrev pub value_text : ℕ → Step Ends → List ℕ
value_text scale (Val a) = span_text scale a
value_text scale (Lost why) = codes "lost " ++ why_text why
value_text scale Empty = []
