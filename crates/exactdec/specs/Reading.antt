-- What is read of a word.
use Rattle.std.specs.Prelude.{◌≡◌, ℕ, ◌<◌, ◌≤◌, List, length, nat_lt, Result, Ok, Err, if◌then◌else◌}
use Rattle.fixdec.specs.Decimal.{Decimal}
use Rattle.fixdec.specs.Reading.{is_readable, split, is_whole}
use Rattle.fixdec.specs.Word.{Parts, Spells, IsWord, IsPlace, spelling, significant, kept_decimal, IsReadable}
use Rattle.exactdec.specs.declared.read.DecFault.{DecFault}
use Rattle.exactdec.specs.declared.read.DecFault.TheVariants.{NotNumber, Digits, Exponent}

-- what is answered for a word of these parts
pub record IsAccepted (d : Decimal) (p : Parts) : Type 0 where
  pub digits : length (significant p) ≤ 30
  pub exponent : IsReadable (kept_decimal p).exp
  pub kept : d ≡ kept_decimal p

pub record IsExponentFault (p : Parts) : Type 0 where
  pub digits : length (significant p) ≤ 30
  pub exponent : IsReadable (kept_decimal p).exp → ⊥

pub record IsNotNumber (word : List ℕ) (at : ℕ) : Type 0 where
  pub outside : IsWord word → ⊥
  pub place : IsPlace word at

-- The answer to a word. The faults stand in their order: outside the grammar, too many digits, exponent past its limits.
abbrev pub IsAnswer : List ℕ → Result Decimal DecFault → Type 0
IsAnswer word (Ok d) = (p : Parts) × Spells word p × IsAccepted d p
IsAnswer word (Err (NotNumber at)) = IsNotNumber word at
IsAnswer word (Err Digits) = (p : Parts) × Spells word p × (30 < length (significant p))
IsAnswer word (Err Exponent) = (p : Parts) × Spells word p × IsExponentFault p

-- The same as a function.

-- the answer to a word of these parts
unfoldable pub judged : Parts → Result Decimal DecFault
judged p = if nat_lt 30 (length (significant p)) then Err Digits else (if is_readable (kept_decimal p).exp then Ok (kept_decimal p) else Err Exponent)

-- the answer to a word
unfoldable pub reading : List ℕ → Result Decimal DecFault
reading word = if is_whole (split word) then judged (split word).parts else Err (NotNumber (length (spelling (split word).parts)))
