-- What one record of a job says, and what is wrong with it, by what stood before. A line is its list of words.
use Rattle.std.specs.Prelude.{ℕ, Bool, ◌&&◌, nat_le, not, [], ◌∷◌, Option}
use Rattle.fixdec.specs.Decimal.{Decimal}
use Rattle.lensmodel.specs.Files.Causes.{fault_if, first_fault}
use Rattle.lensmodel.specs.Files.JobFaults.{wrong_count, bad_decimals, bad_whole, out_of_range, is_within, whole_number}
use Rattle.lensmodel.specs.Files.Records.{Words, decimal_at}
use Rattle.lensmodel.specs.declared.fault.JobFault.{JobFault}
use Rattle.lensmodel.specs.declared.fault.JobFault.TheVariants.{Missing}
use Rattle.jobtext.specs.declared.setting.Pupil.{Pupil}

-- whether a number is from the least to the most
abbrev pub is_between : ℕ → ℕ → ℕ → Bool
is_between least most n = nat_le least n && nat_le n most

-- the pupil of a PUPIL line
abbrev pub pupil_of : Words → Pupil
pupil_of line = record { z = decimal_at 1 line; r = decimal_at 2 line }

-- the word behind the first is no decimal, or one that leaves its range
abbrev pub decimal_fault : ℕ → (Decimal → Bool) → Words → Option JobFault
decimal_fault n range line = first_fault (bad_decimals n line ∷ out_of_range n (range (decimal_at 1 line)) ∷ [])

-- the word behind the first is no whole number, or one that leaves its range
abbrev pub whole_fault : ℕ → (ℕ → Bool) → Words → Option JobFault
whole_fault n range line = first_fault (bad_whole n 1 line ∷ out_of_range n (is_within range (whole_number 1 line)) ∷ [])

-- there is no pupil
abbrev pub missing : ℕ → Bool → Option JobFault
missing n has_pupil = fault_if (not has_pupil) (Missing n)

-- an AIM line, by whether there is a pupil
abbrev pub aim_fault : ℕ → Bool → Words → Option JobFault
aim_fault n has_pupil line = first_fault (wrong_count n 4 line ∷ bad_decimals n line ∷ missing n has_pupil ∷ [])

-- a FAN or SPOT line, by whether there is a pupil
abbrev pub spread_fault : ℕ → (ℕ → Bool) → Bool → Words → Option JobFault
spread_fault n range has_pupil line = first_fault (
    wrong_count n 3 line
    ∷ bad_decimals n line
    ∷ bad_whole n 3 line
    ∷ missing n has_pupil
    ∷ out_of_range n (is_within range (whole_number 3 line))
    ∷ [])
