-- What one record of a catalogue says, word by word. A line is its list of words.
use Rattle.std.specs.Prelude.{ℕ, suc, true, Option, Some, None, if◌then◌else◌}
use Rattle.fixdec.specs.Reading.{decimal_of}
use Rattle.lensmodel.specs.Files.Causes.{bad_unless}
use Rattle.lensmodel.specs.Files.Catalogue.{CD_fault, is_used, coefficient_in, bound_in}
use Rattle.lensmodel.specs.Files.Records.{Words, word_at}
use Rattle.records.specs.Words.{has_word}
use Rattle.lensmodel.specs.declared.fault.AgfFault.{AgfFault}
use Rattle.lensmodel.specs.declared.fault.AgfFault.TheVariants.{BadNumber}
use Rattle.lensmodel.specs.declared.glass.Glass.{Glass}

-- the fault of the first of some words, which is the one at k of its line, from 0, where it is there and isn't a decimal
abbrev pub word_fault : ℕ → ℕ → Words → Option AgfFault
word_fault n k ws = if has_word 0 ws then bad_unless (decimal_of (word_at 0 ws)) (BadNumber n (suc k)) else None

-- a glass with the coefficients of a CD line
abbrev pub with_coefficients : Words → Glass → Glass
with_coefficients line g = record g {
  c0 = coefficient_in true (Some line) 1;
  c1 = coefficient_in true (Some line) 2;
  c2 = coefficient_in true (Some line) 3;
  c3 = coefficient_in true (Some line) 4;
  c4 = coefficient_in true (Some line) 5;
  c5 = coefficient_in true (Some line) 6;
}

-- a glass with the bounds of an LD line
abbrev pub with_bounds : Words → Glass → Glass
with_bounds line g = record g { low = bound_in (Some line) 1; high = bound_in (Some line) 2 }

-- the faults of a CD line of a glass, whose formula may not use it
abbrev pub used_CD_fault : ℕ → Glass → Words → Option AgfFault
used_CD_fault n g line = if is_used g.formula then CD_fault n line else None

-- a glass after a CD line
abbrev pub with_CD : Words → Glass → Glass
with_CD line g = if is_used g.formula then with_coefficients line g else g
