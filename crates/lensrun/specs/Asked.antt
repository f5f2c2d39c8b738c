-- What words ask for, as it was taken from them.
use Rattle.std.specs.Prelude.{ℕ, pos, ◌<ℤ◌, List, length, nat_le, Option, Some, None, option_map, if◌then◌else◌}
use Rattle.arrayvec.specs.ArrayVec.{ArrayVec}
use Rattle.lensmodel.specs.Call.Inputs.{Inputs as Named}
use Rattle.lensmodel.specs.Call.TopCall.{Command as Asked, index, glass, read, trace, trace_json, first, seidel}
use Rattle.lensrun.specs.declared.words.Command.{Command}
use Rattle.lensrun.specs.declared.words.Command.TheVariants.{Index, Glass, Read, Trace, TraceJson, First, Seidel}
use Rattle.lensrun.specs.declared.words.Inputs.{Inputs}

-- the names of the files of a lens, a catalogue and a job, and of a box
abbrev pub inputs : Inputs → Named
inputs i = record { zmx = i.lens.now; agf = i.catalogue.now; job = i.job.now; tol = option_map (λ t. t.now) i.tolerances }

abbrev pub inputs_if : Option Inputs → Option Named
inputs_if None = None
inputs_if (Some i) = Some (inputs i)

-- the command of the words
abbrev pub asked : Command → Asked
asked (Index catalogue name wave) = index (record { agf = catalogue.now; name = name.items; wave = wave })
asked (Glass catalogue) = glass catalogue.now
asked (Read lens) = read lens.now
asked (Trace i) = trace (inputs i)
asked (TraceJson i) = trace_json (inputs i)
asked (First i) = first (inputs i)
asked (Seidel i) = seidel (inputs i)

-- the same, where there is one
abbrev pub asked_if : Option Command → Option Asked
asked_if None = None
asked_if (Some command) = Some (asked command)

-- a wavelength is above 0
abbrev pub HasWavelength : Command → Type 0
HasWavelength (Index catalogue name wave) = pos 0 <ℤ wave.mant
HasWavelength (Glass catalogue) = Unit {0}
HasWavelength (Read lens) = Unit {0}
HasWavelength (Trace i) = Unit {0}
HasWavelength (TraceJson i) = Unit {0}
HasWavelength (First i) = Unit {0}
HasWavelength (Seidel i) = Unit {0}

-- a word of at most n bytes as a name, each byte one unit
abbrev pub name_within : ℕ → List ℕ → Option (ArrayVec ℕ)
name_within n word = if nat_le (length word) n then Some (record { items = word }) else None
