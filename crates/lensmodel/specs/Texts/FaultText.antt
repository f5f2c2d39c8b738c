-- The line of a call that ends without a report: the status, the file, and the cause with its place. Cited by each command.
use Rattle.std.specs.Prelude.{ℕ, List, [], ◌++◌, codes}
use Rattle.std.specs.Fmt.{decimal}
use Rattle.lensmodel.specs.Texts.Pieces.{newline}
use Rattle.lensmodel.specs.declared.fault.AgfFault.{AgfFault}
use Rattle.lensmodel.specs.declared.fault.AgfFault.TheVariants as agf
use Rattle.lensmodel.specs.declared.fault.CrossFault.{CrossFault}
use Rattle.lensmodel.specs.declared.fault.CrossFault.TheVariants as cross
use Rattle.lensmodel.specs.declared.fault.JobFault.{JobFault}
use Rattle.lensmodel.specs.declared.fault.JobFault.TheVariants as job
use Rattle.lensmodel.specs.declared.fault.TextFault.{TextFault}
use Rattle.lensmodel.specs.declared.fault.TextFault.TheVariants as text
use Rattle.lensmodel.specs.declared.fault.TolFault.{TolFault}
use Rattle.lensmodel.specs.declared.fault.TolFault.TheVariants as tol
use Rattle.lensmodel.specs.declared.fault.ZmxFault.{ZmxFault}
use Rattle.lensmodel.specs.declared.fault.ZmxFault.TheVariants as zmx
use Rattle.lensmodel.specs.declared.status.FileKind.{FileKind}
use Rattle.lensmodel.specs.declared.status.FileKind.TheVariants.{Zmx, Agf, Job, Tol, Cert, Script}

abbrev pub file_text : FileKind → List ℕ
file_text Zmx = codes "zmx"
file_text Agf = codes "agf"
file_text Job = codes "job"
file_text Tol = codes "tol"
file_text Cert = codes "cert"
file_text Script = codes "script"

-- the places of a cause
abbrev pub at_line : ℕ → List ℕ
at_line n = codes " line " ++ decimal n

abbrev pub at_word : ℕ → List ℕ
at_word n = codes " word " ++ decimal n

abbrev pub at_surface : ℕ → List ℕ
at_surface n = codes " surface " ++ decimal n

abbrev pub at_i : ℕ → List ℕ
at_i n = codes " i " ++ decimal n

-- want of memory is no refusal, and has no text
abbrev pub text_cause : TextFault → List ℕ
text_cause text.OddByte = codes "odd-byte"
text_cause (text.Surrogate line) = codes "surrogate" ++ at_line line
text_cause (text.LongLine line) = codes "long-line" ++ at_line line
text_cause text.Memory = []

abbrev pub zmx_cause : ZmxFault → List ℕ
zmx_cause (zmx.Text t) = text_cause t
zmx_cause (zmx.NotSequential line) = codes "not-sequential" ++ at_line line
zmx_cause (zmx.SurfaceOrder line) = codes "surface-order" ++ at_line line
zmx_cause (zmx.TooManySurfaces line) = codes "too-many-surfaces" ++ at_line line
zmx_cause (zmx.SurfaceType line) = codes "surface-type" ++ at_line line
zmx_cause (zmx.MissingWord line) = codes "missing-word" ++ at_line line
zmx_cause (zmx.BadNumber line word) = codes "bad-number" ++ at_line line ++ at_word word
zmx_cause (zmx.LongName line) = codes "long-name" ++ at_line line
zmx_cause (zmx.ModelGlass line) = codes "model-glass" ++ at_line line
zmx_cause zmx.TooFewSurfaces = codes "too-few-surfaces"
zmx_cause zmx.StopCount = codes "stop-count"
zmx_cause zmx.MirrorAtObject = codes "mirror-at-object"
zmx_cause (zmx.InnerInfinity surface) = codes "inner-infinity" ++ at_surface surface
zmx_cause (zmx.NoZone surface) = codes "no-zone" ++ at_surface surface
zmx_cause (zmx.Coefficient surface i) = codes "coefficient" ++ at_surface surface ++ at_i i
zmx_cause zmx.Memory = []

abbrev pub agf_cause : AgfFault → List ℕ
agf_cause (agf.Text t) = text_cause t
agf_cause (agf.OrphanRecord line) = codes "orphan-record" ++ at_line line
agf_cause (agf.MissingWord line) = codes "missing-word" ++ at_line line
agf_cause (agf.BadNumber line word) = codes "bad-number" ++ at_line line ++ at_word word
agf_cause (agf.LongName line) = codes "long-name" ++ at_line line
agf_cause (agf.TooManyGlasses line) = codes "too-many-glasses" ++ at_line line
agf_cause agf.Memory = []

abbrev pub job_cause : JobFault → List ℕ
job_cause (job.Text t) = text_cause t
job_cause (job.Word line) = codes "word" ++ at_line line
job_cause (job.BadNumber line) = codes "bad-number" ++ at_line line
job_cause (job.Missing line) = codes "missing" ++ at_line line
job_cause (job.Range line) = codes "range" ++ at_line line
job_cause job.TooManyRays = codes "too-many-rays"
job_cause job.Memory = []

abbrev pub tol_cause : TolFault → List ℕ
tol_cause (tol.Text t) = text_cause t
tol_cause (tol.Word line) = codes "word" ++ at_line line
tol_cause (tol.BadNumber line) = codes "bad-number" ++ at_line line
tol_cause (tol.Negative line) = codes "negative" ++ at_line line
tol_cause (tol.NoSurface line) = codes "no-surface" ++ at_line line
tol_cause (tol.Twice line) = codes "twice" ++ at_line line
tol_cause (tol.TooMany line) = codes "too-many" ++ at_line line
tol_cause tol.Memory = []

abbrev pub cross_cause : CrossFault → List ℕ
cross_cause (cross.NoGlass surface) = codes "no-glass" ++ at_surface surface
cross_cause (cross.Formula surface) = codes "formula" ++ at_surface surface
cross_cause cross.NoWave = codes "no-wave"
cross_cause (cross.WaveRange surface) = codes "wave-range" ++ at_surface surface
cross_cause (cross.BadIndex surface) = codes "bad-index" ++ at_surface surface
cross_cause (cross.MirrorIndex surface) = codes "mirror-index" ++ at_surface surface

-- the lines
abbrev pub usage_line : List ℕ
usage_line = codes "usage" ++ newline

abbrev pub absent_line : FileKind → List ℕ
absent_line file = codes "absent " ++ file_text file ++ newline

abbrev pub read_fault_line : FileKind → List ℕ
read_fault_line file = codes "read fault " ++ file_text file ++ newline

abbrev pub too_long_line : FileKind → List ℕ
too_long_line file = codes "too long " ++ file_text file ++ newline

abbrev pub refused_line : FileKind → List ℕ → List ℕ
refused_line file cause = codes "refused " ++ file_text file ++ codes " " ++ cause ++ newline

abbrev pub crossed_line : CrossFault → List ℕ
crossed_line fault = codes "refused cross " ++ cross_cause fault ++ newline
