-- Jobs and tolerance boxes, worked out.
use Rattle.std.proofs.Common.{refl}
use Rattle.fixdec.specs.Reading.{decimal_of, split}
use Rattle.fixdec.specs.Word.{kept_decimal, without_trailing}
use Rattle.fixdec.specs.Frac.{whole, ◌*Q◌}
use Rattle.lensmodel.specs.Files.Job.{job}
use Rattle.lensmodel.specs.Files.TextLines.{text, lines, words}
use Rattle.lensmodel.specs.Files.Tolerances.{tolerance_box}
use Rattle.lensmodel.specs.Setup.Launches.{count}
use Rattle.examples.specs.JobFiles.{JobFaults, ReadJob, MostRays, BoxFaults, ReadBox}

pub job_faults : JobFaults
unfolding job decimal_of split kept_decimal without_trailing text lines words count whole ◌*Q◌
job_faults = refl

pub read_job : ReadJob
unfolding job decimal_of split kept_decimal without_trailing text lines words count whole ◌*Q◌
read_job = refl

pub most_rays : MostRays
unfolding job decimal_of split kept_decimal without_trailing text lines words count whole ◌*Q◌
most_rays = refl

pub box_faults : BoxFaults
unfolding tolerance_box decimal_of split kept_decimal without_trailing text lines words
box_faults = refl

pub read_box : ReadBox
unfolding tolerance_box decimal_of split kept_decimal without_trailing text lines words
read_box = refl
