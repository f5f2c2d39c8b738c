-- Lens files, worked out.
use Rattle.std.proofs.Common.{refl}
use Rattle.fixdec.specs.Frac.{whole, ◌*Q◌}
use Rattle.fixdec.specs.Reading.{decimal_of, split}
use Rattle.fixdec.specs.Word.{kept_decimal, without_trailing}
use Rattle.fixdec.specs.Scaled.{dec_ceil, dec_shifted}
use Rattle.fixdec.specs.Zone.{zone, zone_span, least_power, norm}
use Rattle.lensmodel.specs.Files.Lens.{prescription}
use Rattle.lensmodel.specs.Files.TextLines.{text, lines, words}
use Rattle.lensmodel.specs.Setup.WholeFaults.{whole_fault}
use Rattle.examples.specs.LensFiles.{LineFaults, WholeFaults, ReadLens}

pub line_faults : LineFaults
unfolding prescription decimal_of split kept_decimal without_trailing text lines words whole_fault zone_span zone norm least_power dec_ceil dec_shifted whole ◌*Q◌
line_faults = refl

pub whole_faults : WholeFaults
unfolding prescription decimal_of split kept_decimal without_trailing text lines words whole_fault zone_span zone norm least_power dec_ceil dec_shifted whole ◌*Q◌
whole_faults = refl

pub read_lens : ReadLens
unfolding prescription decimal_of split kept_decimal without_trailing text lines words whole_fault zone_span zone norm least_power dec_ceil dec_shifted whole ◌*Q◌
read_lens = refl
