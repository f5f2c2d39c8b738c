-- Words that are no numbers.
use Rattle.std.specs.Prelude.{◌≡◌, ℕ, false, [], refl}
use Rattle.fixdec.specs.Reading.{decimal_of, split}
use Rattle.lensmodel.specs.Files.Records.{is_number}

-- no unit at all is no number
pub no_number : (n : ℕ) → is_number n [] ≡ false
unfolding decimal_of split
no_number n = refl
