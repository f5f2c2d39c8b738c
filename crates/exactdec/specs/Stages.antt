-- What the stages of reading give.
use Rattle.std.specs.Prelude.{◌≡◌, ℕ, true, false, List, [], length}
use Rattle.fixdec.specs.Word.{Parts, AreDigits, spelling}
use Rattle.fixdec.specs.Reading.{split, is_whole}
use Rattle.exactdec.specs.declared.read.DecFault.{DecFault}
use Rattle.exactdec.specs.declared.read.DecFault.TheVariants.{NotNumber}
use Rattle.exactdec.specs.declared.read.Parts.{Parts as Slices}

-- the parts without point and mark
abbrev pub bare : Parts → Parts
bare p = record p { point = []; mark = [] }

-- what the slices hold
abbrev pub parts_of : Slices → Parts
parts_of s = record {
  sign = s.sign.now;
  whole = s.whole.now;
  point = [];
  part = s.part.now;
  mark = [];
  power_sign = s.power_sign.now;
  power = s.power.now;
}

pub record HasDigits (p : Parts) : Type 0 where
  pub whole : AreDigits p.whole
  pub part : AreDigits p.part
  pub power : AreDigits p.power

-- the word has these parts and nothing else
pub record IsSplit (word : List ℕ) (p : Parts) : Type 0 where
  pub whole : is_whole (split word) ≡ true
  pub parts : p ≡ bare (split word).parts

-- the word doesn't go on after the parts in front
pub record IsNotSplit (word : List ℕ) (e : DecFault) : Type 0 where
  pub whole : is_whole (split word) ≡ false
  pub place : e ≡ NotNumber (length (spelling (split word).parts))
