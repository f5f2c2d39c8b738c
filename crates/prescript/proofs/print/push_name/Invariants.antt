use Rattle.std.proofs.Common.{◌≡◌, ◌+◌, ◌++◌, take}
use Rattle.std.specs.Prelude.{map}
use Rattle.arrayvec.specs.ArrayString.{array_string_len}
use Rattle.lensmodel.specs.Texts.Pieces.{unit_byte}
use Rattle.prescript.proofs.print.push_name.Given as goal

abbrev pub invariant-loop-unit : goal.invariant-loop-unit
invariant-loop-unit l = record {
  bytes : l.out.bytes ≡ l.initial.out.bytes ++ map unit_byte (take l.unit-index l.unit-items);
  len : array_string_len l.out ≡ array_string_len l.initial.out + l.unit-index;
}
