use Rattle.std.proofs.Common.{◌≡◌, take, length}
use Rattle.std.specs.Prelude.{vec_len, vec_capacity}
use Rattle.lenstext.proofs.unit.widen.Given as goal

abbrev pub invariant-loop-byte : goal.invariant-loop-byte
invariant-loop-byte l = record {
  read : l.units.items ≡ take l.byte-index l.bytes;
  count : vec_len l.units ≡ l.byte-index;
  room : vec_capacity l.units ≡ length l.bytes;
}
