use Rattle.std.proofs.Common.{◌≡◌, ◌/◌, take, length}
use Rattle.std.specs.Prelude.{vec_len, vec_capacity}
use Rattle.lensmodel.specs.Files.TextLines.{pairs}
use Rattle.lenstext.proofs.unit.join_pairs.Given as goal

abbrev pub invariant-loop-at : goal.invariant-loop-at
invariant-loop-at l = record {
  read : l.units.items ≡ take l.at (pairs l.bytes);
  count : vec_len l.units ≡ l.at;
  room : vec_capacity l.units ≡ length l.bytes / 2;
}
