use Rattle.std.proofs.Common.{◌≡◌, ◌≤◌, length, take}
use Rattle.records.specs.Remarks.{each_line}
use Rattle.records.proofs.Walks.{NoneBefore}
use Rattle.records.proofs.walk.read_lines.Given as goal

abbrev pub invariant-loop-i : goal.invariant-loop-i
invariant-loop-i g l = record {
  within : l.i ≤ length l.text;
  sound : NoneBefore (g.R.LineReader.offence l.initial.reader) (each_line g.R.LineReader.REMARKS l.text) l.i;
  same : g.R.LineReader.offence l.reader ≡ g.R.LineReader.offence l.initial.reader;
  at : g.R.LineReader.IsAt (take l.i (each_line g.R.LineReader.REMARKS l.text)) l.reader;
}
