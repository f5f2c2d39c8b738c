use Rattle.std.proofs.Common.{ℕ, ◌+◌, ◌≤◌, List, ◌++◌, take}
use Rattle.exactdec.specs.Mantissas.{HasSeen}
use Rattle.exactdec.proofs.mantissa.Mantissa.with_all.Given as goal

-- the digits so far
abbrev pub invariant-loop-c : goal.invariant-loop-c
invariant-loop-c l = record {
  room : l.all.seen ≤ l.fn.self.seen + l.c-index;
  holds : (ds : List ℕ) → HasSeen l.fn.self ds → HasSeen l.all (ds ++ take l.c-index l.digits);
}
