use Rattle.std.proofs.Common.{◌≡◌, drop}
use Rattle.lensio.specs.Memory.{first_named, files_in}
use Rattle.lensio.proofs.memory.place_of.Given as goal

-- none of the files so far has the name
abbrev pub invariant-loop-i : goal.invariant-loop-i
invariant-loop-i l = first_named (files_in l.files) l.name ≡ first_named (files_in (drop l.i l.files)) l.name
