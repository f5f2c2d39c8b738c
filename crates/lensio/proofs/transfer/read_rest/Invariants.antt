use Rattle.std.proofs.Common.{◌≡◌, ◌≤◌, ◌+◌, ◌-◌, ◌^◌, min, vec_len}
use Rattle.std.specs.Io.KnownBytes.{Consumes}
use Rattle.lensio.specs.declared.transfer.TheConstants.{FILE_LIMIT}
use Rattle.lensio.specs.Count.{plus}
use Rattle.lensio.proofs.transfer.read_rest.Given as goal

-- these bytes were given, and fit
abbrev pub invariant-loop-bytes : goal.invariant-loop-bytes
invariant-loop-bytes g l =
    let first = l.fn.shelf in
    record {
      taken : Consumes (g.F.Shelf.left first) (g.F.Shelf.left l.shelf) l.bytes.items;
      within : vec_len l.bytes ≤ FILE_LIMIT;
      given_least : min (g.F.Shelf.given l.shelf) (2 ^ 64 - 1) ≡ plus (g.F.Shelf.given first) (vec_len l.bytes);
      given_most : g.F.Shelf.given l.shelf ≤ g.F.Shelf.given first + vec_len l.bytes;
      same_held : g.F.Shelf.held l.shelf ≡ g.F.Shelf.held first;
      same_asked : g.F.Shelf.asked l.shelf ≡ g.F.Shelf.asked first;
      calm : g.F.Shelf.faults l.shelf ≡ g.F.Shelf.faults first;
      same_absences : g.F.Shelf.absences l.shelf ≡ g.F.Shelf.absences first;
      given_rises : g.F.Shelf.given first ≤ g.F.Shelf.given l.shelf;
    }

abbrev pub decreases-loop-bytes : goal.decreases-loop-bytes
decreases-loop-bytes g l = FILE_LIMIT - vec_len l.bytes
