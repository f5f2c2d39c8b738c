use Rattle.std.proofs.Common.{ap}
use Rattle.std.specs.Prelude.{Err}
use Rattle.lensrun.proofs.Reading.{unread-is}
use Rattle.lensrun.proofs.files.bytes_of.Goals as goal

pub returns-in-Err-clause-none : goal.returns-in-Err-clause-none
returns-in-Err-clause-none g c =
    unread-is c.args.file c.args.name.now c.unread.result (g.F.Shelf.held c.args.shelf.now) c.in-Err.fault
    (λ is. c.in-Err.ensures.lacks (ap Err is)) (λ is. c.in-Err.ensures.too_long (ap Err is)) c.unread.ensures.answer c.unread.ensures.nothing
