-- How a call ends whose lines are made of memory one by one. Cited by the delivery.
use Rattle.std.specs.Prelude.{Result, Ok, Err}
use Rattle.lensmodel.specs.declared.status.Status.{Status}
use Rattle.lensmodel.specs.declared.status.Status.TheVariants.{Done, WriteFault, Memory}
use Rattle.lensrun.specs.declared.json.Unwritten.{Unwritten}
use Rattle.lensrun.specs.declared.json.Unwritten.TheVariants as unwritten

abbrev pub streamed_status : {A : Type 0} → Result A Unwritten → Status
streamed_status (Ok done) = Done
streamed_status (Err unwritten.Failed) = WriteFault
streamed_status (Err unwritten.Memory) = Memory
