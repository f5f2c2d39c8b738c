use Rattle.std.proofs.Common.{arith, rules}
use Rattle.std.proofs.lemmas.Grind.{common_steps}
use Rattle.lensio.proofs.Known.{Takes-written, TakesFront-kept}
use Rattle.lensio.proofs.standard.StdSinkSink.TheImpl.Goals as goal

pub write-tells : goal.write-tells
write-tells g c = record {
  bound = search rules;
  front = Takes-written c.args.self.now.taken c.new.self.now.taken c.result c.args.piece.now c.ensures.told c.ensures.wrote;
  some_front = TakesFront-kept c.args.self.now.taken c.new.self.now.taken c.result c.args.piece.now c.ensures.told c.ensures.wrote;
  failed = grind (arith, common_steps);
  idle = grind (arith, common_steps);
  calm = grind (arith, common_steps);
  faults_rise = grind (arith, common_steps);
}
