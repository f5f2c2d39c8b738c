-- What contracts see of a bench: preparations in both kinds of arithmetic, at the four scales. Cited by the bench.
use Rattle.fixdec.specs.Ends.{Ends}
use Rattle.fixdec.specs.Form.{LinearForm}
use Rattle.ladder.specs.declared.rungs.Rungs.{Rungs}

pub record Kinds : Type 0 where
  pub intervals : Rungs Ends Ends Ends Ends
  pub forms : Rungs LinearForm LinearForm LinearForm LinearForm
