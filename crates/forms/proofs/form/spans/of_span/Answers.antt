use Rattle.std.proofs.Common.{refl, sym, arith}
use Rattle.std.proofs.lemmas.Int.{ints}
use Rattle.forms.proofs.Uses.{use_zeros}
use Rattle.forms.proofs.form.spans.of_span.Goals as goal

pub invariant_of-result : goal.invariant_of-result
invariant_of-result g c =
    let middle = c.middle-centre.ensures.bound in
    let bound = c.reach-radius.ensures.bound in
    record {
      kept = record { count = refl; fits = omega (arith, ints) };
      deviation_is = omega arith;
      used_is = sym use_zeros;
    }
