use Rattle.std.proofs.Common.{[], ◌∷◌}
use Rattle.hitsolve.proofs.Lists.{all_elements}
use Rattle.hitsolve.proofs.terms.even_terms.Goals as goal

pub returns : goal.returns
returns g c =
    all_elements c.args.f.now.b
    (c.b1.result ∷ c.b2.result ∷ c.b3.result ∷ c.b4.result ∷ c.b5.result ∷ c.b6.result ∷ c.b7.result ∷ c.b8.result ∷ [])
    c.b1.ensures.count
    (c.b1.ensures.value, (c.b2.ensures.value, (c.b3.ensures.value, (c.b4.ensures.value, (c.b5.ensures.value, (c.b6.ensures.value, (c.b7.ensures.value, (c.b8.ensures.value, tt))))))))
