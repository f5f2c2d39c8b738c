use Rattle.std.proofs.Common.{[], ◌∷◌, refl, arith}
use Rattle.lensmodel.specs.Setup.Zones.{coefficient}
use Rattle.sagform.specs.Used.{zero_past}
use Rattle.sagform.specs.Zoned.{norm_at}
use Rattle.sagform.proofs.prepare.coefficients.Goals as goal

pub returns-7 : goal.returns-7
returns-7 g c = rw (← c.in-Val-val.ensures, ← c.in-Val-val-2.ensures, ← c.in-Val-val-3.ensures, ← c.in-Empty-val-4.ensures) refl

pub returns-15 : goal.returns-15
returns-15 g c = rw (← c.in-Val-val.ensures, ← c.in-Val-val-2.ensures, ← c.in-Val-val-3.ensures, ← c.in-Val-val-4.ensures, ← c.in-Val-val-5.ensures, ← c.in-Val-val-6.ensures, ← c.in-Val-val-7.ensures, ← c.in-Empty-val-8.ensures) refl

pub invariant_of-result : goal.invariant_of-result
invariant_of-result g c =
    zero_past g.T.Arith.ops g.T.Arith.SCALE c.used_of.result (coefficient c.args.f.now) (norm_at c.args.zone.now) c.used_of.ensures
    (_ ∷ _ ∷ _ ∷ _ ∷ _ ∷ _ ∷ _ ∷ _ ∷ []) (omega arith)
    (c.in-Val-val.ensures, (c.in-Val-val-2.ensures, (c.in-Val-val-3.ensures, (c.in-Val-val-4.ensures, (c.in-Val-val-5.ensures, (c.in-Val-val-6.ensures, (c.in-Val-val-7.ensures, (c.in-Val-val-8.ensures, tt))))))))
