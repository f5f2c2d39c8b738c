use Rattle.std.proofs.Common.{refl, arith}
use Rattle.std.specs.Int.{w32}
use Rattle.std.proofs.lemmas.Int.{to_z-of_z}
use Rattle.lensmodel.specs.Rows.Preparation.{preparation_rows, preparation_by}
use Rattle.sagform.specs.Setups.{well_zoned}
use Rattle.sagform.proofs.prepare.rows_of.Goals as goal

pub returns : goal.returns
unfolding preparation_rows preparation_by
returns g c = rw (← c.in-Empty-val.ensures) refl

pub returns-2 : goal.returns-2
unfolding preparation_rows preparation_by
returns-2 g c = rw (← c.in-Lost-val.ensures) refl

pub returns-3 : goal.returns-3
unfolding preparation_rows preparation_by
returns-3 g c = rw (← c.in-Val-val.ensures, ← (rw c.requires.next at c.in-Empty-val-c.ensures)) refl

pub returns-4 : goal.returns-4
unfolding preparation_rows preparation_by
returns-4 g c = rw (← c.in-Val-val.ensures, ← (rw c.requires.next at c.in-Lost-val-c.ensures)) refl

pub returns-5 : goal.returns-5
unfolding preparation_rows preparation_by
returns-5 g c = rw (← c.in-Val-val.ensures, ← (rw c.requires.next at c.in-Val-val-c.ensures), ← (rw c.requires.next at c.in-Empty-val-kappa.ensures)) refl

pub returns-6 : goal.returns-6
unfolding preparation_rows preparation_by
returns-6 g c = rw (← c.in-Val-val.ensures, ← (rw c.requires.next at c.in-Val-val-c.ensures), ← (rw c.requires.next at c.in-Lost-val-kappa.ensures)) refl

pub returns-7 : goal.returns-7
unfolding preparation_rows preparation_by
returns-7 g c = rw (← c.in-Val-val.ensures, ← (rw c.requires.next at c.in-Val-val-c.ensures), ← (rw c.requires.next at c.in-Val-val-kappa.ensures), ← c.in-Empty-val-ck.ensures) refl

pub returns-8 : goal.returns-8
unfolding preparation_rows preparation_by
returns-8 g c = rw (← c.in-Val-val.ensures, ← (rw c.requires.next at c.in-Val-val-c.ensures), ← (rw c.requires.next at c.in-Val-val-kappa.ensures), ← c.in-Lost-val-ck.ensures) refl

pub returns-9 : goal.returns-9
unfolding preparation_rows preparation_by
returns-9 g c = rw (← c.in-Val-val.ensures, ← (rw c.requires.next at c.in-Val-val-c.ensures), ← (rw c.requires.next at c.in-Val-val-kappa.ensures), ← c.in-Val-val-ck.ensures, ← c.in-Empty-val-n.ensures) refl

pub returns-10 : goal.returns-10
unfolding preparation_rows preparation_by
returns-10 g c = rw (← c.in-Val-val.ensures, ← (rw c.requires.next at c.in-Val-val-c.ensures), ← (rw c.requires.next at c.in-Val-val-kappa.ensures), ← c.in-Val-val-ck.ensures, ← c.in-Lost-val-n.ensures) refl

pub returns-11 : goal.returns-11
unfolding preparation_rows preparation_by
returns-11 g c = rw (← c.in-Val-val.ensures, ← (rw c.requires.next at c.in-Val-val-c.ensures), ← (rw c.requires.next at c.in-Val-val-kappa.ensures), ← c.in-Val-val-ck.ensures, ← c.in-Val-val-n.ensures, ← (rw c.requires.next at c.in-Empty-val-n2.ensures)) refl

pub returns-12 : goal.returns-12
unfolding preparation_rows preparation_by
returns-12 g c = rw (← c.in-Val-val.ensures, ← (rw c.requires.next at c.in-Val-val-c.ensures), ← (rw c.requires.next at c.in-Val-val-kappa.ensures), ← c.in-Val-val-ck.ensures, ← c.in-Val-val-n.ensures, ← (rw c.requires.next at c.in-Lost-val-n2.ensures)) refl

pub returns-13 : goal.returns-13
unfolding preparation_rows preparation_by
returns-13 g c = rw (← c.in-Val-val.ensures, ← (rw c.requires.next at c.in-Val-val-c.ensures), ← (rw c.requires.next at c.in-Val-val-kappa.ensures), ← c.in-Val-val-ck.ensures, ← c.in-Val-val-n.ensures, ← (rw c.requires.next at c.in-Val-val-n2.ensures), ← (rw c.requires.next at c.in-Empty-val-rim2.ensures)) refl

pub returns-14 : goal.returns-14
unfolding preparation_rows preparation_by
returns-14 g c = rw (← c.in-Val-val.ensures, ← (rw c.requires.next at c.in-Val-val-c.ensures), ← (rw c.requires.next at c.in-Val-val-kappa.ensures), ← c.in-Val-val-ck.ensures, ← c.in-Val-val-n.ensures, ← (rw c.requires.next at c.in-Val-val-n2.ensures), ← (rw c.requires.next at c.in-Lost-val-rim2.ensures)) refl

pub returns-15 : goal.returns-15
unfolding preparation_rows preparation_by
returns-15 g c = rw (← c.in-Val-val.ensures, ← (rw c.requires.next at c.in-Val-val-c.ensures), ← (rw c.requires.next at c.in-Val-val-kappa.ensures), ← c.in-Val-val-ck.ensures, ← c.in-Val-val-n.ensures, ← (rw c.requires.next at c.in-Val-val-n2.ensures), ← (rw c.requires.next at c.in-Val-val-rim2.ensures), ← (rw c.requires.next at c.in-Empty-val-zone2.ensures.exact)) refl

pub returns-16 : goal.returns-16
unfolding preparation_rows preparation_by
returns-16 g c = rw (← c.in-Val-val.ensures, ← (rw c.requires.next at c.in-Val-val-c.ensures), ← (rw c.requires.next at c.in-Val-val-kappa.ensures), ← c.in-Val-val-ck.ensures, ← c.in-Val-val-n.ensures, ← (rw c.requires.next at c.in-Val-val-n2.ensures), ← (rw c.requires.next at c.in-Val-val-rim2.ensures), ← (rw c.requires.next at c.in-Lost-val-zone2.ensures.exact)) refl

pub returns-17 : goal.returns-17
unfolding preparation_rows preparation_by
returns-17 g c = rw (← c.in-Val-val.ensures, ← (rw c.requires.next at c.in-Val-val-c.ensures), ← (rw c.requires.next at c.in-Val-val-kappa.ensures), ← c.in-Val-val-ck.ensures, ← c.in-Val-val-n.ensures, ← (rw c.requires.next at c.in-Val-val-n2.ensures), ← (rw c.requires.next at c.in-Val-val-rim2.ensures), ← (rw c.requires.next at c.in-Val-val-zone2.ensures.exact), ← (rw c.requires.next at c.in-Empty-val-b.ensures)) refl

pub returns-18 : goal.returns-18
unfolding preparation_rows preparation_by
returns-18 g c = rw (← c.in-Val-val.ensures, ← (rw c.requires.next at c.in-Val-val-c.ensures), ← (rw c.requires.next at c.in-Val-val-kappa.ensures), ← c.in-Val-val-ck.ensures, ← c.in-Val-val-n.ensures, ← (rw c.requires.next at c.in-Val-val-n2.ensures), ← (rw c.requires.next at c.in-Val-val-rim2.ensures), ← (rw c.requires.next at c.in-Val-val-zone2.ensures.exact), ← (rw c.requires.next at c.in-Lost-val-b.ensures)) refl

pub returns-19 : goal.returns-19
unfolding preparation_rows preparation_by
returns-19 g c =
    rw (
      to_z-of_z w32 c.norm_of_surface.result (record { sfits = c.norm_of_surface.type_inv }),
      to_z-of_z w32 c.travel.result (record { sfits = c.travel.type_inv }),
      c.norm_of_surface.ensures.value,
      c.surface.ensures,
      c.travel.ensures,
      c.reflects.ensures,
      c.requires.next,
      ← c.in-Val-val.ensures,
      ← (rw c.requires.next at c.in-Val-val-c.ensures),
      ← (rw c.requires.next at c.in-Val-val-kappa.ensures),
      ← c.in-Val-val-ck.ensures,
      ← c.in-Val-val-n.ensures,
      ← (rw c.requires.next at c.in-Val-val-n2.ensures),
      ← (rw c.requires.next at c.in-Val-val-rim2.ensures),
      ← (rw c.requires.next at c.in-Val-val-zone2.ensures.exact),
      ← (rw c.requires.next at c.in-Val-val-b.ensures),
    ) refl

pub invariant_of-result : goal.invariant_of-result
invariant_of-result g c =
    let fits = to_z-of_z w32 c.norm_of_surface.result (record { sfits = c.norm_of_surface.type_inv }) in (
      rw fits c.norm_of_surface.ensures.low,
      rw fits c.norm_of_surface.ensures.high,
      rw c.surface.ensures c.in-Val-val-zone2.ensures.kept,
      c.widen.ensures,
      c.square.ensures,
      c.square_if.ensures,
    )

pub zone2-requires-clause-zoned : goal.zone2-requires-clause-zoned
zone2-requires-clause-zoned g c = rw c.requires.next (well_zoned c.args.s.now c.args.before c.requires.well (omega arith))

pub terms-requires-clause-zoned : goal.terms-requires-clause-zoned
terms-requires-clause-zoned g c = rw c.requires.next (well_zoned c.args.s.now c.args.before c.requires.well (omega arith))

pub norm_of_surface-requires-clause-zoned : goal.norm_of_surface-requires-clause-zoned
norm_of_surface-requires-clause-zoned g c = rw c.requires.next (well_zoned c.args.s.now c.args.before c.requires.well (omega arith))
