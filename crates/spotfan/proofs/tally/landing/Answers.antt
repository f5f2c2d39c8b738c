use Rattle.std.proofs.Common.{sym, ap}
use Rattle.lensmodel.specs.Rows.Spot.{Landing}
use Rattle.spotfan.specs.Landings.{last-is, last-none}
use Rattle.spotfan.proofs.tally.landing.Goals as goal

pub returns-in-Some-clause-x : goal.returns-in-Some-clause-x
returns-in-Some-clause-x c =
    let r = c.args.r.now in
    let last = rw c.as_slice.ensures.value at c.in-Some.ensures.value in
    sym (ap (λ (a : Landing). a.x) (last-is r.scale r.places.items c.in-Some.place.now (sym last)))

pub returns-in-Some-clause-y : goal.returns-in-Some-clause-y
returns-in-Some-clause-y c =
    let r = c.args.r.now in
    let last = rw c.as_slice.ensures.value at c.in-Some.ensures.value in
    sym (ap (λ (a : Landing). a.y) (last-is r.scale r.places.items c.in-Some.place.now (sym last)))

pub returns-in-None-clause-x : goal.returns-in-None-clause-x
returns-in-None-clause-x c =
    let r = c.args.r.now in
    let last = rw c.as_slice.ensures.value at c.in-None.ensures.value in
    sym (ap (λ (a : Landing). a.x) (last-none r.scale r.places.items (sym last)))

pub returns-in-None-clause-y : goal.returns-in-None-clause-y
returns-in-None-clause-y c =
    let r = c.args.r.now in
    let last = rw c.as_slice.ensures.value at c.in-None.ensures.value in
    sym (ap (λ (a : Landing). a.y) (last-none r.scale r.places.items (sym last)))
