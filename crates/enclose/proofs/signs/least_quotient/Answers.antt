use Rattle.std.proofs.Common.{arith}
use Rattle.std.specs.Int.{w128}
use Rattle.std.specs.Prelude.{pos, ◌≤ℤ◌, ◌<ℤ◌}
use Rattle.std.proofs.lemmas.Int.{ints, to_z-of_z}
use Rattle.enclose.proofs.QuotientSigns.{below_zero, least_above_above, least_above_below, least_below_above, least_below_below}
use Rattle.enclose.proofs.signs.least_quotient.Goals as goal

pub returns-then-al-ge0-clause-value : goal.returns-then-al-ge0-clause-value
returns-then-al-ge0-clause-value c =
    let a = c.args in
    let q : pos 0 <ℤ a.bl = (let h = c.if-bl-gt0.true in omega (arith, ints)) in
    let p : pos 0 ≤ℤ a.al = (let h = c.if-al-ge0.true in omega (arith, ints)) in
    rw (to_z-of_z w128 a.al c.ranges.al, to_z-of_z w128 a.bh c.ranges.bh)
    (least_above_above a.al a.ah a.bl a.bh c.requires.first c.requires.second q p)

pub returns-else-al-ge0-clause-value : goal.returns-else-al-ge0-clause-value
returns-else-al-ge0-clause-value c =
    let a = c.args in
    let q : pos 0 <ℤ a.bl = (let h = c.if-bl-gt0.true in omega (arith, ints)) in
    let p : a.al ≤ℤ pos 0 = (let h = c.if-al-ge0.false in omega (arith, ints)) in
    rw (to_z-of_z w128 a.al c.ranges.al, to_z-of_z w128 a.bl c.ranges.bl)
    (least_below_above a.al a.ah a.bl a.bh c.requires.first c.requires.second q p)

pub returns-then-ah-ge0-clause-value : goal.returns-then-ah-ge0-clause-value
returns-then-ah-ge0-clause-value c =
    let a = c.args in
    let q : a.bh <ℤ pos 0 = below_zero c.requires.divisor (let h = c.if-bl-gt0.false in omega (arith, ints)) in
    let p : pos 0 ≤ℤ a.ah = (let h = c.if-ah-ge0.true in omega (arith, ints)) in
    rw (to_z-of_z w128 a.ah c.ranges.ah, to_z-of_z w128 a.bh c.ranges.bh)
    (least_above_below a.al a.ah a.bl a.bh c.requires.first c.requires.second q p)

pub returns-else-ah-ge0-clause-value : goal.returns-else-ah-ge0-clause-value
returns-else-ah-ge0-clause-value c =
    let a = c.args in
    let q : a.bh <ℤ pos 0 = below_zero c.requires.divisor (let h = c.if-bl-gt0.false in omega (arith, ints)) in
    let p : a.ah ≤ℤ pos 0 = (let h = c.if-ah-ge0.false in omega (arith, ints)) in
    rw (to_z-of_z w128 a.ah c.ranges.ah, to_z-of_z w128 a.bl c.ranges.bl)
    (least_below_below a.al a.ah a.bl a.bh c.requires.first c.requires.second q p)
