use Rattle.std.proofs.Common.{◌∙◌, arith}
use Rattle.std.specs.Prelude.{pos, ◌≤ℤ◌}
use Rattle.std.specs.Int.{w128, int_min}
use Rattle.std.proofs.lemmas.Int.{ints, to_z-of_z}
use Rattle.enclose.proofs.ProductSigns.{least_above_above, least_above_below, least_across, least_across_above, least_across_below, least_below_above, least_below_below}
use Rattle.enclose.proofs.Sizes.{word_product_at}
use Rattle.enclose.proofs.signs.least_product.Goals as goal

pub returns-then-bl-ge0-clause-value : goal.returns-then-bl-ge0-clause-value
returns-then-bl-ge0-clause-value c =
    let a = c.args in
    let r = c.requires in
    let p : pos 0 ≤ℤ a.al = (let h = c.if-al-ge0.true in omega (arith, ints)) in
    let q : pos 0 ≤ℤ a.bl = (let h = c.if-bl-ge0.true in omega (arith, ints)) in
    word_product_at a.al a.bl r.first_low r.second_low c.product.ensures.value ∙ least_above_above a.al a.ah a.bl a.bh r.first r.second p q

pub returns-else-bl-ge0-clause-value : goal.returns-else-bl-ge0-clause-value
returns-else-bl-ge0-clause-value c =
    let a = c.args in
    let r = c.requires in
    let p : pos 0 ≤ℤ a.al = (let h = c.if-al-ge0.true in omega (arith, ints)) in
    let q : a.bl ≤ℤ pos 0 = (let h = c.if-bl-ge0.false in omega (arith, ints)) in
    word_product_at a.ah a.bl r.first_high r.second_low c.product-else-bl-ge0.ensures.value ∙ least_above_below a.al a.ah a.bl a.bh r.first r.second p q

pub returns-then-bh-ge0-clause-value : goal.returns-then-bh-ge0-clause-value
returns-then-bh-ge0-clause-value c =
    let a = c.args in
    let r = c.requires in
    let p : a.ah ≤ℤ pos 0 = (let h = c.if-ah-le0.true in omega (arith, ints)) in
    let q : pos 0 ≤ℤ a.bh = (let h = c.if-bh-ge0.true in omega (arith, ints)) in
    word_product_at a.al a.bh r.first_low r.second_high c.product-then-bh-ge0.ensures.value ∙ least_below_above a.al a.ah a.bl a.bh r.first r.second p q

pub returns-else-bh-ge0-clause-value : goal.returns-else-bh-ge0-clause-value
returns-else-bh-ge0-clause-value c =
    let a = c.args in
    let r = c.requires in
    let p : a.ah ≤ℤ pos 0 = (let h = c.if-ah-le0.true in omega (arith, ints)) in
    let q : a.bh ≤ℤ pos 0 = (let h = c.if-bh-ge0.false in omega (arith, ints)) in
    word_product_at a.ah a.bh r.first_high r.second_high c.product-else-bh-ge0.ensures.value ∙ least_below_below a.al a.ah a.bl a.bh r.first r.second p q

pub returns-then-bl-ge0-2-clause-value : goal.returns-then-bl-ge0-2-clause-value
returns-then-bl-ge0-2-clause-value c =
    let a = c.args in
    let r = c.requires in
    let p : a.al ≤ℤ pos 0 = (let h = c.if-al-ge0.false in omega (arith, ints)) in
    let n : pos 0 ≤ℤ a.ah = (let h = c.if-ah-le0.false in omega (arith, ints)) in
    let q : pos 0 ≤ℤ a.bl = (let h = c.if-bl-ge0-2.true in omega (arith, ints)) in
    word_product_at a.al a.bh r.first_low r.second_high c.product-then-bl-ge0-2.ensures.value ∙ least_across_above a.al a.ah a.bl a.bh r.first r.second p n q

pub returns-then-bh-le0-clause-value : goal.returns-then-bh-le0-clause-value
returns-then-bh-le0-clause-value c =
    let a = c.args in
    let r = c.requires in
    let p : a.al ≤ℤ pos 0 = (let h = c.if-al-ge0.false in omega (arith, ints)) in
    let n : pos 0 ≤ℤ a.ah = (let h = c.if-ah-le0.false in omega (arith, ints)) in
    let q : a.bh ≤ℤ pos 0 = (let h = c.if-bh-le0.true in omega (arith, ints)) in
    word_product_at a.ah a.bl r.first_high r.second_low c.product-then-bh-le0.ensures.value ∙ least_across_below a.al a.ah a.bl a.bh r.first r.second p n q

pub returns-else-bh-le0-clause-value : goal.returns-else-bh-le0-clause-value
returns-else-bh-le0-clause-value c =
    let a = c.args in
    let r = c.requires in
    let p : a.al ≤ℤ pos 0 = (let h = c.if-al-ge0.false in omega (arith, ints)) in
    let n : pos 0 ≤ℤ a.ah = (let h = c.if-ah-le0.false in omega (arith, ints)) in
    let first = word_product_at a.al a.bh r.first_low r.second_high c.product-else-bh-le0.ensures.value in
    let second = word_product_at a.ah a.bl r.first_high r.second_low c.product-else-bh-le0-2.ensures.value in
    to_z-of_z w128 c.min.result (record { sfits = c.min.type_inv }) ∙ c.min.ensures.value ∙ (λ i. int_min (first i) (second i))
    ∙ least_across a.al a.ah a.bl a.bh r.first r.second p n
