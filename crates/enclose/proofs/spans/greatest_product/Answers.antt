use Rattle.std.proofs.Common.{◌∙◌, arith}
use Rattle.std.specs.Prelude.{◌*ℤ◌}
use Rattle.enclose.proofs.EndsLaws.{greatest_at}
use Rattle.enclose.proofs.Sizes.{as_is, short_at}
use Rattle.enclose.proofs.spans.greatest_product.Goals as goal

pub returns-clause-value : goal.returns-clause-value
returns-clause-value c =
    let i = c.a.invariant in
    let j = c.b.invariant in
    let al = short_at c.a.inside.lo i.1 c.short.ensures.value in
    let ah = short_at c.a.inside.hi i.2 c.short-2.ensures.value in
    let bl = short_at c.b.inside.lo j.1 c.short-3.ensures.value in
    let bh = short_at c.b.inside.hi j.2 c.short-4.ensures.value in
    let size = c.greatest_product.ensures.bound in
    rw (← c.a.view_is, ← c.b.view_is)
    (as_is c.greatest_product.result (omega arith)
    ∙ greatest_at _ _ _ _ c.greatest_product.ensures.value (λ k. al k *ℤ bl k) (λ k. al k *ℤ bh k) (λ k. ah k *ℤ bl k) (λ k. ah k *ℤ bh k))

pub greatest_product-requires : goal.greatest_product-requires
greatest_product-requires c =
    let i = c.a.invariant in
    let j = c.b.invariant in
    let al = short_at c.a.inside.lo i.1 c.short.ensures.value in
    let ah = short_at c.a.inside.hi i.2 c.short-2.ensures.value in
    let bl = short_at c.b.inside.lo j.1 c.short-3.ensures.value in
    let bh = short_at c.b.inside.hi j.2 c.short-4.ensures.value in
    rw (al, ah, bl, bh) (record { first = i.0; second = j.0; first_low = i.1; first_high = i.2; second_low = j.1; second_high = j.2 })
