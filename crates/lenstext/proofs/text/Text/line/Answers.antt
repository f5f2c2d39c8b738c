use Rattle.std.proofs.Common.{◌-◌, ℕ, List, ap, ◌∙◌, length, take, drop, arith, length-take}
use Rattle.lenstext.proofs.Numbered.{found, within_ends}
use Rattle.lenstext.proofs.text.Text.line.Goals as goal

pub start_of_line-start-requires : goal.start_of_line-start-requires
start_of_line-start-requires c =
    omega (arith, within_ends c.self.inside.units.items c.self.inside.ends.items c.args.self.now c.args.i c.self.view_is c.requires, ap length c.deref.ensures.value)

pub index-requires : goal.index-requires
index-requires c =
    omega (arith, within_ends c.self.inside.units.items c.self.inside.ends.items c.args.self.now c.args.i c.self.view_is c.requires, c.self.inside.ends.ok.0)

pub offset_bounds-deref-start : goal.offset_bounds-deref-start
offset_bounds-deref-start c =
    let f = found c.self.inside.units.items c.self.inside.ends.items c.deref.result.now c.args.self.now c.args.i c.start_of_line-start.result c.index.result.now c.self.view_is c.requires c.self.invariant.0 c.deref.ensures.value c.start_of_line-start.ensures c.index.ensures in
    omega (arith, f.order, f.inside, ap length c.deref-2.ensures.value, c.deref-2.type_inv.1)

pub slice_bounds-result-count : goal.slice_bounds-result-count
slice_bounds-result-count c =
    let f = found c.self.inside.units.items c.self.inside.ends.items c.deref.result.now c.args.self.now c.args.i c.start_of_line-start.result c.index.result.now c.self.view_is c.requires c.self.invariant.0 c.deref.ensures.value c.start_of_line-start.ensures c.index.ensures in
    f.order

pub slice_bounds-result-start : goal.slice_bounds-result-start
slice_bounds-result-start c =
    let f = found c.self.inside.units.items c.self.inside.ends.items c.deref.result.now c.args.self.now c.args.i c.start_of_line-start.result c.index.result.now c.self.view_is c.requires c.self.invariant.0 c.deref.ensures.value c.start_of_line-start.ensures c.index.ensures in
    f.order

pub slice_bounds-result-end : goal.slice_bounds-result-end
slice_bounds-result-end c =
    let f = found c.self.inside.units.items c.self.inside.ends.items c.deref.result.now c.args.self.now c.args.i c.start_of_line-start.result c.index.result.now c.self.view_is c.requires c.self.invariant.0 c.deref.ensures.value c.start_of_line-start.ensures c.index.ensures in
    omega (arith, f.inside, ap length c.deref-2.ensures.value)

pub returns-clause-line : goal.returns-clause-line
returns-clause-line c =
    let f = found c.self.inside.units.items c.self.inside.ends.items c.deref.result.now c.args.self.now c.args.i c.start_of_line-start.result c.index.result.now c.self.view_is c.requires c.self.invariant.0 c.deref.ensures.value c.start_of_line-start.ensures c.index.ensures in
    ap (λ (us : List ℕ). take (c.index.result.now - c.start_of_line-start.result) (drop c.start_of_line-start.result us)) c.deref-2.ensures.value ∙ f.is

pub returns-clause-short : goal.returns-clause-short
returns-clause-short c =
    let f = found c.self.inside.units.items c.self.inside.ends.items c.deref.result.now c.args.self.now c.args.i c.start_of_line-start.result c.index.result.now c.self.view_is c.requires c.self.invariant.0 c.deref.ensures.value c.start_of_line-start.ensures c.index.ensures in
    omega (arith, f.short, length-take (c.index.result.now - c.start_of_line-start.result) (drop c.start_of_line-start.result c.deref-2.result.now))
