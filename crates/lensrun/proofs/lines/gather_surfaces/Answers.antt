use Rattle.std.proofs.Common.{◌≡◌, [], length, refl, ◌∙◌, rules, arith}
use Rattle.std.specs.Prelude.{slice_index_or}
use Rattle.std.proofs.lemmas.Option.{slice_get-get_or}
use Rattle.std.proofs.lemmas.Result.{err_from_is_err_and}
use Rattle.lensmodel.specs.Setup.Values.{plane}
use Rattle.lensmodel.specs.Texts.Lens.{asphere_lines}
use Rattle.lensrun.specs.Numbered.{surface_text}
use Rattle.lensrun.proofs.Gathering.{lines-end}
use Rattle.lensrun.proofs.Lens.{surface-at, surface_front, asphere_front, surface_next, length-numbered}
use Rattle.lensrun.proofs.lines.gather_surfaces.Goals as goal

pub returns-in_err-gather_line-clause-front : goal.returns-in_err-gather_line-clause-front
returns-in_err-gather_line-clause-front g c =
    let p = err_from_is_err_and c.from_residual.result c.from_residual.ensures.1 in
    let surfaces = c.args.lens.now.surfaces.items in
    let f = slice_index_or surfaces c.loop-j.j plane in
    rw p.1 (surface_front surfaces c.loop-j.j f _ (asphere_lines f.kind c.loop-j.j f)
    (slice_get-get_or surfaces c.loop-j.j plane (omega (arith, c.loop-j-test.true, c.len-j-end.ensures.value))) c.print_surface.ensures refl
    _ _ _ _ [] c.args.piece.now.bytes c.loop-j.invariant.gathers c.in_err-gather_line.ensures.front)

pub returns-in_err-gather_line-2-clause-front : goal.returns-in_err-gather_line-2-clause-front
returns-in_err-gather_line-2-clause-front g c =
    let p = err_from_is_err_and c.from_residual-in_err-gather_line-2.result c.from_residual-in_err-gather_line-2.ensures.1 in
    let surfaces = c.args.lens.now.surfaces.items in
    let at = surface-at surfaces c.as_slice.result.now c.loop-j.j c.index-as_slice-j.result c.as_slice.ensures.value
    (omega (arith, c.loop-j-test.true, c.len-j-end.ensures.value)) c.index-as_slice-j.is in
    rw p.1 (asphere_front surfaces c.loop-j.j c.index-as_slice-j.result _ _ at c.print_surface.ensures c.print_asphere.ensures
    _ _ _ _ _ c.args.piece.now.bytes c.loop-j.invariant.gathers _ c.in_ok-gather_line.ensures.ok c.in_err-gather_line-2.ensures.front)

pub loop-j-preserved : goal.loop-j-preserved
loop-j-preserved g c =
    let surfaces = c.args.lens.now.surfaces.items in
    let at = surface-at surfaces c.as_slice.result.now c.loop-j.j c.index-as_slice-j.result c.as_slice.ensures.value
    (omega (arith, c.loop-j-test.true, c.len-j-end.ensures.value)) c.index-as_slice-j.is in
    record {
      gathers = surface_next surfaces c.loop-j.j c.index-as_slice-j.result _ _ at c.print_surface.ensures c.print_asphere.ensures
          _ _ _ _ _ c.args.piece.now.bytes c.loop-j.invariant.gathers _ _ c.in_ok-gather_line.ensures.ok c.in_ok-gather_line-2.ensures.ok;
      calm = search rules;
    }

pub returns-clause-ok : goal.returns-clause-ok
returns-clause-ok g c =
    let end : length c.args.lens.now.surfaces.items ≡ c.loop-j.j = omega (arith, c.loop-j-test.false, c.loop-j.auto.j-end, c.len-j-end.ensures.value) in
    lines-end _ _ _ c.args.piece.now.bytes _ c.loop-j.j (length-numbered surface_text 0 c.args.lens.now.surfaces.items ∙ end) c.loop-j.invariant.gathers
