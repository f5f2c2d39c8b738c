use Rattle.std.proofs.Common.{refl}
use Rattle.std.proofs.lemmas.Result.{err_from_is_err_and}
use Rattle.lensmodel.specs.Files.Causes.{each_from, first_fault}
use Rattle.lensmodel.specs.Files.Joining.{before_image}
use Rattle.lensmodel.specs.Setup.Values.{tolerances}
use Rattle.dispers.specs.Checks.{range_fault, index_fault, mirror_fault}
use Rattle.dispers.proofs.Faults.{fault-of, none-of, first_of_three, second_of_three, third_of_three}
use Rattle.dispers.proofs.join.check_setup.Goals as goal

pub returns-in_err-check_ranges : goal.returns-in_err-check_ranges
returns-in_err-check_ranges c =
    let p = err_from_is_err_and c.from_residual.result c.from_residual.ensures.1 in
    let s = c.args.s.now in
    let ranges = each_from (range_fault s.wave) 0 s.media.items in
    let indices = each_from (index_fault s) 0 (before_image s.lens) in
    let mirrors = each_from (mirror_fault (tolerances s.toler)) 0 (before_image s.lens) in
    let h = fault-of (first_fault ranges) tt _ (rw c.as_slice.ensures.value at c.in_err-check_ranges.ensures) in
    rw (p.1, p.2, first_of_three ranges indices mirrors _ h) refl

pub returns-in_err-check_indices : goal.returns-in_err-check_indices
returns-in_err-check_indices c =
    let p = err_from_is_err_and c.from_residual-in_err-check_indices.result c.from_residual-in_err-check_indices.ensures.1 in
    let s = c.args.s.now in
    let ranges = each_from (range_fault s.wave) 0 s.media.items in
    let indices = each_from (index_fault s) 0 (before_image s.lens) in
    let mirrors = each_from (mirror_fault (tolerances s.toler)) 0 (before_image s.lens) in
    let g = none-of (first_fault ranges) tt _ (rw c.as_slice.ensures.value at c.in_ok-check_ranges.ensures) in
    let h = fault-of (first_fault indices) tt _ c.in_err-check_indices.ensures in
    rw (p.1, p.2, second_of_three ranges indices mirrors _ g h) refl

pub returns : goal.returns
returns c =
    let s = c.args.s.now in
    let ranges = each_from (range_fault s.wave) 0 s.media.items in
    let indices = each_from (index_fault s) 0 (before_image s.lens) in
    let mirrors = each_from (mirror_fault (tolerances s.toler)) 0 (before_image s.lens) in
    let g = none-of (first_fault ranges) tt _ (rw c.as_slice.ensures.value at c.in_ok-check_ranges.ensures) in
    let h = none-of (first_fault indices) tt _ c.in_ok-check_indices.ensures in
    rw (third_of_three ranges indices mirrors g h) c.check_mirrors.ensures
