-- The printed row of a slanted ray holds every chain.
use Rattle.std.proofs.Common.{◌≡◌, zero, suc, refl, ap, subst, arith}
use Rattle.std.proofs.lemmas.Int.{ints}
use Rattle.std.specs.Prelude.{pos, negsuc, Option, Some, None}
use Rattle.fixdec.specs.Frac.{◌≈◌, ◌≤Q◌, ◌+Q◌, ◌*Q◌, whole}
use Rattle.fixdec.specs.Algebra.FracLaws.{≈_sym, ≈_trans}
use Rattle.fixdec.specs.Member.{IsMember}
use Rattle.fixdec.specs.Algebra.Within.{HasSize, within_same, within_to}
use Rattle.lensmodel.specs.Equations.Bending.{Stays}
use Rattle.lensmodel.specs.Equations.Chain.{Chain, index_behind}
use Rattle.lensmodel.specs.Equations.Chains.{IsChainTo}
use Rattle.lensmodel.specs.Claims.RowClaims.{HoldsPlace, HoldsHeading, HoldsAt, Encloses, WordHolds, RowHolds}
use Rattle.lensmodel.specs.Equations.Crossing.{Transfers, Crosses}
use Rattle.lensmodel.specs.Equations.Residual.{IsWithin}
use Rattle.lensmodel.specs.Setup.Values.{distance, eps}
use Rattle.examples.specs.Worked.{plane_setup, slanted_ray}
use Rattle.examples.specs.WorkedRow.{span, slanted_image, slanted_row}
use Rattle.lensmodel.specs.declared.row.Word.TheVariants.{Passes}
use Rattle.examples.proofs.Along.{keep, plus, times, within_along}
use Rattle.examples.proofs.Boxes.{index_written}
use Rattle.examples.proofs.Fronts.{reaches_before}
use Rattle.examples.proofs.Slim.{sag_size, run, run_high, run_low}
use Rattle.examples.proofs.SlantedVertex.{some, small, slope, last_flat, apart, once, point, high, low, l_size, sag, x_size, y_size, path_size, at_vertex, behind_vertex}
use Rattle.examples.proofs.SlimEnds.{member_more, near_zero, image_x, image_y, image_path}
use Rattle.examples.proofs.SlimRho.{rho_at_image}

-- up to the image
at_image : (c : Chain) → IsChainTo plane_setup slanted_ray 2 c → HoldsPlace 6 slanted_image c 2
at_image c h = record {
  rho = rho_at_image (c.x 2) (c.y 2) (c.rho 2) last.rho x y;
  x = member_more (omega (arith, ints)) (omega (arith, ints)) x;
  y = member_more (omega (arith, ints)) (omega (arith, ints)) y;
  z = near_zero (eps plane_setup) some small 1 (c.z 2) (omega arith) (within_to (once _) (within_same (≈_sym last.sag) last_sag));
  path = image_path (eps plane_setup) some small way.t t_high t_low _ (c.path 1) (c.path 2) behind (path_size c front) way.path;
}
  where
    front : IsChainTo plane_setup slanted_ray 1 c
    front = reaches_before plane_setup slanted_ray c 1 2 (omega arith) h

    stays : Stays c 0
    stays = h.bending 0 (omega arith)

    way : Transfers plane_setup c 1
    way = h.transfer 1 (omega arith)

    last : Crosses plane_setup c 1
    last = h.crossing 1 (omega arith)

    behind : index_behind plane_setup c 1 ≈ whole (pos 1)
    behind = ≈_trans (index_written plane_setup c 1 refl) (h.index 1 (omega arith))

    last_sag : HasSize (eps plane_setup) (c.conic_sag 2)
    last_sag = sag_size (eps plane_setup) some small _ _ (c.conic_sag 2) (last_flat c.symbols) last.conic

    forth : IsWithin (eps plane_setup) (c.z 1 +Q c.n 0 *Q way.t) (distance plane_setup c.symbols 1 +Q c.z 2)
    forth = within_along (plus keep (times stays.n keep)) keep way.z

    t_run : IsWithin (eps plane_setup *Q whole (pos 3)) (c.n 0 *Q way.t) (whole (pos 4))
    t_run =
        run (eps plane_setup) some small (c.n 0) (c.z 1) _ (c.z 2) (c.conic_sag 1) (c.conic_sag 2) way.t h.start.forwards (high c front) (low c front)
        (point c front).sag (apart c.symbols) last.sag (sag c front) last_sag forth

    t_high : way.t *Q whole (pos 100000) ≤Q whole (pos 500001)
    t_high =
        run_high (eps plane_setup) some small (c.n 0) (c.z 1) _ (c.z 2) (c.conic_sag 1) (c.conic_sag 2) way.t h.start.forwards (high c front) (low c front)
        (point c front).sag (apart c.symbols) last.sag (sag c front) last_sag forth

    t_low : whole (pos 499999) ≤Q way.t *Q whole (pos 100000)
    t_low =
        run_low (eps plane_setup) some small (c.n 0) (c.z 1) _ (c.z 2) (c.conic_sag 1) (c.conic_sag 2) way.t h.start.forwards (high c front) (low c front)
        (point c front).sag (apart c.symbols) last.sag (sag c front) last_sag forth

    x : IsMember 6 (span (negsuc 0) (pos 1)) (c.x 2)
    x =
        near_zero (eps plane_setup) some small 12 (c.x 2) (omega arith)
        (image_x (eps plane_setup) some small way.t t_high t_low (c.x 1) (c.l 0) (c.x 2) (x_size c front) (l_size c front)
        (within_along keep (plus keep (times stays.l keep)) way.x))

    y : IsMember 6 (span (pos 2999999) (pos 3000001)) (c.y 2)
    y =
        image_y (eps plane_setup) some small way.t t_high t_low _ (c.n 0) (c.m 0) (c.y 1) (c.y 2) slope t_run h.start.direction_y (y_size c front)
        (within_along keep (plus keep (times stays.m keep)) way.y)

abbrev inside_or : {A : Type 0} → A → Option A → A
inside_or a None = a
inside_or a (Some x) = x

same_inside : {A : Type 0} (a b : A) → Some a ≡ Some b → a ≡ b
same_inside a b e = ap (inside_or a) e

encloses : Encloses plane_setup slanted_ray slanted_row
encloses zero p e =
    subst (λ q. HoldsAt plane_setup slanted_ray slanted_row 0 q) (same_inside _ _ e)
    (record {
      place = λ c h. at_vertex c h;
      heading = λ heading same_heading c h.
          subst (λ q. HoldsHeading 6 q c 1) (same_inside _ _ same_heading) (behind_vertex c h.reaches (h.leaves 0 (omega arith)));
    })
encloses (suc zero) p e =
    subst (λ q. HoldsAt plane_setup slanted_ray slanted_row 1 q) (same_inside _ _ e)
    (record { place = λ c h. at_image c h; heading = λ heading no c h. absurd (cc) })
encloses (suc (suc j)) p e = absurd (cc)

passes : WordHolds Passes plane_setup slanted_ray
passes c whole zero le = tt
passes c whole (suc zero) le = tt
passes c whole (suc (suc zero)) le = tt
passes c whole (suc (suc (suc j))) le = absurd (omega arith)

pub slanted_row_holds : RowHolds plane_setup slanted_ray slanted_row
slanted_row_holds = record { encloses = encloses; word = passes }
