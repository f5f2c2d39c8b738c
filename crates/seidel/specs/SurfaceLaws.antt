-- The rows of one surface hold the sums of a chain there, where the rows of both rays hold the rays. Cited by proofs.
use Rattle.std.specs.Prelude.{ℕ, suc, ℤ}
use Rattle.fixdec.specs.Frac.{Frac}
use Rattle.fixdec.specs.Member.{Symbols}
use Rattle.fixdec.specs.Operations.{Operations, IsLawful}
use Rattle.lensmodel.specs.Paraxial.FirstOrderRows.{Passing}
use Rattle.lensmodel.specs.Paraxial.Seidel.{FiveSums, SeidelChain, HasSumsAt}
use Rattle.lensmodel.specs.Paraxial.SeidelRows.{Sums, sum_row, contribution}
use Rattle.lensmodel.specs.Paraxial.Trace.{signed_index, vertex_curvature}
use Rattle.lensmodel.specs.Rows.Laws.{Covers}
use Rattle.lensmodel.specs.Setup.Values.{surface_at, eps}
use Rattle.lensmodel.specs.declared.setup.Setup.{Setup}
use Rattle.firstorder.specs.Tracks.{OnDone, HoldsPassing}
use Rattle.seidel.specs.RowLaws.{invariant-holds, lagrange-holds, petzval-holds, slope_change-holds, square_change-holds, asphericity-holds, square-holds, s1-holds, s2-holds, s3-holds, s4-holds, s5-holds}

-- five rows hold five sums
pub record HoldsSums {A : Type 0} (member : A → Symbols → Frac → Type 0) (sy : Symbols) (v : Sums A) (f : FiveSums) : Type 0 where
  pub s1 : OnDone v.s1 (λ x. member x sy f.s1)
  pub s2 : OnDone v.s2 (λ x. member x sy f.s2)
  pub s3 : OnDone v.s3 (λ x. member x sy f.s3)
  pub s4 : OnDone v.s4 (λ x. member x sy f.s4)
  pub s5 : OnDone v.s5 (λ x. member x sy f.s5)

module _ {A : Type 0} (scale : ℕ) (o : Operations A) (member : A → Symbols → Frac → Type 0) (law : IsLawful scale o member) (sy : Symbols)
    (s : Setup) (e : ℤ) (covers : Covers scale (eps s) e) where
  pub contribution-holds : (c : SeidelChain) (j : ℕ) (m b : Passing A) → HoldsPassing member sy s c.index c.marginal j m
      → HoldsPassing member sy s c.index c.chief j b → HasSumsAt s c j
      → HoldsSums member sy (contribution o scale s e j m b).sums (c.sums_at (suc j))
  contribution-holds c j m b hm hb v =
      let N = signed_index s c.index j in
      let N' = signed_index s c.index (suc j) in
      let CV = vertex_curvature s (suc j) in
      let Y = c.marginal.y (suc j) in
      let U = c.marginal.u j in
      let U' = c.marginal.u (suc j) in
      let YB = c.chief.y (suc j) in
      let UB = c.chief.u j in
      let a = invariant-holds scale o member law sy (sum_row (suc j) 0) m.n m.y m.cv m.u N Y CV U v.a hm.n hm.y hm.cv hm.u v.a_is in
      let ab = invariant-holds scale o member law sy (sum_row (suc j) 1) m.n b.y m.cv b.u N YB CV UB v.ab hm.n hb.y hm.cv hb.u v.ab_is in
      let h = lagrange-holds scale o member law sy (sum_row (suc j) 2) _ m.y _ b.y v.ab Y v.a YB v.h ab hm.y a hb.y v.h_is in
      let p = petzval-holds scale o member law sy (sum_row (suc j) 3) m.cv m.n m.n2 CV N N' v.r v.r' v.p hm.cv hm.n hm.n2 v.inverse v.inverse' v.p_is in
      let dun = slope_change-holds scale o member law sy (sum_row (suc j) 4) m.behind m.n2 m.u m.n U' N' U N v.r v.r' v.dun hm.behind hm.n2 hm.u hm.n v.inverse v.inverse' v.dun_is in
      let dn2 = square_change-holds scale o member law sy (sum_row (suc j) 5) m.n m.n2 N N' v.r v.r' v.dn2 hm.n hm.n2 v.inverse v.inverse' v.dn2_is in
      let k8 = asphericity-holds scale o member law sy (sum_row (suc j) 6) (surface_at s (suc j)) m.cv m.n m.n2 CV N N' v.k8 hm.cv hm.n hm.n2 v.k8_is in
      let yy = square-holds scale o member law sy (sum_row (suc j) 7) m.y Y hm.y in
      let bb = square-holds scale o member law sy (sum_row (suc j) 8) b.y YB hb.y in
      record {
        s1 = s1-holds scale o member law sy (eps s) e covers (sum_row (suc j) 9) _ _ _ m.y _ v.k8 Y v.a v.dun _ k8 yy a hm.y dun v.s1;
        s2 = s2-holds scale o member law sy (eps s) e covers (sum_row (suc j) 10) _ _ m.y b.y _ _ _ v.k8 Y YB v.a v.ab v.dun _ k8 yy hm.y hb.y a ab dun v.s2;
        s3 = s3-holds scale o member law sy (eps s) e covers (sum_row (suc j) 11) _ _ _ _ m.y _ v.k8 Y YB v.ab v.dun _ k8 yy bb ab hm.y dun v.s3;
        s4 = s4-holds scale o member law sy (eps s) e covers (sum_row (suc j) 12) _ _ v.h v.p _ h p v.s4;
        s5 = s5-holds scale o member law sy (eps s) e covers (sum_row (suc j) 13) _ m.y b.y _ _ _ _ _ v.k8 Y YB v.ab v.dn2 v.p v.h _ k8 hm.y hb.y bb ab dn2 p h v.s5;
      }
