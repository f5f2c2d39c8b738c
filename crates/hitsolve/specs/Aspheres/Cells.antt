-- Each cell of a window in which a line meets an even asphere is kept, so the pruned window holds where they meet.
use Rattle.std.proofs.Common.{◌≡◌, ℕ, zero, suc, ◌+◌, refl, subst, arith, ◌⊎◌, inl, inr, Bool, true, false}
use Rattle.std.proofs.lemmas.Int.{ints, clamps}
use Rattle.std.specs.Prelude.{ℤ, pos, ◌-ℤ◌, ◌*ℤ◌, ◌≤ℤ◌}
use Rattle.fixdec.specs.Algebra.MemberLaws.{clip_meets, units_nn}
use Rattle.fixdec.specs.Algebra.RoundingLaws.{floor_pos, floor_pos_next}
use Rattle.fixdec.specs.Algebra.Order.{le_cases, le_trans, le_whole}
use Rattle.fixdec.specs.Algebra.OrderLaws.{le_mul, mul_nn}
use Rattle.fixdec.specs.Ends.{Ends}
use Rattle.fixdec.specs.Frac.{Frac, ◌≤Q◌, ◌+Q◌, ◌*Q◌, whole}
use Rattle.fixdec.specs.IntervalOperations.{operations}
use Rattle.fixdec.specs.Member.{IsMember, Symbols, units}
use Rattle.fixdec.specs.Operations.{Operations, IsLawful}
use Rattle.fixdec.specs.Steps.{OnVal, OnVal-then}
use Rattle.fixdec.specs.declared.step.Step.{Step}
use Rattle.fixdec.specs.declared.step.Step.TheVariants.{Val, Empty, Lost}
use Rattle.enclose.specs.IvLaws.{iv_member, iv_lawful}
use Rattle.lensmodel.specs.Rows.Cells.{cut, cell, cells_from, hull_with, hull_if, kept_hull, is_kept, cell_rows, keeps, pruned}
use Rattle.lensmodel.specs.Rows.Crossing.{Line, along_row, rho_row}
use Rattle.lensmodel.specs.Rows.Laws.{Covers, widened}
use Rattle.lensmodel.specs.Rows.Preparation.{Prepared}
use Rattle.lensmodel.specs.Rows.Sag.{sag_rows}
use Rattle.lensmodel.specs.Rows.Spans.{up_to}
use Rattle.hitsolve.specs.Aspheres.Meeting.{Asphere, Meets, along, rho_at, HoldsAsphere, HoldsLine}
use Rattle.hitsolve.specs.Aspheres.Powers.{rho_nn}
use Rattle.hitsolve.specs.Aspheres.Sag.{sag_of, sag_rows-member}

-- the point of a line at z
module _ {A : Type 0} (scale : ℕ) (o : Operations A) (member : A → Symbols → Frac → Type 0) (law : IsLawful scale o member) (sy : Symbols) where
  pub along_row-member : (x0 p z : A) (X P Z : Frac) → member x0 sy X → member p sy P → member z sy Z → OnVal (along_row o x0 p z) (λ r. member r sy (along X P Z))
  along_row-member x0 p z X P Z hx hp hz =
      OnVal-then (o.times p z) _ (λ t. member t sy (P *Q Z)) _ (law.times sy p z P Z hp hz) λ t ht.
      law.plus sy x0 t X _ hx ht

  pub rho_row-member : (x y : A) (X Y : Frac) → member x sy X → member y sy Y → OnVal (rho_row o x y) (λ r. member r sy (X *Q X +Q Y *Q Y))
  rho_row-member x y X Y hx hy =
      OnVal-then (o.square x) _ (λ t. member t sy (X *Q X)) _ (law.square sy x X hx) λ t ht.
      OnVal-then (o.square y) _ (λ u. member u sy (Y *Q Y)) _ (law.square sy y Y hy) λ u hu.
      law.plus sy t u _ _ ht hu

-- rho at a point within the zone lies from 0 to the zone's greatest square
pub rho_up_to : (scale : ℕ) (zone2 : Ends) (l : Line Frac) (z Z2 : Frac) → IsMember scale zone2 Z2 → rho_at l z ≤Q Z2 → IsMember scale (up_to zone2) (rho_at l z)
rho_up_to scale zone2 l z Z2 h n = record {
  low = mul_nn (rho_nn l z) (units_nn scale);
  high = le_trans (le_mul (units scale) (units_nn scale) n) h.high;
}

-- the first cut is the least end, and the last the greatest
first_cut : (a : Ends) → cut a 0 ≤ℤ a.lo
first_cut a = let h = floor_pos ((a.hi -ℤ a.lo) *ℤ pos 0) (pos 64) (omega (arith, ints)) in omega (arith, ints)

last_cut : (a : Ends) → a.hi ≤ℤ cut a 64
last_cut a = let h = floor_pos_next ((a.hi -ℤ a.lo) *ℤ pos 64) (pos 64) (omega (arith, ints)) in omega (arith, ints)

module _ (scale : ℕ) (sy : Symbols) (eps : Frac) (e : ℤ) (covers : Covers scale eps e) (f : Asphere) (l : Line Frac) (z zc : Frac) (m : Meets eps f l z zc)
    (face : Prepared Ends) (zone2 : Ends) (line : Line Ends) (hf : HoldsAsphere (iv_member scale) sy f face) (hz : IsMember scale zone2 f.zone2)
    (hl : HoldsLine (iv_member scale) sy l line) where
  abbrev o : Operations Ends
  o = operations scale

  abbrev law : IsLawful scale o (iv_member scale)
  law = iv_lawful scale

  -- W of a cell holds each point of the cell in which they meet
  pub cell_rows-member : (a : Ends) → IsMember scale a z → OnVal (cell_rows scale face zone2 line e a) (λ w. IsMember scale w z)
  unfolding cell_rows
  cell_rows-member a ha =
      let x = along l.x0 l.p z in
      let y = along l.y0 l.q z in
      OnVal-then (along_row o line.x0 line.p a) _ (λ r. IsMember scale r x) _ (along_row-member scale o (iv_member scale) law sy line.x0 line.p a l.x0 l.p z hl.x0 hl.p ha) λ X hx.
      OnVal-then (o.square X) _ (λ r. IsMember scale r (x *Q x)) _ (law.square sy X x hx) λ X2 hx2.
      OnVal-then (along_row o line.y0 line.q a) _ (λ r. IsMember scale r y) _ (along_row-member scale o (iv_member scale) law sy line.y0 line.q a l.y0 l.q z hl.y0 hl.q ha) λ Y hy.
      OnVal-then (o.square Y) _ (λ r. IsMember scale r (y *Q y)) _ (law.square sy Y y hy) λ Y2 hy2.
      OnVal-then (o.plus X2 Y2) _ (λ r. IsMember scale r (rho_at l z)) _ (law.plus sy X2 Y2 _ _ hx2 hy2) λ R hr.
      OnVal-then (o.clip R (up_to zone2)) _ (λ r. IsMember scale r (rho_at l z)) _ (law.clip sy R (up_to zone2) _ hr (rho_up_to scale zone2 l z f.zone2 hz m.zone)) λ rho hrho.
      OnVal-then (sag_rows o scale face rho e) _ (λ r. IsMember scale r (sag_of f zc (rho_at l z))) _
      (sag_rows-member scale o (iv_member scale) law sy eps e covers f face rho (rho_at l z) zc hf hrho m.conic m.near_vertex) λ s hs.
      widened scale o (iv_member scale) law sy eps e covers s _ z hs m.sag

  -- so the cell is kept
  kept : (a : Ends) (r : Step Ends) → IsMember scale a z → OnVal r (λ w. IsMember scale w z) → is_kept a r ≡ true
  kept a (Val w) ha h = let both = clip_meets scale w a z h ha in grind (arith, ints, both)
  kept a Empty ha h = absurd h
  kept a (Lost why) ha h = refl

  -- the hull of a cell and what follows holds what either holds
  hull_left : (a : Ends) (r : Step Ends) → IsMember scale a z → OnVal (hull_with a r) (λ b. IsMember scale b z)
  hull_left a (Val b) h = record { low = le_trans (le_whole (omega (arith, ints, clamps))) h.low; high = le_trans h.high (le_whole (omega (arith, ints, clamps))) }
  hull_left a Empty h = h
  hull_left a (Lost why) h = tt

  hull_right : (k : Bool) (a : Ends) (r : Step Ends) → OnVal r (λ b. IsMember scale b z) → OnVal (hull_if k a r) (λ b. IsMember scale b z)
  hull_right false a r h = h
  hull_right true a (Val b) h = record { low = le_trans (le_whole (omega (arith, ints, clamps))) h.low; high = le_trans h.high (le_whole (omega (arith, ints, clamps))) }
  hull_right true a Empty h = absurd h
  hull_right true a (Lost why) h = tt

  hull_kept : (a : Ends) (r : Step Ends) → IsMember scale a z → OnVal (hull_if (keeps scale face zone2 line e a) a r) (λ b. IsMember scale b z)
  hull_kept a r h = rw (kept a (cell_rows scale face zone2 line e a) h (cell_rows-member a h)) (hull_left a r h)

  -- n + 1 cells from cell i on, the first of which begins at most at z, and the last of which ends at least at it
  cells_hold : (a : Ends) (n i : ℕ) → whole (cut a i) ≤Q z *Q units scale → z *Q units scale ≤Q whole (cut a (suc (n + i)))
      → OnVal (kept_hull (keeps scale face zone2 line e) (cells_from a i (suc n))) (λ b. IsMember scale b z)
  cells_hold a zero i low high = hull_kept (cell a i) Empty record { low = low; high = subst (λ (k : ℕ). z *Q units scale ≤Q whole (cut a (suc k))) (omega arith) high }
  cells_hold a (suc n) i low high =
      by (λ h. cells_hold a n (suc i) h (subst (λ (k : ℕ). z *Q units scale ≤Q whole (cut a (suc k))) (omega arith) high)) (le_cases (z *Q units scale) (whole (cut a (suc i))))
    where
      by : (whole (cut a (suc i)) ≤Q z *Q units scale → OnVal (kept_hull (keeps scale face zone2 line e) (cells_from a (suc i) (suc n))) (λ b. IsMember scale b z))
          → (z *Q units scale ≤Q whole (cut a (suc i))) ⊎ (whole (cut a (suc i)) ≤Q z *Q units scale)
          → OnVal (kept_hull (keeps scale face zone2 line e) (cells_from a i (suc (suc n)))) (λ b. IsMember scale b z)
      by later (inl h) = hull_kept (cell a i) _ record { low = low; high = h }
      by later (inr h) = hull_right _ (cell a i) _ (later h)

  pub pruned-member : (a : Ends) → IsMember scale a z → OnVal (pruned scale face zone2 line e a) (λ b. IsMember scale b z)
  unfolding pruned
  pruned-member a h = cells_hold a 63 0 (le_trans (le_whole (first_cut a)) h.low) (le_trans h.high (le_whole (last_cut a)))
