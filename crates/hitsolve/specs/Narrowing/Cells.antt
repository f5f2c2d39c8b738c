-- Where a block of cells, taken as one interval, is dropped, each interval in it is.
use Rattle.std.proofs.Common.{◌≡◌, ℕ, refl, false, arith}
use Rattle.std.proofs.lemmas.Int.{ints}
use Rattle.std.specs.Prelude.{ℤ, pos, ◌≤ℤ◌}
use Rattle.fixdec.specs.Ends.{Ends}
use Rattle.fixdec.specs.IntervalOperations.{operations}
use Rattle.fixdec.specs.Operations.{Operations}
use Rattle.fixdec.specs.declared.step.Step.{Step}
use Rattle.fixdec.specs.declared.step.Step.TheVariants.{Val, Empty, Lost}
use Rattle.lensmodel.specs.Rows.Cells.{is_kept, cell_rows, keeps}
use Rattle.lensmodel.specs.Rows.Crossing.{Line, along_row}
use Rattle.lensmodel.specs.Rows.Preparation.{Prepared}
use Rattle.lensmodel.specs.Rows.Spans.{up_to}
use Rattle.hitsolve.specs.Narrowing.Operations.{Narrows, intervals_narrow}
use Rattle.hitsolve.specs.Narrowing.Parts.{IsPart, IsNarrower}
use Rattle.hitsolve.specs.Narrowing.Sags.{IsOrdered, then_ends, sag_rows-narrower}

-- the ends of a line's values are in order
pub record IsOrderedLine (line : Line Ends) : Type 0 where
  pub x0 : IsPart line.x0 line.x0
  pub y0 : IsPart line.y0 line.y0
  pub p : IsPart line.p line.p
  pub q : IsPart line.q line.q

-- what is dropped stays so in a part
dropped : (a b : Ends) (r s : Step Ends) → IsPart a b → IsNarrower IsPart r s → is_kept b s ≡ false → is_kept a r ≡ false
dropped a b (Val v) (Val w) p h e =
    let al = p.low in let ao = p.order in let ah = p.high in let vl = h.low in let vo = h.order in let vh = h.high in grind (arith, ints, e)
dropped a b Empty (Val w) p h e = refl
dropped a b (Lost why) (Val w) p h e = absurd h
dropped a b (Val v) Empty p h e = absurd h
dropped a b Empty Empty p h e = refl
dropped a b (Lost why) Empty p h e = absurd h
dropped a b r (Lost why) p h e = absurd (grind (arith, ints, e))

module _ (scale : ℕ) (face : Prepared Ends) (hf : IsOrdered face) (zone2 : Ends) (line : Line Ends) (hl : IsOrderedLine line) (e : ℤ) (nn : pos 0 ≤ℤ e) where
  abbrev o : Operations Ends
  o = operations scale

  abbrev n : Narrows o
  n = intervals_narrow scale

  along_row-narrower : (x p a b : Ends) → IsPart x x → IsPart p p → IsPart a b → IsNarrower IsPart (along_row o x p a) (along_row o x p b)
  along_row-narrower x p a b hx hp h = then_ends _ _ _ _ (n.times hp h) λ s t k. n.plus hx k

  pub cell_rows-narrower : (a b : Ends) → IsPart a b → IsNarrower IsPart (cell_rows scale face zone2 line e a) (cell_rows scale face zone2 line e b)
  unfolding cell_rows
  cell_rows-narrower a b p =
      then_ends _ _ _ _ (along_row-narrower line.x0 line.p a b hl.x0 hl.p p) λ x x' hx.
      then_ends _ _ _ _ (n.square hx) λ x2 x2' hx2.
      then_ends _ _ _ _ (along_row-narrower line.y0 line.q a b hl.y0 hl.q p) λ y y' hy.
      then_ends _ _ _ _ (n.square hy) λ y2 y2' hy2.
      then_ends _ _ _ _ (n.plus hx2 hy2) λ r r' hr.
      then_ends _ _ _ _ (n.clip hr (up_to zone2)) λ rho rho' hrho.
      then_ends _ _ _ _ (sag_rows-narrower scale o n face hf e nn rho rho' hrho) λ s s' hs.
      n.widen hs e nn

  pub part_dropped : (a b : Ends) → IsPart a b → keeps scale face zone2 line e b ≡ false → keeps scale face zone2 line e a ≡ false
  part_dropped a b p h = dropped a b (cell_rows scale face zone2 line e a) (cell_rows scale face zone2 line e b) p (cell_rows-narrower a b p) h
