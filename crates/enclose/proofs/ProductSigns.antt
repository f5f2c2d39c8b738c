-- The least and the greatest product of ends, by the signs of the ends.
use Rattle.std.proofs.Common.{◌≡◌}
use Rattle.std.specs.Prelude.{ℤ, pos, ◌≤ℤ◌, ◌*ℤ◌}
use Rattle.std.specs.Int.{int_min, int_max}
use Rattle.fixdec.specs.Interval.{least, greatest}
use Rattle.enclose.proofs.ProductOrder.{keeps, keeps_left, turns, turns_left, chain}
use Rattle.enclose.proofs.Selection.{least_first, least_second, least_third, least_fourth, least_inner, greatest_first, greatest_second, greatest_third, greatest_fourth, greatest_outer}

module _ (al ah bl bh : ℤ) (a : al ≤ℤ ah) (b : bl ≤ℤ bh) where
  abbrev Least : ℤ → Type 0
  Least m = m ≡ least (al *ℤ bl) (al *ℤ bh) (ah *ℤ bl) (ah *ℤ bh)

  abbrev Greatest : ℤ → Type 0
  Greatest m = m ≡ greatest (al *ℤ bl) (al *ℤ bh) (ah *ℤ bl) (ah *ℤ bh)

  -- ---- the first isn't negative
  module _ (p : pos 0 ≤ℤ al) where
    last : pos 0 ≤ℤ ah
    last = chain p a

    pub least_above_above : pos 0 ≤ℤ bl → Least (al *ℤ bl)
    least_above_above q =
        let l = keeps_left bl bh al p b in
        least_first _ _ _ _ l (keeps al ah bl q a) (chain l (keeps al ah bh (chain q b) a))

    pub least_above_below : bl ≤ℤ pos 0 → Least (ah *ℤ bl)
    least_above_below q =
        let l = turns al ah bl q a in
        least_third _ _ _ _ l (chain l (keeps_left bl bh al p b)) (keeps_left bl bh ah last b)

    pub greatest_above_above : pos 0 ≤ℤ bh → Greatest (ah *ℤ bh)
    greatest_above_above q =
        let l = keeps al ah bh q a in
        greatest_fourth _ _ _ _ (chain (keeps_left bl bh al p b) l) l (keeps_left bl bh ah last b)

    pub greatest_above_below : bh ≤ℤ pos 0 → Greatest (al *ℤ bh)
    greatest_above_below q =
        let l = turns al ah bh q a in
        greatest_second _ _ _ _ (keeps_left bl bh al p b) (chain (keeps_left bl bh ah last b) l) l

  -- ---- the first isn't positive
  module _ (p : ah ≤ℤ pos 0) where
    front : al ≤ℤ pos 0
    front = chain a p

    pub least_below_above : pos 0 ≤ℤ bh → Least (al *ℤ bh)
    least_below_above q =
        let l = keeps al ah bh q a in
        least_second _ _ _ _ (turns_left bl bh al front b) (chain l (turns_left bl bh ah p b)) l

    pub least_below_below : bh ≤ℤ pos 0 → Least (ah *ℤ bh)
    least_below_below q =
        let l = turns al ah bh q a in
        least_fourth _ _ _ _ (chain l (turns_left bl bh al front b)) l (turns_left bl bh ah p b)

    pub greatest_below_above : pos 0 ≤ℤ bl → Greatest (ah *ℤ bl)
    greatest_below_above q =
        let l = keeps al ah bl q a in
        greatest_third _ _ _ _ l (chain (turns_left bl bh al front b) l) (turns_left bl bh ah p b)

    pub greatest_below_below : bl ≤ℤ pos 0 → Greatest (al *ℤ bl)
    greatest_below_below q =
        let l = turns al ah bl q a in
        greatest_first _ _ _ _ (turns_left bl bh al front b) l (chain (turns_left bl bh ah p b) l)

  -- ---- the first has both signs
  module _ (p : al ≤ℤ pos 0) (q : pos 0 ≤ℤ ah) where
    pub least_across_above : pos 0 ≤ℤ bl → Least (al *ℤ bh)
    least_across_above r =
        let l = keeps al ah bh (chain r b) a in
        least_second _ _ _ _ (turns_left bl bh al p b) (chain (turns_left bl bh al p b) (keeps al ah bl r a)) l

    pub least_across_below : bh ≤ℤ pos 0 → Least (ah *ℤ bl)
    least_across_below r =
        let l = keeps_left bl bh ah q b in
        least_third _ _ _ _ (turns al ah bl (chain b r) a) (chain l (turns al ah bh r a)) l

    pub greatest_across_above : pos 0 ≤ℤ bl → Greatest (ah *ℤ bh)
    greatest_across_above r =
        let l = keeps_left bl bh ah q b in
        greatest_fourth _ _ _ _ (chain (keeps al ah bl r a) l) (keeps al ah bh (chain r b) a) l

    pub greatest_across_below : bh ≤ℤ pos 0 → Greatest (al *ℤ bl)
    greatest_across_below r =
        let l = turns_left bl bh al p b in
        greatest_first _ _ _ _ l (turns al ah bl (chain b r) a) (chain (turns al ah bh r a) l)

    pub least_across : Least (int_min (al *ℤ bh) (ah *ℤ bl))
    least_across = least_inner _ _ _ _ (turns_left bl bh al p b) (keeps_left bl bh ah q b)

    pub greatest_across : Greatest (int_max (al *ℤ bl) (ah *ℤ bh))
    greatest_across = greatest_outer _ _ _ _ (turns_left bl bh al p b) (keeps_left bl bh ah q b)
