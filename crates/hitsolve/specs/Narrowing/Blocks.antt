-- The hull of the cells that are kept reaches from the first of them to the last.
use Rattle.std.proofs.Common.{◌≡◌, ℕ, zero, suc, ◌+◌, ◌≤◌, ◌<◌, refl, sym, subst, ap, ◌∙◌, true, false, Bool, arith, inl, inr, ◌*◌}
use Rattle.std.proofs.lemmas.Bool.{cases_lt, false≢true}
use native.Mathlib.Nat.{mul-le-mul_left}
use Rattle.std.proofs.lemmas.Int.{ints, clamps}
use Rattle.std.specs.Int.{int_min, int_max}
use Rattle.std.specs.Prelude.{ℤ, pos, negsuc, ◌-ℤ◌, ◌*ℤ◌, ◌≤ℤ◌}
use Rattle.fixdec.specs.Ends.{Ends}
use Rattle.fixdec.specs.declared.step.Step.{Step}
use Rattle.fixdec.specs.declared.step.Step.TheVariants.{Val, Empty}
use Rattle.lensmodel.specs.Rows.Cells.{cut, cell, cells_from, cells, hull_with, hull_if, kept_hull}
use Rattle.hitsolve.specs.Narrowing.Parts.{IsPart}
use Rattle.hitsolve.specs.Narrowing.Sums.{floor_mono}

-- n cells of a window from cell i on, as one interval
abbrev pub block : Ends → ℕ → ℕ → Ends
block a i n = record { lo = cut a i; hi = cut a (i + n) }

module _ (a : Ends) (order : a.lo ≤ℤ a.hi) where
  pub cut_mono : (i j : ℕ) → i ≤ j → cut a i ≤ℤ cut a j
  cut_mono i j h =
      let f = floor_mono ((a.hi -ℤ a.lo) *ℤ pos i) ((a.hi -ℤ a.lo) *ℤ pos j) (pos 64) (omega (arith, ints)) (times (a.hi -ℤ a.lo) (omega (arith, ints)) i j h) in
      omega (arith, ints)
    where
      times : (d : ℤ) → pos 0 ≤ℤ d → (i j : ℕ) → i ≤ j → (d *ℤ pos i) ≤ℤ (d *ℤ pos j)
      times (pos n) h i j k = let m : n * i ≤ n * j = mul-le-mul_left n k in omega (arith, ints)
      times (negsuc n) h i j k = absurd (omega (arith, ints))

  pub cell_in_block : (i n k : ℕ) → i ≤ k → k < i + n → IsPart (cell a k) (block a i n)
  cell_in_block i n k l h = record { low = cut_mono i k l; order = cut_mono k (suc k) (omega arith); high = cut_mono (suc k) (i + n) h }

  module _ (keeps : Ends → Bool) where
    -- the cells from i to n are dropped
    abbrev pub AreDropped : ℕ → ℕ → Type 0
    AreDropped i n = (k : ℕ) → i ≤ k → k < n → keeps (cell a k) ≡ false

    -- no cell is kept
    pub none_kept : (n i : ℕ) → AreDropped i (i + n) → kept_hull keeps (cells_from a i n) ≡ Empty
    none_kept zero i h = refl
    none_kept (suc n) i h = rw (h i (omega arith) (omega arith)) (none_kept n (suc i) (λ k l m. h k (omega arith) (omega arith)))

    -- the hull of n cells from cell k on, the last kept one being j: it begins at the first cell where that is kept
    record IsHull (k j : ℕ) (r : Step Ends) : Type 0 where
      pub lo : ℤ
      pub is : r ≡ Val (record { lo = lo; hi = cut a (suc j) })
      pub low : cut a k ≤ℤ lo
      pub first : keeps (cell a k) ≡ true → lo ≡ cut a k

    -- a cell before the hull of those behind it
    before : (k j : ℕ) → k < j → (b : Bool) (r : Step Ends) → keeps (cell a k) ≡ b → IsHull (suc k) j r → IsHull k j (hull_if b (cell a k) r)
    before k j p true r e h =
        let l = h.low in
        let m = cut_mono k (suc k) (omega arith) in
        let o = cut_mono (suc k) (suc j) (omega arith) in
        record {
          lo = int_min (cut a k) h.lo;
          is = rw h.is (joined (cut a k) (cut a (suc k)) (cut a (suc j)) h.lo o);
          low = omega (arith, ints, clamps);
          first = λ t. omega (arith, ints, clamps);
        }
      where
        joined : (x y z w : ℤ) → y ≤ℤ z → hull_with (record { lo = x; hi = y }) (Val (record { lo = w; hi = z })) ≡ Val (record { lo = int_min x w; hi = z })
        joined x y z w q = let e : int_max y z ≡ z = omega (arith, ints, clamps) in ap (λ (u : ℤ). Val (record { lo = int_min x w; hi = u })) e
    before k j p false r e h =
        let l = h.low in
        let m = cut_mono k (suc k) (omega arith) in
        record { lo = h.lo; is = h.is; low = omega (arith, ints); first = λ t. absurd (false≢true (sym e ∙ t)) }

    last_hull : (n k j : ℕ) → k ≤ j → j < k + n → keeps (cell a j) ≡ true → AreDropped (suc j) (k + n) → IsHull k j (kept_hull keeps (cells_from a k n))
    last_hull zero k j h l t d = absurd (omega arith)
    last_hull (suc n) k j h l t d = elim (cases_lt k j) [
      | inl p ↦ before k j p (keeps (cell a k)) _ refl (last_hull n (suc k) j p (omega arith) t (λ i m o. d i m (omega arith)))
      | inr p ↦ let e : j ≡ k = omega arith in last e (none_kept n (suc k) (λ i m o. d i (omega arith) (omega arith)))
    ]
      where
        kept : j ≡ k → keeps (cell a k) ≡ true
        kept e = subst (λ (i : ℕ). keeps (cell a i) ≡ true) e t

        last : j ≡ k → kept_hull keeps (cells_from a (suc k) n) ≡ Empty → IsHull k j (kept_hull keeps (cells_from a k (suc n)))
        last e none = record {
          lo = cut a k;
          is = rw (kept e) (rw none (ap (λ (i : ℕ). Val (record { lo = cut a k; hi = cut a (suc i) })) (sym e)));
          low = omega (arith, ints);
          first = λ u. refl;
        }

    -- from the first kept cell, skipping what is dropped before it
    first_hull : (n k i j : ℕ) → k ≤ i → i ≤ j → j < k + n → keeps (cell a i) ≡ true → keeps (cell a j) ≡ true → AreDropped k i → AreDropped (suc j) (k + n)
        → kept_hull keeps (cells_from a k n) ≡ Val (record { lo = cut a i; hi = cut a (suc j) })
    first_hull zero k i j h l m s t c d = absurd (omega arith)
    first_hull (suc n) k i j h l m s t c d = elim (cases_lt k i) [
      | inl p ↦ rw (c k (omega arith) p) (first_hull n (suc k) i j p l (omega arith) s t (λ x y z. c x (omega arith) z) (λ x y z. d x y (omega arith)))
      | inr p ↦ let e : i ≡ k = omega arith in at_first e (last_hull (suc n) k j (omega arith) m t d)
    ]
      where
        at_first : i ≡ k → IsHull k j (kept_hull keeps (cells_from a k (suc n))) → kept_hull keeps (cells_from a k (suc n)) ≡ Val (record { lo = cut a i; hi = cut a (suc j) })
        at_first e q =
            let f : q.lo ≡ cut a i = q.first (ap (λ (x : ℕ). keeps (cell a x)) (sym e) ∙ s) ∙ ap (λ (x : ℕ). cut a x) (sym e) in
            q.is ∙ ap (λ (z : ℤ). Val (record { lo = z; hi = cut a (suc j) })) f

    -- the hull of all cells, by the first and the last that are kept
    pub hull_of_kept : (i j : ℕ) → i ≤ j → j < 64 → keeps (cell a i) ≡ true → keeps (cell a j) ≡ true → AreDropped 0 i → AreDropped (suc j) 64
        → kept_hull keeps (cells a) ≡ Val (record { lo = cut a i; hi = cut a (suc j) })
    hull_of_kept i j l m s t c d = first_hull 64 0 i j (omega arith) l m s t c d

    pub hull_of_none : AreDropped 0 64 → kept_hull keeps (cells a) ≡ Empty
    hull_of_none h = none_kept 64 0 h

    -- where a part of what is dropped is dropped, a dropped block drops each of its cells
    pub block_dropped : ((x y : Ends) → IsPart x y → keeps y ≡ false → keeps x ≡ false) → (i n : ℕ) → keeps (block a i n) ≡ false → AreDropped i (i + n)
    block_dropped part i n h k l m = part (cell a k) (block a i n) (cell_in_block i n k l m) h
