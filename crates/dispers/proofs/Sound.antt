-- A medium that was picked has indices from 1 to 5.
use Rattle.std.proofs.Common.{◌≡◌, ℕ, ◌^◌, pos, List, Result, Ok, Err, refl, subst, sym}
use Rattle.std.specs.Prelude.{IfOk, ◌≤ℤ◌}
use Rattle.fixdec.specs.Decimal.{Decimal}
use Rattle.fixdec.specs.Ends.{Ends}
use Rattle.fixdec.specs.Frac.{Frac}
use Rattle.fixdec.specs.Member.{IsMember, units}
use Rattle.fixdec.specs.Algebra.MemberLaws.{units_pos}
use Rattle.fixdec.specs.Algebra.Order.{le_trans, le_whole}
use Rattle.fixdec.specs.Algebra.OrderLaws.{le_cancel, le_same_left, le_same_right, whole_mul}
use Rattle.fixdec.specs.Algebra.FracLaws.{≈_sym}
use Rattle.lensmodel.specs.Equations.Dispersion.{IsGlassIndex}
use Rattle.lensmodel.specs.Files.Picking.{Picked, picked}
use Rattle.lensmodel.specs.Equations.Residual.{residual}
use Rattle.lensmodel.specs.declared.fault.CrossFault.{CrossFault}
use Rattle.lensmodel.specs.declared.glass.Glass.{Glass}
use Rattle.dispers.specs.IndexAt12.{index_at_12-holds}
use Rattle.dispers.specs.Limits.{IsFrom1To5}
use Rattle.dispers.specs.Picked.{known_if_used, picked-is}

-- what lies between the ends of an interval from 1 to 5 does too
within_limits : (e : Ends) (n : Frac) → pos 1_000_000_000_000 ≤ℤ e.lo → e.hi ≤ℤ pos 5_000_000_000_000 → IsMember 12 e n → IsFrom1To5 n
within_limits e n l h m = record {
  low = le_cancel (units 12) (units_pos 12) (le_same_left (≈_sym (whole_mul (pos 1) (pos (10 ^ 12)))) (le_trans (le_whole l) m.low));
  high = le_cancel (units 12) (units_pos 12) (le_same_right (le_trans m.high (le_whole h)) (whole_mul (pos 5) (pos (10 ^ 12))));
}

module _ (book : List Glass) (name : List ℕ) (wave : Decimal) where
  -- each index of a glass lies between the ends of its interval
  abbrev pub IsHeld : Picked → Type 0
  IsHeld p = (n : Frac) → IsGlassIndex (residual 12) p.glass wave n → IsMember 12 p.index n

  pub picked-held : (r : Result Picked CrossFault) → r ≡ picked book name wave → IfOk r IsHeld
  picked-held r e = subst (λ x. IfOk x IsHeld) (sym e) (by (picked book name wave) refl)
    where
      by : (p : Result Picked CrossFault) → picked book name wave ≡ p → IfOk p IsHeld
      by (Err fault) i = tt
      by (Ok p) i =
          let u = (picked-is book name wave p i).usable in
          λ n h. index_at_12-holds p.glass wave p.index (known_if_used p.glass.formula u.used) u.index n h

  -- each index of a glass that was picked is from 1 to 5
  pub picked-sound : (p : Picked) → picked book name wave ≡ Ok p → (n : Frac) → IsGlassIndex (residual 12) p.glass wave n → IsFrom1To5 n
  picked-sound p e n h =
      let u = (picked-is book name wave p e).usable in
      within_limits p.index n u.least u.greatest (index_at_12-holds p.glass wave p.index (known_if_used p.glass.formula u.used) u.index n h)
