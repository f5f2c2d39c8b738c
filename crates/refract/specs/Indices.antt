-- The indices of a well-formed setup aren't negative.
use Rattle.std.proofs.Common.{◌≡◌, ℕ, zero, suc, ◌<◌, Bool, true, false, List, [], ◌∷◌, refl, arith}
use Rattle.std.proofs.lemmas.Int.{ints}
use Rattle.std.specs.Prelude.{pos, ◌≤ℤ◌, int_le, ◌&&◌, ◌-◌, not, nat_lt, length, drop, IsTrue, Option, Some, None}
use Rattle.fixdec.specs.Algebra.MemberLaws.{units_pos}
use Rattle.fixdec.specs.Algebra.Linear.{linear_le, no_fact, reads}
use Rattle.fixdec.specs.Algebra.Order.{le_trans, le_whole}
use Rattle.fixdec.specs.Algebra.OrderLaws.{le_cancel}
use Rattle.fixdec.specs.Ends.{Ends}
use Rattle.fixdec.specs.Frac.{Frac, ◌≤Q◌, whole}
use Rattle.fixdec.specs.IntervalOperations.{operations}
use Rattle.fixdec.specs.Member.{IsMember, units}
use Rattle.fixdec.specs.Steps.{OnVal, OnVal-then}
use Rattle.fixdec.specs.declared.step.Step.{Step}
use Rattle.fixdec.specs.declared.step.Step.TheVariants.{Val, Empty, Lost}
use Rattle.enclose.specs.IvLaws.{iv_member, iv_lawful}
use Rattle.lensmodel.specs.Claims.Enclosure.{HasIndices}
use Rattle.lensmodel.specs.Equations.Chain.{Chain, index_behind}
use Rattle.lensmodel.specs.Files.Causes.{fault_if, first_fault}
use Rattle.lensmodel.specs.Files.Picking.{is_good_index, is_from_1_to_5}
use Rattle.lensmodel.specs.Rows.Constants.{residual_units}
use Rattle.lensmodel.specs.Rows.Preparation.{medium_row, index_row}
use Rattle.lensmodel.specs.Setup.Media.{medium_at}
use Rattle.lensmodel.specs.Setup.Values.{surface_at, image, owner, reflects, eps}
use Rattle.lensmodel.specs.Setup.WellFormed.{IsWellFormed}
use Rattle.lensmodel.specs.Setup.WholeFaults.{whole_fault, faults_from}
use Rattle.lensmodel.specs.declared.fault.ZmxFault.TheVariants.{TooFewSurfaces, StopCount, MirrorAtObject}
use Rattle.lensmodel.specs.declared.setup.Setup.{Setup}
use Rattle.lensmodel.specs.declared.tolerance.TolKind.TheVariants.{Indx}
use Rattle.sagform.specs.PreparedValues.{medium_row-member}
use Rattle.sagform.specs.ResidualLaws.{covers_residual}
use Rattle.sagform.specs.Setups.{well_known}
use Rattle.sagform.specs.SymbolLaws.{with_symbol-member}

-- ---- the object is no mirror
later_fault : {F : Type 0} (x : Option F) (xs : List (Option F)) → first_fault (x ∷ xs) ≡ None → first_fault xs ≡ None
later_fault None xs h = h
later_fault (Some f) xs h = cc

not_faulty : {F : Type 0} (b : Bool) (f : F) (xs : List (Option F)) → first_fault (fault_if b f ∷ xs) ≡ None → b ≡ false
not_faulty true f xs h = cc
not_faulty false f xs h = refl

object_no_mirror : (s : Setup) → IsWellFormed s → (surface_at s 0).mirror ≡ false
unfolding whole_fault
object_no_mirror s w =
    let fs = s.lens.surfaces.items in
    let later = faults_from (length fs - 1) 1 (drop 1 fs) in
    let mirror = fault_if (surface_at s 0).mirror MirrorAtObject in
    let stop = fault_if (not (nat_lt s.lens.stop (length fs))) StopCount in
    not_faulty (surface_at s 0).mirror MirrorAtObject later
    (later_fault stop (mirror ∷ later) (later_fault (fault_if (nat_lt (length fs) 3) TooFewSurfaces) (stop ∷ mirror ∷ later) w.lens.whole))

-- ---- a good index lies from 1 to 5
first_true : (a b : Bool) → IsTrue (a && b) → IsTrue a
first_true true b h = refl
first_true false b h = cc

at_least_one : (n : Ends) → IsTrue (is_from_1_to_5 n) → pos 0 ≤ℤ n.lo
at_least_one n h =
    let l = first_true (int_le (pos 1_000_000_000_000) n.lo) (int_le n.hi (pos 5_000_000_000_000)) h in
    omega (arith, ints)

good_nn : (r : Step Ends) (v : Frac) → OnVal r (λ a. IsMember 12 a v) → IsTrue (is_good_index r) → whole (pos 0) ≤Q v
good_nn (Val n) v h g =
    le_cancel (units 12) (units_pos 12)
    (le_trans (linear_le (units 12 ∷ []) _ _ (search reads depth 16) no_fact tt) (le_trans (le_whole (at_least_one n g)) h.low))
good_nn Empty v h g = absurd h
good_nn (Lost why) v h g = cc

module _ (s : Setup) (c : Chain) (w : IsWellFormed s) (indices : HasIndices s c) where
  index-member : (j : ℕ) → j < image s → OnVal (index_row (operations 12) 12 s (residual_units 12 s.res) j) (λ a. IsMember 12 a (index_behind s c j))
  index-member j l =
      let o = operations 12 in
      let n = c.glass_index (owner s j) in
      OnVal-then (medium_row o 12 (medium_at s j) s.wave (residual_units 12 s.res)) _ (λ a. IsMember 12 a n) _
      (medium_row-member 12 o (iv_member 12) (iv_lawful 12) c.symbols (medium_at s j) s.wave (residual_units 12 s.res) (eps s) n (well_known s j w l)
      (covers_residual 12 s.res) (indices j l)) λ a ha.
      with_symbol-member 12 o (iv_member 12) (iv_lawful 12) c.symbols s Indx (owner s j) a n w.toler.box ha

  no_mirror_nn : (j : ℕ) → j < image s → reflects s j ≡ false → whole (pos 0) ≤Q index_behind s c j
  no_mirror_nn j l e = good_nn _ _ (index-member j l) (w.index j l (rw e refl))

  index_by : (b : Bool) (j : ℕ) → reflects s (suc j) ≡ b → suc j < image s → whole (pos 0) ≤Q index_behind s c j → whole (pos 0) ≤Q index_behind s c (suc j)
  index_by true j e l h = rw e h
  index_by false j e l h = no_mirror_nn (suc j) l e

-- where a mirror stands, the medium is that before it
pub index_nn : (s : Setup) (c : Chain) (j : ℕ) → IsWellFormed s → HasIndices s c → j < image s → whole (pos 0) ≤Q index_behind s c j
index_nn s c zero w indices l = no_mirror_nn s c w indices zero l (rw (object_no_mirror s w) refl)
index_nn s c (suc j) w indices l = index_by s c w indices (reflects s (suc j)) j refl l (index_nn s c j w indices (omega arith))
