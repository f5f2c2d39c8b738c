-- What is known of a glass that was picked.
use Rattle.std.specs.Prelude.{◌≡◌, ◌⊎◌, ℕ, pos, ◌≤ℤ◌, Bool, true, false, List, Option, Some, None, Result, Ok, Err, not, if◌then◌else◌}
use Rattle.std.proofs.Common.{refl, arith, subst}
use Rattle.std.proofs.lemmas.Bool.Decides.{nat_tests}
use Rattle.std.proofs.lemmas.Int.{ints}
use Rattle.fixdec.specs.Decimal.{Decimal}
use Rattle.fixdec.specs.Ends.{Ends}
use Rattle.fixdec.specs.declared.step.Step.{Step}
use Rattle.fixdec.specs.declared.step.Step.TheVariants.{Val, Empty, Lost}
use Rattle.lensmodel.specs.Files.Catalogue.{find_glass, is_used}
use Rattle.lensmodel.specs.Files.Picking.{Picked, is_under, is_over, index_at_12, is_from_1_to_5, with_index, usable, usable_if_found, picked}
use Rattle.lensmodel.specs.declared.fault.CrossFault.{CrossFault}
use Rattle.lensmodel.specs.declared.fault.CrossFault.TheVariants.{Formula, WaveRange, BadIndex}
use Rattle.lensmodel.specs.declared.glass.Glass.{Glass}

-- a glass that can be used at a wavelength: of formula 1 or 2, the wavelength in its range, its index at scale 12 an interval from 1 to 5
pub record IsUsable (g : Glass) (ends : Ends) (wave : Decimal) : Type 0 where
  pub used : is_used g.formula ≡ true
  pub low : is_under wave g.low ≡ false
  pub high : is_over wave g.high ≡ false
  pub index : index_at_12 g wave ≡ Val ends
  pub least : pos 1_000_000_000_000 ≤ℤ ends.lo
  pub greatest : ends.hi ≤ℤ pos 5_000_000_000_000

-- the first glass of the name in the book, and it can be used at the wavelength
pub record IsPicked (book : List Glass) (name : List ℕ) (wave : Decimal) (p : Picked) : Type 0 where
  pub found : find_glass name book ≡ Some p.glass
  pub usable : IsUsable p.glass p.index wave

-- a formula that is used is 1 or 2
pub known_if_used : (formula : ℕ) → is_used formula ≡ true → (formula ≡ 1) ⊎ (formula ≡ 2)
known_if_used formula h = grind (arith, nat_tests)

ok_same : (r : Result Picked CrossFault) (p q : Picked) → r ≡ Ok p → r ≡ Ok q → p ≡ q
ok_same r p q e f = cc

-- a glass with an index that is good is the glass that was looked at, and its index an interval from 1 to 5
record IsGood (g : Glass) (r : Step Ends) (p : Picked) : Type 0 where
  glass : g ≡ p.glass
  index : r ≡ Val p.index
  least : pos 1_000_000_000_000 ≤ℤ p.index.lo
  greatest : p.index.hi ≤ℤ pos 5_000_000_000_000

from_good : (good : Bool) (g : Glass) (n : Ends) (p : Picked) → is_from_1_to_5 n ≡ good
    → (if good then Ok (record { glass = g; index = n }) else Err (BadIndex 0)) ≡ Ok p → IsGood g (Val n) p
from_good true g n p h e =
    let same : record { glass = g; index = n } ≡ p = ok_same (Ok (record { glass = g; index = n })) (record { glass = g; index = n }) p refl e in
    subst (λ (p : Picked). IsGood g (Val n) p) same (record { glass = refl; index = refl; least = grind (arith, ints); greatest = grind (arith, ints) })
from_good false g n p h e = cc

good-is : (g : Glass) (r : Step Ends) (p : Picked) → with_index g r ≡ Ok p → IsGood g r p
good-is g (Val n) p e = from_good (is_from_1_to_5 n) g n p refl e
good-is g Empty p e = cc
good-is g (Lost why) p e = cc

-- the answers of three tests, in order, where they end in a glass
record AreRight (used under over : Bool) (last : Result Picked CrossFault) (p : Picked) : Type 0 where
  first : used ≡ true
  second : under ≡ false
  third : over ≡ false
  fourth : last ≡ Ok p

right : (used under over : Bool) (last : Result Picked CrossFault) (p : Picked)
    → (if not used then Err (Formula 0) else if under then Err (WaveRange 0) else if over then Err (WaveRange 0) else last) ≡ Ok p
    → AreRight used under over last p
right true false false last p e = record { first = refl; second = refl; third = refl; fourth = e }
right true false true last p e = cc
right true true over last p e = cc
right false under over last p e = cc

-- what a usable glass is, and that it is the one that was looked at
usable-is : (h : Glass) (p : Picked) (wave : Decimal) → usable h wave ≡ Ok p → (h ≡ p.glass) × IsUsable p.glass p.index wave
usable-is h p wave e =
    let r = right (is_used h.formula) (is_under wave h.low) (is_over wave h.high) (with_index h (index_at_12 h wave)) p e in
    let n = good-is h (index_at_12 h wave) p r.fourth in
    (n.glass, rw (← n.glass) (record { used = r.first; low = r.second; high = r.third; index = n.index; least = n.least; greatest = n.greatest }))

found-is : (f : Option Glass) (p : Picked) (wave : Decimal) → usable_if_found f wave ≡ Ok p → (f ≡ Some p.glass) × IsUsable p.glass p.index wave
found-is None p wave e = cc
found-is (Some h) p wave e = let u = usable-is h p wave e in (cc (u.0), u.1)

-- a glass that was picked is the first of its name, and can be used
pub picked-is : (book : List Glass) (name : List ℕ) (wave : Decimal) (p : Picked) → picked book name wave ≡ Ok p → IsPicked book name wave p
unfolding picked
picked-is book name wave p e = let f = found-is (find_glass name book) p wave e in record { found = f.0; usable = f.1 }
