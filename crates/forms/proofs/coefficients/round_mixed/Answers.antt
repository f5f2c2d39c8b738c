use Rattle.std.proofs.Common.{◌≡◌, ◌∙◌, ◌+◌, ◌≤◌, List, length, cond, get_or, ap, sym, rules, arith}
use Rattle.std.specs.Prelude.{ℤ, pos, ◌+ℤ◌, ◌*ℤ◌, unsigned_abs, FitsSigned}
use Rattle.std.specs.Int.{w64, w128}
use Rattle.std.proofs.lemmas.Int.{ints, to_z-of_z}
use Rattle.fixdec.specs.Form.{has_remainder}
use Rattle.fixdec.specs.Rounding.{floor}
use Rattle.forms.specs.Kept.{in_use, weighted}
use Rattle.forms.proofs.Lists.{combined_all, combined_at}
use Rattle.forms.proofs.Rounds.{IsRounding, rounding_none, rounding_lost, rounding_fits, rounding_more, rounding_is, rounding_used, rounding_size, rounding_counted, rounding_total}
use Rattle.forms.proofs.Totals.{weighted_total}
use Rattle.forms.proofs.Uses.{use_combined}
use Rattle.forms.proofs.coefficients.round_mixed.Goals as goal
use Rattle.forms.proofs.coefficients.round_mixed.Goals.{After-quotient-quotient, After-unsigned_abs-numerators, After-loop-i}

-- the numerators
all : (x y : ℤ) (ka kb : List ℤ) → length ka ≡ 32 → length kb ≡ 32 → length (weighted x ka y kb) ≡ 32
all x y ka kb p q = combined_all (λ k l. x *ℤ k +ℤ y *ℤ l) ka kb p q

pub loop-i-init : goal.loop-i-init
loop-i-init c =
    let x = c.ranges.x in
    let y = c.ranges.y in
    simp to_z-of_z (rounding_none c.args.by.now (weighted c.args.x c.args.ka.now c.args.y c.args.kb.now)
    (all c.args.x c.args.y c.args.ka.now c.args.kb.now c.told-ka c.told-kb) c.args.out.now c.requires.empty)

-- one turn of the loop
module _ (c : After-quotient-quotient) where
  abbrev ns : List ℤ
  ns = weighted c.args.x c.args.ka.now c.args.y c.args.kb.now

  ns_all : length ns ≡ 32
  ns_all = all c.args.x c.args.y c.args.ka.now c.args.kb.now c.told-ka c.told-kb

  so_far : IsRounding c.args.by.now ns c.loop-i.out c.loop-i.i c.loop-i.used c.loop-i.size c.loop-i.remainders c.loop-i.numerators
  so_far = let x = c.ranges.x in let y = c.ranges.y in simp to_z-of_z at c.loop-i.invariant

  numerator_is : c.mixed_at-n.result ≡ get_or ns c.loop-i.i (pos 0)
  numerator_is =
      let x = c.ranges.x in
      let y = c.ranges.y in
      let ka = c.args.ka.now in
      let kb = c.args.kb.now in
      let top = c.requires.top in
      let first : FitsSigned w64 (get_or ka c.loop-i.i (pos 0)) = search rules in
      let second : FitsSigned w64 (get_or kb c.loop-i.i (pos 0)) = search rules in
      let value : c.mixed_at-n.result ≡ c.args.x *ℤ get_or ka c.loop-i.i (pos 0) +ℤ c.args.y *ℤ get_or kb c.loop-i.i (pos 0)
      = simp to_z-of_z at c.mixed_at-n.ensures.value in
      value ∙ sym (combined_at (λ k l. c.args.x *ℤ k +ℤ c.args.y *ℤ l) ka kb c.told-ka c.told-kb c.loop-i.i (omega arith))

  floor_is : c.quotient-quotient.result.floor ≡ floor c.mixed_at-n.result c.args.by.now
  floor_is =
      let n : FitsSigned w128 c.mixed_at-n.result = record { sfits = c.mixed_at-n.type_inv } in
      simp to_z-of_z at c.quotient-quotient.ensures.floor

  remainder_is : c.quotient-quotient.result.has_remainder ≡ has_remainder c.args.by.now c.mixed_at-n.result
  remainder_is =
      let n : FitsSigned w128 c.mixed_at-n.result = record { sfits = c.mixed_at-n.type_inv } in
      simp to_z-of_z at c.quotient-quotient.ensures.remainder

pub returns-then-unsigned_abs-size-clause-lost : goal.returns-then-unsigned_abs-size-clause-lost
returns-then-unsigned_abs-size-clause-lost c none =
    let d = c.before.before.before.before in
    let top = c.requires.top in
    let cap = c.unsigned_abs.ensures.value in
    let fits : FitsSigned w128 c.quotient-quotient.result.floor = search rules in
    let size : c.unsigned_abs-in-loop-i.result ≡ unsigned_abs c.quotient-quotient.result.floor = simp to_z-of_z at c.unsigned_abs-in-loop-i.ensures.value in
    rounding_lost c.args.by.now (ns d) (ns_all d) c.loop-i.out c.loop-i.i c.loop-i.used c.loop-i.size c.loop-i.remainders c.loop-i.numerators (so_far d)
    c.quotient-quotient.result.floor (omega arith) (floor_is d ∙ ap (λ n. floor n c.args.by.now) (numerator_is d)) (omega arith)

numerator_size : (c : After-unsigned_abs-numerators) → c.unsigned_abs-numerators.result ≡ unsigned_abs c.mixed_at-n.result
numerator_size c =
    let fits : FitsSigned w128 c.mixed_at-n.result = record { sfits = c.mixed_at-n.type_inv } in
    simp to_z-of_z at c.unsigned_abs-numerators.ensures.value

pub overflow_add-numerators : goal.overflow_add-numerators
overflow_add-numerators c =
    let d = c.before.before.before.before.before.before.before.before.before in
    let top = c.requires.top in
    let total = weighted_total c.args.x c.args.y c.args.ka.now c.args.kb.now c.requires.first_factor c.requires.second_factor c.requires.first c.requires.second in
    let within = rounding_fits c.args.by.now (ns d) (ns_all d) c.loop-i.out c.loop-i.i c.loop-i.used c.loop-i.size c.loop-i.remainders c.loop-i.numerators (so_far d) (omega arith) in
    let size = numerator_size c ∙ ap unsigned_abs (numerator_is d) in
    record { fits = omega arith }

pub loop-i-preserved : goal.loop-i-preserved
loop-i-preserved c =
    let d = c.before.before.before.before.before.before.before.before.before.before in
    let x = c.ranges.x in
    let y = c.ranges.y in
    let top = c.requires.top in
    let cap = c.unsigned_abs.ensures.value in
    let fits : FitsSigned w128 c.quotient-quotient.result.floor = search rules in
    let small : c.unsigned_abs-in-loop-i.result ≡ unsigned_abs c.quotient-quotient.result.floor = simp to_z-of_z at c.unsigned_abs-in-loop-i.ensures.value in
    let k : FitsSigned w64 c.narrow-k.result = record { sfits = c.narrow-k.type_inv } in
    let value : c.narrow-k.result ≡ c.quotient-quotient.result.floor = simp to_z-of_z at c.narrow-k.ensures in
    let within : c.loop-i.size + unsigned_abs c.narrow-k.result ≤ 1_000_000_000_000_000_000 = rw value (omega arith) in
    let size : c.unsigned_abs-size.result ≡ unsigned_abs c.narrow-k.result = simp to_z-of_z at c.unsigned_abs-size.ensures.value in
    let counted = c.counted_with-remainders.ensures ∙ (λ i. c.loop-i.remainders + cond (remainder_is d i) 1 0) in
    rw (size, numerator_size c.before)
    (simp to_z-of_z (rounding_more c.args.by.now (ns d) (ns_all d) c.loop-i.out c.loop-i.i c.loop-i.used c.loop-i.size c.loop-i.remainders c.loop-i.numerators (so_far d)
    c.mixed_at-n.result c.narrow-k.result c.used_with-used.result c.counted_with-remainders.result (omega arith) (numerator_is d) (value ∙ floor_is d) within
    (simp to_z-of_z at c.used_with-used.ensures.with) (simp to_z-of_z at c.used_with-used.ensures.without) counted))

-- after the loop
module _ (c : After-loop-i) where
  abbrev all_ns : List ℤ
  all_ns = weighted c.args.x c.args.ka.now c.args.y c.args.kb.now

  whole : IsRounding c.args.by.now all_ns c.loop-i.out c.loop-i.i c.loop-i.used c.loop-i.size c.loop-i.remainders c.loop-i.numerators
  whole = let x = c.ranges.x in let y = c.ranges.y in simp to_z-of_z at c.loop-i.invariant

  all_all : length all_ns ≡ 32
  all_all = all c.args.x c.args.y c.args.ka.now c.args.kb.now c.told-ka c.told-kb

  past : in_use all_ns ≤ c.loop-i.i
  past =
      let within = use_combined (λ k l. c.args.x *ℤ k +ℤ c.args.y *ℤ l) c.args.ka.now c.args.kb.now c.args.top (omega (arith, ints)) c.requires.first_use c.requires.second_use in
      omega arith

pub returns-clause-value : goal.returns-clause-value
returns-clause-value c = rounding_is c.args.by.now (all_ns c) (all_all c) c.loop-i.out c.loop-i.i c.loop-i.used c.loop-i.size c.loop-i.remainders c.loop-i.numerators (whole c) (past c)

pub returns-clause-used : goal.returns-clause-used
returns-clause-used c = rounding_used c.args.by.now (all_ns c) (all_all c) c.loop-i.out c.loop-i.i c.loop-i.used c.loop-i.size c.loop-i.remainders c.loop-i.numerators (whole c) (past c)

pub returns-clause-size : goal.returns-clause-size
returns-clause-size c = rounding_size c.args.by.now (all_ns c) (all_all c) c.loop-i.out c.loop-i.i c.loop-i.used c.loop-i.size c.loop-i.remainders c.loop-i.numerators (whole c) (past c)

pub returns-clause-remainders : goal.returns-clause-remainders
returns-clause-remainders c = rounding_counted c.args.by.now (all_ns c) (all_all c) c.loop-i.out c.loop-i.i c.loop-i.used c.loop-i.size c.loop-i.remainders c.loop-i.numerators (whole c) (past c)

pub returns-clause-few : goal.returns-clause-few
returns-clause-few c = let w = whole c in let f = w.few in let t = c.requires.top in omega arith

pub returns-clause-numerators : goal.returns-clause-numerators
returns-clause-numerators c = rounding_total c.args.by.now (all_ns c) (all_all c) c.loop-i.out c.loop-i.i c.loop-i.used c.loop-i.size c.loop-i.remainders c.loop-i.numerators (whole c) (past c)

pub returns-clause-bound : goal.returns-clause-bound
returns-clause-bound c =
    let total = weighted_total c.args.x c.args.y c.args.ka.now c.args.kb.now c.requires.first_factor c.requires.second_factor c.requires.first c.requires.second in
    rw (returns-clause-numerators c) total
