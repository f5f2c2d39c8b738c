use Rattle.std.proofs.Common.{◌≡◌, ◌∙◌, ◌≤◌, get_or, sym, rules, arith}
use Rattle.std.specs.Prelude.{pos, ◌-ℤ◌, unsigned_abs, FitsSigned}
use Rattle.std.specs.Int.{w64}
use Rattle.std.proofs.lemmas.Int.{ints, to_z-of_z}
use Rattle.fixdec.specs.Form.{coefficientwise}
use Rattle.forms.specs.Kept.{in_use}
use Rattle.forms.proofs.Filled.{filled_none, filled_fits, filled_more, filled_is, filled_used, filled_size}
use Rattle.forms.proofs.Lists.{combined_all, combined_at}
use Rattle.forms.proofs.Totals.{combined_sizes}
use Rattle.forms.proofs.Uses.{use_combined}
use Rattle.forms.proofs.coefficients.subtract.Goals as goal
use Rattle.forms.proofs.coefficients.subtract.Goals.{After-difference-k}

pub loop-i-init : goal.loop-i-init
loop-i-init c =
    let ka = c.args.ka.now in
    let kb = c.args.kb.now in
    filled_none (coefficientwise ◌-ℤ◌ ka kb) (combined_all ◌-ℤ◌ ka kb c.told-ka c.told-kb) c.args.out.now c.requires.empty

written : (c : After-difference-k) → c.difference-k.result ≡ get_or (coefficientwise ◌-ℤ◌ c.args.ka.now c.args.kb.now) c.loop-i.i (pos 0)
written c =
    let ka = c.args.ka.now in
    let kb = c.args.kb.now in
    let first : FitsSigned w64 (get_or ka c.loop-i.i (pos 0)) = search rules in
    let second : FitsSigned w64 (get_or kb c.loop-i.i (pos 0)) = search rules in
    let top = c.requires.top in
    let value : c.difference-k.result ≡ get_or ka c.loop-i.i (pos 0) -ℤ get_or kb c.loop-i.i (pos 0) = simp to_z-of_z at c.difference-k.ensures in
    value ∙ sym (combined_at ◌-ℤ◌ ka kb c.told-ka c.told-kb c.loop-i.i (omega arith))

pub overflow_add-size : goal.overflow_add-size
overflow_add-size c =
    let ka = c.args.ka.now in
    let kb = c.args.kb.now in
    let first = c.requires.first in
    let second = c.requires.second in
    let top = c.requires.top in
    let total = combined_sizes ◌-ℤ◌ 1 1 ka kb (λ k l. omega (arith, ints)) in
    let fits = filled_fits (coefficientwise ◌-ℤ◌ ka kb) (combined_all ◌-ℤ◌ ka kb c.told-ka c.told-kb) c.loop-i.out c.loop-i.i c.loop-i.used c.loop-i.size c.loop-i.invariant (omega arith) in
    let k : FitsSigned w64 c.difference-k.result = record { sfits = c.difference-k.type_inv } in
    let size : c.unsigned_abs-size.result ≡ unsigned_abs c.difference-k.result = simp to_z-of_z at c.unsigned_abs-size.ensures.value in
    let here : unsigned_abs c.difference-k.result ≡ unsigned_abs (get_or (coefficientwise ◌-ℤ◌ ka kb) c.loop-i.i (pos 0)) = (λ i. unsigned_abs (written c.before i)) in
    record { fits = omega arith }

pub loop-i-preserved : goal.loop-i-preserved
loop-i-preserved c =
    let ka = c.args.ka.now in
    let kb = c.args.kb.now in
    let top = c.requires.top in
    let k : FitsSigned w64 c.difference-k.result = record { sfits = c.difference-k.type_inv } in
    let size : c.unsigned_abs-size.result ≡ unsigned_abs c.difference-k.result = simp to_z-of_z at c.unsigned_abs-size.ensures.value in
    rw (size, to_z-of_z w64 c.difference-k.result k)
    (filled_more (coefficientwise ◌-ℤ◌ ka kb) (combined_all ◌-ℤ◌ ka kb c.told-ka c.told-kb) c.loop-i.out c.loop-i.i c.loop-i.used c.loop-i.size c.loop-i.invariant
    c.used_with-used.result c.difference-k.result (omega arith) (written c.before.before) (simp to_z-of_z at c.used_with-used.ensures.with) (simp to_z-of_z at c.used_with-used.ensures.without))

pub returns : goal.returns
returns c =
    let rs = coefficientwise ◌-ℤ◌ c.args.ka.now c.args.kb.now in
    let all = combined_all ◌-ℤ◌ c.args.ka.now c.args.kb.now c.told-ka c.told-kb in
    let within = use_combined ◌-ℤ◌ c.args.ka.now c.args.kb.now c.args.top (omega (arith, ints)) c.requires.first_use c.requires.second_use in
    let h : in_use rs ≤ c.loop-i.i = omega arith in
    record {
      value = filled_is rs all c.loop-i.out c.loop-i.i c.loop-i.used c.loop-i.size c.loop-i.invariant h;
      used = filled_used rs all c.loop-i.out c.loop-i.i c.loop-i.used c.loop-i.size c.loop-i.invariant h;
      size = filled_size rs all c.loop-i.out c.loop-i.i c.loop-i.used c.loop-i.size c.loop-i.invariant h;
    }
